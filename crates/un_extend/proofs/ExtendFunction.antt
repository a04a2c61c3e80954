-- The blocks of the extended function of a linear function are good, and its temporaries are numbered.
use Rattle.std.proofs.Common.{◌≡◌, ℕ, suc, ◌+◌, ◌-◌, ◌++◌, ◌||◌, Bool, false, List, [], ◌∷◌, Some, map}
use Rattle.std.proofs.Common.{length, replicate, take, slice_get, All, refl, sym, ap, ◌∙◌, arith, subst, append_assoc, append-nil}
use Rattle.std.specs.List.{flat_map, AllZip}
use Rattle.std.proofs.lemmas.List.{length-append, length-map, length-replicate}
use Rattle.std.proofs.lemmas.List.Elements.{All-nil, All-cons, All-head, All-tail}
use Rattle.std.proofs.lemmas.Option.{slice_get_within}
use Rattle.un_base.specs.declared.ids.TempId.{TempId}
use Rattle.un_isa.specs.declared.table.Table.{Table}
use Rattle.un_ir.specs.declared.function.Kind.{Kind}
use Rattle.un_ir.specs.WellFormed.{result_kind}
use Rattle.un_ir.specs.declared.function.Kind.TheVariants.{General}
use Rattle.un_ir.specs.declared.extended.ExtKind.{ExtKind}
use Rattle.un_ir.specs.declared.extended.ExtKind.TheVariants.{In, Body}
use Rattle.un_ir.specs.declared.extended.Operand.{Operand}
use Rattle.un_ir.specs.declared.extended.ExtOp.{ExtOp}
use Rattle.un_ir.specs.declared.extended.ExtBlock.{ExtBlock}
use Rattle.un_ir.specs.declared.extended.Growth.{Growth}
use Rattle.un_ir.specs.declared.extended.Value.{Value}
use Rattle.un_ir.specs.Extended.{temp, returns, name_kind, result_count, carried, carried_by, all_carried, all_kinds, all_results}
use Rattle.un_ir.specs.Extended.{defined_kinds, results_of, wants_of, Parts, IsMadeOf, IsPlainOp, IsGoodOperand, IsGoodExtOp}
use Rattle.un_ir.specs.Extended.{IsGoodExtBlock}
use Rattle.un_ir.specs.ExtendOf.{grown_block, with_ops, extended_blocks}
use Rattle.un_ir.proofs.GoodOps.{Numbers, numbers_none, numbers_append, AreGoodOps, all_good}
use Rattle.un_extend.proofs.ExtendKept.{Fits, Facts, all_step, numbers_split}
use Rattle.un_extend.proofs.ExtendParts.{shaped, in_is}

good_from : (t : Table) (names : List Kind) (blocks : List ExtBlock) (block : ExtBlock) (before : List TempId) (ops : List ExtOp)
    → ((k : ℕ) (op : ExtOp) → slice_get ops k ≡ Some op → IsGoodExtOp t names blocks block (before ++ results_of (take k ops)) op)
    → AreGoodOps t names blocks block before ops
good_from t names blocks block before [] g = tt
good_from t names blocks block before (op ∷ ops) g = (
  subst (λ (xs : List TempId). IsGoodExtOp t names blocks block xs op) (append-nil before) (g 0 op refl),
  good_from t names blocks block (before ++ op.results) ops
      (λ k other h. subst (λ (xs : List TempId). IsGoodExtOp t names blocks block xs other)
      (sym (append_assoc before op.results (results_of (take k ops)))) (g (suc k) other h)),
)

pub defined_length : (t : Table) (names : List Kind) (block : ExtBlock) (kind : ExtKind) (op : ExtOp)
    → length op.results ≡ result_count t block kind
    → length (defined_kinds names block kind op) ≡ length op.results
defined_length t names block In op c =
    let a = length-append (map (name_kind names) block.live_in) (replicate (length op.results - length block.live_in) General) in
    let b = length-map block.live_in (name_kind names) in
    let d = length-replicate (length op.results - length block.live_in) General in
    omega (arith, a, b, d, c)
defined_length t names block (Body o) op c = length-map op.results (λ (y : TempId). result_kind o.op)
defined_length t names block _ op c = length-map op.results (λ (y : TempId). General)

no_operands : (names : List Kind) (blocks : List ExtBlock) (before : List TempId) (xs : List Operand)
    → AllZip (IsGoodOperand names blocks before) xs [] → xs ≡ []
no_operands names blocks before [] h = refl
no_operands names blocks before (x ∷ xs) h = absurd h

module _ (t : Table) (names : List Kind) (old new : List ExtBlock) (alone : (x : ℕ) → carried old (temp x) ≡ temp x) where
  abbrev Plain : ExtBlock → Type 0
  Plain block = All IsPlainOp block.ops

  abbrev Good : List ExtBlock → ExtBlock → Type 0
  Good blocks block = IsGoodExtBlock t names blocks block

  pub start_reads_none : (was : ExtBlock) (p : Parts) → Good old was → IsMadeOf was.ops p → (let s = p.start in s.operands) ≡ []
  start_reads_none was p g m =
      let s = p.start in
      let at : slice_get was.ops 0 ≡ Some s = ap (λ (xs : List ExtOp). slice_get xs 0) m.whole in
      let o = g.ops 0 s at in
      no_operands names old (results_of (take 0 was.ops)) s.operands
      (subst (λ (kind : ExtKind). AllZip (IsGoodOperand names old (results_of (take 0 was.ops))) s.operands
      (wants_of t names old was kind s)) (in_is s.kind m.start) o.operands)

  record OneBlock (is_entry : Bool) (values : List Value) (next : ℕ) (was : ExtBlock) : Type 0 where
    block : Good new (with_ops was (let g = grown_block names is_entry values next was in g.ops))
    numbers : Numbers next (results_of (let g = grown_block names is_entry values next was in g.ops))
        (let g = grown_block names is_entry values next was in g.next)
    known : length (let g = grown_block names is_entry values next was in g.values) ≡ length values + length (results_of was.ops)
    carries : next + length (all_carried (with_ops was (let g = grown_block names is_entry values next was in g.ops) ∷ [])) ≡
        (let g = grown_block names is_entry values next was in g.next)
    kinds : next + length (all_kinds names (with_ops was (let g = grown_block names is_entry values next was in g.ops) ∷ [])) ≡
        (let g = grown_block names is_entry values next was in g.next)

  one_block : (is_entry : Bool) (values : List Value) (next : ℕ) (was : ExtBlock) (cfront cmore : List TempId)
      (kfront kmore bfront bmore : List Kind) (m : ℕ)
      → (let g = grown_block names is_entry values next was in all_carried new ≡ cfront ++ (all_carried (with_ops was g.ops ∷ []) ++ cmore))
      → length cfront ≡ next
      → (let g = grown_block names is_entry values next was in all_kinds names new ≡ kfront ++
      (all_kinds names (with_ops was g.ops ∷ []) ++ kmore)) → length kfront ≡ next
      → all_kinds names old ≡ bfront ++ (all_kinds names (was ∷ []) ++ bmore) → length bfront ≡ length values
      → Numbers (length values) (results_of was.ops) m → Good old was → Plain was → OneBlock is_entry values next was
  one_block is_entry values next was cfront cmore kfront kmore bfront bmore m cs clong ks klong bs blong numbers good plain =
      let g0 : Growth = record { ops = []; values = values; next = next } in
      let saved : Bool = is_entry || returns was in
      let g = grown_block names is_entry values next was in
      let owner = with_ops was g.ops in
      let p = good.parts in
      let s = shaped names was.live_in is_entry saved was.ops p.0 values next p.1 plain (start_reads_none was p.0 good p.1) in
      let zero_more : next + 0 ≡ next = omega arith in
      let fits : Fits t names old new owner next (length values) cfront kfront clong klong g.ops = record {
        cmore = cmore;
        kmore = kmore;
        carries = cs ∙ sym (append_assoc cfront (all_carried (owner ∷ [])) cmore)
            ∙ ap (λ (xs : List TempId). (cfront ++ xs) ++ cmore) (append-nil _);
        kinds = ks ∙ sym (append_assoc kfront (all_kinds names (owner ∷ [])) kmore)
            ∙ ap (λ (xs : List Kind). (kfront ++ xs) ++ kmore) (append-nil _);
      } in
      let first : Facts t names old new owner next (length values) cfront kfront clong klong g0 = record {
        numbers = numbers_none next;
        clength = zero_more;
        klength = zero_more;
        good = tt;
        vals = λ i v got low. absurd (let h = slice_get_within values i v got in omega (arith, h, low));
      } in
      let here : all_kinds names old ≡ bfront ++ (flat_map (λ (op : ExtOp). defined_kinds names was op.kind op) was.ops ++ bmore) = bs
      ∙ ap (λ (xs : List Kind). bfront ++ (xs ++ bmore)) (append-nil _) in
      let r = all_step t names old new owner next (length values) cfront kfront clong klong was refl refl s.ends alone is_entry saved
      was.ops g0 [] bfront bmore m plain
      (good_from t names old was [] was.ops good.ops) (numbers_none (length values)) numbers here blong fits first in
      let f = r.facts in
      let c = ap (λ (xs : List TempId). next + length xs) (append-nil (flat_map (λ (op : ExtOp). carried_by op.kind op) g.ops)) in
      let k = ap (λ (xs : List Kind). next + length xs) (append-nil (flat_map (λ (op : ExtOp). defined_kinds names owner op.kind op) g.ops))
      in
      record {
        block = record {
          label = good.label;
          freq = good.freq;
          live_in = good.live_in;
          live_out = good.live_out;
          rising = good.rising;
          parts = (s.parts, s.made);
          ops = all_good t names new owner g.ops f.good;
          horizon = refl;
        };
        numbers = f.numbers;
        known = r.values;
        carries = c ∙ f.clength;
        kinds = k ∙ f.klength;
      }

  -- a good block defines as many kinds as temporaries
  ops_kinds : (was : ExtBlock) (before : List TempId) (ops : List ExtOp) → AreGoodOps t names old was before ops
      → length (flat_map (λ (op : ExtOp). defined_kinds names was op.kind op) ops) ≡ length (results_of ops)
  ops_kinds was before [] g = refl
  ops_kinds was before (op ∷ ops) g =
      let one = g.0 in
      let a = length-append (defined_kinds names was op.kind op) (flat_map (λ (op : ExtOp). defined_kinds names was op.kind op) ops) in
      let b = length-append op.results (results_of ops) in
      let c = defined_length t names was op.kind op one.results in
      let r = ops_kinds was (before ++ op.results) ops g.1 in
      omega (arith, a, b, c, r)

  block_kinds : (was : ExtBlock) → Good old was → length (all_kinds names (was ∷ [])) ≡ length (results_of was.ops)
  block_kinds was good =
      ap (λ (xs : List Kind). length xs) (append-nil (flat_map (λ (op : ExtOp). defined_kinds names was op.kind op) was.ops))
      ∙ ops_kinds was [] was.ops (good_from t names old was [] was.ops good.ops)

  -- the extended blocks of these are good, and their temporaries are numbered from next on
  pub record AllBlocks (is_entry : Bool) (values : List Value) (next : ℕ) (rest : List ExtBlock) : Type 0 where
    pub each : All (Good new) (extended_blocks names is_entry values next rest)
    pub top : ℕ
    pub numbers : Numbers next (all_results (extended_blocks names is_entry values next rest)) top

  pub blocks_good : (is_entry : Bool) (values : List Value) (next : ℕ) (rest : List ExtBlock) (cfront : List TempId)
      (kfront bfront : List Kind) (m : ℕ)
      → all_carried new ≡ cfront ++ all_carried (extended_blocks names is_entry values next rest) → length cfront ≡ next
      → all_kinds names new ≡ kfront ++ all_kinds names (extended_blocks names is_entry values next rest) → length kfront ≡ next
      → all_kinds names old ≡ bfront ++ all_kinds names rest → length bfront ≡ length values
      → Numbers (length values) (all_results rest) m → All (Good old) rest → All Plain rest → AllBlocks is_entry values next rest
  blocks_good is_entry values next [] cfront kfront bfront m cs clong ks klong bs blong numbers good plain =
      record { each = All-nil (Good new); top = next; numbers = numbers_none next }
  blocks_good is_entry values next (was ∷ rest) cfront kfront bfront m cs clong ks klong bs blong numbers good plain =
      let g = grown_block names is_entry values next was in
      let own = with_ops was g.ops in
      let others = extended_blocks names false g.values g.next rest in
      let cown = all_carried (own ∷ []) in
      let kown = all_kinds names (own ∷ []) in
      let bown = all_kinds names (was ∷ []) in
      let csplit : all_carried (own ∷ others) ≡ cown ++ all_carried others =
      ap (λ (xs : List TempId). xs ++ all_carried others) (sym (append-nil _)) in
      let ksplit : all_kinds names (own ∷ others) ≡ kown ++ all_kinds names others =
      ap (λ (xs : List Kind). xs ++ all_kinds names others) (sym (append-nil _)) in
      let bsplit : all_kinds names (was ∷ rest) ≡ bown ++ all_kinds names rest =
      ap (λ (xs : List Kind). xs ++ all_kinds names rest) (sym (append-nil _)) in
      let cs1 : all_carried new ≡ cfront ++ (cown ++ all_carried others) = cs ∙ ap (λ (xs : List TempId). cfront ++ xs) csplit in
      let ks1 : all_kinds names new ≡ kfront ++ (kown ++ all_kinds names others) = ks ∙ ap (λ (xs : List Kind). kfront ++ xs) ksplit in
      let bs1 : all_kinds names old ≡ bfront ++ (bown ++ all_kinds names rest) = bs ∙ ap (λ (xs : List Kind). bfront ++ xs) bsplit in
      let split = numbers_split (length values) m (results_of was.ops) (all_results rest) numbers in
      let good_was = All-head (Good old) was rest good in
      let o = one_block is_entry values next was cfront (all_carried others) kfront (all_kinds names others) bfront (all_kinds names rest)
      (length values + length (results_of was.ops))
      cs1 clong ks1 klong bs1 blong split.front good_was (All-head Plain was rest plain) in
      let cl = length-append cfront cown in
      let kl = length-append kfront kown in
      let bl = length-append bfront bown in
      let co = o.carries in
      let ko = o.kinds in
      let v = o.known in
      let w = block_kinds was good_was in
      let r = blocks_good false g.values g.next rest (cfront ++ cown) (kfront ++ kown) (bfront ++ bown) m
      (cs1 ∙ sym (append_assoc cfront cown (all_carried others))) (omega (arith, cl, clong, co))
      (ks1 ∙ sym (append_assoc kfront kown (all_kinds names others))) (omega (arith, kl, klong, ko))
      (bs1 ∙ sym (append_assoc bfront bown (all_kinds names rest))) (omega (arith, bl, blong, v, w))
      (subst (λ (k : ℕ). Numbers k (all_results rest) m) (sym v) split.back) (All-tail (Good old) was rest good)
      (All-tail Plain was rest plain) in
      record {
        each = All-cons (Good new) own others o.block r.each;
        top = r.top;
        numbers = numbers_append next g.next r.top (results_of g.ops) (all_results others) o.numbers r.numbers;
      }
