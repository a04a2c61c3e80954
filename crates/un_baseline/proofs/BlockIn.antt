-- The operations of the source, and the start and the end of a block, keep what is known of values, and lie in their domains.
use Rattle.std.proofs.Common.{◌≡◌, ℕ, zero, suc, ◌+◌, ◌<◌, ◌≤◌, Bool, true, List, [], ◌∷◌, ◌++◌, length, map, replicate, Option, Some, None}
use Rattle.std.proofs.Common.{All, Contains, refl, sym, ap, subst, ◌∙◌, append_assoc, append-nil, arith}
use Rattle.std.specs.Prelude.{◌==◌, ◌&&◌, slice_get}
use Rattle.std.specs.List.{range_with_len}
use Rattle.std.specs.Option.{option_map}
use Rattle.std.proofs.lemmas.List.Elements.{All-contains, Contains-append_right}
use Rattle.std.proofs.lemmas.Option.{slice_get-get_or, slice_get-map}
use Rattle.un_base.specs.declared.ids.NameId.{NameId}
use Rattle.un_base.specs.declared.ids.TempId.{TempId}
use Rattle.un_isa.specs.Facts.{result_space}
use Rattle.un_isa.specs.Fit.{IsFit}
use Rattle.un_isa.specs.Registers.{saved_registers}
use Rattle.un_isa.specs.declared.reg.Space.{Space}
use Rattle.un_isa.specs.declared.reg.Space.TheVariants.{R, P, M}
use Rattle.un_ir.specs.declared.function.Kind.TheVariants.{Pred}
use Rattle.un_ir.specs.declared.function.SrcOp.{SrcOp}
use Rattle.un_ir.specs.declared.extended.ExtKind.TheVariants.{In, Body}
use Rattle.un_ir.specs.declared.extended.Operand.{Operand}
use Rattle.un_ir.specs.declared.extended.ExtOp.{ExtOp}
use Rattle.un_ir.specs.declared.extended.ExtBlock.{ExtBlock}
use Rattle.un_ir.specs.declared.extended.Ext.{Ext}
use Rattle.un_ir.specs.declared.extended.Growth.{Growth}
use Rattle.un_ir.specs.declared.extended.Sort.{Sort}
use Rattle.un_ir.specs.Extended.{temp, name_kind, result_count, IsGoodExtBlock, IsExtended}
use Rattle.un_ir.specs.ExtendOf.{with_operands, new_operands, with_results, with_values, with_extended}
use Rattle.un_ir.specs.WellFormed.{result_kind, kind_given}
use Rattle.un_ir.proofs.NameBounds.{at_all}
use Rattle.un_model.specs.declared.model.Options.{Options}
use Rattle.un_model.specs.Instructions.{is_predicate_space}
use Rattle.un_model.specs.Registers.{gives_truth_at, is_truth_of, is_truth}
use Rattle.un_baseline.specs.declared.plan.Purpose.TheVariants.{Operands}
use Rattle.un_baseline.specs.declared.plan.Definer.{Definer}
use Rattle.un_baseline.specs.declared.plan.Definer.TheVariants.{Assigns}
use Rattle.un_baseline.specs.declared.plan.Setting.{Setting}
use Rattle.un_baseline.specs.declared.plan.Progress.{Progress}
use Rattle.un_baseline.specs.RoomyOptions.{AreRoomy}
use Rattle.un_baseline.specs.SpillEverywhere.{assigning, purpose_at, progress_of, setting_of}
use Rattle.un_baseline.proofs.Grown.{values_ops, operands_ops, enter_ops, enter_none, enter_same, extended_ops}
use Rattle.un_baseline.proofs.CopiesIn.{DefinerOk}
use Rattle.un_baseline.proofs.OpsIn.{any_from_at, any_contains, same_number, body_in}
use Rattle.un_baseline.proofs.OutsIn.{ReadsFrom}
use Rattle.un_baseline.proofs.ValueKinds.{kind_defined}
use Rattle.un_baseline.proofs.ValuesOk.{ValuesOk, values_same, values_operand, values_operands, SortOk, SortsOk, values_new}
use Rattle.un_baseline.proofs.WalkIn.{Good, AreReady, operands_good, AreTruths, values_good}

-- ---- lists

pub row_is : (n c m : ℕ) → m < c → slice_get (map temp (range_with_len n c)) m ≡ Some (temp (n + m))
row_is n zero m lt = absurd (omega arith)
row_is n (suc c) zero lt = let z : n ≡ n + 0 = omega arith in ap (λ (k : ℕ). Some (temp k)) z
row_is n (suc c) (suc m) lt = let z : n + 1 + m ≡ n + suc m = omega arith in row_is (n + 1) c m (omega arith) ∙ ap (λ (k : ℕ). Some (temp
    k)) z

replicate_at : {A : Type 0} (n : ℕ) (x : A) (m : ℕ) (w : A) → slice_get (replicate n x) m ≡ Some w → (w ≡ x) × (m < n)
replicate_at zero x m w at = absurd (cc at)
replicate_at (suc n) x zero w at = ((let e : x ≡ w = cc at in sym e), omega arith)
replicate_at (suc n) x (suc m) w at = let r = replicate_at n x m w at in (r.0, (let lt = r.1 in omega arith))

truth_given : (space : Option Space) → kind_given space ≡ Pred → is_predicate_space space ≡ true
truth_given None h = absurd (cc h)
truth_given (Some R) h = absurd (cc h)
truth_given (Some P) h = refl
truth_given (Some M) h = absurd (cc h)

module _ (e : Ext) (o : Options) (roomy : AreRoomy e o) (fit : IsFit e.table) (extended : IsExtended e) (b : ℕ) (entry : Bool) (block :
    ExtBlock)
    (at_b : slice_get e.blocks b ≡ Some block) where
  abbrev s : Setting
  s = setting_of e entry block

  pub good_block : IsGoodExtBlock e.table e.names e.blocks block
  good_block = at_all (IsGoodExtBlock e.table e.names e.blocks) e.blocks b block extended.good.each at_b

  abbrev pub live : All (λ (x : NameId). x.0 < length e.names) block.live_in
  live = good_block.live_in

  pub starts : (c : ExtBlock) → Contains e.blocks c → (op : ExtOp) → Contains c.ops op → op.kind ≡ In → length c.live_in ≤ length op.results
  starts c h op k is =
      let g = All-contains (IsGoodExtBlock e.table e.names e.blocks) e.blocks c extended.good.each h in
      let at = slice_get-get_or c.ops k.0 op k.1 ∙ ap (λ (x : ExtOp). Some x) k.2 in
      let size : length op.results ≡ length c.live_in + length (saved_registers e.table) = (g.ops k.0 op at).results ∙ ap (result_count
      e.table c) is in
      omega arith

  -- ---- sorts

  abbrev pub ValueSort : ℕ → Sort → Type 0
  ValueSort n sort = SortOk e block s.placed n sort

  pub sorts_at : (n : ℕ) (sorts : List Sort) → ((m : ℕ) (sort : Sort) → slice_get sorts m ≡ Some sort → ValueSort (n + m) sort)
      → SortsOk e block s.placed n sorts
  sorts_at n [] h = tt
  sorts_at n (sort ∷ sorts) h =
      let z : n + 0 ≡ n = omega arith in (
        subst (λ (k : ℕ). ValueSort k sort) z (h 0 sort refl),
        sorts_at (n + 1) sorts (λ m t at. let q : n + suc m ≡ n + 1 + m = omega arith in subst (λ (k : ℕ). ValueSort k t) q (h (suc m) t
            at)),
      )

  -- a result of an operation in the block is a truth value where the operation gives one there
  pub truth_there : (op : ExtOp) (m : ℕ) (y : TempId) → Contains block.ops op → slice_get op.results m ≡ Some y
      → gives_truth_at e.names block.live_in op.kind m ≡ true → is_truth e.names block y ≡ true
  truth_there op m y among at gives =
      let test : ℕ → TempId → Bool = λ k x. (x.0 == y.0) && gives_truth_at e.names block.live_in op.kind k in
      let z : 0 + m ≡ m = omega arith in
      let here : test (0 + m) y ≡ true = ap (λ (k : ℕ). test k y) z
      ∙ ap (λ (v : Bool). v && gives_truth_at e.names block.live_in op.kind m) (same_number y.0) ∙ gives in
      any_contains (λ (x : ExtOp). is_truth_of e.names block.live_in x y) block.ops op among (any_from_at test 0 op.results m y at here)

  pub place_of : (op : ExtOp) → (k : Contains block.ops op) → slice_get block.ops k.0 ≡ Some op
  place_of op k = slice_get-get_or block.ops k.0 op k.1 ∙ ap (λ (x : ExtOp). Some x) k.2

  -- ---- operations of the source

  module _ (src : SrcOp) (ys : List Operand) (n count : ℕ) where
    abbrev made : ExtOp
    made = record { kind = Body src; operands = ys; results = map temp (range_with_len n count) }

    abbrev sort : Sort
    sort = record { kind = result_kind src.op; copied = true }

    body_sorts : Contains block.ops made → SortsOk e block s.placed n (replicate count sort)
    body_sorts among = sorts_at n (replicate count sort) (λ m t at.
        let r = replicate_at count sort m t at in
        let there = row_is n count m r.1 in
        let kinds = kind_defined e.names e.blocks extended.good.numbered starts b among.0 m block made (temp (n + m)) at_b (place_of made
        among)
        there refl ∙ slice_get-map (λ (y : TempId). result_kind src.op) (map temp (range_with_len n count)) m
        ∙ ap (option_map (λ (y : TempId). result_kind src.op)) there in
        subst (ValueSort (n + m)) (sym r.0) (record {
          kind = kinds;
          truth = λ is. truth_there made m (temp (n + m)) among there (truth_given (result_space src.op) is);
          copied = λ not. absurd (cc not);
        }))

  truths_row : (d : Definer) (n count : ℕ) (sort : Sort) → SortsOk e block s.placed n (replicate count sort)
      → ((name : NameId) → d ≡ Assigns name → name_kind e.names name ≡ sort.kind)
      → AreTruths e o roomy entry block live d n (replicate count sort)
  truths_row d n zero sort ok kinds = tt
  truths_row d n (suc count) sort ok kinds =
      ((λ name is pred. (ok.0).truth (sym (kinds name is) ∙ pred)), truths_row d (n + 1) count sort ok.1 kinds)

  abbrev pub Walk : Progress → List ExtOp → Type 0
  Walk p ops = Good e o roomy entry block live p ops

  abbrev pub Inside : List ExtOp → Type 0
  Inside ops = (x : ExtOp) → Contains ops x → Contains block.ops x

  pub ready_operands : (from k : ℕ) (xs : List Operand) (g : Growth) → ValuesOk e block s.placed from g → ReadsFrom e o entry block from xs
      → k + length xs ≤ 6 → AreReady e o roomy entry block live Operands k xs g
  ready_operands from k [] g ok reads few = tt
  ready_operands from k (x ∷ xs) g ok reads few =
      let next = values_operand e block s.placed from x g ok in (
        (λ v is. record { ok = ok.at _ v reads.0 is; operand = omega arith }),
        ready_operands from (k + 1) xs (with_operands (x ∷ []) g) next reads.1 (omega arith),
      )

  -- what is asked of an operation of the source
  pub record SourceOk (src : SrcOp) : Type 0 where
    pub named : DefinerOk e o roomy entry block (assigning src.dst)
    pub kind : (name : NameId) → assigning src.dst ≡ Assigns name → name_kind e.names name ≡ result_kind src.op

  module _ (src : SrcOp) (xs : List Operand) (rs : List TempId) (from : ℕ) (g : Growth) (saved : Bool)
      (ok : ValuesOk e block s.placed from g) (reads : ReadsFrom e o entry block from xs) where
    abbrev op : ExtOp
    op = record { kind = Body src; operands = xs; results = rs }

    abbrev read : Growth
    read = with_operands xs g

    abbrev here : Growth
    here = with_results (Body src) (new_operands xs g) (length rs) read

    abbrev sorts : List Sort
    sorts = replicate (length rs) (record { kind = result_kind src.op; copied = true })

    abbrev body : ExtOp
    body = made src (new_operands xs g) read.next (length rs)

    pub body_values : Contains block.ops body → ValuesOk e block s.placed from (with_extended e.names block.live_in entry saved op g)
    body_values among =
        subst (ValuesOk e block s.placed from) (sym (enter_same entry src (with_values read.next sorts here)))
        (values_new e block s.placed from read.next sorts here (body_sorts src (new_operands xs g) read.next (length rs) among)
        (values_same e block s.placed from read here refl (values_operands e block s.placed from xs g ok)))

    abbrev body_list : List ExtOp
    body_list = extended_ops e.names block.live_in entry saved op g

    pub body_whole : (tail : List ExtOp) → body_list ++ tail ≡ operands_ops xs g ++ (body ∷ (values_ops read.next sorts here ++ tail))
    body_whole tail =
        let us = operands_ops xs g in
        let ds = values_ops read.next sorts here in
        let es = enter_ops entry (Body src) in
        append_assoc us (body ∷ (ds ++ es)) tail
        ∙ ap (λ (zs : List ExtOp). us ++ (body ∷ (zs ++ tail)))
        (ap (λ (zs : List ExtOp). ds ++ zs) (enter_none entry (Body src) (λ h. cc h)) ∙ append-nil ds)

    pub body_among : (tail : List ExtOp) → Inside (body_list ++ tail) → Contains block.ops body
    body_among tail inside = inside body (subst (λ (zs : List ExtOp). Contains zs body) (sym (body_whole tail))
        (Contains-append_right (operands_ops xs g) (body ∷ (values_ops read.next sorts here ++ tail)) body (0, omega arith, refl)))

    pub body_good : (tail : List ExtOp) (p : Progress) → SourceOk src → length xs ≤ 6 → p.operands ≡ 0 → Inside (body_list ++ tail)
        → ((q : Progress) → q.operands ≡ 0 → Walk q tail) → Walk p (body_list ++ tail)
    body_good tail p source few none inside rest =
        let among = body_among tail inside in
        let ds = values_ops read.next sorts here in
        subst (Walk p) (sym (body_whole tail))
        (operands_good e o roomy entry block live xs g 0 p (body ∷ (ds ++ tail)) (ready_operands from 0 xs g ok reads (omega arith))
        (omega arith)
        (λ q.
        let purpose = purpose_at s.term (body ∷ (ds ++ tail)) in
        let next = progress_of e block s q purpose body (Body src) in (
          body_in e o roomy fit entry block q purpose src (new_operands xs g) (map temp (range_with_len read.next (length rs))),
          values_good e o roomy entry block live read.next sorts here next tail source.named
              (truths_row next.definer read.next (length rs) (record { kind = result_kind src.op; copied = true })
              (body_sorts src (new_operands xs g) read.next (length rs) among) source.kind)
              (λ r k. rest r k),
        )))
