-- The extended function of every linear function is extended.
use Rattle.std.proofs.Common.{◌≡◌, ◌≢◌, ℕ, zero, suc, ◌+◌, ◌<◌, ◌++◌, ◌==◌, ◌||◌, Bool, true, false, List, [], ◌∷◌, Some}
use Rattle.std.proofs.Common.{length, get_or, slice_get, count_by, All, AllPairs, Contains, refl, sym, ap, ◌∙◌, arith}
use Rattle.std.proofs.Common.{subst}
use Rattle.std.specs.List.{flat_map}
use Rattle.std.proofs.lemmas.List.Elements.{All-head, All-tail}
use Rattle.std.proofs.lemmas.List.Sums.{sum_by-cons}
use Rattle.std.proofs.lemmas.Option.{unwrap_or-slice_get, slice_get_within, slice_get-get_or, get_or_from_slice_get}
use Rattle.un_base.specs.declared.ids.NameId.{NameId}
use Rattle.un_base.specs.declared.ids.TempId.{TempId}
use Rattle.un_ir.specs.declared.function.Kind.{Kind}
use Rattle.un_ir.specs.declared.function.Kind.TheVariants.{General}
use Rattle.un_ir.specs.declared.function.TheConstants.{PARAMS}
use Rattle.un_ir.specs.declared.function.Term.{Term}
use Rattle.un_ir.specs.declared.extended.ExtKind.{ExtKind}
use Rattle.un_ir.specs.declared.extended.ExtKind.TheVariants.{Copy}
use Rattle.un_ir.specs.declared.extended.ExtOp.{ExtOp}
use Rattle.un_ir.specs.declared.extended.ExtBlock.{ExtBlock}
use Rattle.un_ir.specs.declared.extended.Ext.{Ext}
use Rattle.un_ir.specs.declared.extended.Lssa.{Lssa}
use Rattle.un_ir.specs.declared.extended.Value.{Value}
use Rattle.un_ir.specs.Extended.{temp, name_kind, returns, one_if, is_enter, is_leave, is_return, is_linear_kind, carried, carried_by}
use Rattle.un_ir.specs.Extended.{all_carried, all_results, results_of, LeadsOn, HandsNamesOver, IsPlainOp, IsGoodExtBlock}
use Rattle.un_ir.specs.Extended.{IsLinear, IsExtended}
use Rattle.un_ir.specs.Linear.{ending_of}
use Rattle.un_ir.specs.Live.{targets_of}
use Rattle.un_ir.specs.ExtendOf.{grown_block, with_ops, extended_blocks, extend_of}
use Rattle.un_ir.proofs.GoodOps.{temps, Numbers, numbers_whole}
use Rattle.un_extend.proofs.ExtendShape.{count}
use Rattle.un_extend.proofs.ExtendParts.{shaped}
use Rattle.un_extend.proofs.ExtendFunction.{start_reads_none, blocks_good}
use Rattle.un_extend.proofs.ExtendSize.{extended_size}

-- ---- without copies each temporary carries its own value

abbrev Plain : ExtBlock → Type 0
Plain block = All IsPlainOp block.ops

carried_op : (kind : ExtKind) (op : ExtOp) → is_linear_kind kind ≡ true → carried_by kind op ≡ op.results
carried_op (Copy node) op h = absurd (cc h)
carried_op _ op h = refl

carried_ops : (ops : List ExtOp) → All IsPlainOp ops → flat_map (λ (op : ExtOp). carried_by op.kind op) ops ≡ results_of ops
carried_ops [] all = refl
carried_ops (op ∷ ops) all =
    let g = All-head IsPlainOp op ops all in
    ap (λ (xs : List TempId). xs ++ flat_map (λ (op : ExtOp). carried_by op.kind op) ops) (carried_op op.kind op g.kind)
    ∙ ap (λ (xs : List TempId). op.results ++ xs) (carried_ops ops (All-tail IsPlainOp op ops all))

carried_blocks : (blocks : List ExtBlock) → All Plain blocks → all_carried blocks ≡ all_results blocks
carried_blocks [] all = refl
carried_blocks (block ∷ blocks) all =
    ap (λ (xs : List TempId). xs ++ all_carried blocks) (carried_ops block.ops (All-head Plain block blocks all))
    ∙ ap (λ (xs : List TempId). results_of block.ops ++ xs) (carried_blocks blocks (All-tail Plain block blocks all))

temps_at : (n count i : ℕ) → get_or (temps n count) i (temp (n + i)) ≡ temp (n + i)
temps_at n zero i = refl
temps_at n (suc count) zero = ap temp (let z : n ≡ n + 0 = omega arith in z)
temps_at n (suc count) (suc i) =
    let z : n + suc i ≡ (n + 1) + i = omega arith in
    ap (λ (k : ℕ). get_or (temps (n + 1) count) i (temp k)) z ∙ temps_at (n + 1) count i ∙ ap temp (sym z)

carried_itself : (blocks : List ExtBlock) (m : ℕ) → All Plain blocks → Numbers 0 (all_results blocks) m → (x : ℕ)
    → carried blocks (temp x) ≡ temp x
carried_itself blocks m all numbers x =
    let z : 0 + x ≡ x = omega arith in
    unwrap_or-slice_get (all_carried blocks) x (temp x)
    ∙ ap (λ (xs : List TempId). get_or xs x (temp x)) (carried_blocks blocks all ∙ numbers.are)
    ∙ ap (λ (k : ℕ). get_or (temps 0 numbers.count) x (temp k)) (sym z) ∙ temps_at 0 numbers.count x ∙ ap temp z

-- ---- from block to block

count_same : (test : ExtKind → Bool) (ops : List ExtOp) → count_by (λ (op : ExtOp). test op.kind) ops ≡ count test ops
count_same test [] = refl
count_same test (op ∷ ops) = sum_by-cons (λ (x : ExtOp). one_if (test x.kind)) op ops
    ∙ ap (λ (k : ℕ). one_if (test op.kind) + k) (count_same test ops)

extended_length : (names : List Kind) (is_entry : Bool) (values : List Value) (next : ℕ) (rest : List ExtBlock)
    → length (extended_blocks names is_entry values next rest) ≡ length rest
extended_length names is_entry values next [] = refl
extended_length names is_entry values next (was ∷ rest) =
    let g = grown_block names is_entry values next was in ap suc (extended_length names false g.values g.next rest)

abbrev first_of_all : Bool → ℕ → Bool
first_of_all v zero = v
first_of_all v (suc k) = false

record From (is_entry : Bool) (rest : List ExtBlock) (k : ℕ) (own : ExtBlock) : Type 0 where
  was : ExtBlock
  ops : List ExtOp
  at : slice_get rest k ≡ Some was
  is : with_ops was ops ≡ own
  ends : (let e = ending_of own.ops in e.term) ≡ (let e = ending_of was.ops in e.term)
  enters : count is_enter own.ops ≡ one_if (first_of_all is_entry k)
  leaves : count is_leave own.ops ≡ one_if (returns was)

module _ (l : Lssa) (lin : IsLinear l) where
  abbrev old : List ExtBlock
  old = l.blocks

  abbrev new : List ExtBlock
  new = extended_blocks l.names true [] 0 old

  abbrev Good : ExtBlock → Type 0
  Good block = IsGoodExtBlock l.table l.names old block

  numbers_old : Numbers 0 (all_results old) (length (all_results old))
  numbers_old = let g = lin.good in record { count = length (all_results old); are = g.numbered; reach = omega arith }

  alone : (x : ℕ) → carried old (temp x) ≡ temp x
  alone x = carried_itself old (length (all_results old)) lin.plain numbers_old x

  from : (is_entry : Bool) (values : List Value) (next : ℕ) (rest : List ExtBlock) (k : ℕ) (own : ExtBlock) → All Good rest → All Plain rest
      → slice_get (extended_blocks l.names is_entry values next rest) k ≡ Some own → From is_entry rest k own
  from is_entry values next [] k own good plain h = absurd (cc h)
  from is_entry values next (was ∷ rest) zero own good plain h =
      let g = grown_block l.names is_entry values next was in
      let saved : Bool = is_entry || returns was in
      let good_was = All-head Good was rest good in
      let p = good_was.parts in
      let s = shaped l.names was.live_in is_entry saved was.ops p.0 values next p.1 (All-head Plain was rest plain)
      (start_reads_none l.table l.names old new alone was p.0 good_was p.1) in
      let e : with_ops was g.ops ≡ own = cc h in
      subst (From is_entry (was ∷ rest) 0) e (record {
        was = was;
        ops = g.ops;
        at = refl;
        is = refl;
        ends = s.ends;
        enters = s.enters;
        leaves = s.leaves;
      })
  from is_entry values next (was ∷ rest) (suc k) own good plain h =
      let g = grown_block l.names is_entry values next was in
      let r = from false g.values g.next rest k own (All-tail Good was rest good) (All-tail Plain was rest plain) h in
      record { was = r.was; ops = r.ops; at = r.at; is = r.is; ends = r.ends; enters = r.enters ∙ ap one_if (never k); leaves = r.leaves }
    where
      never : (k : ℕ) → first_of_all false k ≡ false
      never zero = refl
      never (suc k) = refl

  got : (k : ℕ) (own : ExtBlock) → slice_get new k ≡ Some own → From true old k own
  got k own h = let g = lin.good in from true [] 0 old k own g.each lin.plain h

  same_length : length new ≡ length old
  same_length = extended_length l.names true [] 0 old

  leads : (b : ℕ) (own : ExtBlock) → slice_get new b ≡ Some own → LeadsOn new b own
  leads b own h =
      let f = got b own h in
      let was = f.was in
      let g = lin.good in
      subst (λ (n : ℕ). All (λ (c : ℕ). (0 < c) × (c < n)) (targets_of b (let e = ending_of own.ops in e.term))) (sym same_length)
      (subst (λ (term : Term). All (λ (c : ℕ). (0 < c) × (c < length old)) (targets_of b term)) (sym f.ends) (g.leads b was f.at))

  hands_over : HandsNamesOver new
  hands_over k j a b at_a at_b target =
      let fa = got k a at_a in
      let fb = got j b at_b in
      let was_a = fa.was in
      let was_b = fb.was in
      let g = lin.good in
      let to = subst (λ (term : Term). Contains (targets_of k term) j) fa.ends target in
      let out : was_a.live_out ≡ a.live_out = ap (λ (x : ExtBlock). x.live_out) fa.is in
      let into : was_b.live_in ≡ b.live_in = ap (λ (x : ExtBlock). x.live_in) fb.is in
      subst (λ (xs : List NameId). All (Contains a.live_out) xs) into
      (subst (λ (ys : List NameId). All (Contains ys) was_b.live_in) out (g.hands_over k j was_a was_b fa.at fb.at to))

  distinct_labels : AllPairs (λ (a b : ExtBlock). a.label ≢ b.label) new
  distinct_labels i j d lt below same =
      let fa = got i (get_or new i d) (slice_get-get_or new i d (omega (arith, lt, below))) in
      let fb = got j (get_or new j d) (slice_get-get_or new j d below) in
      let was_a = fa.was in
      let was_b = fb.was in
      let g = lin.good in
      g.distinct_labels i j was_a lt (slice_get_within old j was_b fb.at)
      (ap (λ (x : ExtBlock). x.label) (get_or_from_slice_get old i was_a was_a fa.at) ∙ ap (λ (x : ExtBlock). x.label) fa.is ∙ same
      ∙ sym (ap (λ (x : ExtBlock). x.label) fb.is) ∙ ap (λ (x : ExtBlock). x.label) (sym (get_or_from_slice_get old j was_b was_a fb.at)))

  -- the extended function of a linear function keeps what an extended function is to keep
  pub extended_kept : IsExtended (extend_of l)
  extended_kept =
      let g = lin.good in
      let grown = extended_size l.table l.names old true [] 0 old g.each in
      let little = g.small in
      let b = blocks_good l.table l.names old new alone true [] 0 old [] [] [] (length (all_results old)) refl refl refl refl refl refl
      numbers_old g.each lin.plain in
      let e = same_length in
      let some = g.entry in
      let few = g.few in
      record {
        good = record {
          entry = omega (arith, e, some);
          few = omega (arith, e, few);
          each = b.each;
          numbered = numbers_whole b.top (all_results new) b.numbers;
          leads = leads;
          hands_over = hands_over;
          distinct_labels = distinct_labels;
          params = λ entry h. (let f = got 0 entry h in let was = f.was in
              subst (λ (xs : List NameId). All (λ (name : NameId). (name.0 < PARAMS) × (name_kind l.names name ≡ General)) xs)
              (ap (λ (x : ExtBlock). x.live_in) f.is) (g.params was f.at));
          small = omega (arith, grown, little);
        };
        frames = record {
          enters = λ k own h. (let f = got k own h in count_same is_enter own.ops ∙ f.enters ∙ ap one_if (first_is k));
          leaves = λ k d h. (let own = get_or new k d in let f = got k own (slice_get-get_or new k d h) in
              count_same is_leave own.ops ∙ f.leaves ∙ ap (λ (term : Term). one_if (is_return term)) (sym f.ends));
        };
      }
    where
      first_is : (k : ℕ) → first_of_all true k ≡ (k == 0)
      first_is zero = refl
      first_is (suc k) = sym (let e : (suc k == 0) ≡ false = grind arith in e)

  -- so is what has its parts
  pub made_kept : (names : List Kind) (blocks : List ExtBlock) → names ≡ l.names → blocks ≡ new
      → IsExtended (let e : Ext = record { table = l.table; names = names; blocks = blocks } in e)
  made_kept names blocks e1 e2 =
      subst (λ (ns : List Kind). IsExtended (let e : Ext = record { table = l.table; names = ns; blocks = blocks } in e)) (sym e1)
      (subst (λ (bs : List ExtBlock). IsExtended (let e : Ext = record { table = l.table; names = l.names; blocks = bs } in e)) (sym e2)
      extended_kept)
