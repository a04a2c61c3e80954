-- The extended function of a linear function has all copies that there can be, and its operations may choose all that they could.
use Rattle.std.proofs.Common.{◌≡◌, ℕ, zero, suc, ◌+◌, ◌==◌, ◌||◌, ◌++◌, Bool, true, false, if◌then◌else◌, List, [], ◌∷◌, Some}
use Rattle.std.proofs.Common.{length, slice_get, All, refl, sym, ap, ◌∙◌, arith, subst, append-nil}
use Rattle.std.specs.Option.{option_to_list}
use Rattle.std.proofs.lemmas.Grind.{flat_map-append}
use Rattle.std.proofs.lemmas.List.{length-append}
use Rattle.std.proofs.lemmas.List.Elements.{All-head, All-tail}
use Rattle.un_base.specs.declared.ids.TempId.{TempId}
use Rattle.un_ir.specs.declared.function.Kind.{Kind}
use Rattle.un_ir.specs.declared.extended.ExtKind.{ExtKind}
use Rattle.un_ir.specs.declared.extended.ExtKind.TheVariants.{In}
use Rattle.un_ir.specs.declared.extended.ExtOp.{ExtOp}
use Rattle.un_ir.specs.declared.extended.ExtBlock.{ExtBlock}
use Rattle.un_ir.specs.declared.extended.Ext.{Ext}
use Rattle.un_ir.specs.declared.extended.Growth.{Growth}
use Rattle.un_ir.specs.declared.extended.Lssa.{Lssa}
use Rattle.un_ir.specs.declared.extended.Value.{Value}
use Rattle.un_ir.specs.Extended.{AllAre, is_copy, is_end, is_inner, is_return, returns, results_of, Parts, IsMadeOf, IsPlainOp}
use Rattle.un_ir.specs.Extended.{IsGoodExtBlock}
use Rattle.un_ir.specs.Extended.{IsLinear}
use Rattle.un_ir.specs.ExtendOf.{with_all_extended, grown_block, with_ops, extended_blocks, extend_of}
use Rattle.un_ir.specs.Linear.{is_in, is_out, in_temps}
use Rattle.un_extend.specs.Choices.{IsWholeBlock, HasAllChoices, KeepsOperations}
use Rattle.un_extend.proofs.ChoiceBlocks.{first_made, grown_whole}
use Rattle.un_extend.proofs.ChoiceOperations.{operations_kept}
use Rattle.un_extend.proofs.ChoiceReads.{AllRead, all_read}
use Rattle.un_extend.proofs.ChoiceSteps.{in_op, fresh}
use Rattle.un_extend.proofs.ChoiceLinks.{linked}
use Rattle.un_extend.proofs.ChoiceMarks.{more_not}
use Rattle.un_extend.proofs.ExtendLinear.{extended_kept}
use Rattle.un_extend.proofs.ExtendParts.{shaped}
use Rattle.un_extend.proofs.RunBlocks.{FitsBlock, FitsBlocks}
use Rattle.un_extend.proofs.RunFits.{fits_blocks}
use Rattle.un_extend.proofs.RunTails.{temps}

-- ---- the temporaries of the values at a block's start

no_ins : (test : ExtKind → Bool) → ((kind : ExtKind) → test kind ≡ true → is_in kind ≡ false) → (xs : List ExtOp) → AllAre test xs
    → in_temps xs ≡ []
no_ins test h [] all = refl
no_ins test h (x ∷ xs) all =
    ap (λ (v : Bool). (if v then x.results else []) ++ in_temps xs) (h x.kind (All-head (λ (op : ExtOp). test op.kind ≡ true) x xs all))
    ∙ no_ins test h xs (All-tail (λ (op : ExtOp). test op.kind ≡ true) x xs all)

inner_not : (kind : ExtKind) → is_inner kind ≡ true → is_in kind ≡ false
inner_not In h = absurd (cc h)
inner_not _ h = refl

end_not : (kind : ExtKind) → is_end kind ≡ true → is_in kind ≡ false
end_not In h = absurd (cc h)
end_not _ h = refl

copy_not : (kind : ExtKind) → is_copy kind ≡ true → is_in kind ≡ false
copy_not In h = absurd (cc h)
copy_not _ h = refl

out_not : (kind : ExtKind) → is_out kind ≡ true → is_in kind ≡ false
out_not In h = absurd (cc h)
out_not _ h = refl

in_append : (xs ys : List ExtOp) → in_temps (xs ++ ys) ≡ in_temps xs ++ in_temps ys
in_append xs ys = flat_map-append (λ (op : ExtOp). if is_in op.kind then op.results else []) xs ys

start_temps : (ops : List ExtOp) (p : Parts) (results : List TempId) → IsMadeOf ops p → slice_get ops 0 ≡ Some (in_op results)
    → in_temps ops ≡ results
start_temps ops p results m first =
    let start = p.start in
    let out = p.out in
    let tail = p.inner ++ (option_to_list p.ending ++ (p.late ++ out ∷ [])) in
    let is : start ≡ in_op results =
    let both : Some start ≡ Some (in_op results) = sym (ap (λ (xs : List ExtOp). slice_get xs 0) m.whole) ∙ first in cc both in
    let no_out : in_temps (out ∷ []) ≡ [] = ap (λ (v : Bool). (if v then out.results else []) ++ []) (out_not out.kind m.out) in
    let none : in_temps tail ≡ [] =
    in_append p.inner (option_to_list p.ending ++ (p.late ++ out ∷ []))
    ∙ ap (λ (xs : List TempId). xs ++ in_temps (option_to_list p.ending ++ (p.late ++ out ∷ [])))
    (no_ins is_inner inner_not p.inner m.inner)
    ∙ in_append (option_to_list p.ending) (p.late ++ out ∷ [])
    ∙ ap (λ (xs : List TempId). xs ++ in_temps (p.late ++ out ∷ [])) (no_ins is_end end_not (option_to_list p.ending) m.ending)
    ∙ in_append p.late (out ∷ [])
    ∙ ap (λ (xs : List TempId). xs ++ in_temps (out ∷ [])) (no_ins is_copy copy_not p.late m.late)
    ∙ no_out in
    ap in_temps m.whole
    ∙ ap (λ (x : ExtOp). (if is_in x.kind then x.results else []) ++ in_temps tail) is
    ∙ ap (λ (xs : List TempId). results ++ xs) none ∙ append-nil results

-- ---- blocks

module _ (l : Lssa) (lin : IsLinear l) where
  abbrev e : Ext
  e = extend_of l

  abbrev Good : ExtBlock → Type 0
  Good block = IsGoodExtBlock l.table l.names l.blocks block

  abbrev Plain : ExtBlock → Type 0
  Plain block = All IsPlainOp block.ops

  one_whole : (b : ℕ) (values : List Value) (next m : ℕ) (was : ExtBlock) → length values ≡ m → FitsBlock m was → Good was → Plain was
      → (let g = grown_block l.names (b == 0) values next was in slice_get e.blocks b ≡ Some (with_ops was g.ops))
      → (let g = grown_block l.names (b == 0) values next was in
      IsWholeBlock e b (with_ops was g.ops) × (length g.values ≡ m + length (results_of was.ops)))
  one_whole b values next m was long fits good plain at =
      let g = grown_block l.names (b == 0) values next was in
      let owner = with_ops was g.ops in
      let rs = fits.results in
      let p = good.parts in
      let made = p.1 in
      let start : (let s = p.0 in s.start) ≡ in_op rs =
      let both : Some (let s = p.0 in s.start) ≡ Some (in_op rs) =
      sym (ap (λ (xs : List ExtOp). slice_get xs 0) made.whole) ∙ ap (λ (xs : List ExtOp). slice_get xs 0) fits.whole in cc both in
      let s = shaped l.names was.live_in (b == 0) (b == 0 || returns was) was.ops p.0 values next made plain
      (ap (λ (x : ExtOp). x.operands) start) in
      let same_end : returns was ≡ returns owner = ap is_return (sym s.ends) in
      let is : g ≡ with_all_extended l.names was.live_in (b == 0) (b == 0 || returns owner) (in_op rs ∷ fits.rest) (fresh next values) =
      ap (λ (v : Bool). with_all_extended l.names was.live_in (b == 0) (b == 0 || v) was.ops (fresh next values)) same_end
      ∙ ap (λ (ops : List ExtOp). with_all_extended l.names was.live_in (b == 0) (b == 0 || returns owner) ops (fresh next values))
      fits.whole in
      let ops_are = ap (λ (h : Growth). h.ops) is in
      let values_are = ap (λ (h : Growth). length h.values) is in
      let first = first_made e b owner rs fits.rest next values ops_are in
      let ins = start_temps owner.ops s.parts (temps next (length rs)) s.made first in
      let linked_block = linked e (extended_kept l lin) b owner at in
      let reads = subst (AllRead []) (sym ops_are)
      (all_read m l.names was.live_in (b == 0) (b == 0 || returns owner) rs fits.rest next values fits.named long fits.later) in
      let r = grown_whole e b owner m next (length rs) ins linked_block rs fits.rest values refl fits.named long fits.later ops_are reads in
      let count = r.1 in
      let all = ap (λ (ops : List ExtOp). length (results_of ops)) fits.whole in
      let parts = length-append rs (results_of fits.rest) in
      (r.0, omega (arith, values_are, count, all, parts))

  first : (b : ℕ) (v : Bool) (values : List Value) (next m : ℕ) (was : ExtBlock) (rest : List ExtBlock) → v ≡ (b == 0) → length values ≡ m
      → FitsBlocks m (was ∷ rest) → All Good (was ∷ rest) → All Plain (was ∷ rest)
      → ((k : ℕ) (own : ExtBlock) → slice_get (extended_blocks l.names v values next (was ∷ rest)) k ≡ Some own
      → slice_get e.blocks (b + k) ≡ Some own)
      → (let g = grown_block l.names (b == 0) values next was in
      IsWholeBlock e b (with_ops was g.ops) × (length g.values ≡ m + length (results_of was.ops)))
  first b v values next m was rest is long fits good plain reach =
      let g = grown_block l.names (b == 0) values next was in
      let there = subst (λ (w : Bool). (j : ℕ) (x : ExtBlock) → slice_get (extended_blocks l.names w values next (was ∷ rest)) j ≡ Some x
      → slice_get e.blocks (b + j) ≡ Some x) is reach in
      let z : b + 0 ≡ b = omega arith in
      one_whole b values next m was long fits.0 (All-head Good was rest good) (All-head Plain was rest plain)
      (ap (slice_get e.blocks) (sym z) ∙ there 0 (with_ops was g.ops) refl)

  from : (b : ℕ) (v : Bool) (values : List Value) (next m : ℕ) (rest : List ExtBlock) → v ≡ (b == 0) → length values ≡ m → FitsBlocks m rest
      → All Good rest → All Plain rest
      → ((k : ℕ) (own : ExtBlock) → slice_get (extended_blocks l.names v values next rest) k ≡ Some own
      → slice_get e.blocks (b + k) ≡ Some own)
      → (k : ℕ) (own : ExtBlock) → slice_get (extended_blocks l.names v values next rest) k ≡ Some own → IsWholeBlock e (b + k) own
  from b v values next m [] is long fits good plain reach k own got = absurd (cc got)
  from b v values next m (was ∷ rest) is long fits good plain reach zero own got =
      let one = first b v values next m was rest is long fits good plain reach in
      let z : b ≡ b + 0 = omega arith in
      subst (λ (k : ℕ). IsWholeBlock e k own) z
      (subst (IsWholeBlock e b) (let q = ap (λ (w : Bool). slice_get (extended_blocks l.names w values next (was ∷ rest)) 0) (sym is) ∙ got
      in cc q) one.0)
  from b v values next m (was ∷ rest) is long fits good plain reach (suc k) own got =
      let g = grown_block l.names (b == 0) values next was in
      let one = first b v values next m was rest is long fits good plain reach in
      let there = subst (λ (w : Bool). (j : ℕ) (x : ExtBlock) → slice_get (extended_blocks l.names w values next (was ∷ rest)) j ≡ Some x
      → slice_get e.blocks (b + j) ≡ Some x) is reach in
      let z : (b + 1) + k ≡ b + suc k = omega arith in
      subst (λ (n : ℕ). IsWholeBlock e n own) z
      (from (b + 1) false g.values g.next (m + length (results_of was.ops)) rest (sym (more_not (b + 1) 0 (omega arith))) one.1 fits.1
      (All-tail Good was rest good) (All-tail Plain was rest plain)
      (λ j x h. (let y : b + suc j ≡ (b + 1) + j = omega arith in ap (slice_get e.blocks) (sym y) ∙ there (suc j) x h)) k own
      (ap (λ (w : Bool). slice_get (extended_blocks l.names w values next (was ∷ rest)) (suc k)) (sym is) ∙ got))

  pub all_choices : HasAllChoices (extend_of l)
  all_choices b block at =
      let good = lin.good in
      let fits = fits_blocks l.table l.names l.blocks 0 l.blocks good.each lin.plain good.numbered in
      let z : 0 + b ≡ b = omega arith in
      subst (λ (k : ℕ). IsWholeBlock e k block) z (from 0 true [] 0 0 l.blocks refl refl fits good.each lin.plain
      (λ k own got. (let y : k ≡ 0 + k = omega arith in ap (slice_get e.blocks) (sym y) ∙ got)) b block at)

  -- so do its parts
  pub made_choices : (names : List Kind) (blocks : List ExtBlock) → names ≡ l.names → blocks ≡ extended_blocks l.names true [] 0 l.blocks
      → HasAllChoices (let made : Ext = record { table = l.table; names = names; blocks = blocks } in made)
  made_choices names blocks e1 e2 =
      subst (λ (ns : List Kind). HasAllChoices (let made : Ext = record { table = l.table; names = ns; blocks = blocks } in made)) (sym e1)
      (subst (λ (bs : List ExtBlock). HasAllChoices (let made : Ext = record { table = l.table; names = l.names; blocks = bs } in made))
      (sym e2) all_choices)

  pub made_operations : (names : List Kind) (blocks : List ExtBlock) → blocks ≡ extended_blocks l.names true [] 0 l.blocks
      → KeepsOperations l (let made : Ext = record { table = l.table; names = names; blocks = blocks } in made)
  made_operations names blocks is =
      subst (λ (bs : List ExtBlock). KeepsOperations l (let made : Ext = record { table = l.table; names = names; blocks = bs } in made))
      (sym is) (operations_kept l lin)
