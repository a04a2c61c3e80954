use Rattle.std.proofs.Common.{ℕ, ◌≡◌, ◌<◌, ◌∙◌, get_or, length, sym, ap, subst, arith, inl, inr}
use Rattle.std.proofs.lemmas.Bool.{cases_lt}
use Rattle.std.proofs.lemmas.List.{get_or_default}
use Rattle.un_rect.specs.Extents.{AreSpared, may_order, unsure_extent}
use Rattle.un_rect.specs.declared.extents.Extent.{Extent}
use Rattle.un_rect.proofs.Going.{unchanged}
use Rattle.un_rect.proofs.orders.next_order.Goals as goal

pub loop-i-preserved : goal.loop-i-preserved
loop-i-preserved c = λ k low lt. (
    let xs = c.args.extents.now in
    let i = c.loop-i.i in
    let j = c.args.j in
    let lt_j : j < length xs = omega (arith, c.if-j-extents.false) in
    let lt_i : i < length xs = omega (arith, lt_j, c.loop-i-test.true, c.loop-i.auto.i-end) in
    let here : AreSpared may_order xs c.args.did i j = record {
      same = unchanged c.args.did (sym c.ne.ensures ∙ c.if-ne.false);
      first = lt_i;
      second = lt_j;
      none = λ x y. ap (λ (e : Extent). may_order e (get_or xs j y)) (get_or_default xs i x unsure_extent lt_i)
          ∙ (ap (λ (e : Extent). may_order (get_or xs i unsure_extent) e) (get_or_default xs j y unsure_extent lt_j)
          ∙ (sym c.may_order.ensures ∙ c.if-may_order.false));
    } in
    elim (cases_lt k i) [
      | inl before ↦ c.loop-i.invariant k low before
      | inr after ↦ (let is : i ≡ k = omega (arith, after, lt) in subst (λ (n : ℕ). AreSpared may_order xs c.args.did n j) is here)
    ])

pub returns-clause-passed : goal.returns-clause-passed
returns-clause-passed c = λ k low lt. c.loop-i.invariant k low (omega (arith, lt, c.loop-i-test.false, c.loop-i.auto.i-end))
