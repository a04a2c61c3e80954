use Rattle.std.proofs.Common.{ℕ, ◌≡◌, ◌<◌, ◌∙◌, false, get_or, length, sym, ap, subst, arith, inl, inr}
use Rattle.std.proofs.lemmas.Bool.{cases_lt}
use Rattle.std.proofs.lemmas.List.{get_or_default}
use Rattle.un_rect.specs.Extents.{IsNoted, left_both}
use Rattle.un_rect.specs.declared.left.Left.{Left}
use Rattle.un_rect.specs.declared.opened.Opened.TheVariants.{Nothing, More}
use Rattle.un_rect.proofs.Going.{unchanged}
use Rattle.un_rect.proofs.left.next_left.Goals as goal

pub loop-i-preserved : goal.loop-i-preserved
loop-i-preserved c = λ k low lt. (
    let xs = c.args.left.now in
    let i = c.loop-i.i in
    let j = c.args.j in
    let lt_j : j < length xs = omega (arith, c.if-j-left.false) in
    let lt_i : i < length xs = omega (arith, lt_j, c.loop-i-test.true, c.loop-i.auto.i-end) in
    let none : Left = record { opened = Nothing; reg = 0; one = false; first = 0; end = 0 } in
    let here : IsNoted xs c.args.did i j More = record {
      same = unchanged c.args.did (sym c.ne.ensures ∙ c.if-ne.false);
      first = lt_i;
      second = lt_j;
      is = λ x y. ap (λ (e : Left). left_both e (get_or xs j y)) (get_or_default xs i x none lt_i)
          ∙ (ap (λ (e : Left). left_both (get_or xs i none) e) (get_or_default xs j y none lt_j)
          ∙ (sym c.left_both.ensures ∙ c.in-More.is));
    } in
    elim (cases_lt k i) [
      | inl before ↦ c.loop-i.invariant k low before
      | inr after ↦ (let is : i ≡ k = omega (arith, after, lt) in subst (λ (n : ℕ). IsNoted xs c.args.did n j More) is here)
    ])

pub returns-clause-passed : goal.returns-clause-passed
returns-clause-passed c = λ k low lt. c.loop-i.invariant k low (omega (arith, lt, c.loop-i-test.false, c.loop-i.auto.i-end))
