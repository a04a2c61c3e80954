-- What Same looks at.
use Rattle.std.proofs.Common.{ℕ, ◌≡◌, ◌∙◌, true, List, get_or, nat_eq, sym, subst}
use Rattle.std.proofs.Common.{arith, ap}
use Rattle.std.specs.List.{AllByRecursion}
use Rattle.std.proofs.lemmas.List.Elements.{recursion_from_All}
use Rattle.std.proofs.lemmas.Bool.Decides.{nat_tests}
use Rattle.std.specs.List.{list_any}
use Rattle.un_domains.specs.Sets.{Sets, set_at, has, IsIn}
use Rattle.un_domains.specs.OrderLaws.{has_below}
use Rattle.un_prop.specs.Rounds.{HasVars}
use Rattle.un_prop.specs.Acts.{is_active}
use Rattle.un_prop.specs.Lawful.{LawfulTest}
use Rattle.un_prop.specs.LookLaws.{set_alike}
use Rattle.un_prop.specs.AmongLaws.{has_among}
use Rattle.un_prop.specs.ChoiceLaws.{passes_more}
use Rattle.un_prop.specs.SomewhereLaws.{any_more, any_has}
use Rattle.un_prop.specs.PlaceLaws.{entries_lawful}
use Rattle.un_prop.specs.declared.act.Act.TheVariants.{Always}
use Rattle.un_alt.specs.FilterLaws.{some_at}
use Rattle.un_base.specs.declared.ids.VarId.{VarId}
use Rattle.un_prop.specs.Parts.{SameAt}
use Rattle.un_prop.specs.Among.{among}
use Rattle.un_prop.specs.AmongLaws.{same_var}
use Rattle.std.proofs.Common.{Some}
use Rattle.un_alt.specs.Registers.{chosen_value, some_passes}
use Rattle.un_alt.specs.RegisterLaws.{chosen_alike, one_among}
use Rattle.un_alt.specs.Same.{same_holds, same_can, SameVars}

pub same_looks : (vs : List VarId) (choice : VarId) (regs : List VarId) (to : VarId) → SameVars vs choice regs to → (x y : List ℕ) →
    SameAt vs x y
    → same_holds choice regs to x ≡ same_holds choice regs to y
same_looks vs choice regs to h x y same =
    ap (λ (n : ℕ). some_passes (λ r. nat_eq r n) (chosen_value (Some choice) regs x)) (same_var vs x y same to h.of_to)
    ∙ ap (some_passes (λ r. nat_eq r (get_or y to.0 0)))
    (chosen_alike vs x y same (Some choice) regs (one_among vs choice h.of_choice) h.of_regs)

module _ (vs : List VarId) (choice : VarId) (regs : List VarId) (to : VarId) (h : SameVars vs choice regs to) where
  all_vars : AllByRecursion (λ u. among vs u ≡ true) regs
  all_vars = recursion_from_All _ _ h.of_regs

  pub same_lawful : LawfulTest vs (same_can regs to)
  same_lawful = entries_lawful vs (λ u. among vs u ≡ true) (λ s (v : VarId). list_any (has (set_at s to.0)) (set_at s v.0)) regs
      (λ v there. record {
        monotone = λ t s y k full le e. any_more (has (set_at t to.0)) (has (set_at s to.0)) (set_at t v.0) (set_at s v.0)
            (λ z a b. (has_below t s v.0 z le a, has_below t s to.0 z le b)) e;
        local = λ s t y agree. ap (λ (xs : List ℕ). list_any (has xs) (set_at s v.0)) (set_alike vs s t agree to h.of_to) ∙ ap
            (list_any (has (set_at t to.0))) (set_alike vs s t agree v there);
      }) all_vars

  pub same_fits : (x : List ℕ) → same_holds choice regs to x ≡ true → (m : Sets) → HasVars vs m → IsIn x m → is_active Always x ≡ true
      → same_can regs to m (get_or x choice.0 0) ≡ true
  same_fits x holds m k there is = passes_more (λ u. among vs u ≡ true) (λ (v : VarId). nat_eq (get_or x v.0 0) (get_or x to.0 0))
      (λ (v : VarId). list_any (has (set_at m to.0)) (set_at m v.0)) regs (get_or x choice.0 0) all_vars
      (λ v at e. (let equal : get_or x to.0 0 ≡ get_or x v.0 0 = grind (arith, nat_tests, e) in
      any_has (has (set_at m to.0)) (set_at m v.0) (get_or x v.0 0) (there.each v.0 (has_among vs v m at k))
      (subst (λ (y : ℕ). has (set_at m to.0) y ≡ true) equal (there.each to.0 (has_among vs to m h.of_to k)))))
      (sym (some_at (λ r. nat_eq r (get_or x to.0 0)) regs (get_or x choice.0 0) x) ∙ holds)
