-- What Home looks at.
use Rattle.std.proofs.Common.{ℕ, ◌≡◌, ◌∙◌, true, List, get_or, nat_eq, sym, subst}
use Rattle.std.proofs.Common.{arith, ap}
use Rattle.std.specs.declared.option.Option.{Option}
use Rattle.std.specs.List.{AllByRecursion}
use Rattle.std.proofs.lemmas.List.Elements.{recursion_from_All}
use Rattle.std.proofs.lemmas.Bool.Decides.{nat_tests}
use Rattle.un_domains.specs.Sets.{Sets, set_at, has, IsIn}
use Rattle.un_domains.specs.OrderLaws.{has_below}
use Rattle.un_prop.specs.Rounds.{HasVars}
use Rattle.un_prop.specs.Acts.{is_active}
use Rattle.un_prop.specs.Lawful.{LawfulTest}
use Rattle.un_prop.specs.LookLaws.{set_alike}
use Rattle.un_prop.specs.AmongLaws.{has_among}
use Rattle.un_prop.specs.ChoiceLaws.{passes_more}
use Rattle.un_prop.specs.PlaceLaws.{entries_lawful}
use Rattle.un_prop.specs.declared.act.Act.TheVariants.{Always}
use Rattle.un_alt.specs.FilterLaws.{some_at}
use Rattle.un_base.specs.declared.ids.VarId.{VarId}
use Rattle.un_prop.specs.Parts.{SameAt}
use Rattle.un_prop.specs.Among.{among}
use Rattle.un_alt.specs.Registers.{place_of, some_passes}
use Rattle.un_alt.specs.RegisterLaws.{chosen_alike}
use Rattle.un_alt.specs.Home.{home_holds, home_can, HomeVars}

pub home_looks : (vs : List VarId) (choice : Option VarId) (regs : List VarId) (home : ℕ) → HomeVars vs choice regs → (x y : List ℕ) →
    SameAt vs x y
    → home_holds choice regs home x ≡ home_holds choice regs home y
home_looks vs choice regs home h x y same = ap (some_passes (λ r. nat_eq r home))
    (chosen_alike vs x y same choice regs h.of_choice h.of_regs)

module _ (vs : List VarId) (choice : Option VarId) (regs : List VarId) (home : ℕ) (h : HomeVars vs choice regs) where
  all_vars : AllByRecursion (λ u. among vs u ≡ true) regs
  all_vars = recursion_from_All _ _ h.of_regs

  pub home_lawful : LawfulTest vs (home_can regs home)
  home_lawful = entries_lawful vs (λ u. among vs u ≡ true) (λ s (v : VarId). has (set_at s v.0) home) regs (λ v there. record {
    monotone = λ t s y k full le e. has_below t s v.0 home le e;
    local = λ s t y agree. ap (λ (xs : List ℕ). has xs home) (set_alike vs s t agree v there);
  }) all_vars

  pub home_fits : (x : List ℕ) → home_holds choice regs home x ≡ true → (m : Sets) → HasVars vs m → IsIn x m → is_active Always x ≡
      true → home_can regs home m (place_of choice x) ≡ true
  home_fits x holds m k there is = passes_more (λ u. among vs u ≡ true) (λ (v : VarId). nat_eq (get_or x v.0 0) home)
      (λ (v : VarId). has (set_at m v.0) home) regs (place_of choice x) all_vars
      (λ v at e. (let same : get_or x v.0 0 ≡ home = grind (arith, nat_tests, e) in subst (λ (y : ℕ). has (set_at m v.0) y ≡ true) same
      (there.each v.0 (has_among vs v m at k))))
      (sym (some_at (λ r. nat_eq r home) regs (place_of choice x) x) ∙ holds)
