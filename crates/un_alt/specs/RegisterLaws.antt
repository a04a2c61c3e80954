-- What a chosen register looks at.
use Rattle.std.proofs.Common.{ℕ, zero, suc, ◌≡◌, ◌<◌, ◌≤◌, ◌∙◌, true, List, [], ◌∷◌, length, get_or, None, Some, refl}
use Rattle.std.proofs.Common.{ap, arith}
use Rattle.std.specs.declared.option.Option.{Option}
use Rattle.std.specs.List.{AllByRecursion}
use Rattle.std.proofs.lemmas.List.Elements.{recursion_from_All}
use Rattle.un_base.specs.declared.ids.VarId.{VarId}
use Rattle.un_prop.specs.Parts.{SameAt}
use Rattle.un_prop.specs.Among.{among, AllAmong}
use Rattle.un_prop.specs.AmongLaws.{same_var}
use Rattle.un_alt.specs.Registers.{place_of, value_at, chosen_value, choice_vars}

pub value_within : (vs : List VarId) (i : ℕ) (x : List ℕ) (d : VarId) → i < length vs
    → value_at vs i x ≡ Some (get_or x (get_or vs i d).0 0)
value_within [] i x d lt = absurd (omega (arith, lt))
value_within (v ∷ vs) zero x d lt = refl
value_within (v ∷ vs) (suc i) x d lt = value_within vs i x d (omega (arith, lt))

pub value_past : (vs : List VarId) (i : ℕ) (x : List ℕ) → length vs ≤ i → value_at vs i x ≡ None
value_past [] i x le = refl
value_past (v ∷ vs) zero x le = absurd (omega (arith, le))
value_past (v ∷ vs) (suc i) x le = value_past vs i x (omega (arith, le))

pub one_among : (vs : List VarId) (v : VarId) → among vs v ≡ true → AllAmong vs (v ∷ [])
one_among vs v h zero d lt = h
one_among vs v h (suc i) d lt = absurd (omega (arith, lt))

module _ (vs : List VarId) (x y : List ℕ) (same : SameAt vs x y) where
  values_alike : (us : List VarId) (i : ℕ) → AllByRecursion (λ u. among vs u ≡ true) us → value_at us i x ≡ value_at us i y
  values_alike [] i all = refl
  values_alike (u ∷ us) zero all = ap (λ (n : ℕ). Some n) (same_var vs x y same u all.0)
  values_alike (u ∷ us) (suc i) all = values_alike us i all.1

  places_alike : (choice : Option VarId) → AllAmong vs (choice_vars choice) → place_of choice x ≡ place_of choice y
  places_alike None h = refl
  places_alike (Some v) h = same_var vs x y same v (h 0 v (omega arith))

  pub chosen_alike : (choice : Option VarId) (regs : List VarId) → AllAmong vs (choice_vars choice) → AllAmong vs regs
      → chosen_value choice regs x ≡ chosen_value choice regs y
  chosen_alike choice regs h all = ap (λ (i : ℕ). value_at regs i x) (places_alike choice h)
      ∙ values_alike regs (place_of choice y) (recursion_from_All _ _ all)
