-- What single tests and single constraints come to.
use Rattle.std.proofs.Common.{ℕ, ◌≡◌, ◌≤◌, ◌<◌, ◌↔◌, Bool, true, false, List, [], ◌∷◌, refl, sym, ◌∙◌, arith}
use Rattle.std.specs.Prelude.{nat_eq, nat_le, nat_lt, ◌&&◌}
use Rattle.std.proofs.lemmas.Bool.Decides.{nat_tests}
use Rattle.un_kinds.specs.Constraints.{Constraint, meets}
use Rattle.un_post.proofs.Meeting.{Met}

pub iff_then : {A B C : Type 0} → A ↔ B → B ↔ C → A ↔ C
iff_then f g = (λ a. g.0 (f.0 a), λ c. f.1 (g.1 c))

pub iff_back : {A B : Type 0} → A ↔ B → B ↔ A
iff_back f = (f.1, f.0)

pub both : {A B C D : Type 0} → A ↔ B → C ↔ D → (A × C) ↔ (B × D)
both f g = (λ h. (f.0 h.0, g.0 h.1), λ h. (f.1 h.0, g.1 h.1))

pub eq_iff : (a b : ℕ) → (a ≡ b) ↔ (nat_eq a b ≡ true)
eq_iff a b = (λ h. grind (arith, nat_tests, h), λ h. grind (arith, nat_tests, h))

pub le_iff : (a b : ℕ) → (a ≤ b) ↔ (nat_le a b ≡ true)
le_iff a b = (λ h. grind (arith, nat_tests, h), λ h. grind (arith, nat_tests, h))

pub lt_iff : (a b : ℕ) → (a < b) ↔ (nat_lt a b ≡ true)
lt_iff a b = (λ h. grind (arith, nat_tests, h), λ h. grind (arith, nat_tests, h))

pub and_iff : (a b : Bool) → ((a ≡ true) × (b ≡ true)) ↔ ((a && b) ≡ true)
and_iff true b = (λ h. h.1, λ h. (refl, h))
and_iff false b = (λ h. absurd (cc (h.0)), λ h. absurd (cc h))

pub same_test : (a b : Bool) → a ≡ b → (a ≡ true) ↔ (b ≡ true)
same_test a b e = (λ h. sym e ∙ h, λ h. e ∙ h)

pub met_one : (x : List ℕ) (c : Constraint) (t : Bool) → meets c x ≡ t → (t ≡ true) ↔ Met x (c ∷ [])
met_one x c t e = (λ h. (e ∙ h, tt), λ h. sym e ∙ h.0)
