-- Laws of cuts of the first variable.
use Rattle.std.proofs.Common.{ℕ, ◌≡◌, ◌<◌, Bool, true, false, List, [], ◌∷◌, length, None, Some, refl, ap, arith}
use Rattle.std.specs.List.{Contains, slice_get}
use Rattle.un_base.specs.declared.ids.VarId.{VarId}
use Rattle.un_domains.specs.Sets.{Sets, set_at, cut_by, IsIn, NoneEmpty, Kept}
use Rattle.un_domains.specs.CutLaws.{cut_by_kept}
use Rattle.un_domains.specs.OrderLaws.{has_here}
use Rattle.un_prop.specs.Rounds.{HasVars}
use Rattle.un_prop.specs.Lawful.{Lawful, LawfulTest}
use Rattle.un_prop.specs.Steps.{lawful_cut_by, lawful_some}
use Rattle.un_prop.specs.LastLaws.{cut_all, cut_same, passes_all}
use Rattle.un_prop.specs.Failing.{first_cut, fail_cut}

pub first_is : (q : Sets → ℕ → Bool) (vs : List VarId) (v : VarId) (s : Sets) → Some v ≡ slice_get vs 0
    → (first_cut q vs s ≡ cut_by (q s) v.0 s) × Contains vs v
first_is q [] v s e = absurd (cc e)
first_is q (u ∷ us) v s e = let same : u ≡ v = cc e in (ap (λ (x : VarId). cut_by (q s) x.0 s) same, (0, omega arith, same))

pub first_none : (q : Sets → ℕ → Bool) (vs : List VarId) (s : Sets) → None ≡ slice_get vs 0 → first_cut q vs s ≡ Some s
first_none q [] s e = refl
first_none q (u ∷ us) s e = absurd (cc e)

-- the cut where all pass, and where none does
pub first_all : (q : Sets → ℕ → Bool) (vs : List VarId) (s : Sets) → HasVars vs s → NoneEmpty s → ((y : ℕ) → q s y ≡ true)
    → first_cut q vs s ≡ Some s
first_all q [] s k full h = refl
first_all q (u ∷ us) s k full h = cut_all (q s) u.0 s (k 0 u (omega arith)) full (λ y there. h y)

pub first_fails : (q : Sets → ℕ → Bool) (vs : List VarId) (s : Sets) → ((y : ℕ) → q s y ≡ false) → first_cut q vs s ≡ fail_cut vs s
first_fails q [] s h = refl
first_fails q (u ∷ us) s h = cut_same (q s) (λ y. false) u.0 s (λ y there. h y)

pub first_lawful : (q : Sets → ℕ → Bool) (vs : List VarId) → LawfulTest vs q → Lawful vs (first_cut q vs)
first_lawful q [] h = lawful_some []
first_lawful q (u ∷ us) h = lawful_cut_by (u ∷ us) u q (0, omega arith, refl) h

pub first_keeps : (q : Sets → ℕ → Bool) (vs : List VarId) (s : Sets) (x : List ℕ) → HasVars vs s → IsIn x s → ((y : ℕ) → q s y ≡ true)
    → Kept x (first_cut q vs s)
first_keeps q [] s x k there h = there
first_keeps q (u ∷ us) s x k there h = cut_by_kept (q s) u.0 s x (k 0 u (omega arith)) there (h _)

-- what stays passes, where there is a variable
pub first_passes : (q : Sets → ℕ → Bool) (vs : List VarId) (s : Sets) → 0 < length vs → HasVars vs s → NoneEmpty s
    → first_cut q vs s ≡ Some s
    → (y : ℕ) × (q s y ≡ true)
first_passes q [] s some k full e = absurd (omega arith)
first_passes q (u ∷ us) s some k full e = at (set_at s u.0) refl (full u.0 (k 0 u (omega arith)))
  where
    at : (xs : List ℕ) → set_at s u.0 ≡ xs → 0 < length (set_at s u.0) → (y : ℕ) × (q s y ≡ true)
    at [] is lt = absurd (let e = ap length is in omega (arith, lt, e))
    at (y ∷ ys) is lt = (y, passes_all (q s) u.0 s (k 0 u (omega arith)) e y (rw is (has_here y ys)))
