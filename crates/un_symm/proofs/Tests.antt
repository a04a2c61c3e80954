-- Tests, and tests of the items of a list.
use Rattle.std.proofs.Common.{◌≡◌, Bool, true, false, List, [], ◌∷◌, ◌⊎◌, inl, inr, refl, ap, ◌∙◌}
use Rattle.std.specs.Prelude.{◌||◌}
use Rattle.std.specs.List.{list_any}
use Rattle.un_lists.proofs.Lists.{Member}

pub false_by : (k : Bool) → (k ≡ true → ⊥) → k ≡ false
false_by true h = absurd (h refl)
false_by false h = refl

pub or_left : (k l : Bool) → k ≡ true → (k || l) ≡ true
or_left k l e = ap (λ k. k || l) e

pub or_right : (k l : Bool) → l ≡ true → (k || l) ≡ true
or_right true l e = refl
or_right false l e = e

pub or_cases : (k l : Bool) → (k || l) ≡ true → (k ≡ true) ⊎ (l ≡ true)
or_cases true l e = inl refl
or_cases false l e = inr e

-- an item that passes
pub any_at : {X : Type 0} (p : X → Bool) (xs : List X) (x : X) → Member x xs → p x ≡ true → list_any p xs ≡ true
any_at p [] x m e = elim m [ ]
any_at p (y ∷ ys) x (inl q) e = or_left (p y) (list_any p ys) (ap p q ∙ e)
any_at p (y ∷ ys) x (inr m) e = or_right (p y) (list_any p ys) (any_at p ys x m e)
