-- What a search in a list finds, and the next of a list.
use Rattle.std.proofs.Common.{ℕ, zero, suc, ◌≡◌, ◌+◌, Bool, true, false, List, [], ◌∷◌, drop, slice_get, Some, All, find, refl, ap, sym}
use Rattle.std.proofs.Common.{◌∙◌, arith, add-one}

found_by : {X : Type 0} (p : X → Bool) (P : X → Type 0) (y : X) (ys : List X) (x : X) (b : Bool) → p y ≡ b → All P (y ∷ ys)
    → find p (y ∷ ys) ≡ Some x → (find p ys ≡ Some x → P x × (p x ≡ true)) → P x × (p x ≡ true)
found_by p P y ys x true e h f more = let k = rw e at f in let same : y ≡ x = cc k in rw (← same) (h 0 y (omega arith), e)
found_by p P y ys x false e h f more = let k = rw e at f in more k

-- what is found passes the test, and what holds of all holds of it
pub found : {X : Type 0} (p : X → Bool) (P : X → Type 0) (xs : List X) (x : X) → All P xs → find p xs ≡ Some x → P x × (p x ≡ true)
found p P [] x h f = absurd (cc f)
found p P (y ∷ ys) x h f = found_by p P y ys x (p y) refl h f (found p P ys x (λ k d lt. h (suc k) d (omega arith)))

pub next_of : {X : Type 0} (xs : List X) (k : ℕ) (x y : X) (rest : List X) → drop k xs ≡ x ∷ rest → slice_get xs k ≡ Some y → (y ≡ x)
    × (drop (k + 1) xs ≡ rest)
next_of [] zero x y rest e g = absurd (cc e)
next_of [] (suc k) x y rest e g = absurd (cc e)
next_of (z ∷ zs) zero x y rest e g = (cc, let r : zs ≡ rest = cc e in r)
next_of (z ∷ zs) (suc k) x y rest e g = let h = next_of zs k x y rest e g in
    (h.0, ap (λ (n : ℕ). drop n (z ∷ zs)) (add-one (suc k)) ∙ ap (λ (n : ℕ). drop n zs) (sym (add-one k)) ∙ h.1)
