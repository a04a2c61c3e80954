-- A list in which each number is made anew of itself and its place.
use Rattle.std.proofs.Common.{ℕ, zero, suc, ◌≡◌, ◌<◌, ◌+◌, List, [], ◌∷◌, length, get_or, refl, ap, sym, ◌∙◌, arith}
use Rattle.std.proofs.lemmas.Grind.{same_number_lists}
use Rattle.un_packet.specs.Step.{each_from}

length-each : (f : ℕ → ℕ → ℕ) (r : ℕ) (xs : List ℕ) → length (each_from f r xs) ≡ length xs
length-each f r [] = refl
length-each f r (x ∷ xs) = ap suc (length-each f (r + 1) xs)

each_at : (f : ℕ → ℕ → ℕ) (r k : ℕ) (xs : List ℕ) → k < length xs → get_or (each_from f r xs) k 0 ≡ f (r + k) (get_or xs k 0)
each_at f r k [] lt = absurd (omega arith)
each_at f r zero (x ∷ xs) lt = let e : r + 0 ≡ r = omega arith in rw e refl
each_at f r (suc k) (x ∷ xs) lt = let e : r + suc k ≡ (r + 1) + k = omega arith in rw e (each_at f (r + 1) k xs (omega arith))

pub is_each : (f : ℕ → ℕ → ℕ) (xs ys : List ℕ) → length ys ≡ length xs → ((k : ℕ) → k < length xs → get_or ys k 0 ≡ f k (get_or xs k 0))
    → ys ≡ each_from f 0 xs
is_each f xs ys long h = same_number_lists ys (each_from f 0 xs) (long ∙ sym (length-each f 0 xs)) (λ k lt.
    let short : k < length xs = omega (arith, long) in
    let e : 0 + k ≡ k = omega arith in
    h k short ∙ sym (each_at f 0 k xs short ∙ ap (λ (n : ℕ). f n (get_or xs k 0)) e))
