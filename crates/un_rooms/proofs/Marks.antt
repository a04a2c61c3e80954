-- Tests on ranges of numbers.
use Rattle.std.proofs.Common.{ℕ, zero, suc, ◌≡◌, ◌∙◌, ◌+◌, ◌<◌, ◌≤◌, Bool, true, false, cond, List, [], ◌∷◌, filter, nat_lt, refl, ap, arith}
use Rattle.std.specs.List.{range_with_len}

-- tests that agree on a range
pub filter_range : (p q : ℕ → Bool) (a n : ℕ) → ((r : ℕ) → r < a + n → p r ≡ q r) → filter p (range_with_len a n) ≡ filter q (range_with_len a n)
filter_range p q a zero same = refl
filter_range p q a (suc n) same =
    ap (λ (b : Bool). cond b (a ∷ filter p (range_with_len (a + 1) n)) (filter p (range_with_len (a + 1) n))) (same a (omega arith))
    ∙ ap (λ (rs : List ℕ). cond (q a) (a ∷ rs) rs) (filter_range p q (a + 1) n (λ r lt. same r (omega (arith, lt))))

-- a number from k on is left out
none_if : (b : Bool) (k a : ℕ) (rest : List ℕ) → nat_lt a k ≡ false → filter (λ (r : ℕ). nat_lt r k) rest ≡ []
    → filter (λ (r : ℕ). nat_lt r k) (cond b (a ∷ rest) rest) ≡ []
none_if false k a rest past e = e
none_if true k a rest past e =
    ap (λ (b : Bool). cond b (a ∷ filter (λ (r : ℕ). nat_lt r k) rest) (filter (λ (r : ℕ). nat_lt r k) rest)) past ∙ e

-- a number below k is kept
kept_if : (b : Bool) (k a : ℕ) (rest kept : List ℕ) → nat_lt a k ≡ true → filter (λ (r : ℕ). nat_lt r k) rest ≡ kept
    → filter (λ (r : ℕ). nat_lt r k) (cond b (a ∷ rest) rest) ≡ cond b (a ∷ kept) kept
kept_if false k a rest kept below e = e
kept_if true k a rest kept below e =
    ap (λ (b : Bool). cond b (a ∷ filter (λ (r : ℕ). nat_lt r k) rest) (filter (λ (r : ℕ). nat_lt r k) rest)) below
    ∙ ap (λ (rs : List ℕ). a ∷ rs) e

none_below : (p : ℕ → Bool) (k a n : ℕ) → k ≤ a → filter (λ (r : ℕ). nat_lt r k) (filter p (range_with_len a n)) ≡ []
none_below p k a zero le = refl
none_below p k a (suc n) le =
    none_if (p a) k a (filter p (range_with_len (a + 1) n)) (grind (arith, le)) (none_below p k (a + 1) n (omega (arith, le)))

-- of the numbers from a on that pass, those below k
below_from : (p : ℕ → Bool) (k a n t : ℕ) → a + n ≡ k → n ≤ t
    → filter (λ (r : ℕ). nat_lt r k) (filter p (range_with_len a t)) ≡ filter p (range_with_len a n)
below_from p k a zero t sum le = none_below p k a t (omega (arith, sum))
below_from p k a (suc n) zero sum le = absurd (omega (arith, le))
below_from p k a (suc n) (suc t) sum le =
    kept_if (p a) k a (filter p (range_with_len (a + 1) t)) (filter p (range_with_len (a + 1) n)) (grind (arith, sum))
    (below_from p k (a + 1) n t (omega (arith, sum)) (omega (arith, le)))

pub below_range : (p : ℕ → Bool) (k m : ℕ) → filter (λ (r : ℕ). nat_lt r k) (filter p (range_with_len 0 (k + m))) ≡ filter p (range_with_len 0 k)
below_range p k m = below_from p k 0 k (k + m) (omega arith) (omega arith)
