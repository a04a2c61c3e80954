-- Sums over the numbers below n, and how many of them pass a test.
use Rattle.std.specs.Prelude.{ℕ, zero, suc, ◌+◌, Bool, if◌then◌else◌}

-- the sum of f over the numbers below n
abbrev pub sum_below : (ℕ → ℕ) → ℕ → ℕ
sum_below f zero = 0
sum_below f (suc n) = sum_below f n + f n

-- 1 for what passes, else 0
abbrev pub as_number : Bool → ℕ
as_number b = if b then 1 else 0

-- how many numbers below n pass
abbrev pub count_below : (ℕ → Bool) → ℕ → ℕ
count_below p n = sum_below (λ i. as_number (p i)) n
