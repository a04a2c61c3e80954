-- Numbers that are kept as the largest of 32 bits where they are too large.
use Rattle.std.proofs.Common.{◌≡◌, ℕ, ◌+◌, ◌-◌, ◌*◌, min, List, [], ◌∷◌, sym, ap, ◌∙◌, arith}
use Rattle.un_base.specs.Decimals.{value_after}

step : (n k c : ℕ) → min (10 * min n c + k) c ≡ min (10 * n + k) c
step n k c = omega arith

-- a size that is kept as the largest goes on to the same size
pub kept_size : (c n : ℕ) (digits : List ℕ) → min (value_after (min n c) digits) c ≡ min (value_after n digits) c
kept_size c n [] = omega arith
kept_size c n (digit ∷ digits) =
    sym (kept_size c (10 * min n c + (digit - 48)) digits)
    ∙ ap (λ m. min (value_after m digits) c) (step n (digit - 48) c)
    ∙ kept_size c (10 * n + (digit - 48)) digits
