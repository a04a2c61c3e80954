-- Numbers of words within limits.
use Rattle.std.proofs.Common.{ℕ, ◌≡◌, ◌<◌, ◌^◌, ◌⊎◌, List, arith}
use Rattle.std.specs.Fmt.{decimal}
use Rattle.un_commands.specs.Places.{StandsAt, NoNumberAt}
use Rattle.un_commands.proofs.Texts.{one_number}

-- a number that is outside the limits is none within them
pub none_within : (words : List (List ℕ)) (place n least most : ℕ) → most < 2 ^ 32 → n < 2 ^ 64 → StandsAt words place (decimal n)
    → (n < least) ⊎ (most < n) → NoNumberAt words place least most
none_within words place n least most small fits is outside m low high is_m =
    let same : m ≡ n = one_number words place m n (omega arith) fits is_m is in omega arith
