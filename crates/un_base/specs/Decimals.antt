-- Numbers in decimal, without sign or leading zeros.
use Rattle.std.specs.Prelude.{ℕ, ◌≡◌, ◌+◌, ◌-◌, ◌*◌, ◌^◌, ◌<◌, ◌≤◌, ◌⊎◌, false, List, [], ◌∷◌, length, slice_index}
use Rattle.std.specs.Str.{all_ascii_digits}

-- the number that these digits go on to write after n
abbrev pub value_after : ℕ → List ℕ → ℕ
value_after n [] = n
value_after n (digit ∷ digits) = value_after (10 * n + (digit - 48)) digits

-- the number that a text of digits writes
abbrev pub value_of : List ℕ → ℕ
value_of digits = value_after 0 digits

-- a zero before another byte
abbrev pub HasLeadingZero : List ℕ → Type 0
HasLeadingZero text = (slice_index text 0 ≡ 48) × (1 < length text)

-- no number below 2 ^ 64: the text is empty, has another byte than a digit, has a leading zero, or is too large
abbrev pub IsNoDecimal : List ℕ → Type 0
IsNoDecimal text = (text ≡ []) ⊎ ((all_ascii_digits text ≡ false) ⊎ (HasLeadingZero text ⊎ (2 ^ 64 ≤ value_of text)))
