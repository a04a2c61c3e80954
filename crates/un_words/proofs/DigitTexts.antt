-- Texts of digits, and the numbers that they write.
use Rattle.std.proofs.Common.{rules, ◌≡◌, ℕ, ◌-◌, ◌^◌, ◌<◌, ◌≤◌, min, Bool, true, nat_lt, List, [], ◌∷◌, length, Some, refl, arith, lt-ltb, decimal}
use Rattle.std.specs.Char.{is_ascii_digit}
use Rattle.std.specs.List.{list_all}
use Rattle.std.specs.Str.{all_ascii_digits}
use Rattle.std.proofs.lemmas.Bool.{and_parts}
use Rattle.std.proofs.lemmas.Fmt.{length-decimal-le, decimal_nonempty, digits_decimal, digits_value-decimal}
use Rattle.std.proofs.lemmas.Str.Parse.{IsNumeralModel, numerals_by_fold}
use Rattle.un_base.specs.Decimals.{value_after, value_of}
use Rattle.un_words.specs.Tokens.{digits_of}

own : IsNumeralModel (λ ds. all_ascii_digits ds ≡ true) (value_after 0)
own = numerals_by_fold _ (search rules) value_after (search rules)

-- a text of digits that write n
pub record Writes (text : List ℕ) (n : ℕ) : Type 0 where
  pub some : 0 < length text
  pub digits : all_ascii_digits text ≡ true
  pub value : value_of text ≡ n
  pub small : n < 2 ^ 32
  pub few : length text ≤ 10

pub decimal_writes : (n : ℕ) → n < 2 ^ 32 → Writes (decimal n) n
decimal_writes n h =
    let wide : n < 2 ^ 64 = omega arith in
    record {
      some = decimal_nonempty n wide;
      digits = digits_decimal own n wide;
      value = digits_value-decimal own n wide;
      small = h;
      few = length-decimal-le 10 n (omega arith) (omega arith) wide;
    }

pub digits_read : (negative : Bool) (text : List ℕ) (n : ℕ) → Writes text n
    → digits_of negative text ≡ Some (record { negative = negative; size = n })
digits_read negative text n w =
    let some : nat_lt 0 (length text) ≡ true = lt-ltb _ _ w.some in
    let kept : min n (2 ^ 32 - 1) ≡ n = omega (arith, w.small) in
    rw (some, w.digits, w.value, kept) refl

pub all_digits : (text : List ℕ) → all_ascii_digits text ≡ true → list_all is_ascii_digit text ≡ true
all_digits [] h = refl
all_digits (b ∷ bs) h =
    let p = and_parts (is_ascii_digit b) (all_ascii_digits bs) h in rw (p.0, all_digits bs p.1) refl
