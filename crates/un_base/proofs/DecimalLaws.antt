-- Which texts are decimal numbers.
use Rattle.std.proofs.Common.{rules, ◌≡◌, ◌≢◌, ℕ, ◌+◌, ◌-◌, ◌*◌, ◌^◌, ◌<◌, ◌≤◌, ◌⊎◌, inl, inr, true, false, List, [], ◌∷◌, length}
use Rattle.std.proofs.Common.{slice_index, get_or, refl, sym, ap, ◌∙◌, arith, ◌==◌, zero, suc, Option, Some, None, IfSome, IfNone}
use Rattle.std.specs.Fmt.{decimal}
use Rattle.std.specs.Str.{all_ascii_digits}
use Rattle.std.proofs.lemmas.Fmt.{decimal_nonempty, first_decimal, digits_decimal, digits_value-decimal, decimal-digits_value}
use Rattle.std.proofs.lemmas.Fmt.{decimal_digit}
use Rattle.std.proofs.lemmas.Bool.{eqb-true}
use Rattle.std.proofs.lemmas.Str.Parse.{IsNumeralModel, numerals_by_fold}
use Rattle.un_base.specs.Decimals.{value_after, value_of, HasLeadingZero, IsNoDecimal}

own : IsNumeralModel (λ ds. all_ascii_digits ds ≡ true) (value_after 0)
own = numerals_by_fold _ (search rules) value_after (search rules)

-- digits without a leading zero are the decimal text of what they write
pub decimal_text : (text : List ℕ) → all_ascii_digits text ≡ true → 0 < length text → (slice_index text 0 ≡ 48 → length text ≡ 1)
    → value_of text < 2 ^ 64
    → text ≡ decimal (value_of text)
decimal_text text digits some first small = sym (decimal-digits_value own text digits some first small)

-- a decimal text that begins with a zero is just that
zero_alone : (n : ℕ) → n < 2 ^ 64 → get_or (decimal n) 0 0 ≡ 48 → length (decimal n) ≡ 1
zero_alone zero small first = ap length (decimal_digit 0 (omega arith))
zero_alone (suc m) small first = let above : 48 < get_or (decimal (suc m)) 0 0 = first_decimal (suc m) (omega arith) small in
    absurd (omega arith)

-- each of the four cases keeps a text from being the decimal text of a number
pub no_decimal : (text : List ℕ) → IsNoDecimal text → (n : ℕ) → n < 2 ^ 64 → text ≢ decimal n
no_decimal text case n small e = elim case [
  | inl empty ↦ let none : length text ≡ 0 = ap length empty in let some : 0 < length (decimal n) = decimal_nonempty n small in
      let same : length text ≡ length (decimal n) = ap length e in omega arith
  | inr (inl other) ↦ let digits : all_ascii_digits (decimal n) ≡ true = digits_decimal own n small in cc
  | inr (inr (inl (first_zero, long))) ↦ let first : get_or (decimal n) 0 0 ≡ 48 = sym (ap (λ (ds : List ℕ). get_or ds 0 0) e)
      ∙ first_zero in let alone = zero_alone n small first in let same : length text ≡ length (decimal n) = ap length e in omega arith
  | inr (inr (inr large)) ↦ let whole : value_of (decimal n) ≡ n = digits_value-decimal own n small in
      let same : value_of text ≡ value_of (decimal n) = ap value_of e in omega arith
]

-- what a reader of digits answers is right where the text is not empty and has no leading zero
pub read_some : (text : List ℕ) (answer : Option ℕ) → 0 < length text → ¬ HasLeadingZero text
    → IfSome answer (λ n. (all_ascii_digits text ≡ true) × (value_of text ≡ n) × (n < 2 ^ 64)) → IfSome answer (λ n. text ≡ decimal n)
read_some text None some first right = tt
read_some text (Some n) some first right =
    let alone : slice_index text 0 ≡ 48 → length text ≡ 1 = λ zero. let short : 1 < length text
    → ⊥ = λ long. first (zero, long) in omega arith in
    decimal_text text right.0 some alone (omega arith) ∙ ap decimal right.1

pub read_none : (text : List ℕ) (answer : Option ℕ) → IfNone answer ((all_ascii_digits text ≡ false) ⊎ (2 ^ 64 ≤ value_of text))
    → IfNone answer ((n : ℕ) → n < 2 ^ 64 → text ≢ decimal n)
read_none text None wrong = no_decimal text (elim wrong [ inl other ↦ inr (inl other) | inr large ↦ inr (inr (inr large)) ])
read_none text (Some n) wrong = tt

pub is_empty : (text : List ℕ) → (length text == 0) ≡ true → text ≡ []
is_empty [] none = refl
is_empty (b ∷ bs) none = let no : length (b ∷ bs) ≡ 0 = eqb-true _ _ none in absurd (omega arith)

pub if_none : {P : Type 0} (answer : Option ℕ) → P → IfNone answer P
if_none None p = p
if_none (Some n) p = tt

value_after-le : (n : ℕ) (digits : List ℕ) → n ≤ value_after n digits
value_after-le n [] = omega arith
value_after-le n (digit ∷ digits) = let rest = value_after-le (10 * n + (digit - 48)) digits in omega arith

-- what is written so far is at most the whole
pub value_after-grows : (n : ℕ) (digits : List ℕ) (bound : ℕ) → bound ≤ n → bound ≤ value_after n digits
value_after-grows n digits bound h = let rest = value_after-le n digits in omega arith
