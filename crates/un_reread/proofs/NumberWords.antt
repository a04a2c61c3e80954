-- The words that numbers are: bare, and behind a number sign.
use Rattle.std.proofs.Common.{◌≡◌, ℕ, ℤ, pos, negsuc, suc, ◌-◌, ◌^◌, ◌<◌, Bool, true, false, ◌&&◌, nat_lt, nat_le, List}
use Rattle.std.proofs.Common.{[], ◌∷◌, length, Some, refl, arith, add-one, decimal, unsigned_abs}
use Rattle.std.specs.Fmt.{signed_decimal}
use Rattle.std.specs.Char.{is_ascii_digit}
use Rattle.std.specs.List.{list_all}
use Rattle.std.specs.Str.{all_ascii_digits}
use Rattle.std.proofs.lemmas.Bool.{and_parts}
use Rattle.std.proofs.lemmas.Bool.Decides.{nat_tests}
use Rattle.un_base.specs.Names.{is_first, is_rest, is_name}
use Rattle.un_words.specs.declared.token.Token.TheVariants.{Literal, Plain}
use Rattle.un_words.specs.Words.{is_inner}
use Rattle.un_words.specs.Tokens.{number_of}
use Rattle.un_words.proofs.DigitTexts.{Writes, decimal_writes, digits_read, all_digits}
use Rattle.un_reread.specs.Printed.{as_number}
use Rattle.un_reread.proofs.Bytes.{is_clean_byte, IsClean}
use Rattle.un_reread.proofs.WordsOf.{Says}
use Rattle.un_reread.proofs.NameWords.{other_byte, all_weaker}

-- ---- digits

digit_inner : (b : ℕ) → is_ascii_digit b ≡ true → is_inner b ≡ true
digit_inner b h =
    rw (
      other_byte is_ascii_digit b 9 h refl,
      other_byte is_ascii_digit b 32 h refl,
      other_byte is_ascii_digit b 44 h refl,
      other_byte is_ascii_digit b 61 h refl,
    ) refl

digit_clean : (b : ℕ) → is_ascii_digit b ≡ true → is_clean_byte b ≡ true
digit_clean b h =
    let low : nat_le 32 b ≡ true = grind (arith, nat_tests) in
    let high : nat_le b 126 ≡ true = grind (arith, nat_tests) in
    rw (low, high, other_byte is_ascii_digit b 59 h refl) refl

digit_not_first : (b : ℕ) → is_ascii_digit b ≡ true → is_first b ≡ false
digit_not_first b h = grind (arith, nat_tests)

and_no : (a b c d : Bool) → c ≡ false → (a && b && c && d) ≡ false
and_no true true c d h = rw h refl
and_no true false c d h = refl
and_no false b c d h = refl

no_name : (b : ℕ) (bs : List ℕ) → is_ascii_digit b ≡ true → is_name (b ∷ bs) ≡ false
no_name b bs h =
    and_no (nat_lt 0 (length (b ∷ bs))) (nat_le (length (b ∷ bs)) 32) (is_first b) (list_all is_rest (b ∷ bs)) (digit_not_first b h)

first_digit : (b : ℕ) (bs : List ℕ) → all_ascii_digits (b ∷ bs) ≡ true → is_ascii_digit b ≡ true
first_digit b bs h = (and_parts (is_ascii_digit b) (all_ascii_digits bs) h).0

-- ---- numbers

number_read : (text : List ℕ) (n : ℕ) → Writes text n → number_of text ≡ Some (record { negative = false; size = n })
number_read [] n w = absurd (omega (arith, w.some))
number_read (b ∷ bs) n w = rw (other_byte is_ascii_digit b 45 (first_digit b bs w.digits) refl) (digits_read false (b ∷ bs) n w)

digits_clean : (text : List ℕ) (n : ℕ) → Writes text n → IsClean text
digits_clean text n w = all_weaker is_ascii_digit is_clean_byte digit_clean text (all_digits text w.digits)

digits_inner : (text : List ℕ) (n : ℕ) → Writes text n → list_all is_inner text ≡ true
digits_inner text n w = all_weaker is_ascii_digit is_inner digit_inner text (all_digits text w.digits)

number_says : (text : List ℕ) (n : ℕ) → Writes text n → Says text (Plain (record { negative = false; size = n }))
number_says [] n w = absurd (omega (arith, w.some))
number_says (b ∷ bs) n w =
    let d = first_digit b bs w.digits in
    record {
      some = w.some;
      inner = digits_inner (b ∷ bs) n w;
      neat = record { clean = digits_clean (b ∷ bs) n w; short = omega (arith, w.few) };
      spelt =
          rw (
            other_byte is_ascii_digit b 44 d refl,
            other_byte is_ascii_digit b 61 d refl,
            other_byte is_ascii_digit b 35 d refl,
            other_byte is_ascii_digit b 33 d refl,
            other_byte is_ascii_digit b 37 d refl,
            other_byte is_ascii_digit b 36 d refl,
            no_name b bs d,
            number_read (b ∷ bs) n w,
          ) refl;
    }

-- a number
pub plain_says : (n : ℕ) → n < 2 ^ 32 → Says (decimal n) (Plain (record { negative = false; size = n }))
plain_says n h = number_says (decimal n) n (decimal_writes n h)

-- a number with its sign behind a number sign
pub literal_says : (z : ℤ) → unsigned_abs z < 2 ^ 32 → Says (35 ∷ signed_decimal z) (Literal (as_number z))
literal_says (pos n) h =
    let w = decimal_writes n h in
    record {
      some = omega arith;
      inner = digits_inner (decimal n) n w;
      neat = record { clean = digits_clean (decimal n) n w; short = omega (arith, w.few) };
      spelt = rw (number_read (decimal n) n w) refl;
    }
literal_says (negsuc n) h =
    let w = decimal_writes (suc n) h in
    record {
      some = omega arith;
      inner = digits_inner (decimal (suc n)) (suc n) w;
      neat = record { clean = digits_clean (decimal (suc n)) (suc n) w; short = omega (arith, w.few) };
      spelt = rw (digits_read true (decimal (suc n)) (suc n) w, add-one) refl;
    }
