-- Words that are not the same.
use Rattle.std.proofs.Common.{ℕ, ◌≡◌, ◌≢◌, ◌<◌, ◌^◌, List, ◌∷◌, Some, None, ap, sym, subst, arith}
use Rattle.std.specs.List.{slice_get}
use Rattle.std.specs.Fmt.{decimal}
use Rattle.std.specs.Str.Parse.{AllDigits}
use Rattle.std.proofs.lemmas.Fmt.{decimal_injective, decimal_is_IsNumeral}

-- a list whose first word has another first byte has another first word
pub other_first : (a b : ℕ) (v w : List ℕ) (rest words : List (List ℕ)) → a ≢ b → words ≡ (a ∷ v) ∷ rest
    → slice_get words 0 ≡ Some (b ∷ w) → ⊥
other_first a b v w rest words ne is first =
    let here : slice_get words 0 ≡ Some (a ∷ v) = ap (λ (ws : List (List ℕ)). slice_get ws 0) is in
    let same : a ≡ b = cc in ne same

-- and one whose first word has another second byte
pub other_second : (a b x y : ℕ) (v w : List ℕ) (rest words : List (List ℕ)) → a ≢ b → words ≡ (x ∷ a ∷ v) ∷ rest
    → slice_get words 0 ≡ Some (y ∷ b ∷ w) → ⊥
other_second a b x y v w rest words ne is first =
    let here : slice_get words 0 ≡ Some (x ∷ a ∷ v) = ap (λ (ws : List (List ℕ)). slice_get ws 0) is in
    let same : a ≡ b = cc in ne same

-- no two words whose fourth bytes differ stand at one place
pub other_fourth : (words : List (List ℕ)) (place a b x y z : ℕ) (v w : List ℕ) → a ≢ b
    → slice_get words place ≡ Some (x ∷ y ∷ z ∷ a ∷ v) → slice_get words place ≡ Some (x ∷ y ∷ z ∷ b ∷ w) → ⊥
other_fourth words place a b x y z v w ne one other = let same : a ≡ b = cc in ne same

-- a flag is no number, since that begins with a digit and no hyphen
not_number : (w : List ℕ) (n : ℕ) → n < 2 ^ 64 → 45 ∷ w ≡ decimal n → ⊥
not_number w n fits e =
    let digits : AllDigits 10 (45 ∷ w) = subst (AllDigits 10) (sym e) (decimal_is_IsNumeral n fits).0.1 in
    let first : 36 < 10 = digits.0 in omega (arith, first)

pub no_number : (words : List (List ℕ)) (place : ℕ) (w : List ℕ) (n : ℕ) → n < 2 ^ 64 → slice_get words place ≡ Some (45 ∷ w)
    → slice_get words place ≡ Some (decimal n) → ⊥
no_number words place w n fits flag number = let same : 45 ∷ w ≡ decimal n = cc in not_number w n fits same

-- there is a word or none
pub some_or_none : (words : List (List ℕ)) (place : ℕ) (word : List ℕ) → slice_get words place ≡ Some word
    → slice_get words place ≡ None → ⊥
some_or_none words place word some none = cc

-- a word that is a number is one number
pub one_number : (words : List (List ℕ)) (place m n : ℕ) → m < 2 ^ 64 → n < 2 ^ 64 → slice_get words place ≡ Some (decimal m)
    → slice_get words place ≡ Some (decimal n) → m ≡ n
one_number words place m n small_m small_n is_m is_n =
    let same : decimal m ≡ decimal n = cc in decimal_injective m n small_m small_n same
