-- Fields and numbers at the front of a text.
use Rattle.std.proofs.Common.{◌≡◌, ◌≢◌, ℕ, ◌+◌, ◌<◌, ◌^◌, List, [], ◌∷◌, ◌++◌, All, Option, Some, None, Bor, MatchOption, IfSome, IfNone}
use Rattle.std.proofs.Common.{length, take, drop, refl, sym, ap, ◌∙◌, decimal, arith, true, false}
use Rattle.std.specs.List.{AllByRecursion}
use Rattle.std.specs.Str.{bytes_eq}
use Rattle.std.proofs.lemmas.Fmt.{decimal_injective}
use Rattle.un_report_reader.specs.Parts.{IsField, IsWithin, IsNumber}
use Rattle.un_tree.proofs.Cuts.{begins, not_begins}
use Rattle.un_base.proofs.Cuts.{cut_once, cut_none, cut_parts}
use Rattle.un_tree.proofs.NodeLines.{digits_apart}
use Rattle.un_base.specs.Lines.{IsCut}

-- ---- texts behind a start

pub behind_once : (start a b : List ℕ) → start ++ a ≡ start ++ b → a ≡ b
behind_once [] a b e = e
behind_once (x ∷ xs) a b e = behind_once xs a b (cc e)

-- what `strip_prefix` answers
abbrev StripsTo : Option (Bor (List ℕ)) → List ℕ → List ℕ → Type 0
StripsTo answer line start =
    MatchOption answer (bytes_eq (take (length start) line) start ≡ false) (λ x. (bytes_eq (take (length start) line) start ≡ true)
    × (x.now ≡ drop (length start) line) × (length x.now + length start ≡ length line))

pub some_after : (answer : Option (Bor (List ℕ))) (line start : List ℕ) → StripsTo answer line start
    → IfSome answer (λ rest. line ≡ start ++ rest.now)
some_after None line start h = tt
some_after (Some x) line start h = begins line start h.0 ∙ ap (λ (t : List ℕ). start ++ t) (sym h.1)

pub none_after : (answer : Option (Bor (List ℕ))) (line start : List ℕ) → StripsTo answer line start
    → IfNone answer ((rest : List ℕ) → line ≢ start ++ rest)
none_after None line start h = not_begins line start h
none_after (Some x) line start h = tt

-- ---- fields

-- a text without a byte has no field that it ends
pub no_field : (text start rest : List ℕ) (end : ℕ) → text ≡ start ++ rest → All (λ y. y ≢ end) rest → (word more : List ℕ)
    → text ≢ start ++ (word ++ end ∷ more)
no_field text start rest end is free word more e =
    cut_none end rest word more free (behind_once start rest (word ++ end ∷ more) (sym is ∙ e))

pub field_cut : (text start rest : List ℕ) (end : ℕ) (word more : List ℕ) → text ≡ start ++ rest → IsCut rest end word more
    → IsField text start end word more
field_cut text start rest end word more is cut =
    record { whole = is ∙ ap (λ (t : List ℕ). start ++ t) cut.whole; none = cut.none }

-- a field is told by the text
pub field_once : (text start : List ℕ) (end : ℕ) (word more word' more' : List ℕ) → IsField text start end word more
    → AllByRecursion (λ y. y ≢ end) word' → text ≡ start ++ (word' ++ end ∷ more') → (word ≡ word') × (more ≡ more')
field_once text start end word more word' more' h free e =
    cut_parts (word ++ end ∷ more) end word more word' more' (record { whole = refl; none = h.none }) free
    (behind_once start (word ++ end ∷ more) (word' ++ end ∷ more') (sym h.whole ∙ e))

-- ---- numbers

pub number_once : (start : List ℕ) (end m n : ℕ) (a b : List ℕ) → end < 48 → m < 2 ^ 64 → n < 2 ^ 64
    → start ++ (decimal m ++ end ∷ a) ≡ start ++ (decimal n ++ end ∷ b) → (m ≡ n) × (a ≡ b)
number_once start end m n a b low fm fn e =
    let parts = cut_once end (decimal m) (decimal n) a b (digits_apart end m low fm) (digits_apart end n low fn)
    (behind_once start (decimal m ++ end ∷ a) (decimal n ++ end ∷ b) e) in
    (decimal_injective m n fm fn parts.0, parts.1)

-- a text without the field of a number has no number
pub no_number : (text start : List ℕ) (end least most : ℕ) → ((word rest : List ℕ) → text ≢ start ++ (word ++ end ∷ rest))
    → (n : ℕ) (rest : List ℕ) → IsWithin least most n → ¬ IsNumber text start end n rest
no_number text start end least most none n rest within = none (decimal n) rest

-- nor has one whose field is not a number's text
pub no_decimal : (text start : List ℕ) (end least most : ℕ) (word rest : List ℕ) → end < 48 → most < 2 ^ 64
    → IsField text start end word rest → ((n : ℕ) → n < 2 ^ 64 → word ≢ decimal n)
    → (n : ℕ) (more : List ℕ) → IsWithin least most n → ¬ IsNumber text start end n more
no_decimal text start end least most word rest low small h none n more within e =
    let fits : n < 2 ^ 64 = omega (arith, within.1, small) in
    none n fits (field_once text start end word rest (decimal n) more h (digits_apart end n low fits) e).0

-- nor one whose number is not within the limits
pub not_within : (text start : List ℕ) (end least most m : ℕ) (word rest : List ℕ) → end < 48 → most < 2 ^ 64 → m < 2 ^ 64
    → IsField text start end word rest → word ≡ decimal m → ¬ IsWithin least most m
    → (n : ℕ) (more : List ℕ) → IsWithin least most n → ¬ IsNumber text start end n more
not_within text start end least most m word rest low small fits h is none n more within e =
    let less : n < 2 ^ 64 = omega (arith, within.1, small) in
    let same = (field_once text start end word rest (decimal n) more h (digits_apart end n low less) e).0 in
    let number : m ≡ n = decimal_injective m n fits less (sym is ∙ same) in
    none (omega (arith, number, within.0), omega (arith, number, within.1))
