-- The numbers of a solution, read from the front.
use Rattle.std.proofs.Common.{◌≡◌, ℕ, ◌+◌, ◌%◌, ◌/◌, ◌<◌, ◌==◌, ◌||◌, Bool, true, false, if◌then◌else◌, List, [], ◌∷◌, ◌++◌}
use Rattle.std.proofs.Common.{All, length, codes, decimal, refl, sym, ap, ◌∙◌, subst, arith, append_assoc, length-append}
use Rattle.std.specs.List.{AllByRecursion}
use Rattle.std.proofs.lemmas.List.Elements.{recursion_from_All, All-cons, All-nil, All-append}
use Rattle.un_report.specs.declared.report.TheConstants.{NUMBERS}
use Rattle.un_report.specs.Reports.{after_number, numbers_from, numbers_text}
use Rattle.un_report_reader.specs.FirstBad.{BeginsNoNumber, IsBadNumber}
use Rattle.un_report_reader.specs.Lines.{IsShort, AreNumbers}
use Rattle.un_report_reader.specs.Parts.{IsNumber}
use Rattle.un_report_reader.proofs.Cuts.{number_once}

-- ---- the byte behind a number

abbrev pub end_byte : ℕ → ℕ → ℕ
end_byte count k = if (k + 1) % NUMBERS == 0 || k + 1 == count then 10 else 32

pub ends_with : (count k : ℕ) → after_number count k ≡ end_byte count k ∷ []
ends_with count k = by ((k + 1) % NUMBERS == 0 || k + 1 == count)
  where
    by : (v : Bool) → (if v then codes "\n" else codes " ") ≡ (if v then 10 else 32) ∷ []
    by true = refl
    by false = refl

pub end_low : (count k : ℕ) → end_byte count k < 48
end_low count k = by ((k + 1) % NUMBERS == 0 || k + 1 == count)
  where
    by : (v : Bool) → (if v then 10 else 32) < 48
    by true = omega arith
    by false = omega arith

-- a number and what is behind it
pub number_here : (count k n : ℕ) (rest : List ℕ) → (decimal n ++ after_number count k) ++ rest ≡ decimal n ++ end_byte count k ∷ rest
number_here count k n rest =
    append_assoc (decimal n) (after_number count k) rest ∙ ap (λ (t : List ℕ). decimal n ++ (t ++ rest)) (ends_with count k)

pub first_number : (count k x : ℕ) (xs rest : List ℕ)
    → numbers_from count k (x ∷ xs) ++ rest ≡ decimal x ++ end_byte count k ∷ (numbers_from count (k + 1) xs ++ rest)
first_number count k x xs rest =
    append_assoc (decimal x ++ after_number count k) (numbers_from count (k + 1) xs) rest
    ∙ number_here count k x (numbers_from count (k + 1) xs ++ rest)

-- one number more
pub numbers_push : (count k : ℕ) (xs : List ℕ) (x : ℕ) (j : ℕ) (rest : List ℕ) → j ≡ k + length xs
    → numbers_from count k xs ++ (decimal x ++ end_byte count j ∷ rest) ≡ numbers_from count k (xs ++ x ∷ []) ++ rest
numbers_push count k [] x j rest e =
    let here : j ≡ k = omega (arith, e) in
    ap (λ (i : ℕ). decimal x ++ end_byte count i ∷ rest) here ∙ sym (first_number count k x [] rest)
numbers_push count k (y ∷ ys) x j rest e =
    first_number count k y ys (decimal x ++ end_byte count j ∷ rest)
    ∙ (ap (λ (t : List ℕ). decimal y ++ end_byte count k ∷ t) (numbers_push count (k + 1) ys x j rest (omega (arith, e)))
    ∙ sym (first_number count k y (ys ++ x ∷ []) rest))

-- ---- numbers are told by their text

pub numbers_once : (count k : ℕ) (xs ys : List ℕ) (a b : List ℕ) → AllByRecursion IsShort xs → AllByRecursion IsShort ys
    → length xs ≡ length ys → numbers_from count k xs ++ a ≡ numbers_from count k ys ++ b → (xs ≡ ys) × (a ≡ b)
numbers_once count k [] [] a b f g long e = (refl, e)
numbers_once count k [] (y ∷ ys) a b f g long e = absurd (omega (arith, long))
numbers_once count k (x ∷ xs) [] a b f g long e = absurd (omega (arith, long))
numbers_once count k (x ∷ xs) (y ∷ ys) a b f g long e =
    let first = number_once [] (end_byte count k) x y (numbers_from count (k + 1) xs ++ a) (numbers_from count (k + 1) ys ++ b)
    (end_low count k) (omega (arith, f.0.1)) (omega (arith, g.0.1))
    (sym (first_number count k x xs a) ∙ (e ∙ first_number count k y ys b)) in
    let next = numbers_once count (k + 1) xs ys a b f.1 g.1 (omega (arith, long)) first.1 in
    (ap (λ (n : ℕ). n ∷ xs) first.0 ∙ ap (λ (ns : List ℕ). y ∷ ns) next.0, next.1)

-- and none of them is bad
pub number_stands : (count k j : ℕ) (before xs : List ℕ) (rest a : List ℕ) → AllByRecursion IsShort before → AllByRecursion IsShort xs
    → j ≡ k + length before → length before < length xs → numbers_from count k before ++ rest ≡ numbers_from count k xs ++ a
    → BeginsNoNumber count j rest → ⊥
number_stands count k j before [] rest a f g at few e none = absurd (omega (arith, few))
number_stands count k j [] (x ∷ xs) rest a f g at few e none =
    let here : k ≡ j = omega (arith, at) in
    none x (numbers_from count (k + 1) xs ++ a) g.0
    (e ∙ (first_number count k x xs a ∙ (ap (λ (i : ℕ). decimal x ++ end_byte count i ∷ (numbers_from count (k + 1) xs ++ a)) here
    ∙ sym (number_here count j x (numbers_from count (k + 1) xs ++ a)))))
number_stands count k j (y ∷ ys) (x ∷ xs) rest a f g at few e none =
    let first = number_once [] (end_byte count k) y x (numbers_from count (k + 1) ys ++ rest) (numbers_from count (k + 1) xs ++ a)
    (end_low count k) (omega (arith, f.0.1)) (omega (arith, g.0.1))
    (sym (first_number count k y ys rest) ∙ (e ∙ first_number count k x xs a)) in
    number_stands count (k + 1) j ys xs rest a f.1 g.1 (omega (arith, at)) (omega (arith, few)) first.1 none

pub no_bad_number : (count : ℕ) (xs rest : List ℕ) (text : List ℕ) (line : ℕ) → AreNumbers count xs → text ≡ numbers_text xs ++ rest
    → IsBadNumber count text line → ⊥
no_bad_number count xs rest text line are is bad =
    let long = are.0 in
    number_stands count 0 (length bad.before) bad.before xs bad.rest rest (recursion_from_All IsShort bad.before bad.short)
    (recursion_from_All IsShort xs are.1) (omega arith) (omega (arith, long, bad.few))
    (sym bad.whole ∙ (is ∙ ap (λ (n : ℕ). numbers_from n 0 xs ++ rest) long)) bad.is_bad

-- ---- reading numbers

-- the numbers so far and what is left are the text
pub record SoFar (text left : List ℕ) (count : ℕ) (xs : List ℕ) (k : ℕ) : Type 0 where
  pub short : All IsShort xs
  pub counted : length xs ≡ k
  pub whole : text ≡ numbers_from count 0 xs ++ left

pub none_so_far : (text : List ℕ) (count : ℕ) → SoFar text text count [] 0
none_so_far text count = record { short = All-nil IsShort; counted = refl; whole = refl }

same_end : (count k end : ℕ) → after_number count k ≡ end ∷ [] → end ≡ end_byte count k
same_end count k end is = let e : end ∷ [] ≡ end_byte count k ∷ [] = sym is ∙ ends_with count k in cc e

pub one_more : (text left : List ℕ) (count : ℕ) (xs : List ℕ) (k next n end : ℕ) (rest : List ℕ) (ys : List ℕ) → SoFar text left count xs k
    → after_number count k ≡ end ∷ [] → IsShort n → IsNumber left [] end n rest → ys ≡ xs ++ n ∷ [] → next ≡ k + 1
    → SoFar text rest count ys next
one_more text left count xs k next n end rest ys s is short here e one =
    let more = length-append xs (n ∷ []) in
    let counted = s.counted in
    let grown : SoFar text rest count (xs ++ n ∷ []) next = record {
      short = All-append IsShort xs (n ∷ []) s.short (All-cons IsShort n [] short (All-nil IsShort));
      counted = omega (arith, more, counted, one);
      whole = s.whole ∙ (ap (λ (t : List ℕ). numbers_from count 0 xs ++ t) (here
          ∙ ap (λ (b : ℕ). decimal n ++ b ∷ rest) (same_end count k end is)) ∙ numbers_push count 0 xs n k rest (omega (arith, counted)));
    } in
    subst (λ (zs : List ℕ). SoFar text rest count zs next) (sym e) grown

pub bad_number : (text left : List ℕ) (count : ℕ) (xs : List ℕ) (k end : ℕ) → SoFar text left count xs k → k < count
    → after_number count k ≡ end ∷ [] → ((n : ℕ) (rest : List ℕ) → IsShort n → ¬ IsNumber left [] end n rest)
    → IsBadNumber count text (k / NUMBERS + 1)
bad_number text left count xs k end s few is none =
    let counted = s.counted in
    record {
      before = xs;
      rest = left;
      short = s.short;
      few = omega (arith, counted, few);
      whole = s.whole;
      is_bad = λ n rest short e. none n rest short (e ∙ (ap (λ (i : ℕ). (decimal n ++ after_number count i) ++ rest) counted
          ∙ (append_assoc (decimal n) (after_number count k) rest ∙ ap (λ (t : List ℕ). decimal n ++ (t ++ rest)) is)));
      numbered = ap (λ (i : ℕ). i / NUMBERS + 1) (sym counted);
    }
