-- The lines of starts: their bytes, and that each line has its own text.
use Rattle.std.proofs.Common.{◌≡◌, ◌≢◌, ℕ, ◌+◌, ◌%◌, ◌<◌, ◌≤◌, ◌^◌, Bool, true, false, nat_eq, if◌then◌else◌, List, [], ◌∷◌, ◌++◌, All, get_or}
use Rattle.std.proofs.Common.{not, refl, sym, ap, ◌∙◌, decimal, arith}
use Rattle.std.specs.List.{AllByRecursion, list_all}
use Rattle.std.proofs.lemmas.Bool.{and_parts, eqb-false, not-true}
use Rattle.std.proofs.lemmas.Fmt.{decimal_by_steps, decimal_injective}
use Rattle.un_start.specs.declared.line.Line.{Line}
use Rattle.un_start.specs.declared.line.Line.TheVariants.{Reg, Mem, Reply, Set, Junk, Blocks}
use Rattle.un_start.specs.declared.word.Word.{Word}
use Rattle.un_start.specs.declared.word.Word.TheVariants as WordOf
use Rattle.un_start.specs.Lines.{word_text, word_of, two_numbers, numbers_text, line_text, AreWords, Fits, BeginsNoLine}
use Rattle.un_base.specs.Lines.{IsCut}
use Rattle.un_base.proofs.Cuts.{cut_once, cut_none, cut_parts}

all_append : (P : ℕ → Type 0) (xs ys : List ℕ) → AllByRecursion P xs → AllByRecursion P ys → AllByRecursion P (xs ++ ys)
all_append P [] ys a b = b
all_append P (x ∷ xs) ys a b = (a.0, all_append P xs ys a.1 b)

digits_high : (n : ℕ) → n < 2 ^ 64 → AllByRecursion (λ y. 48 ≤ y) (decimal n)
digits_high = decimal_by_steps (λ n ds. AllByRecursion (λ y. 48 ≤ y) ds) (λ n lt. (omega arith, tt))
    (λ n ds ge h. all_append (λ y. 48 ≤ y) ds ((48 + n % 10) ∷ []) h (omega arith, tt))

apart : (b : ℕ) (xs : List ℕ) → b < 48 → AllByRecursion (λ y. 48 ≤ y) xs → AllByRecursion (λ y. y ≢ b) xs
apart b [] lt h = tt
apart b (x ∷ xs) lt h = ((λ e. omega (arith, e, lt, h.0)), apart b xs lt h.1)

-- a lower byte than a digit's is not in the text of a number
digits_apart : (b n : ℕ) → b < 48 → n < 2 ^ 32 → AllByRecursion (λ y. y ≢ b) (decimal n)
digits_apart b n low small = apart b (decimal n) low (digits_high n (omega arith))

-- ---- numbers

two_free : (m n : ℕ) → AreWords m n → AllByRecursion (λ y. y ≢ 10) (two_numbers m n)
two_free m n fit =
    all_append (λ y. y ≢ 10) (decimal m) (32 ∷ decimal n) (digits_apart 10 m (omega arith) fit.0)
    ((λ e. omega (arith, e)), digits_apart 10 n (omega arith) fit.1)

numbers_free : (l : Line) → Fits l → AllByRecursion (λ y. y ≢ 10) (numbers_text l)
numbers_free (Reg r n) fit = two_free r n fit
numbers_free (Mem a w) fit = two_free a w fit
numbers_free (Reply n) fit = digits_apart 10 n (omega arith) fit
numbers_free (Set a w) fit = two_free a w fit
numbers_free (Junk r n) fit = two_free r n fit
numbers_free (Blocks n) fit = digits_apart 10 n (omega arith) fit

two_once : (m n k l : ℕ) → AreWords m n → AreWords k l → two_numbers m n ≡ two_numbers k l → (m ≡ k) × (n ≡ l)
two_once m n k l f g e =
    let parts = cut_once 32 (decimal m) (decimal k) (decimal n) (decimal l) (digits_apart 32 m (omega arith) f.0)
    (digits_apart 32 k (omega arith) g.0) e in
    (decimal_injective m k (omega (arith, f.0)) (omega (arith, g.0)) parts.0, decimal_injective n l (omega (arith, f.1)) (omega (arith, g.1)) parts.1)

one_once : (m n : ℕ) → m < 2 ^ 32 → n < 2 ^ 32 → decimal m ≡ decimal n → m ≡ n
one_once m n f g e = decimal_injective m n (omega arith) (omega arith) e

-- texts that are not two numbers
abbrev pub NoTwo : List ℕ → Type 0
NoTwo text = (m n : ℕ) → AreWords m n → text ≢ two_numbers m n

pub none_cut : (text : List ℕ) → All (λ y. y ≢ 32) text → NoTwo text
none_cut text free m n fit e = cut_none 32 text (decimal m) (decimal n) free e

two_parts : (text first rest : List ℕ) → IsCut text 32 first rest → (m n : ℕ) → AreWords m n → text ≡ two_numbers m n
    → (first ≡ decimal m) × (rest ≡ decimal n)
two_parts text first rest h m n fit e = cut_parts text 32 first rest (decimal m) (decimal n) h (digits_apart 32 m (omega arith) fit.0) e

pub none_first : (text first rest : List ℕ) → IsCut text 32 first rest → ((n : ℕ) → n < 2 ^ 32 → first ≢ decimal n) → NoTwo text
none_first text first rest h none m n fit e = none m fit.0 (two_parts text first rest h m n fit e).0

pub none_rest : (text first rest : List ℕ) → IsCut text 32 first rest → ((n : ℕ) → n < 2 ^ 32 → rest ≢ decimal n) → NoTwo text
none_rest text first rest h none m n fit e = none n fit.1 (two_parts text first rest h m n fit e).1

-- ---- words

free_by : (b : ℕ) (xs : List ℕ) → list_all (λ y. not (nat_eq y b)) xs ≡ true → AllByRecursion (λ y. y ≢ b) xs
free_by b [] h = tt
free_by b (x ∷ xs) h =
    let parts = and_parts (not (nat_eq x b)) (list_all (λ y. not (nat_eq y b)) xs) h in
    (eqb-false x b (not-true (nat_eq x b) parts.0), free_by b xs parts.1)

word_free : (w : Word) → AllByRecursion (λ y. y ≢ 32) (word_text w) × AllByRecursion (λ y. y ≢ 10) (word_text w)
word_free WordOf.Reg = (free_by 32 (word_text WordOf.Reg) refl, free_by 10 (word_text WordOf.Reg) refl)
word_free WordOf.Mem = (free_by 32 (word_text WordOf.Mem) refl, free_by 10 (word_text WordOf.Mem) refl)
word_free WordOf.Reply = (free_by 32 (word_text WordOf.Reply) refl, free_by 10 (word_text WordOf.Reply) refl)
word_free WordOf.Set = (free_by 32 (word_text WordOf.Set) refl, free_by 10 (word_text WordOf.Set) refl)
word_free WordOf.Junk = (free_by 32 (word_text WordOf.Junk) refl, free_by 10 (word_text WordOf.Junk) refl)
word_free WordOf.Blocks = (free_by 32 (word_text WordOf.Blocks) refl, free_by 10 (word_text WordOf.Blocks) refl)

-- the third byte of a word tells which it is
abbrev by_third : ℕ → Word
by_third b =
    if nat_eq b 103 then WordOf.Reg
    else if nat_eq b 109 then WordOf.Mem
    else if nat_eq b 112 then WordOf.Reply
    else if nat_eq b 116 then WordOf.Set
    else if nat_eq b 110 then WordOf.Junk
    else WordOf.Blocks

third_tells : (w : Word) → by_third (get_or (word_text w) 2 0) ≡ w
third_tells WordOf.Reg = refl
third_tells WordOf.Mem = refl
third_tells WordOf.Reply = refl
third_tells WordOf.Set = refl
third_tells WordOf.Junk = refl
third_tells WordOf.Blocks = refl

word_once : (v w : Word) → word_text v ≡ word_text w → v ≡ w
word_once v w e = sym (third_tells v) ∙ (ap (λ (text : List ℕ). by_third (get_or text 2 0)) e ∙ third_tells w)

-- ---- lines

pub line_free : (l : Line) → Fits l → AllByRecursion (λ y. y ≢ 10) (line_text l)
line_free l fit =
    all_append (λ y. y ≢ 10) (word_text (word_of l)) (32 ∷ numbers_text l) ((word_free (word_of l)).1)
    ((λ e. omega (arith, e)), numbers_free l fit)

numbers_once : (l m : Line) → Fits l → Fits m → word_of l ≡ word_of m → numbers_text l ≡ numbers_text m → l ≡ m
numbers_once (Reg r n) (Reg q k) f g w e = let p = two_once r n q k f g e in let a = p.0 in let b = p.1 in cc
numbers_once (Reg r n) m f g w e = absurd (cc w)
numbers_once (Mem r n) (Mem q k) f g w e = let p = two_once r n q k f g e in let a = p.0 in let b = p.1 in cc
numbers_once (Mem r n) m f g w e = absurd (cc w)
numbers_once (Reply n) (Reply k) f g w e = ap Reply (one_once n k f g e)
numbers_once (Reply n) m f g w e = absurd (cc w)
numbers_once (Set r n) (Set q k) f g w e = let p = two_once r n q k f g e in let a = p.0 in let b = p.1 in cc
numbers_once (Set r n) m f g w e = absurd (cc w)
numbers_once (Junk r n) (Junk q k) f g w e = let p = two_once r n q k f g e in let a = p.0 in let b = p.1 in cc
numbers_once (Junk r n) m f g w e = absurd (cc w)
numbers_once (Blocks n) (Blocks k) f g w e = ap Blocks (one_once n k f g e)
numbers_once (Blocks n) m f g w e = absurd (cc w)

-- lines with the same text are the same
pub line_once : (l m : Line) → Fits l → Fits m → line_text l ≡ line_text m → l ≡ m
line_once l m f g e =
    let parts = cut_once 32 (word_text (word_of l)) (word_text (word_of m)) (numbers_text l) (numbers_text m) ((word_free (word_of l)).0)
    ((word_free (word_of m)).0) e in
    numbers_once l m f g (word_once (word_of l) (word_of m) parts.0) parts.1

-- a text that begins with two lines begins with one
pub first_once : (l m : Line) (rest rest' : List ℕ) → Fits l → Fits m → line_text l ++ 10 ∷ rest ≡ line_text m ++ 10 ∷ rest' → (l ≡ m)
    × (rest ≡ rest')
first_once l m rest rest' f g e =
    let parts = cut_once 10 (line_text l) (line_text m) rest rest' (line_free l f) (line_free m g) e in
    (line_once l m f g parts.0, parts.1)

-- ---- texts that are no line

-- a line of two numbers
abbrev takes_two : Word → Bool
takes_two WordOf.Reply = false
takes_two WordOf.Blocks = false
takes_two w = true

pub no_two : (kind : Word) (numbers : List ℕ) → takes_two kind ≡ true → NoTwo numbers → (l : Line) → Fits l → word_of l ≡ kind
    → numbers ≢ numbers_text l
no_two kind numbers two none l fit is e = by l fit (ap takes_two is ∙ two) e
  where
    by : (m : Line) → Fits m → takes_two (word_of m) ≡ true → numbers ≡ numbers_text m → ⊥
    by (Reg r n) f t e = none r n f e
    by (Mem a w) f t e = none a w f e
    by (Reply n) f t e = cc t
    by (Set a w) f t e = none a w f e
    by (Junk r n) f t e = none r n f e
    by (Blocks n) f t e = cc t

pub no_one : (kind : Word) (numbers : List ℕ) → takes_two kind ≡ false → ((n : ℕ) → n < 2 ^ 32 → numbers ≢ decimal n)
    → (l : Line) → Fits l → word_of l ≡ kind → numbers ≢ numbers_text l
no_one kind numbers one none l fit is e = by l fit (ap takes_two is ∙ one) e
  where
    by : (m : Line) → Fits m → takes_two (word_of m) ≡ false → numbers ≡ numbers_text m → ⊥
    by (Reg r n) f t e = cc t
    by (Mem a w) f t e = cc t
    by (Reply n) f t e = none n f e
    by (Set a w) f t e = cc t
    by (Junk r n) f t e = cc t
    by (Blocks n) f t e = none n f e

-- texts that are no line
abbrev pub NoLine : List ℕ → Type 0
NoLine text = (l : Line) → Fits l → text ≢ line_text l

pub no_cut : (text : List ℕ) → All (λ y. y ≢ 32) text → NoLine text
no_cut text free l fit e = cut_none 32 text (word_text (word_of l)) (numbers_text l) free e

line_parts : (text first rest : List ℕ) → IsCut text 32 first rest → (l : Line) → text ≡ line_text l
    → (first ≡ word_text (word_of l)) × (rest ≡ numbers_text l)
line_parts text first rest h l e = cut_parts text 32 first rest (word_text (word_of l)) (numbers_text l) h ((word_free (word_of l)).0) e

pub no_word : (text first rest : List ℕ) → IsCut text 32 first rest → ((w : Word) → first ≢ word_text w) → NoLine text
no_word text first rest h none l fit e = none (word_of l) (line_parts text first rest h l e).0

pub no_numbers : (text first rest : List ℕ) (kind : Word) → IsCut text 32 first rest → first ≡ word_text kind
    → ((l : Line) → Fits l → word_of l ≡ kind → rest ≢ numbers_text l) → NoLine text
no_numbers text first rest kind h is none l fit e =
    let parts = line_parts text first rest h l e in none l fit (word_once (word_of l) kind (sym parts.0 ∙ is)) parts.1

pub is_line : (text first rest : List ℕ) (kind : Word) (l : Line) → IsCut text 32 first rest → first ≡ word_text kind → word_of l ≡ kind
    → rest ≡ numbers_text l → text ≡ line_text l
is_line text first rest kind l h is w n =
    h.whole ∙ (ap (λ (t : List ℕ). t ++ 32 ∷ rest) (is ∙ ap word_text (sym w)) ∙ ap (λ (t : List ℕ). word_text (word_of l) ++ 32 ∷ t) n)

-- a text without a line feed begins with no line, nor does one whose first line is none
pub no_feed : (text : List ℕ) → All (λ y. y ≢ 10) text → BeginsNoLine text
no_feed text free l rest fit e = cut_none 10 text (line_text l) rest free e

pub no_first : (text line rest : List ℕ) → IsCut text 10 line rest → NoLine line → BeginsNoLine text
no_first text line rest cut none l behind fit e =
    none l fit (cut_parts text 10 line rest (line_text l) behind cut (line_free l fit) e).0
