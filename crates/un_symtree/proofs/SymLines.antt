-- The lines of nodes of trees with mirrors: their bytes, and that each node has its own.
use Rattle.std.proofs.Common.{◌≡◌, ◌≢◌, ℕ, ◌<◌, ◌^◌, List, [], ◌∷◌, ◌++◌, All, get_or, refl, ap, ◌∙◌, codes, decimal, arith}
use Rattle.std.specs.List.{AllByRecursion}
use Rattle.std.proofs.lemmas.Fmt.{decimal_injective}
use Rattle.un_base.specs.declared.ids.VarId.{VarId}
use Rattle.un_isa.specs.declared.reg.Reg.{Reg}
use Rattle.un_symtree.specs.declared.node.SymNode.{SymNode}
use Rattle.un_symtree.specs.declared.node.SymNode.TheVariants.{Branch, Closed, Mirror}
use Rattle.un_symtree.specs.SymTexts.{SymFits, sym_line}
use Rattle.un_base.specs.Lines.{IsCut}
use Rattle.un_base.proofs.Cuts.{cut_once, cut_none, cut_parts}
use Rattle.un_tree.proofs.NodeLines.{digits_apart}

all_append : (P : ℕ → Type 0) (xs ys : List ℕ) → AllByRecursion P xs → AllByRecursion P ys → AllByRecursion P (xs ++ ys)
all_append P [] ys a b = b
all_append P (x ∷ xs) ys a b = (a.0, all_append P xs ys a.1 b)

-- ---- no line of a node has a line feed

no_feed : (n : ℕ) → n < 2 ^ 32 → AllByRecursion (λ y. y ≢ 10) (decimal n)
no_feed n fit = digits_apart 10 n (omega arith) (omega (arith, fit))

-- nor has a number with a space behind it, before what has none
spaced_free : (n : ℕ) (rest : List ℕ) → n < 2 ^ 32 → AllByRecursion (λ y. y ≢ 10) rest
    → AllByRecursion (λ y. y ≢ 10) (decimal n ++ 32 ∷ rest)
spaced_free n rest fit free = all_append (λ y. y ≢ 10) (decimal n) (32 ∷ rest) (no_feed n fit) ((λ e. omega (arith, e)), free)

pub sym_free : (n : SymNode) → SymFits n → AllByRecursion (λ y. y ≢ 10) (sym_line n)
sym_free Closed fit = ((λ e. omega (arith, e)), tt)
sym_free (Branch v x) fit =
    ((λ e. omega (arith, e)), ((λ e. omega (arith, e)), spaced_free v.0 (decimal x) fit.0 (no_feed x fit.1)))
sym_free (Mirror a b d) fit = (
  (λ e. omega (arith, e)),
  (
    (λ e. omega (arith, e)),
    spaced_free a.0 (decimal b.0 ++ 32 ∷ decimal d) fit.0 (spaced_free b.0 (decimal d) fit.1 (no_feed d fit.2)),
  ),
)

-- ---- nodes with the same line are the same

-- two numbers before a space
pub spaced_once : (m n : ℕ) (a b : List ℕ) → m < 2 ^ 32 → n < 2 ^ 32 → decimal m ++ 32 ∷ a ≡ decimal n ++ 32 ∷ b → (m ≡ n) × (a ≡ b)
spaced_once m n a b f g e =
    let free = λ (k : ℕ) (small : k < 2 ^ 32). digits_apart 32 k (omega arith) (omega (arith, small)) in
    let parts = cut_once 32 (decimal m) (decimal n) a b (free m f) (free n g) e in
    (decimal_injective m n (omega (arith, f)) (omega (arith, g)) parts.0, parts.1)

pub first_letter : (a b : List ℕ) → a ≡ b → get_or a 0 0 ≡ get_or b 0 0
first_letter a b e = ap (λ (t : List ℕ). get_or t 0 0) e

first_byte : (n m : SymNode) → sym_line n ≡ sym_line m → get_or (sym_line n) 0 0 ≡ get_or (sym_line m) 0 0
first_byte n m e = first_letter (sym_line n) (sym_line m) e

branch_once : (v w : VarId) (x y : ℕ) → SymFits (Branch v x) → SymFits (Branch w y)
    → decimal v.0 ++ 32 ∷ decimal x ≡ decimal w.0 ++ 32 ∷ decimal y → Branch v x ≡ Branch w y
branch_once v w x y f g e =
    let vars = spaced_once v.0 w.0 (decimal x) (decimal y) f.0 g.0 e in
    let vals = decimal_injective x y (omega (arith, f.1)) (omega (arith, g.1)) vars.1 in
    ap (λ (n : ℕ). Branch (record { 0 = n }) x) vars.0 ∙ ap (Branch w) vals

mirror_once : (a b x y : Reg) (d e : ℕ) → SymFits (Mirror a b d) → SymFits (Mirror x y e)
    → decimal a.0 ++ 32 ∷ (decimal b.0 ++ 32 ∷ decimal d) ≡ decimal x.0 ++ 32 ∷ (decimal y.0 ++ 32 ∷ decimal e)
    → Mirror a b d ≡ Mirror x y e
mirror_once a b x y d e f g is =
    let first = spaced_once a.0 x.0 (decimal b.0 ++ 32 ∷ decimal d) (decimal y.0 ++ 32 ∷ decimal e) f.0 g.0 is in
    let second = spaced_once b.0 y.0 (decimal d) (decimal e) f.1 g.1 first.1 in
    let depth = decimal_injective d e (omega (arith, f.2)) (omega (arith, g.2)) second.1 in
    ap (λ (n : ℕ). Mirror (record { 0 = n }) b d) first.0
    ∙ (ap (λ (n : ℕ). Mirror x (record { 0 = n }) d) second.0 ∙ ap (Mirror x y) depth)

pub sym_line_once : (n m : SymNode) → SymFits n → SymFits m → sym_line n ≡ sym_line m → n ≡ m
sym_line_once Closed Closed f g e = refl
sym_line_once Closed (Branch w y) f g e = absurd (omega (arith, first_byte Closed (Branch w y) e))
sym_line_once Closed (Mirror x y d) f g e = absurd (omega (arith, first_byte Closed (Mirror x y d) e))
sym_line_once (Branch v x) Closed f g e = absurd (omega (arith, first_byte (Branch v x) Closed e))
sym_line_once (Branch v x) (Branch w y) f g e = branch_once v w x y f g (cc e)
sym_line_once (Branch v x) (Mirror a b d) f g e = absurd (omega (arith, first_byte (Branch v x) (Mirror a b d) e))
sym_line_once (Mirror a b d) Closed f g e = absurd (omega (arith, first_byte (Mirror a b d) Closed e))
sym_line_once (Mirror a b d) (Branch w y) f g e = absurd (omega (arith, first_byte (Mirror a b d) (Branch w y) e))
sym_line_once (Mirror a b d) (Mirror x y k) f g e = mirror_once a b x y d k f g (cc e)

-- ---- texts that are not numbers with spaces between

-- a text that is cut at a space, where a number stands before one
pub spaced_parts : (text first rest : List ℕ) → IsCut text 32 first rest → (n : ℕ) (more : List ℕ) → n < 2 ^ 32
    → text ≡ decimal n ++ 32 ∷ more → (first ≡ decimal n) × (rest ≡ more)
spaced_parts text first rest h n more fit e =
    cut_parts text 32 first rest (decimal n) more h (digits_apart 32 n (omega arith) (omega (arith, fit))) e

abbrev pub NoPair : List ℕ → Type 0
NoPair text = (m n : ℕ) → m < 2 ^ 32 → n < 2 ^ 32 → text ≢ decimal m ++ 32 ∷ decimal n

abbrev pub NoThree : List ℕ → Type 0
NoThree text = (a b d : ℕ) → a < 2 ^ 32 → b < 2 ^ 32 → d < 2 ^ 32 → text ≢ decimal a ++ 32 ∷ (decimal b ++ 32 ∷ decimal d)

abbrev pub NoNumber : List ℕ → Type 0
NoNumber text = (n : ℕ) → n < 2 ^ 32 → text ≢ decimal n

pub pair_uncut : (text : List ℕ) → All (λ y. y ≢ 32) text → NoPair text
pair_uncut text free m n fm fn e = cut_none 32 text (decimal m) (decimal n) free e

pub pair_first : (text first rest : List ℕ) → IsCut text 32 first rest → NoNumber first → NoPair text
pair_first text first rest h none m n fm fn e = none m fm (spaced_parts text first rest h m (decimal n) fm e).0

pub pair_second : (text first rest : List ℕ) → IsCut text 32 first rest → NoNumber rest → NoPair text
pair_second text first rest h none m n fm fn e = none n fn (spaced_parts text first rest h m (decimal n) fm e).1

pub three_uncut : (text : List ℕ) → All (λ y. y ≢ 32) text → NoThree text
three_uncut text free a b d fa fb fd e = cut_none 32 text (decimal a) (decimal b ++ 32 ∷ decimal d) free e

pub three_first : (text first rest : List ℕ) → IsCut text 32 first rest → NoNumber first → NoThree text
three_first text first rest h none a b d fa fb fd e =
    none a fa (spaced_parts text first rest h a (decimal b ++ 32 ∷ decimal d) fa e).0

pub three_others : (text first rest : List ℕ) → IsCut text 32 first rest → NoPair rest → NoThree text
three_others text first rest h none a b d fa fb fd e =
    none b d fb fd (spaced_parts text first rest h a (decimal b ++ 32 ∷ decimal d) fa e).1

-- ---- lines that are no node's

abbrev pub NoSymLine : List ℕ → Type 0
NoSymLine line = (n : SymNode) → SymFits n → line ≢ sym_line n

-- a line without a space that is not that of a closed leaf
pub line_uncut : (line : List ℕ) → line ≢ codes "C" → All (λ y. y ≢ 32) line → NoSymLine line
line_uncut line closed free Closed fit e = closed e
line_uncut line closed free (Branch v x) fit e = cut_none 32 line (codes "B") (decimal v.0 ++ 32 ∷ decimal x) free e
line_uncut line closed free (Mirror a b d) fit e =
    cut_none 32 line (codes "M") (decimal a.0 ++ 32 ∷ (decimal b.0 ++ 32 ∷ decimal d)) free e

letter_free : (b : ℕ) → b ≢ 32 → AllByRecursion (λ y. y ≢ 32) (b ∷ [])
letter_free b apart = (apart, tt)

branch_parts : (line word numbers : List ℕ) → IsCut line 32 word numbers → (v : VarId) (x : ℕ) → line ≡ sym_line (Branch v x)
    → (word ≡ codes "B") × (numbers ≡ decimal v.0 ++ 32 ∷ decimal x)
branch_parts line word numbers h v x e =
    cut_parts line 32 word numbers (codes "B") (decimal v.0 ++ 32 ∷ decimal x) h (letter_free 66 (λ k. omega (arith, k))) e

mirror_parts : (line word numbers : List ℕ) → IsCut line 32 word numbers → (a b : Reg) (d : ℕ) → line ≡ sym_line (Mirror a b d)
    → (word ≡ codes "M") × (numbers ≡ decimal a.0 ++ 32 ∷ (decimal b.0 ++ 32 ∷ decimal d))
mirror_parts line word numbers h a b d e =
    cut_parts line 32 word numbers (codes "M") (decimal a.0 ++ 32 ∷ (decimal b.0 ++ 32 ∷ decimal d)) h
    (letter_free 77 (λ k. omega (arith, k))) e

-- a line that begins with another word
pub line_no_word : (line word numbers : List ℕ) → line ≢ codes "C" → IsCut line 32 word numbers → word ≢ codes "B" → word ≢ codes "M"
    → NoSymLine line
line_no_word line word numbers closed h branch mirror Closed fit e = closed e
line_no_word line word numbers closed h branch mirror (Branch v x) fit e = branch (branch_parts line word numbers h v x e).0
line_no_word line word numbers closed h branch mirror (Mirror a b d) fit e = mirror (mirror_parts line word numbers h a b d e).0
