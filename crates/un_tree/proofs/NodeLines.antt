-- The lines of nodes: their bytes, and that each node has its own.
use Rattle.std.proofs.Common.{
  ◌≡◌,
  ◌≢◌,
  ℕ,
  ◌+◌,
  ◌%◌,
  ◌<◌,
  ◌≤◌,
  ◌^◌,
  List,
  [],
  ◌∷◌,
  ◌++◌,
  All,
  get_or,
  Option,
  None,
  Some,
  IfSome,
  codes,
  refl,
  sym,
  ap,
  subst,
  ◌∙◌,
  decimal,
  arith,
}
use Rattle.std.specs.List.{AllByRecursion}
use Rattle.std.proofs.lemmas.Fmt.{decimal_by_steps, decimal_injective}
use Rattle.un_base.specs.declared.ids.VarId.{VarId}
use Rattle.un_tree.specs.declared.node.Node.{Node}
use Rattle.un_tree.specs.declared.node.Node.TheVariants.{Branch, Closed, Open, Split, Part}
use Rattle.un_tree.specs.Texts.{Fits, node_line, number_text}
use Rattle.un_base.specs.Lines.{IsCut}
use Rattle.un_base.proofs.Cuts.{cut_once, cut_none, cut_parts}

all_append : (P : ℕ → Type 0) (xs ys : List ℕ) → AllByRecursion P xs → AllByRecursion P ys → AllByRecursion P (xs ++ ys)
all_append P [] ys a b = b
all_append P (x ∷ xs) ys a b = (a.0, all_append P xs ys a.1 b)

digits_high : (n : ℕ) → n < 2 ^ 64 → AllByRecursion (λ y. 48 ≤ y) (decimal n)
digits_high = decimal_by_steps (λ n ds. AllByRecursion (λ y. 48 ≤ y) ds) (λ n lt. (omega arith, tt))
    (λ n ds ge h. all_append (λ y. 48 ≤ y) ds ((48 + n % 10) ∷ []) h (omega arith, tt))

apart : (b : ℕ) (xs : List ℕ) → b < 48 → AllByRecursion (λ y. 48 ≤ y) xs → AllByRecursion (λ y. y ≢ b) xs
apart b [] lt h = tt
apart b (x ∷ xs) lt h = ((λ e. omega (arith, e, lt, h.0)), apart b xs lt h.1)

-- a lower byte than a digit's is not in the text of a number
pub digits_apart : (b n : ℕ) → b < 48 → n < 2 ^ 64 → AllByRecursion (λ y. y ≢ b) (decimal n)
digits_apart b n low small = apart b (decimal n) low (digits_high n small)

-- the text of a part's number has no lower byte than a dash
number_apart : (b : ℕ) (number : Option ℕ) → b < 45 → IfSome number (λ n. n < 2 ^ 64) → AllByRecursion (λ y. y ≢ b) (number_text number)
number_apart b None low fit = ((λ e. omega (arith, e, low)), tt)
number_apart b (Some n) low fit = digits_apart b n (omega (arith, low)) fit

-- a number is no dash
no_dash : (n : ℕ) → n < 2 ^ 64 → decimal n ≢ codes "-"
no_dash n small e = (subst (AllByRecursion (λ y. y ≢ 45)) e (digits_apart 45 n (omega arith) small)).0 refl

-- no line of a node has a line feed
pub line_free : (n : Node) → Fits n → AllByRecursion (λ y. y ≢ 10) (node_line n)
line_free Closed fit = ((λ e. omega (arith, e)), tt)
line_free Open fit = ((λ e. omega (arith, e)), tt)
line_free Split fit = ((λ e. omega (arith, e)), tt)
line_free (Part number) fit = ((λ e. omega (arith, e)), ((λ e. omega (arith, e)), number_apart 10 number (omega arith) fit))
line_free (Branch v x) fit = (
  (λ e. omega (arith, e)),
  (
    (λ e. omega (arith, e)),
    all_append (λ y. y ≢ 10) (decimal v.0) (32 ∷ decimal x) (digits_apart 10 v.0 (omega arith) (omega (arith, fit.0)))
        ((λ e. omega (arith, e)), digits_apart 10 x (omega arith) (omega (arith, fit.1))),
  ),
)

-- the numbers of a Branch are those of its line
pub numbers_once : (v w : VarId) (x y : ℕ) → v.0 < 2 ^ 64 → x < 2 ^ 64 → w.0 < 2 ^ 64 → y < 2 ^ 64
    → decimal v.0 ++ 32 ∷ decimal x ≡ decimal w.0 ++ 32 ∷ decimal y → (v ≡ w) × (x ≡ y)
numbers_once v w x y fv fx fw fy e =
    let free = λ (n : ℕ) (small : n < 2 ^ 64). digits_apart 32 n (omega arith) small in
    let parts = cut_once 32 (decimal v.0) (decimal w.0) (decimal x) (decimal y) (free v.0 fv) (free w.0 fw) e in
    (ap (λ (n : ℕ). record { 0 = n }) (decimal_injective v.0 w.0 fv fw parts.0), decimal_injective x y fx fy parts.1)

first_byte : (n m : Node) → node_line n ≡ node_line m → get_or (node_line n) 0 0 ≡ get_or (node_line m) 0 0
first_byte n m e = ap (λ (line : List ℕ). get_or line 0 0) e

-- texts of numbers of parts are the same where the numbers are
number_once : (p q : Option ℕ) → IfSome p (λ n. n < 2 ^ 64) → IfSome q (λ n. n < 2 ^ 64) → number_text p ≡ number_text q → p ≡ q
number_once None None f g e = refl
number_once None (Some n) f g e = absurd (no_dash n g (sym e))
number_once (Some n) None f g e = absurd (no_dash n f e)
number_once (Some n) (Some k) f g e = ap Some (decimal_injective n k f g e)

-- nodes with the same line are the same
pub line_once : (n m : Node) → Fits n → Fits m → node_line n ≡ node_line m → n ≡ m
line_once Closed Closed f g e = refl
line_once Open Open f g e = refl
line_once Split Split f g e = refl
line_once (Branch v x) (Branch w y) f g e =
    let rest : decimal v.0 ++ 32 ∷ decimal x ≡ decimal w.0 ++ 32 ∷ decimal y = cc e in
    let same = numbers_once v w x y (omega (arith, f.0)) (omega (arith, f.1)) (omega (arith, g.0)) (omega (arith, g.1)) rest in
    ap (λ (u : VarId). Branch u x) same.0 ∙ ap (Branch w) same.1
line_once (Part p) (Part q) f g e = let rest : number_text p ≡ number_text q = cc e in ap Part (number_once p q f g rest)
line_once n m f g e = absurd (omega (arith, first_byte n m e))

-- texts that are not the two numbers of a Branch
abbrev pub NoNumbers : List ℕ → Type 0
NoNumbers text = (var : VarId) (val : ℕ) → var.0 < 2 ^ 32 → val < 2 ^ 32 → text ≢ decimal var.0 ++ 32 ∷ decimal val

pub none_cut : (text : List ℕ) → All (λ y. y ≢ 32) text → NoNumbers text
none_cut text free var val fv fx e = cut_none 32 text (decimal var.0) (decimal val) free e

numbers_parts : (text first rest : List ℕ) → IsCut text 32 first rest → (var : VarId) (val : ℕ) → var.0 < 2 ^ 32
    → text ≡ decimal var.0 ++ 32 ∷ decimal val → (first ≡ decimal var.0) × (rest ≡ decimal val)
numbers_parts text first rest h var val fv e =
    cut_parts text 32 first rest (decimal var.0) (decimal val) h (digits_apart 32 var.0 (omega arith) (omega (arith, fv))) e

pub none_first : (text first rest : List ℕ) → IsCut text 32 first rest → ((n : ℕ) → n < 2 ^ 32 → first ≢ decimal n) → NoNumbers text
none_first text first rest h none var val fv fx e = none var.0 fv (numbers_parts text first rest h var val fv e).0

pub none_rest : (text first rest : List ℕ) → IsCut text 32 first rest → ((n : ℕ) → n < 2 ^ 32 → rest ≢ decimal n) → NoNumbers text
none_rest text first rest h none var val fv fx e = none val fx (numbers_parts text first rest h var val fv e).1
