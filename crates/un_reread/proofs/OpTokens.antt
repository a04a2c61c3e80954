-- The words of the line of an operation, by their form, and how long the line is.
use Rattle.std.proofs.Common.{◌≡◌, ℕ, ◌+◌, ◌*◌, ◌≤◌, true, false, List, [], ◌∷◌, ◌++◌, map, codes, length, Option, Some, None, IfSome}
use Rattle.std.proofs.Common.{option_map}
use Rattle.std.proofs.Common.{refl, sym, arith, subst, append_assoc}
use Rattle.un_faults.specs.Vocabulary.{NameId, Kind, SrcOp, Token, Spelled}
use Rattle.un_base.specs.Names.{is_name}
use Rattle.un_isa.specs.Facts.{source_name}
use Rattle.un_ir.specs.Text.{Names, name_text, result_text, comma_joined, spaced, callee_text, operand_texts, op_line}
use Rattle.un_ir.specs.WellFormed.{IsName, IsOfKind}
use Rattle.un_words.specs.declared.token.Token.TheVariants.{Comma, Equals, Named, Word}
use Rattle.un_words.specs.Words.{goes_on}
use Rattle.un_reread.specs.Printed.{spelled_at}
use Rattle.un_reread.proofs.Bytes.{neat_more}
use Rattle.un_reread.proofs.WordsOf.{AllSay, Reads, first, only, before}
use Rattle.un_reread.proofs.NameWords.{word_says}
use Rattle.un_reread.proofs.NamesAt.{AreNames, name_at_says}

longer : (a b : ℕ) (text : List ℕ) (tokens : List Token) → a ≤ b → Reads a text tokens → Reads b text tokens
longer a b text tokens few r = record { neat = neat_more a b text few r.neat; told = r.told }

-- ---- operands

-- with commas between them
abbrev pub joined : List Token → List Token
joined [] = []
joined (t ∷ []) = t ∷ []
joined (t ∷ u ∷ ts) = t ∷ Comma ∷ joined (u ∷ ts)

comma_read : (words : List (List ℕ)) (tokens : List Token) → AllSay words tokens
    → Reads (36 * length tokens) (comma_joined words) (joined tokens)
comma_read [] [] says = record { neat = record { clean = refl; short = omega arith }; told = refl }
comma_read [] (t ∷ ts) says = absurd says
comma_read (x ∷ xs) [] says = absurd says
comma_read (x ∷ []) (t ∷ []) says = longer 34 _ x (t ∷ []) (omega arith) (only x t says.0)
comma_read (x ∷ []) (t ∷ u ∷ ts) says = absurd says.1
comma_read (x ∷ y ∷ ys) (t ∷ []) says = absurd says.1
comma_read (x ∷ y ∷ ys) (t ∷ u ∷ ts) says =
    let few : ℕ = 36 * length (u ∷ ts) in
    let rest : List ℕ = comma_joined (y ∷ ys) in
    let comma = before (codes ", ") (Comma ∷ []) 2 few rest (joined (u ∷ ts)) (record { clean = refl; short = omega arith })
    (λ after. refl) (comma_read (y ∷ ys) (u ∷ ts) says.1) in
    let whole = first x t (2 + few) (codes ", " ++ rest) (Comma ∷ joined (u ∷ ts)) says.0 comma refl in
    longer (34 + (2 + few)) _ (comma_joined (x ∷ y ∷ ys)) (t ∷ Comma ∷ joined (u ∷ ts)) (omega arith)
    (subst (λ (text : List ℕ). Reads (34 + (2 + few)) text (t ∷ Comma ∷ joined (u ∷ ts))) (sym (append_assoc x (codes ", ") rest)) whole)

spaced_stops : (words : List (List ℕ)) → goes_on (spaced words) ≡ false
spaced_stops [] = refl
spaced_stops (x ∷ xs) = refl

spaced_read : (words : List (List ℕ)) (tokens : List Token) → AllSay words tokens → length tokens ≤ 6
    → Reads 217 (spaced words) (joined tokens)
spaced_read [] [] says few = record { neat = record { clean = refl; short = omega arith }; told = refl }
spaced_read [] (t ∷ ts) says few = absurd says
spaced_read (x ∷ xs) tokens says few =
    longer (1 + 36 * length tokens) 217 (spaced (x ∷ xs)) (joined tokens) (omega arith)
    (before (codes " ") [] 1 (36 * length tokens) (comma_joined (x ∷ xs)) (joined tokens) (record { clean = refl; short = omega arith })
    (λ after. refl) (comma_read (x ∷ xs) tokens says))

-- ---- the callee

abbrev pub callee_tokens : Option (List ℕ) → List Token
callee_tokens None = []
callee_tokens (Some name) = Word name ∷ []

callee_stops : (callee : Option (List ℕ)) (words : List (List ℕ)) → goes_on (callee_text callee ++ spaced words) ≡ false
callee_stops None words = spaced_stops words
callee_stops (Some name) words = refl

behind_read : (callee : Option (List ℕ)) (words : List (List ℕ)) (tokens : List Token) → IfSome callee IsName → AllSay words tokens
    → length tokens ≤ 6 → Reads 252 (callee_text callee ++ spaced words) (callee_tokens callee ++ joined tokens)
behind_read None words tokens named says few =
    longer 217 252 (spaced words) (joined tokens) (omega arith) (spaced_read words tokens says few)
behind_read (Some name) words tokens named says few =
    before (codes " ") [] 1 251 (name ++ spaced words) (Word name ∷ joined tokens) (record { clean = refl; short = omega arith })
    (λ after. refl) (first name (Word name) 217 (spaced words) (joined tokens) (word_says name named) (spaced_read words tokens says few)
    (spaced_stops words))

-- ---- the result

abbrev pub result_tokens : Option Spelled → List Token
result_tokens None = []
result_tokens (Some name) = Named name ∷ Equals ∷ []

-- a name of some kind
abbrev pub IsOfSomeKind : Names → NameId → Type 0
IsOfSomeKind names name = (kind : Kind) × IsOfKind names kind name

result_read : (names : Names) (dst : Option NameId) (line : List ℕ) (tokens : List Token) → AreNames names
    → IfSome dst (IsOfSomeKind names) → Reads 286 line tokens
    → Reads 323 (result_text names dst ++ line) (result_tokens (option_map (spelled_at names) dst) ++ tokens)
result_read names None line tokens all kind r = longer 286 323 line tokens (omega arith) r
result_read names (Some name) line tokens all kind r =
    let equals = before (codes " = ") (Equals ∷ []) 3 286 line tokens (record { clean = refl; short = omega arith }) (λ after. refl) r in
    subst (λ (text : List ℕ). Reads 323 text (Named (spelled_at names name) ∷ Equals ∷ tokens))
    (sym (append_assoc (name_text names name) (codes " = ") line))
    (first (name_text names name) (Named (spelled_at names name)) 289 (codes " = " ++ line) (Equals ∷ tokens)
    (name_at_says names kind.0 name all kind.1) equals refl)

-- ---- the line

-- what is read of the line of an operation with these operands
pub op_tokens : (names : Names) (o : SrcOp) (operands : List Token) → AreNames names → is_name (source_name o.op) ≡ true
    → AllSay (operand_texts o.op o (map (name_text names) o.srcs)) operands → length operands ≤ 6 → IfSome o.dst (IsOfSomeKind names)
    → IfSome o.callee IsName
    → Reads 325 (op_line names o) (result_tokens (option_map (spelled_at names) o.dst) ++
    (Word (source_name o.op) ∷ (callee_tokens o.callee ++ joined operands)))
op_tokens names o operands all named says few kind callee =
    let words : List (List ℕ) = operand_texts o.op o (map (name_text names) o.srcs) in
    let behind : List Token = callee_tokens o.callee ++ joined operands in
    let word = first (source_name o.op) (Word (source_name o.op)) 252 (callee_text o.callee ++ spaced words) behind
    (word_says (source_name o.op) named) (behind_read o.callee words operands callee says few) (callee_stops o.callee words) in
    before (codes "  ") [] 2 323 (result_text names o.dst ++ (source_name o.op ++ (callee_text o.callee ++ spaced words)))
    (result_tokens (option_map (spelled_at names) o.dst) ++ (Word (source_name o.op) ∷ behind))
    (record { clean = refl; short = omega arith }) (λ after. refl)
    (result_read names o.dst (source_name o.op ++ (callee_text o.callee ++ spaced words)) (Word (source_name o.op) ∷ behind) all kind word)
