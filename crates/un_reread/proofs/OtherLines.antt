-- The line of a function, of a block and of a terminator: each is neat and is read as its line.
use Rattle.std.proofs.Common.{◌≡◌, ℕ, zero, suc, ◌+◌, ◌*◌, ◌<◌, ◌≤◌, true, false, List, [], ◌∷◌, ◌++◌, map, codes, length, Some, None}
use Rattle.std.proofs.Common.{refl, ap}
use Rattle.std.proofs.Common.{◌∙◌, arith, All, flat_map, decimal}
use Rattle.std.specs.List.{list_all}
use Rattle.std.proofs.lemmas.List.Elements.{All-head, All-tail}
use Rattle.un_faults.specs.Vocabulary.{NameId, General, Pred, SourceBlock, Term, Fall, JumpTo, BranchTo, Return, Token, Number, Line, Func}
use Rattle.un_faults.specs.Vocabulary.{Block, Jump, Branch, Ret, Terminator, Spelled}
use Rattle.un_ir.specs.declared.function.Function.{Function}
use Rattle.un_ir.specs.declared.function.TheConstants.{FREQUENCY, PARAMS}
use Rattle.un_ir.specs.Text.{Names, name_text, label_of, func_line, block_line, term_lines}
use Rattle.un_ir.specs.WellFormed.{IsName, IsOfKind, TestsItsKind, LeadsInside}
use Rattle.un_words.specs.declared.token.Token.TheVariants.{Named, Negated, Word, Plain}
use Rattle.un_words.specs.declared.slot.Slot.TheVariants.{Named as NamedSlot}
use Rattle.un_words.specs.Words.{goes_on}
use Rattle.un_words.specs.Shapes.{shape_of, is_slot, names_at}
use Rattle.un_reader.proofs.TextLines.{body_lines}
use Rattle.un_reread.specs.Printed.{spelled_at, term_as_line}
use Rattle.un_reread.proofs.Bytes.{neat_more}
use Rattle.un_reread.proofs.WordsOf.{Says, Reads, first, only, before, IsLine, is_line, AreLines}
use Rattle.un_reread.proofs.NameWords.{word_says}
use Rattle.un_reread.proofs.NamesAt.{AreNames, name_at_says, negated_at_says}
use Rattle.un_reread.proofs.NumberWords.{plain_says}

-- ---- blocks

pub block_read : (block : SourceBlock) → IsName block.label → (1 ≤ block.freq) × (block.freq ≤ FREQUENCY)
    → IsLine (block_line block) (Block block.label (record { negative = false; size = block.freq }))
block_read block named often =
    let number : Number = record { negative = false; size = block.freq } in
    let few = often.1 in
    let last = only (decimal block.freq) (Plain number) (plain_says block.freq (omega arith)) in
    let freq = before (codes " freq ") (Word (codes "freq") ∷ []) 6 34 (decimal block.freq) (Plain number ∷ [])
    (record { clean = refl; short = omega arith }) (λ rest. refl) last in
    let label = first block.label (Word block.label) 40 (codes " freq " ++ decimal block.freq) (Word (codes "freq") ∷ Plain number ∷ [])
    (word_says block.label named) freq refl in
    is_line 80 (block_line block) (Word (codes "block") ∷ Word block.label ∷ Word (codes "freq") ∷ Plain number ∷ [])
    (Block block.label number) (omega arith)
    (before (codes "block ") (Word (codes "block") ∷ []) 6 74 (block.label ++ (codes " freq " ++ decimal block.freq))
    (Word block.label ∷ Word (codes "freq") ∷ Plain number ∷ []) (record { clean = refl; short = omega arith }) (λ rest. refl) label) refl

-- ---- functions

stops : (names : Names) (ps : List NameId) → goes_on (flat_map (λ (q : NameId). codes " " ++ name_text names q) ps) ≡ false
stops names [] = refl
stops names (q ∷ qs) = refl

-- the parameters of a function
params_read : (names : Names) (params : List NameId) → AreNames names → All (IsOfKind names General) params
    → Reads (35 * length params) (flat_map (λ (p : NameId). codes " " ++ name_text names p) params)
    (map (λ (p : NameId). Named (spelled_at names p)) params)
params_read names [] all kinds = record { neat = record { clean = refl; short = omega arith }; told = refl }
params_read names (p ∷ ps) all kinds =
    let rest : List ℕ = flat_map (λ (q : NameId). codes " " ++ name_text names q) ps in
    let tokens : List Token = map (λ (q : NameId). Named (spelled_at names q)) ps in
    let says = name_at_says names General p all (All-head (IsOfKind names General) p ps kinds) in
    let later = params_read names ps all (All-tail (IsOfKind names General) p ps kinds) in
    let word = first (name_text names p) (Named (spelled_at names p)) (35 * length ps) rest tokens says later (stops names ps) in
    let whole = before (codes " ") [] 1 (34 + 35 * length ps) (name_text names p ++ rest) (Named (spelled_at names p) ∷ tokens)
    (record { clean = refl; short = omega arith }) (λ after. refl) word in
    record { neat = neat_more (1 + (34 + 35 * length ps)) _ _ (omega arith) whole.neat; told = whole.told }

all_named : (names : Names) (params : List NameId)
    → list_all (is_slot NamedSlot) (map (λ (p : NameId). Named (spelled_at names p)) params) ≡ true
all_named names [] = refl
all_named names (p ∷ ps) = all_named names ps

their_names : (names : Names) (params : List NameId)
    → names_at (map (λ (p : NameId). Named (spelled_at names p)) params) ≡ map (spelled_at names) params
their_names names [] = refl
their_names names (p ∷ ps) = ap (λ (ns : List Spelled). spelled_at names p ∷ ns) (their_names names ps)

pub func_read : (f : Function) → IsName f.name → AreNames f.names → All (IsOfKind f.names General) f.params → length f.params ≤ PARAMS
    → IsLine (func_line f) (Func f.name (map (spelled_at f.names) f.params))
func_read f named all kinds few =
    let texts : List ℕ = flat_map (λ (p : NameId). codes " " ++ name_text f.names p) f.params in
    let tokens : List Token = map (λ (p : NameId). Named (spelled_at f.names p)) f.params in
    let name = first f.name (Word f.name) (35 * length f.params) texts tokens (word_says f.name named)
    (params_read f.names f.params all kinds) (stops f.names f.params) in
    is_line (5 + (34 + 35 * length f.params)) (func_line f) (Word (codes "func") ∷ Word f.name ∷ tokens)
    (Func f.name (map (spelled_at f.names) f.params)) (omega arith)
    (before (codes "func ") (Word (codes "func") ∷ []) 5 (34 + 35 * length f.params) (f.name ++ texts) (Word f.name ∷ tokens)
    (record { clean = refl; short = omega arith }) (λ rest. refl) name)
    (by tokens (all_named f.names f.params) ∙ ap (λ (ns : List Spelled). Some (Func f.name ns)) (their_names f.names f.params))
  where
    by : (ts : List Token) → list_all (is_slot NamedSlot) ts ≡ true
        → shape_of (Word (codes "func") ∷ Word f.name ∷ ts) ≡ Some (Func f.name (names_at ts))
    by ts h = rw h refl

-- ---- terminators

label_there : (blocks : List SourceBlock) (to : ℕ) → All (λ (b : SourceBlock). IsName b.label) blocks → to < length blocks
    → IsName (label_of blocks to)
label_there [] to labels inside = absurd (omega arith)
label_there (block ∷ blocks) zero labels inside = All-head (λ (b : SourceBlock). IsName b.label) block blocks labels
label_there (block ∷ blocks) (suc to) labels inside =
    label_there blocks to (All-tail (λ (b : SourceBlock). IsName b.label) block blocks labels) (omega arith)

branch_read : (word : List ℕ) (token : Token) (label : List ℕ) (line : Line) → Says word token → IsName label
    → shape_of (Word (codes "if") ∷ token ∷ Word (codes "jump") ∷ Word label ∷ []) ≡ Some line
    → IsLine (codes "  if " ++ (word ++ (codes " jump " ++ label))) line
branch_read word token label line says named shape =
    let jump = before (codes " jump ") (Word (codes "jump") ∷ []) 6 34 label (Word label ∷ [])
    (record { clean = refl; short = omega arith }) (λ rest. refl) (only label (Word label) (word_says label named)) in
    let test = first word token 40 (codes " jump " ++ label) (Word (codes "jump") ∷ Word label ∷ []) says jump refl in
    is_line 79 (codes "  if " ++ (word ++ (codes " jump " ++ label)))
    (Word (codes "if") ∷ token ∷ Word (codes "jump") ∷ Word label ∷ []) line (omega arith)
    (before (codes "  if ") (Word (codes "if") ∷ []) 5 74 (word ++ (codes " jump " ++ label))
    (token ∷ Word (codes "jump") ∷ Word label ∷ []) (record { clean = refl; short = omega arith }) (λ rest. refl) test) shape

module _ (blocks : List SourceBlock) (names : Names) (b : ℕ) (all : AreNames names)
    (labels : All (λ (x : SourceBlock). IsName x.label) blocks) (texts : List (List ℕ)) (lines : List Line)
    (later : AreLines texts lines) where
  pub term_read : (term : Term) → TestsItsKind names term → LeadsInside blocks b term
      → AreLines (term_lines blocks names term ++ texts) (body_lines [] (term_as_line blocks names term) lines)
  term_read Fall tests leads = later
  term_read (JumpTo to) tests leads =
      let label = label_there blocks to.0 labels (leads 0 0 (omega arith)).1 in (
        is_line 41 (codes "  jump " ++ label_of blocks to.0) (Word (codes "jump") ∷ Word (label_of blocks to.0) ∷ [])
            (Terminator (Jump (label_of blocks to.0))) (omega arith)
            (before (codes "  jump ") (Word (codes "jump") ∷ []) 7 34 (label_of blocks to.0) (Word (label_of blocks to.0) ∷ [])
            (record { clean = refl; short = omega arith }) (λ rest. refl)
            (only (label_of blocks to.0) (Word (label_of blocks to.0)) (word_says (label_of blocks to.0) label))) refl,
        later,
      )
  term_read (BranchTo pred true to) tests leads = (
    branch_read (name_text names pred) (Named (spelled_at names pred)) (label_of blocks to.0)
        (Terminator (Branch (spelled_at names pred) true (label_of blocks to.0)))
        (name_at_says names Pred pred all tests) (label_there blocks to.0 labels (leads 1 0 (omega arith)).1) refl,
    later,
  )
  term_read (BranchTo pred false to) tests leads = (
    branch_read (33 ∷ name_text names pred) (Negated (spelled_at names pred)) (label_of blocks to.0)
        (Terminator (Branch (spelled_at names pred) false (label_of blocks to.0)))
        (negated_at_says names Pred pred all tests) (label_there blocks to.0 labels (leads 1 0 (omega arith)).1) refl,
    later,
  )
  term_read (Return None) tests leads = (record { neat = record { clean = refl; short = omega arith }; shape = refl }, later)
  term_read (Return (Some name)) tests leads = (
    is_line 40 (codes "  ret " ++ name_text names name) (Word (codes "ret") ∷ Named (spelled_at names name) ∷ [])
        (Terminator (Ret (Some (spelled_at names name)))) (omega arith)
        (before (codes "  ret ") (Word (codes "ret") ∷ []) 6 34 (name_text names name) (Named (spelled_at names name) ∷ [])
        (record { clean = refl; short = omega arith }) (λ rest. refl)
        (only (name_text names name) (Named (spelled_at names name)) (name_at_says names General name all tests))) refl,
    later,
  )
