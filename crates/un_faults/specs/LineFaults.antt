-- The faults of one line, given what stands before it.
use Rattle.std.specs.Prelude.{ℕ, ◌==◌, ◌&&◌, ◌||◌, Bool, true, false, not, nat_lt, nat_le, List, [], ◌∷◌, length, Option, Some, None}
use Rattle.std.specs.Prelude.{is_some, is_none, map, take, slice_get, if◌then◌else◌}
use Rattle.std.specs.List.{list_all, list_any, zip}
use Rattle.std.specs.Option.{option_map_or, option_and_then}
use Rattle.std.specs.Str.{bytes_eq}
use Rattle.un_isa.specs.declared.op.Op.{Op}
use Rattle.un_isa.specs.declared.reg.Space.{Space}
use Rattle.un_isa.specs.Facts.{operand_spaces, result_space}
use Rattle.un_isa.specs.Does.{is_call}
use Rattle.un_ir.specs.WellFormed.{kind_in}
use Rattle.un_faults.specs.Vocabulary.{Pred, Number, TermLine, Jump, Branch, Ret, Line, Blank, Func, Block, Operation, Terminator, Spelled}
use Rattle.un_ir.specs.declared.function.TheConstants.{BLOCKS, OPS, NAMES, FREQUENCY, PARAMS}
use Rattle.un_faults.specs.declared.before.Before.{Before}
use Rattle.un_faults.specs.declared.fault.Fault.{Fault}
use Rattle.un_faults.specs.declared.fault.Fault.TheVariants.{BadByte, BadLine, KindClash, TooMany, WideLiteral, BadFreq, DupLabel, NoBlock}
use Rattle.un_faults.specs.declared.fault.Fault.TheVariants.{AfterEnd}
use Rattle.un_words.specs.Tokens.{tokens_of}
use Rattle.un_words.specs.Shapes.{shape_of, line_of}
use Rattle.un_faults.specs.Before.{same_kind, same_name, numbered, before_of}
use Rattle.un_words.specs.LineNames.{names_on}
use Rattle.un_faults.specs.Literals.{literal_fits}

-- a tab, or a byte from a space to a tilde
abbrev pub is_plain_byte : ℕ → Bool
is_plain_byte b = b == 9 || (nat_le 32 b && nat_le b 126)

-- ---- the place of the line

-- a name stands in the list twice
abbrev pub has_repeat : List Spelled → Bool
has_repeat [] = false
has_repeat (name ∷ names) = list_any (same_name name) names || has_repeat names

-- a `func` line that is not first or repeats a parameter, or another line that is first: where no line before has a
-- fault, the first line that is not blank is a `func` line
abbrev pub is_misplaced : Before → Line → Bool
is_misplaced before Blank = false
is_misplaced before (Func name params) = is_some before.name || has_repeat params
is_misplaced before _ = is_none before.name

-- ---- kinds

abbrev pub is_predicate : Spelled → Bool
is_predicate name = same_kind Pred name.1

-- the name is not of the kind of this space
abbrev pub misfits : Space → Spelled → Bool
misfits space name = not (same_kind (kind_in space) name.1)

-- an operand is not of the kind of its place; a call takes words
abbrev pub operands_clash : Op → List Spelled → Bool
operands_clash op srcs = if is_call op then list_any is_predicate srcs else list_any (λ p. misfits p.0 p.1) (zip (operand_spaces op) srcs)

abbrev pub result_clashes : Op → Option Spelled → Bool
result_clashes op dst = option_map_or (λ name. option_map_or (λ space. misfits space name) (result_space op) false) dst false

abbrev pub term_clashes : TermLine → Bool
term_clashes (Jump to) = false
term_clashes (Branch pred sense to) = not (is_predicate pred)
term_clashes (Ret None) = false
term_clashes (Ret (Some name)) = is_predicate name

-- a name is not of the kind of its place
abbrev pub has_clash : Line → Bool
has_clash Blank = false
has_clash (Func name params) = list_any is_predicate params
has_clash (Block label freq) = false
has_clash (Operation o) = result_clashes o.op o.dst || operands_clash o.op o.srcs
has_clash (Terminator term) = term_clashes term

-- ---- counts

-- more parameters, arguments, blocks or operations than there may be
abbrev pub is_over_limit : Before → Line → Bool
is_over_limit before (Func name params) = nat_lt PARAMS (length params)
is_over_limit before (Block label freq) = nat_le BLOCKS (length before.labels)
is_over_limit before (Operation o) = nat_lt PARAMS (length o.srcs) || nat_le OPS before.ops
is_over_limit before _ = false

-- one of these, or more names
abbrev pub has_too_many : Before → Line → Bool
has_too_many before line = is_over_limit before line || nat_lt NAMES (length (numbered before.names (names_on line)))

-- ---- numbers

-- the literal is outside the range of its operation
abbrev pub is_wide : Line → Bool
is_wide (Operation o) = not (literal_fits o.op o.imm)
is_wide _ = false

abbrev pub freq_fits : Number → Bool
freq_fits n = not n.negative && nat_le 1 n.size && nat_le n.size FREQUENCY

abbrev pub has_bad_freq : Line → Bool
has_bad_freq (Block label freq) = not (freq_fits freq)
has_bad_freq _ = false

-- ---- labels and blocks

abbrev pub repeats_label : Before → Line → Bool
repeats_label before (Block label freq) = list_any (bytes_eq label) before.labels
repeats_label before _ = false

-- an operation or a terminator
abbrev pub is_body : Line → Bool
is_body (Operation o) = true
is_body (Terminator term) = true
is_body _ = false

abbrev pub is_before_block : Before → Line → Bool
is_before_block before line = is_body line && length before.labels == 0

abbrev pub is_after_end : Before → Line → Bool
is_after_end before line = is_body line && before.ended

-- ---- the first fault of a line

-- the faults of a line with a shape in the order in which they count, each with whether the line has it
abbrev pub faults_on : Before → Line → List (Bool × Fault)
faults_on before line =
    (is_misplaced before line, BadLine)
    ∷ (has_clash line, KindClash)
    ∷ (has_too_many before line, TooMany)
    ∷ (is_wide line, WideLiteral)
    ∷ (has_bad_freq line, BadFreq)
    ∷ (repeats_label before line, DupLabel)
    ∷ (is_before_block before line, NoBlock)
    ∷ (is_after_end before line, AfterEnd)
    ∷ []

-- the first that is there
abbrev pub first_of : List (Bool × Fault) → Option Fault
first_of [] = None
first_of (f ∷ fs) = if f.0 then Some f.1 else first_of fs

abbrev pub shaped_fault : Before → Option Line → Option Fault
shaped_fault before None = Some BadLine
shaped_fault before (Some line) = first_of (faults_on before line)

-- the fault of a line, given what stands before it
abbrev pub line_fault : Before → List ℕ → Option Fault
line_fault before bytes = if list_all is_plain_byte bytes then shaped_fault before (shape_of (tokens_of bytes)) else Some BadByte

-- ---- the lines of a text

-- the fault of the line at a place, counted from 0
abbrev pub fault_at : List (List ℕ) → ℕ → Option Fault
fault_at lines k = option_and_then (line_fault (before_of (map line_of (take k lines)))) (slice_get lines k)
