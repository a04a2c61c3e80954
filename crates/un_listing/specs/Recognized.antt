-- The instruction that words spell, if they are the words of one.
use Rattle.std.specs.Prelude.{ℕ, ℤ, pos, negsuc, Bool, true, false, ◌==◌, List, [], ◌∷◌, Option, Some, None, codes, slice_get, take, drop}
use Rattle.std.specs.Prelude.{nat_lt, is_some, unwrap_or, if◌then◌else◌}
use Rattle.std.specs.List.{filter_map, find}
use Rattle.std.specs.Option.{option_and_then, option_map, option_map_or}
use Rattle.std.specs.Str.{bytes_eq}
use Rattle.un_isa.specs.declared.op.Op.{Op}
use Rattle.un_isa.specs.declared.op.Op.TheVariants.{Imm, Mov, Add, Sub, And, Or, Xor, Addi, Andi, Ori, Mux, CmpEq, CmpGt, CmpGtu, CmpEqi}
use Rattle.un_isa.specs.declared.op.Op.TheVariants.{CmpGti, Mpyi, Asl, Asr, Lsr, Load, Store, Call, Jump, JumpIf, JumpIfNot, Jumpr, Spill}
use Rattle.un_isa.specs.declared.op.Op.TheVariants.{JumpIfNew, JumpIfNotNew}
use Rattle.un_isa.specs.declared.op.Op.TheVariants.{Reload, P2R, R2P, Enter, Leave, Nop}
use Rattle.un_isa.specs.declared.reg.TheConstants.{STACK, GENERALS}
use Rattle.un_isa.specs.declared.reg.Reg.{Reg}
use Rattle.un_isa.specs.declared.instr.Instr.{Instr}
use Rattle.un_listing.specs.declared.form.Form.{Form}
use Rattle.un_listing.specs.declared.form.Form.TheVariants.{Literal as LiteralForm, Reloaded, Spilled, StackMoved, Called, Jumped, JumpedIf}
use Rattle.un_listing.specs.declared.form.Form.TheVariants.{JumpedIfNot, JumpedIfNew, JumpedIfNotNew, Idle, Stored, Returned, Copied, Computed, WithLiteral, Loaded}
use Rattle.un_isa.specs.Facts.{printed_name}
use Rattle.un_listing.specs.Forms.{form_of}
use Rattle.un_listing.specs.declared.word.Word.{Word}
use Rattle.un_listing.specs.declared.word.Word.TheVariants.{Named, Literal, Negated, NegatedFresh, Other}
use Rattle.un_listing.specs.ListingWords.{reg_of, fresh_of}

-- ---- words at their places

-- none of the forms where there is none
abbrev pub word_at : ℕ → List Word → Word
word_at k ws = unwrap_or (slice_get ws k) Other

abbrev pub name_in : Word → Option (List ℕ)
name_in (Named name) = Some name
name_in _ = None

abbrev pub name_at : ℕ → List Word → Option (List ℕ)
name_at k ws = name_in (word_at k ws)

abbrev pub is_word_at : ℕ → List ℕ → List Word → Bool
is_word_at k text ws = option_map_or (λ name. bytes_eq name text) (name_at k ws) false

-- the register, also behind `!`
abbrev pub reg_in : Word → Option Reg
reg_in (Named name) = reg_of name
reg_in (Negated reg) = Some reg
reg_in _ = None

abbrev pub reg_at : ℕ → List Word → Option Reg
reg_at k ws = reg_in (word_at k ws)

-- the register before `.new`, also behind `!`
abbrev pub fresh_in : Word → Option Reg
fresh_in (Named name) = fresh_of name
fresh_in (NegatedFresh reg) = Some reg
fresh_in _ = None

abbrev pub is_fresh_at : ℕ → List Word → Bool
is_fresh_at k ws = is_some (fresh_in (word_at k ws))

abbrev pub is_general : Reg → Bool
is_general r = nat_lt r.0 GENERALS

abbrev pub is_stack : Reg → Bool
is_stack r = r.0 == STACK

abbrev pub is_stack_at : ℕ → List Word → Bool
is_stack_at k ws = option_map_or is_stack (reg_at k ws) false

abbrev pub literal_in : Word → Option ℤ
literal_in (Literal n) = Some n
literal_in _ = None

abbrev pub literal_at : ℕ → List Word → Option ℤ
literal_at k ws = literal_in (word_at k ws)

abbrev pub is_negated : Word → Bool
is_negated (Negated reg) = true
is_negated (NegatedFresh reg) = true
is_negated _ = false

abbrev pub is_negated_at : ℕ → List Word → Bool
is_negated_at k ws = is_negated (word_at k ws)

-- the first literal
abbrev pub literal_or : ℤ → Word → ℤ
literal_or n (Literal m) = m
literal_or n _ = n

abbrev pub literal_of_words : List Word → ℤ
literal_of_words [] = pos 0
literal_of_words (w ∷ ws) = literal_or (literal_of_words ws) w

-- ---- operations

-- those of the forms with a mnemonic
abbrev pub computed_ops : List Op
computed_ops = Add ∷ Sub ∷ And ∷ Or ∷ Xor ∷ Mpyi ∷ Mux ∷ CmpEq ∷ CmpGt ∷ CmpGtu ∷ []

abbrev pub literal_ops : List Op
literal_ops = Addi ∷ Andi ∷ Ori ∷ CmpEqi ∷ CmpGti ∷ Asl ∷ Asr ∷ Lsr ∷ []

abbrev pub op_with : List Op → List ℕ → Option Op
op_with ops word = find (λ op. bytes_eq word (printed_name op)) ops

-- a copy, by whether the register that is written and the one that is read are general
abbrev pub copy_between : Bool → Bool → Op
copy_between true true = Mov
copy_between true false = P2R
copy_between false _ = R2P

abbrev pub is_minus : ℤ → Bool
is_minus (pos n) = false
is_minus (negsuc n) = true

abbrev pub moved_by : ℤ → Op
moved_by n = if is_minus n then Enter else Leave

-- a jump by a predicate, which is negated or not, and fresh or not
abbrev pub branch_by : Bool → Bool → Op
branch_by false false = JumpIf
branch_by true false = JumpIfNot
branch_by false true = JumpIfNew
branch_by true true = JumpIfNotNew

-- an operation that writes a register, the first word
abbrev pub assigned_op : Reg → List Word → Option Op
assigned_op d ws =
    if is_some (literal_at 1 ws) then Some Imm
    else (if is_some (reg_at 1 ws) then option_map (λ a. copy_between (is_general d) (is_general a)) (reg_at 1 ws)
    else (if is_word_at 1 (codes "memw") ws then Some (if is_stack_at 2 ws then Reload else Load)
    else (if is_some (literal_at 3 ws)
    then (if is_stack d then option_map moved_by (literal_at 3 ws) else option_and_then (op_with literal_ops) (name_at 1 ws))
    else option_and_then (op_with computed_ops) (name_at 1 ws))))

-- one that is printed with a word of its own first
abbrev pub worded_op : List Word → Option Op
worded_op ws =
    if is_word_at 0 (codes "nop") ws then Some Nop
    else (if is_word_at 0 (codes "jump") ws then Some Jump
    else (if is_word_at 0 (codes "jumpr") ws then Some Jumpr
    else (if is_word_at 0 (codes "call") ws then Some Call
    else (if is_word_at 0 (codes "if") ws then Some (branch_by (is_negated_at 1 ws) (is_fresh_at 1 ws))
    else (if is_word_at 0 (codes "memw") ws then Some (if is_stack_at 1 ws then Spill else Store)
    else None)))))

abbrev pub op_of : List Word → Option Op
op_of ws = option_map_or (λ d. assigned_op d ws) (reg_at 0 ws) (worded_op ws)

-- ---- the instruction

-- whether the first word is the register that is written
abbrev pub has_result : Form → Bool
has_result LiteralForm = true
has_result Copied = true
has_result Computed = true
has_result WithLiteral = true
has_result Loaded = true
has_result Reloaded = true
has_result _ = false

-- the place of the first word that is an operand
abbrev pub first_operand : Form → ℕ
first_operand Copied = 1
first_operand Stored = 1
first_operand JumpedIf = 1
first_operand JumpedIfNot = 1
first_operand JumpedIfNew = 1
first_operand JumpedIfNotNew = 1
first_operand Returned = 1
first_operand _ = 2

-- how many words from there on may be operands
abbrev pub operand_words : Form → ℕ
operand_words Computed = 3
operand_words Called = 6
operand_words Stored = 3
operand_words Spilled = 2
operand_words LiteralForm = 0
operand_words Reloaded = 0
operand_words StackMoved = 0
operand_words Jumped = 0
operand_words Idle = 0
operand_words _ = 1

-- the register of such a word
abbrev pub operand_in : Form → Word → Option Reg
operand_in JumpedIfNew w = fresh_in w
operand_in JumpedIfNotNew w = fresh_in w
operand_in _ w = reg_in w

abbrev pub operands_in : Form → List Word → List Reg
operands_in form ws = filter_map (operand_in form) (take (operand_words form) (drop (first_operand form) ws))

-- the label
abbrev pub label_in : Form → List Word → Option (List ℕ)
label_in Called ws = name_at 1 ws
label_in Jumped ws = name_at 1 ws
label_in JumpedIf ws = name_at 3 ws
label_in JumpedIfNot ws = name_at 3 ws
label_in JumpedIfNew ws = name_at 3 ws
label_in JumpedIfNotNew ws = name_at 3 ws
label_in _ ws = None

abbrev pub result_in : Form → List Word → Option Reg
result_in form ws = if has_result form then reg_at 0 ws else None

abbrev pub instr_with : Op → List Word → Instr
instr_with op ws = record {
  op = op;
  dst = result_in (form_of op) ws;
  srcs = operands_in (form_of op) ws;
  imm = literal_of_words ws;
  label = label_in (form_of op) ws;
}

abbrev pub instr_of : List Word → Option Instr
instr_of ws = option_map (λ op. instr_with op ws) (op_of ws)
