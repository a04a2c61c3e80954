-- The text of code: `frame` with the size of the frame in bytes, then for each block `block` with its label, and a line
-- for each packet, its instructions between braces.
use Rattle.std.specs.Prelude.{ℕ, ◌-◌, nat_lt, List, [], ◌∷◌, ◌++◌, Option, Some, None, map, codes, slice_get, if◌then◌else◌}
use Rattle.std.specs.List.{flat_map}
use Rattle.std.specs.Fmt.{decimal, signed_decimal}
use Rattle.un_base.specs.Lines.{joined_lines}
use Rattle.un_isa.specs.declared.reg.Reg.{Reg}
use Rattle.un_isa.specs.declared.reg.TheConstants.{GENERALS}
use Rattle.un_isa.specs.declared.instr.Instr.{Instr}
use Rattle.un_packet.specs.declared.code.Packet.{Packet}
use Rattle.un_packet.specs.declared.code.CodeBlock.{CodeBlock}
use Rattle.un_packet.specs.declared.code.Code.{Code}
use Rattle.un_listing.specs.declared.form.Form.{Form}
use Rattle.un_listing.specs.declared.form.Form.TheVariants.{Literal, Copied, Computed, WithLiteral, Loaded, Stored, Reloaded, Spilled}
use Rattle.un_listing.specs.declared.form.Form.TheVariants.{StackMoved, Called, Jumped, JumpedIf, JumpedIfNot, JumpedIfNew, JumpedIfNotNew}
use Rattle.un_listing.specs.declared.form.Form.TheVariants.{Returned, Idle}
use Rattle.un_isa.specs.Facts.{printed_name}
use Rattle.un_listing.specs.Forms.{form_of}

-- the texts of things, with a separator between them
abbrev pub joined : {X : Type 0} → List ℕ → (X → List ℕ) → List X → List ℕ
joined separator text [] = []
joined separator text (x ∷ xs) = text x ++ flat_map (λ y. separator ++ text y) xs

-- `r0` to `r31`, then `p0` and so on
abbrev pub reg_text : Reg → List ℕ
reg_text r = if nat_lt r.0 GENERALS then codes "r" ++ decimal r.0 else codes "p" ++ decimal (r.0 - GENERALS)

-- a register that is not there has the empty text
abbrev pub some_reg_text : Option Reg → List ℕ
some_reg_text None = []
some_reg_text (Some r) = reg_text r

abbrev pub operand_text : Instr → ℕ → List ℕ
operand_text i k = some_reg_text (slice_get i.srcs k)

-- all operands, between parentheses
abbrev pub operands_text : Instr → List ℕ
operands_text i = codes "(" ++ joined (codes ",") reg_text i.srcs ++ codes ")"

abbrev pub literal_text : Instr → List ℕ
literal_text i = codes "#" ++ signed_decimal i.imm

-- the register that an instruction writes, and `=`
abbrev pub result_text : Instr → List ℕ
result_text i = some_reg_text i.dst ++ codes " = "

-- the word at a register with an offset
abbrev pub word_text : List ℕ → Instr → List ℕ
word_text base i = codes "memw(" ++ base ++ codes "+" ++ literal_text i ++ codes ")"

-- a label that is not there has the empty text
abbrev pub label_text : Option (List ℕ) → List ℕ
label_text None = []
label_text (Some label) = label

abbrev pub text_in : Form → Instr → List ℕ
text_in Literal i = result_text i ++ literal_text i
text_in Copied i = result_text i ++ operand_text i 0
text_in Computed i = result_text i ++ printed_name i.op ++ operands_text i
text_in WithLiteral i = result_text i ++ printed_name i.op ++ codes "(" ++ operand_text i 0 ++ codes "," ++ literal_text i ++ codes ")"
text_in Loaded i = result_text i ++ word_text (operand_text i 0) i
text_in Stored i = word_text (operand_text i 0) i ++ codes " = " ++ operand_text i 1
text_in Reloaded i = result_text i ++ word_text (codes "r29") i
text_in Spilled i = word_text (codes "r29") i ++ codes " = " ++ operand_text i 0
text_in StackMoved i = codes "r29 = add(r29," ++ literal_text i ++ codes ")"
text_in Called i = codes "call " ++ label_text i.label ++ operands_text i
text_in Jumped i = codes "jump " ++ label_text i.label
text_in JumpedIf i = codes "if (" ++ operand_text i 0 ++ codes ") jump " ++ label_text i.label
text_in JumpedIfNot i = codes "if (!" ++ operand_text i 0 ++ codes ") jump " ++ label_text i.label
text_in JumpedIfNew i = codes "if (" ++ operand_text i 0 ++ codes ".new) jump " ++ label_text i.label
text_in JumpedIfNotNew i = codes "if (!" ++ operand_text i 0 ++ codes ".new) jump " ++ label_text i.label
text_in Returned i = codes "jumpr " ++ operand_text i 0
text_in Idle i = codes "nop"

-- the text of an instruction
abbrev pub instr_text : Instr → List ℕ
instr_text i = text_in (form_of i.op) i

-- the line of a packet
abbrev pub packet_line : Packet → List ℕ
packet_line packet = codes "{ " ++ joined (codes "; ") instr_text packet.instrs ++ codes " }"

-- the lines of a block
abbrev pub block_lines : CodeBlock → List (List ℕ)
block_lines block = (codes "block " ++ block.label) ∷ map packet_line block.packets

-- the lines of code
abbrev pub code_lines : Code → List (List ℕ)
code_lines c = (codes "frame " ++ decimal c.frame) ∷ flat_map block_lines c.blocks

-- the listing of code
abbrev pub code_text : Code → List ℕ
code_text c = joined_lines (code_lines c)
