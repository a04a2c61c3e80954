-- One datum an operation. What any table says of an operation is read off it.
use Rattle.std.specs.Prelude.{ℕ, Bool, is_some, List, [], ◌∷◌, Option, Some, None, length, codes, slice_get, unwrap_or}
use Rattle.un_isa.specs.declared.op.Op.{Op}
use Rattle.un_isa.specs.declared.op.Op.TheVariants.{Imm, Mov, Add, Sub, And, Or, Xor, Addi, Andi, Ori, Mux, CmpEq, CmpGt, CmpGtu, CmpEqi}
use Rattle.un_isa.specs.declared.op.Op.TheVariants.{CmpGti, Mpyi, Asl, Asr, Lsr, Load, Store, Call, Jump, JumpIf, JumpIfNot, Jumpr, Spill}
use Rattle.un_isa.specs.declared.op.Op.TheVariants.{Reload, P2R, R2P, Enter, Leave, Nop, JumpIfNew, JumpIfNotNew}
use Rattle.un_isa.specs.declared.reg.Space.{Space}
use Rattle.un_isa.specs.declared.reg.Space.TheVariants.{R, P}
use Rattle.un_isa.specs.declared.facts.Class.{Class}
use Rattle.un_isa.specs.declared.facts.Class.TheVariants.{Alu32, Xtype, Loading, Storing, Control, Nothing}
use Rattle.un_isa.specs.declared.facts.Range.{Range}
use Rattle.un_isa.specs.declared.facts.Range.TheVariants.{Signed16, Signed10, Unsigned5, Offset, FrameOffset}
use Rattle.un_isa.specs.declared.does.Does.{Does}
use Rattle.un_isa.specs.declared.does.Does.TheVariants.{Computes, Compares, Moves, Loads, Stores, Spills, Reloads, Calls, Jumps, Returns}
use Rattle.un_isa.specs.declared.does.Does.TheVariants.{OpensFrame, ClosesFrame, Rests}
use Rattle.un_isa.specs.declared.does.When.TheVariants.{Always, IfTrue, IfFalse, IfNewTrue, IfNewFalse}

-- the operands of an operation: a fixed number of them, each in its space, or any number of general registers
pub data Operands : Type 0 where
  Fixed : List Space → Operands
  Arguments : Operands

-- what it does; its class; its latency in cycles; its operands; the space of its result, where it has one; the range of its
-- literal, where it has one; its word in the text of a function, where it stands there as an operation; its word as it is
-- printed, where it has one
pub record Facts : Type 0 where
  pub does : Does
  pub class : Class
  pub latency : ℕ
  pub operands : Operands
  pub result : Option Space
  pub literal : Option Range
  pub source : Option (List ℕ)
  pub printed : List ℕ

-- an operation that a function's text may have, whose word is printed too or not
abbrev in_text : Does → Class → ℕ → List Space → Option Space → Option Range → List ℕ → List ℕ → Facts
in_text does class latency spaces result literal word printed = record {
  does = does;
  class = class;
  latency = latency;
  operands = Fixed spaces;
  result = result;
  literal = literal;
  source = Some word;
  printed = printed;
}

-- an operation that stands in code alone
abbrev in_code : Does → Class → ℕ → List Space → Option Space → Option Range → List ℕ → Facts
in_code does class latency spaces result literal printed = record {
  does = does;
  class = class;
  latency = latency;
  operands = Fixed spaces;
  result = result;
  literal = literal;
  source = None;
  printed = printed;
}

abbrev none : {A : Type 0} → List A
none = []

abbrev one : Space → List Space
one s = s ∷ []

abbrev two : Space → Space → List Space
two s t = s ∷ t ∷ []

abbrev pub facts_of : Op → Facts
facts_of Imm = in_text Computes Alu32 1 none (Some R) (Some Signed16) (codes "imm") none
facts_of Mov = in_text Moves Alu32 1 (one R) (Some R) None (codes "mov") none
facts_of Add = in_text Computes Alu32 1 (two R R) (Some R) None (codes "add") (codes "add")
facts_of Sub = in_text Computes Alu32 1 (two R R) (Some R) None (codes "sub") (codes "sub")
facts_of And = in_text Computes Alu32 1 (two R R) (Some R) None (codes "and") (codes "and")
facts_of Or = in_text Computes Alu32 1 (two R R) (Some R) None (codes "or") (codes "or")
facts_of Xor = in_text Computes Alu32 1 (two R R) (Some R) None (codes "xor") (codes "xor")
facts_of Addi = in_text Computes Alu32 1 (one R) (Some R) (Some Signed16) (codes "addi") (codes "add")
facts_of Andi = in_text Computes Alu32 1 (one R) (Some R) (Some Signed10) (codes "andi") (codes "and")
facts_of Ori = in_text Computes Alu32 1 (one R) (Some R) (Some Signed10) (codes "ori") (codes "or")
facts_of Mux = in_text Computes Alu32 1 (P ∷ R ∷ R ∷ []) (Some R) None (codes "mux") (codes "mux")
facts_of CmpEq = in_text Compares Alu32 1 (two R R) (Some P) None (codes "cmpeq") (codes "cmp.eq")
facts_of CmpGt = in_text Compares Alu32 1 (two R R) (Some P) None (codes "cmpgt") (codes "cmp.gt")
facts_of CmpGtu = in_text Compares Alu32 1 (two R R) (Some P) None (codes "cmpgtu") (codes "cmp.gtu")
facts_of CmpEqi = in_text Compares Alu32 1 (one R) (Some P) (Some Signed10) (codes "cmpeqi") (codes "cmp.eq")
facts_of CmpGti = in_text Compares Alu32 1 (one R) (Some P) (Some Signed10) (codes "cmpgti") (codes "cmp.gt")
facts_of Mpyi = in_text Computes Xtype 2 (two R R) (Some R) None (codes "mpyi") (codes "mpyi")
facts_of Asl = in_text Computes Xtype 1 (one R) (Some R) (Some Unsigned5) (codes "asl") (codes "asl")
facts_of Asr = in_text Computes Xtype 1 (one R) (Some R) (Some Unsigned5) (codes "asr") (codes "asr")
facts_of Lsr = in_text Computes Xtype 1 (one R) (Some R) (Some Unsigned5) (codes "lsr") (codes "lsr")
facts_of Load = in_text Loads Loading 2 (one R) (Some R) (Some Offset) (codes "load") (codes "memw")
facts_of Store = in_text Stores Storing 1 (two R R) None (Some Offset) (codes "store") (codes "memw")
facts_of Call = record {
  does = Calls;
  class = Control;
  latency = 1;
  operands = Arguments;
  result = Some R;
  literal = None;
  source = Some (codes "call");
  printed = codes "call";
}
facts_of Jump = in_code (Jumps Always) Control 1 none None None (codes "jump")
facts_of JumpIf = in_code (Jumps IfTrue) Control 1 (one P) None None (codes "jump")
facts_of JumpIfNot = in_code (Jumps IfFalse) Control 1 (one P) None None (codes "jump")
facts_of Jumpr = in_code Returns Control 1 (one R) None None (codes "jumpr")
facts_of Spill = in_code Spills Storing 1 (one R) None (Some FrameOffset) (codes "memw")
facts_of Reload = in_code Reloads Loading 2 none (Some R) (Some FrameOffset) (codes "memw")
facts_of P2R = in_code Moves Xtype 1 (one P) (Some R) None none
facts_of R2P = in_code Moves Xtype 1 (one R) (Some P) None none
facts_of Enter = in_code OpensFrame Alu32 1 none None None (codes "add")
facts_of Leave = in_code ClosesFrame Alu32 1 none None None (codes "add")
facts_of Nop = in_code Rests Nothing 1 none None None (codes "nop")
facts_of JumpIfNew = in_code (Jumps IfNewTrue) Control 1 (one P) None None (codes "jump")
facts_of JumpIfNotNew = in_code (Jumps IfNewFalse) Control 1 (one P) None None (codes "jump")

-- all operations, by their numbers
abbrev pub all_ops : List Op
all_ops = Imm ∷ Mov ∷ Add ∷ Sub ∷ And ∷ Or ∷ Xor ∷ Addi ∷ Andi ∷ Ori ∷ Mux ∷ CmpEq ∷ CmpGt ∷ CmpGtu ∷ CmpEqi ∷ CmpGti ∷ Mpyi ∷ Asl ∷ Asr ∷
    Lsr ∷ Load ∷ Store ∷ Call ∷ Jump ∷ JumpIf ∷ JumpIfNot ∷ Jumpr ∷ Spill ∷ Reload ∷ P2R ∷ R2P ∷ Enter ∷ Leave ∷ Nop ∷
    JumpIfNew ∷ JumpIfNotNew ∷ []

abbrev pub does_of : Op → Does
does_of op = (facts_of op).does

abbrev pub class_of : Op → Class
class_of op = (facts_of op).class

-- the latency of an operation on HEXAGON
abbrev pub latency_by : Op → ℕ
latency_by op = (facts_of op).latency

abbrev pub fixed_spaces : Operands → List Space
fixed_spaces (Fixed spaces) = spaces
fixed_spaces Arguments = []

-- the spaces of the operands; those of a call depend on its callee, and are not listed
abbrev pub operand_spaces : Op → List Space
operand_spaces op = fixed_spaces (facts_of op).operands

-- how many operands an operation has, those of a call left out
abbrev pub operand_count : Op → ℕ
operand_count op = length (operand_spaces op)

abbrev pub space_in : Operands → ℕ → Option Space
space_in (Fixed spaces) j = slice_get spaces j
space_in Arguments j = Some R

-- the space of the operand at place j, from 0
abbrev pub operand_space : Op → ℕ → Option Space
operand_space op j = space_in (facts_of op).operands j

-- the space of the result
abbrev pub result_space : Op → Option Space
result_space op = (facts_of op).result

abbrev pub literal_range : Op → Option Range
literal_range op = (facts_of op).literal

-- an operation that may stand in the text of a function
abbrev pub is_source : Op → Bool
is_source op = is_some (facts_of op).source

-- its word there, and as it is printed; the empty text where it has none
abbrev pub source_name : Op → List ℕ
source_name op = unwrap_or (facts_of op).source []

abbrev pub printed_name : Op → List ℕ
printed_name op = (facts_of op).printed
