-- The names of the operations in the text of a table.
use Rattle.std.specs.Prelude.{ℕ, ◌≡◌, List, codes}
use Rattle.un_isa.specs.declared.op.Op.{Op}
use Rattle.un_isa.specs.declared.op.Op.TheVariants.{Imm, Mov, Add, Sub, And, Or, Xor, Addi, Andi, Ori, Mux, CmpEq, CmpGt, CmpGtu, CmpEqi}
use Rattle.un_isa.specs.declared.op.Op.TheVariants.{CmpGti, Mpyi, Asl, Asr, Lsr, Load, Store, Call, Jump, JumpIf, JumpIfNot, Jumpr, Spill}
use Rattle.un_isa.specs.declared.op.Op.TheVariants.{Reload, P2R, R2P, Enter, Leave, Nop, JumpIfNew, JumpIfNotNew}

-- the name of an operation
abbrev pub name_of : Op → List ℕ
name_of Imm = codes "Imm"
name_of Mov = codes "Mov"
name_of Add = codes "Add"
name_of Sub = codes "Sub"
name_of And = codes "And"
name_of Or = codes "Or"
name_of Xor = codes "Xor"
name_of Addi = codes "Addi"
name_of Andi = codes "Andi"
name_of Ori = codes "Ori"
name_of Mux = codes "Mux"
name_of CmpEq = codes "CmpEq"
name_of CmpGt = codes "CmpGt"
name_of CmpGtu = codes "CmpGtu"
name_of CmpEqi = codes "CmpEqi"
name_of CmpGti = codes "CmpGti"
name_of Mpyi = codes "Mpyi"
name_of Asl = codes "Asl"
name_of Asr = codes "Asr"
name_of Lsr = codes "Lsr"
name_of Load = codes "Load"
name_of Store = codes "Store"
name_of Call = codes "Call"
name_of Jump = codes "Jump"
name_of JumpIf = codes "JumpIf"
name_of JumpIfNot = codes "JumpIfNot"
name_of Jumpr = codes "Jumpr"
name_of Spill = codes "Spill"
name_of Reload = codes "Reload"
name_of P2R = codes "P2R"
name_of R2P = codes "R2P"
name_of Enter = codes "Enter"
name_of Leave = codes "Leave"
name_of Nop = codes "Nop"
name_of JumpIfNew = codes "JumpIfNew"
name_of JumpIfNotNew = codes "JumpIfNotNew"

-- a text that is the name of an operation
abbrev pub IsNamed : List ℕ → Type 0
IsNamed text = (op : Op) × (text ≡ name_of op)
