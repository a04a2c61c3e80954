-- The table of the processor, read.
use Rattle.std.specs.Prelude.{ℕ, Bool, ◌&&◌, nat_eq, if◌then◌else◌, slice_index}
use Rattle.std.specs.Int.{bit_at}
use Rattle.un_isa.specs.declared.op.Op.{Op}
use Rattle.un_isa.specs.declared.op.Op.TheVariants.{Imm, Mov, Add, Sub, And, Or, Xor, Addi, Andi, Ori, Mux, CmpEq, CmpGt, CmpGtu, CmpEqi}
use Rattle.un_isa.specs.declared.op.Op.TheVariants.{CmpGti, Mpyi, Asl, Asr, Lsr, Load, Store, Call, Jump, JumpIf, JumpIfNot, Jumpr, Spill}
use Rattle.un_isa.specs.declared.op.Op.TheVariants.{Reload, P2R, R2P, Enter, Leave, Nop, JumpIfNew, JumpIfNotNew}
use Rattle.un_isa.specs.declared.table.Table.{Table}
use Rattle.un_isa.specs.Does.{is_branch, is_compare}

-- the number of an operation, from 0 in the order in which they are listed
abbrev pub number_of : Op → ℕ
number_of Imm = 0
number_of Mov = 1
number_of Add = 2
number_of Sub = 3
number_of And = 4
number_of Or = 5
number_of Xor = 6
number_of Addi = 7
number_of Andi = 8
number_of Ori = 9
number_of Mux = 10
number_of CmpEq = 11
number_of CmpGt = 12
number_of CmpGtu = 13
number_of CmpEqi = 14
number_of CmpGti = 15
number_of Mpyi = 16
number_of Asl = 17
number_of Asr = 18
number_of Lsr = 19
number_of Load = 20
number_of Store = 21
number_of Call = 22
number_of Jump = 23
number_of JumpIf = 24
number_of JumpIfNot = 25
number_of Jumpr = 26
number_of Spill = 27
number_of Reload = 28
number_of P2R = 29
number_of R2P = 30
number_of Enter = 31
number_of Leave = 32
number_of Nop = 33
number_of JumpIfNew = 34
number_of JumpIfNotNew = 35

-- the latency of an operation, in cycles
abbrev pub latency_of : Table → Op → ℕ
latency_of t op = slice_index t.lat (number_of op)

-- a jump may test what a compare of its own packet writes
abbrev pub is_fresh : Table → Op → Op → Bool
is_fresh t definer user = is_branch user && is_compare definer && t.fresh

-- how many cycles after its definer an instruction that reads what that writes may issue: the definer's latency, but where a jump may
-- test what a compare of its own packet writes
abbrev pub gap_by : Table → Op → Op → ℕ
gap_by t definer user = if is_fresh t definer user then 0 else latency_of t definer

-- whether register r is in a mask
abbrev pub in_mask : ℕ → ℕ → Bool
in_mask mask r = nat_eq (bit_at mask r) 1
