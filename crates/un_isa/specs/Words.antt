-- What each operation computes on words of 32 bits, as the Hexagon V4 Programmer's Reference Manual has it.
-- A predicate is 1 for true and 0 for false.
use Rattle.std.specs.Prelude.{ℕ, ℤ, ◌+◌, ◌-◌, ◌*◌, ◌/◌, ◌%◌, ◌^◌, Bool, nat_eq, nat_lt, int_lt, if◌then◌else◌, bit_and, bit_or, bit_xor}
use Rattle.std.specs.Prelude.{unsigned_abs, List, slice_index}
use Rattle.std.specs.Int.{w32, cast_unsigned, cast_signed, int_shr}
use Rattle.un_isa.specs.declared.op.Op.{Op}
use Rattle.un_isa.specs.declared.op.Op.TheVariants.{Imm, Mov, Add, Sub, And, Or, Xor, Addi, Andi, Ori, Mux, CmpEq, CmpGt, CmpGtu, CmpEqi}
use Rattle.un_isa.specs.declared.op.Op.TheVariants.{CmpGti, Mpyi, Asl, Asr, Lsr, Load, Store, Call, Jump, JumpIf, JumpIfNot, Jumpr, Spill}
use Rattle.un_isa.specs.declared.op.Op.TheVariants.{Reload, P2R, R2P, Enter, Leave, Nop, JumpIfNew, JumpIfNotNew}

-- a number as a word
abbrev pub word_of : ℤ → ℕ
word_of n = cast_unsigned w32 n

-- a word as a signed number
abbrev pub signed_of : ℕ → ℤ
signed_of a = cast_signed w32 a

abbrev pub sum_of : ℕ → ℕ → ℕ
sum_of a b = (a + b) % 2 ^ 32

abbrev pub truth_of : Bool → ℕ
truth_of b = if b then 1 else 0

-- what an operation computes of two or three operands and its literal
abbrev pub value_of : Op → ℕ → ℕ → ℕ → ℤ → ℕ
value_of Imm a b c n = word_of n
value_of Mov a b c n = a
value_of Add a b c n = sum_of a b
value_of Sub a b c n = (a + (2 ^ 32 - b)) % 2 ^ 32
value_of And a b c n = bit_and a b
value_of Or a b c n = bit_or a b
value_of Xor a b c n = bit_xor a b
value_of Addi a b c n = sum_of a (word_of n)
value_of Andi a b c n = bit_and a (word_of n)
value_of Ori a b c n = bit_or a (word_of n)
value_of Mux p a b n = if nat_eq p 0 then b else a
value_of CmpEq a b c n = truth_of (nat_eq a b)
value_of CmpGt a b c n = truth_of (int_lt (signed_of b) (signed_of a))
value_of CmpGtu a b c n = truth_of (nat_lt b a)
value_of CmpEqi a b c n = truth_of (nat_eq a (word_of n))
value_of CmpGti a b c n = truth_of (int_lt n (signed_of a))
value_of Mpyi a b c n = a * b % 2 ^ 32
value_of Asl a b c n = a * 2 ^ unsigned_abs n % 2 ^ 32
value_of Asr a b c n = word_of (int_shr (signed_of a) (unsigned_abs n))
value_of Lsr a b c n = a / 2 ^ unsigned_abs n
value_of P2R p b c n = if nat_eq p 0 then 0 else 255
value_of R2P a b c n = a % 2
value_of Load a b c n = 0
value_of Store a b c n = 0
value_of Call a b c n = 0
value_of Jump a b c n = 0
value_of JumpIf a b c n = 0
value_of JumpIfNot a b c n = 0
value_of Jumpr a b c n = 0
value_of Spill a b c n = 0
value_of Reload a b c n = 0
value_of Enter a b c n = 0
value_of Leave a b c n = 0
value_of Nop a b c n = 0
value_of JumpIfNew a b c n = 0
value_of JumpIfNotNew a b c n = 0

-- the same of a list of operands
abbrev pub eval : Op → List ℕ → ℤ → ℕ
eval op xs n = value_of op (slice_index xs 0) (slice_index xs 1) (slice_index xs 2) n

-- the address of an access: the base and the offset, which wrap at 32 bits
abbrev pub address_of : ℕ → ℤ → ℕ
address_of base offset = sum_of base (word_of offset)
