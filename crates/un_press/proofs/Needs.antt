-- Which instructions give a slot, and which read one: a Spill alone gives one, and a Reload alone reads one.
use Rattle.std.proofs.Common.{ℕ, zero, suc, ◌≡◌, ◌<◌, ◌≤◌, Bool, true, false, List, [], ◌∷◌, map, length, refl, arith}
use Rattle.std.specs.Prelude.{Option, Some, None, slice_get, is_some, nat_lt, ◌==◌, if◌then◌else◌}
use Rattle.std.specs.List.{list_all}
use Rattle.std.specs.Option.{option_to_list}
use Rattle.std.proofs.lemmas.Bool.Decides.{nat_tests}
use Rattle.un_base.specs.declared.ids.NameId.{NameId}
use Rattle.un_isa.specs.Facts.{is_source, operand_spaces}
use Rattle.un_isa.specs.declared.op.Op.{Op}
use Rattle.un_isa.specs.declared.op.Op.TheVariants.{Mov, Store, Call, Spill, Reload, P2R, R2P}
use Rattle.un_isa.specs.declared.reg.Space.{Space}
use Rattle.un_isa.specs.declared.reg.Space.TheVariants.{R, P, M}
use Rattle.un_isa.specs.declared.reg.TheConstants.{FIRST_SLOT, REGISTERS}
use Rattle.un_isa.specs.declared.table.Table.{Table}
use Rattle.un_isa.proofs.DoesLaws.{so_holds}
use Rattle.un_ir.specs.declared.function.SrcOp.{SrcOp}
use Rattle.un_ir.specs.declared.function.Term.{Term}
use Rattle.un_ir.specs.declared.function.Term.TheVariants.{Fall, Jump, Branch, Ret}
use Rattle.un_ir.specs.Extended.{HasItsResult, Want, anywhere, wants_of_op, wants_of_end}
use Rattle.un_ir.specs.WellFormed.{kind_in}
use Rattle.un_model.specs.Instructions.{copy_of, transfer_of, operand_space_in, result_space_in, space_given, space_read}
use Rattle.un_model.specs.Solutions.{InSpace}

-- a space of registers
abbrev pub in_registers : Option Space → Bool
in_registers (Some R) = true
in_registers (Some P) = true
in_registers _ = false

space_by : Bool → Bool → Space
space_by b c = if b then R else if c then P else M

-- a register in such a space is no slot
pub no_slot : (reg : ℕ) (s : Option Space) → InSpace reg s → in_registers s ≡ true → reg < REGISTERS
no_slot reg None h t = absurd (cc t)
no_slot reg (Some M) h t = absurd (cc t)
no_slot reg (Some R) h t = by (nat_lt reg 32) (nat_lt reg FIRST_SLOT) refl h
  where
    by : (b c : Bool) → nat_lt reg 32 ≡ b → (if b then R else if c then P else M) ≡ R → reg < REGISTERS
    by true c p e = grind (arith, nat_tests, p)
    by false true p e = absurd (cc e)
    by false false p e = absurd (cc e)
no_slot reg (Some P) h t = by (nat_lt reg 32) (nat_lt reg FIRST_SLOT) refl refl h
  where
    by : (b c : Bool) → nat_lt reg 32 ≡ b → nat_lt reg FIRST_SLOT ≡ c → (if b then R else if c then P else M) ≡ P → reg < REGISTERS
    by b true p q e = grind (arith, nat_tests, q)
    by true false p q e = absurd (cc e)
    by false false p q e = absurd (cc e)

-- ---- operations of the source

-- what such an operation gives is in a register
pub gives_register : (op : Op) (dst : Option NameId) → is_source op ≡ true → HasItsResult op dst → 0 < length (option_to_list dst)
    → in_registers (result_space_in op) ≡ true
gives_register Store None s h lt = absurd (omega (arith, lt))
gives_register Store (Some name) s h lt = absurd (cc h)
gives_register op dst s h lt = so_holds (is_source op) (in_registers (result_space_in op)) refl s

abbrev is_register : Space → Bool
is_register R = true
is_register P = true
is_register M = false

all_registers : (op : Op) → list_all is_register (operand_spaces op) ≡ true
all_registers Mov = refl
all_registers op = refl

listed : (spaces : List Space) (j : ℕ) (want : Want) → list_all is_register spaces ≡ true
    → slice_get (map anywhere (map kind_in spaces)) j ≡ Some want → in_registers (slice_get spaces j) ≡ true
listed [] j want all e = absurd (cc e)
listed (R ∷ spaces) zero want all e = refl
listed (P ∷ spaces) zero want all e = refl
listed (M ∷ spaces) j want all e = absurd (cc all)
listed (R ∷ spaces) (suc j) want all e = listed spaces j want all e
listed (P ∷ spaces) (suc j) want all e = listed spaces j want all e

-- and what it reads
pub reads_register : (t : Table) (o : SrcOp) (op : Op) (j : ℕ) (want : Want) → is_source op ≡ true
    → slice_get (wants_of_op t o op) j ≡ Some want → in_registers (operand_space_in op j) ≡ true
reads_register t o Call j want s e = refl
reads_register t o Reload j want s e = absurd (cc s)
reads_register t o op j want s e = listed (operand_spaces op) j want (all_registers op) e

-- and what a terminator reads
pub ends_register : (term : Term) (j : ℕ) (want : Want) → slice_get (wants_of_end term) j ≡ Some want
    → in_registers (space_read (transfer_of term) j) ≡ true
ends_register Fall j want e = absurd (cc e)
ends_register (Jump to) j want e = absurd (cc e)
ends_register (Branch pred true to) zero want e = refl
ends_register (Branch pred true to) (suc j) want e = absurd (cc e)
ends_register (Branch pred false to) zero want e = refl
ends_register (Branch pred false to) (suc j) want e = absurd (cc e)
ends_register (Ret value) zero want e = refl
ends_register (Ret value) (suc j) want e = absurd (cc e)

-- ---- copies

abbrev copy_by : Bool → Bool → Bool → Bool → Bool → Option Op
copy_by a b c d f = if a then Some Mov else (if b then Some Spill else (if c then Some Reload else (if d then Some P2R else
    (if f then Some R2P else None))))

copy_gives : (a b c d f : Bool) (reg : ℕ) → is_some (copy_by a b c d f) ≡ true → InSpace reg (space_given (copy_by a b c d f))
    → FIRST_SLOT ≤ reg
    → copy_by a b c d f ≡ Some Spill
copy_gives true b c d f reg s space le = let lt = no_slot reg (Some R) space refl in absurd (omega (arith, lt, le))
copy_gives false true c d f reg s space le = refl
copy_gives false false true d f reg s space le = let lt = no_slot reg (Some R) space refl in absurd (omega (arith, lt, le))
copy_gives false false false true f reg s space le = let lt = no_slot reg (Some R) space refl in absurd (omega (arith, lt, le))
copy_gives false false false false true reg s space le = let lt = no_slot reg (Some P) space refl in absurd (omega (arith, lt, le))
copy_gives false false false false false reg s space le = absurd (cc s)

copy_reads : (a b c d f : Bool) (reg : ℕ) → is_some (copy_by a b c d f) ≡ true → InSpace reg (space_read (copy_by a b c d f) 0)
    → FIRST_SLOT ≤ reg
    → copy_by a b c d f ≡ Some Reload
copy_reads true b c d f reg s space le = let lt = no_slot reg (Some R) space refl in absurd (omega (arith, lt, le))
copy_reads false true c d f reg s space le = let lt = no_slot reg (Some R) space refl in absurd (omega (arith, lt, le))
copy_reads false false true d f reg s space le = refl
copy_reads false false false true f reg s space le = let lt = no_slot reg (Some P) space refl in absurd (omega (arith, lt, le))
copy_reads false false false false true reg s space le = let lt = no_slot reg (Some R) space refl in absurd (omega (arith, lt, le))
copy_reads false false false false false reg s space le = absurd (cc s)

-- an active copy that gives a slot is a Spill
pub gives_slot : (n reg : ℕ) → is_some (copy_of n) ≡ true → InSpace reg (space_given (copy_of n)) → FIRST_SLOT ≤ reg
    → copy_of n ≡ Some Spill
gives_slot n reg = copy_gives (n == 1) (n == 2) (n == 3) (n == 4) (n == 5) reg

-- and one that reads a slot is a Reload
pub reads_slot : (n reg : ℕ) → is_some (copy_of n) ≡ true → InSpace reg (space_read (copy_of n) 0) → FIRST_SLOT ≤ reg
    → copy_of n ≡ Some Reload
reads_slot n reg = copy_reads (n == 1) (n == 2) (n == 3) (n == 4) (n == 5) reg
