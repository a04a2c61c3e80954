-- What the definitions give for a small function: one block that sets a register and hands it back, with a copy of the value.
use Rattle.std.proofs.Common.{◌≡◌, ℕ, ◌+◌, List, [], ◌∷◌, map, Some, None, pos, refl, arith}
use Rattle.un_base.specs.declared.ids.TempId.{TempId}
use Rattle.un_isa.specs.Hexagon.{HEXAGON}
use Rattle.un_isa.specs.declared.reg.TheConstants.{SLOTS}
use Rattle.un_isa.specs.declared.op.Op.TheVariants.{Imm, Load, Store, Call, Spill, Enter, Leave}
use Rattle.un_isa.specs.declared.instr.Instr.{Instr}
use Rattle.un_ir.specs.declared.function.SrcOp.{SrcOp}
use Rattle.un_ir.specs.declared.extended.NodeCopy.TheVariants.{D}
use Rattle.un_ir.specs.declared.extended.ExtKind.TheVariants.{In, Out, Body, Copy}
use Rattle.un_ir.specs.declared.extended.Operand.{Operand}
use Rattle.un_ir.specs.declared.extended.ExtBlock.{ExtBlock}
use Rattle.un_ir.specs.declared.extended.Ext.{Ext}
use Rattle.un_domains.specs.declared.domain.Domain.TheVariants.{Range, Set}
use Rattle.un_model.specs.declared.model.Options.{Options}
use Rattle.un_model.specs.declared.model.TempVars.{TempVars}
use Rattle.un_model.specs.Emission.{frame_bytes, slot_offset, packets_of}
use Rattle.un_model.specs.Options.{AreOptions}
use Rattle.un_model.specs.Registers.{general_registers, with_zero}
use Rattle.un_model.specs.Solutions.{memory_distance, frame_distance}
use Rattle.un_model.specs.Variables.{domains_of, own_horizon, blocks_temps, model_of}

-- ---- options: the default ones, the narrowest and the widest, and what no options are

default_options : AreOptions (record { regs = None; slots = SLOTS })
default_options = record { regs = tt; slots = omega arith }

one_register : AreOptions (record { regs = Some 1; slots = 0 })
one_register = record { regs = (omega arith, omega arith); slots = omega arith }

most_registers : AreOptions (record { regs = Some 29; slots = SLOTS })
most_registers = record { regs = (omega arith, omega arith); slots = omega arith }

no_register : AreOptions (record { regs = Some 0; slots = 0 }) → ⊥
no_register are = omega (arith, are.regs.0)

too_many_registers : AreOptions (record { regs = Some 30; slots = 0 }) → ⊥
too_many_registers are = omega (arith, are.regs.1)

too_many_slots : AreOptions (record { regs = None; slots = SLOTS + 1 }) → ⊥
too_many_slots are = omega (arith, are.slots)

-- ---- a small function

abbrev temp : ℕ → TempId
temp n = record { 0 = n }

abbrev constant : SrcOp
constant = record { op = Imm; dst = Some (record { 0 = 0 }); srcs = []; imm = pos 7; callee = None }

abbrev reads : List ℕ → Operand
reads alts = record { alts = map temp alts; home = None }

abbrev handed : Operand
handed = record { alts = temp 0 ∷ temp 1 ∷ []; home = Some (record { 0 = 2 }) }

abbrev small_block : ExtBlock
small_block = record {
  freq = 1;
  label = 98 ∷ [];
  live_in = [];
  live_out = [];
  ops =
      (record { kind = In; operands = []; results = [] }) ∷ (record { kind = Body constant; operands = []; results = temp 0 ∷ [] }) ∷
      (record { kind = Copy D; operands = reads (0 ∷ []) ∷ []; results = temp 1 ∷ [] }) ∷
      (record { kind = Out; operands = handed ∷ []; results = [] }) ∷ [];
  horizon = 10;
}

abbrev small : Ext
small = record { table = HEXAGON; names = []; blocks = small_block ∷ [] }

abbrev narrow : Options
narrow = record { regs = Some 2; slots = 1 }

-- the constant's cycle and register, of r0, r1 and its home r2; the copy's instruction, cycle and register, which may be the
-- slot; the choice at the block's end, the end, the flag
small_domains : domains_of own_horizon small narrow ≡
    Range 1 9 ∷ Set (0 ∷ 1 ∷ 2 ∷ []) ∷ Range 0 3 ∷ Range 0 9 ∷ Set (0 ∷ 1 ∷ 2 ∷ 36 ∷ []) ∷ Range 0 1 ∷ Range 1 10 ∷ Range 0 1 ∷ []
unfolding general_registers
small_domains = refl

-- the copy carries the value that it reads
small_temps : (let x : TempVars = record { op = record { 0 = 1 }; value = temp 0; reg = record { 0 = 1 } } in
    let d : TempVars = record { op = record { 0 = 2 }; value = temp 0; reg = record { 0 = 4 } } in blocks_temps 0 0 small.blocks ≡ x ∷
    d ∷ [])
small_temps = refl

-- the constant in cycle 1 in r0, the copy a Spill into the first slot in cycle 2
small_packets : (let i : Instr = record { op = Imm; dst = Some (record { 0 = 0 }); srcs = []; imm = pos 7; label = None } in
    let s : Instr = record { op = Spill; dst = None; srcs = record { 0 = 0 } ∷ []; imm = pos 0; label = None } in
    packets_of (model_of small narrow) (1 ∷ 0 ∷ 2 ∷ 2 ∷ 36 ∷ 0 ∷ 3 ∷ 1 ∷ []) ≡ ((i ∷ []) ∷ (s ∷ []) ∷ []) ∷ [])
small_packets = refl

-- ---- frames and distances

-- the frame has room for its largest slot, and is a multiple of 8
frames : map frame_bytes (0 ∷ 1 ∷ 2 ∷ 3 ∷ 63 ∷ []) ≡ 8 ∷ 8 ∷ 16 ∷ 16 ∷ 256 ∷ []
frames = refl

third_slot : slot_offset (Some (record { 0 = 38 })) ≡ pos 8
third_slot = refl

zero_added : map with_zero ((1 ∷ 36 ∷ []) ∷ (0 ∷ 1 ∷ []) ∷ []) ≡ (0 ∷ 1 ∷ 36 ∷ []) ∷ (0 ∷ 1 ∷ []) ∷ []
zero_added = refl

load_store : memory_distance (Some Load) (Some Store) ≡ Some 0
load_store = refl

store_load : memory_distance (Some Store) (Some Load) ≡ Some 1
store_load = refl

loads_free : memory_distance (Some Load) (Some Load) ≡ None
loads_free = refl

spill_leave : frame_distance (Some Spill) (Some Leave) ≡ Some 0
spill_leave = refl

call_leave : frame_distance (Some Call) (Some Leave) ≡ Some 1
call_leave = refl

enter_leave : frame_distance (Some Enter) (Some Leave) ≡ Some 1
enter_leave = refl
