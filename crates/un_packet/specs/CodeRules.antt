-- The rules that code keeps, over its parts: the size of its frame in bytes, and its blocks.
use Rattle.std.specs.Prelude.{ℕ, zero, suc, ℤ, pos, negsuc, ◌≡◌, ◌≢◌, ◌==◌, ◌&&◌, ◌+◌, ◌<◌, ◌≤◌, ◌%◌, Bool, true, false, List, [], ◌∷◌, ◌++◌, Option}
use Rattle.std.specs.Prelude.{Some, None, map, length, sum_by, All, AllPairs, Contains, slice_get, slice_index, IsSomeAnd}
use Rattle.std.specs.List.{flat_map, list_any, range_with_len}
use Rattle.std.specs.Bool.{OnTrue}
use Rattle.std.specs.Option.{option_map, option_map_or, option_to_list}
use Rattle.un_base.specs.Names.{is_name}
use Rattle.un_isa.specs.declared.op.Op.{Op}
use Rattle.un_isa.specs.declared.op.Op.TheVariants.{Load, Store, Call, Enter, Leave}
use Rattle.un_isa.specs.declared.does.Does.{Does}
use Rattle.un_isa.specs.declared.does.Does.TheVariants.{Calls, Jumps}
use Rattle.un_isa.specs.declared.reg.TheConstants.{STACK, LINK, GENERALS, PREDICATES, FRAME}
use Rattle.un_isa.specs.declared.reg.Reg.{Reg}
use Rattle.un_isa.specs.declared.instr.Instr.{Instr}
use Rattle.un_isa.specs.declared.table.Needs.{Needs}
use Rattle.un_isa.specs.Does.{is_jump, is_new, is_compare, is_transfer, is_leaving, is_nop}
use Rattle.un_isa.specs.Facts.{does_of, class_of, operand_spaces, result_space}
use Rattle.un_isa.specs.Hexagon.{needs_by}
use Rattle.un_isa.specs.Operands.{HasLiteral}
use Rattle.un_isa.specs.PacketCounts.{FitPacket}
use Rattle.un_isa.specs.Registers.{space_of}
use Rattle.un_packet.specs.declared.code.TheConstants.{PACKETS, BLOCKS, ARGUMENTS}
use Rattle.un_packet.specs.declared.code.Packet.{Packet}
use Rattle.un_packet.specs.declared.code.CodeBlock.{CodeBlock}

-- ---- instructions

abbrev pub number : Reg → ℕ
number r = r.0

-- the operands of an instruction: a call's are r0, r1 and so on, and each other's lie in their spaces
abbrev pub ReadsItsSpaces : Op → List Reg → Type 0
ReadsItsSpaces Call srcs = (map number srcs ≡ range_with_len 0 (length srcs)) × (length srcs ≤ ARGUMENTS)
ReadsItsSpaces op srcs = map (λ (r : Reg). space_of r.0) srcs ≡ operand_spaces op

-- the register that it writes: none for a call, whose result is where the table says, and else one of the result's space
abbrev pub WritesItsSpace : Op → Option Reg → Type 0
WritesItsSpace Call dst = dst ≡ None
WritesItsSpace op dst = option_map (λ (r : Reg). space_of r.0) dst ≡ result_space op

abbrev pub minus : ℕ → ℤ
minus zero = pos 0
minus (suc n) = negsuc n

-- the literal: Enter lowers the stack pointer by the frame, which is not empty, and Leave raises it again
abbrev pub HasItsNumber : ℕ → Op → ℤ → Type 0
HasItsNumber frame Enter n = (0 < frame) × (n ≡ minus frame)
HasItsNumber frame Leave n = (0 < frame) × (n ≡ pos frame)
HasItsNumber frame op n = HasLiteral op n

abbrev pub IsThere : {X : Type 0} → Option X → Type 0
IsThere None = ⊥
IsThere (Some x) = Unit {0}

abbrev pub IsSomeName : Option (List ℕ) → Type 0
IsSomeName label = IsSomeAnd label (λ name. is_name name ≡ true)

-- a call has the name of its function, a jump its label, which is a name too, and no other instruction has one
abbrev pub HasLabelOf : Does → Option (List ℕ) → Type 0
HasLabelOf Calls label = IsSomeName label
HasLabelOf (Jumps when) label = IsSomeName label
HasLabelOf _ label = label ≡ None

abbrev pub HasItsLabel : Op → Option (List ℕ) → Type 0
HasItsLabel op label = HasLabelOf (does_of op) label

-- the stack pointer is no base of a Load or a Store: those are Reload and Spill
abbrev pub HasItsBase : Op → List Reg → Type 0
HasItsBase Load (base ∷ srcs) = base.0 ≢ STACK
HasItsBase Store (base ∷ srcs) = base.0 ≢ STACK
HasItsBase op srcs = Unit {0}

-- an instruction of code with a frame of so many bytes. A field that its printed form does not show is None or 0.
pub record IsGoodInstr (frame : ℕ) (i : Instr) : Type 0 where
  pub reads : ReadsItsSpaces i.op i.srcs
  pub writes : WritesItsSpace i.op i.dst
  -- the stack pointer is written by Enter and Leave alone
  pub stack : i.dst ≢ Some (record { 0 = STACK })
  pub base : HasItsBase i.op i.srcs
  pub literal : HasItsNumber frame i.op i.imm
  pub label : HasItsLabel i.op i.label

-- ---- packets

-- the registers that an instruction writes. A call counts as writing r0 to r5, the link register and the predicates.
abbrev pub written_by : Op → Option Reg → List ℕ
written_by Call dst = range_with_len 0 ARGUMENTS ++ LINK ∷ [] ++ range_with_len GENERALS PREDICATES
written_by Enter dst = STACK ∷ []
written_by Leave dst = STACK ∷ []
written_by op dst = map number (option_to_list dst)

abbrev pub written : Instr → List ℕ
written i = written_by i.op i.dst

abbrev pub needs_of : Instr → Needs
needs_of i = needs_by (class_of i.op)

-- a compare that writes the register with a number
abbrev pub gives_predicate : ℕ → Instr → Bool
gives_predicate n j = option_map_or (λ (r : Reg). r.0 == n) j.dst false && is_compare j.op

-- a jump on a fresh predicate has a compare beside it that writes the predicate
abbrev pub HasItsCompare : List Instr → Instr → Type 0
HasItsCompare is i = OnTrue (is_new i.op) (list_any (gives_predicate (slice_index (map number i.srcs) 0)) is ≡ true)

pub record IsGoodPacket (frame : ℕ) (p : Packet) : Type 0 where
  pub some : 0 < length p.instrs
  pub instrs : All (IsGoodInstr frame) p.instrs
  pub counts : FitPacket (map needs_of p.instrs)
  -- `nop` stands alone
  pub idle : OnTrue (list_any (λ (i : Instr). is_nop i.op) p.instrs) (length p.instrs ≡ 1)
  -- no two instructions write one register
  pub one_writer : AllPairs (λ (a b : ℕ). a ≢ b) (flat_map written p.instrs)
  pub fresh : All (HasItsCompare p.instrs) p.instrs

-- ---- blocks

abbrev pub transfers : Packet → Bool
transfers p = list_any (λ (i : Instr). is_transfer i.op) p.instrs

abbrev pub leaves : Packet → Bool
leaves p = list_any (λ (i : Instr). is_leaving i.op) p.instrs

-- what leaves a block stands in its last packet
abbrev pub TransfersLast : List Packet → Type 0
TransfersLast packets = (k : ℕ) → k + 1 < length packets → IsSomeAnd (slice_get packets k) (λ p. transfers p ≡ false)

-- a block ends by an instruction that leaves it always
abbrev pub EndsByLeaving : CodeBlock → Type 0
EndsByLeaving block = (k : ℕ) × (k + 1 ≡ length block.packets) × IsSomeAnd (slice_get block.packets k) (λ p. leaves p ≡ true)

-- a jump leads to one of the labels
abbrev pub LeadsToOneOf : List (List ℕ) → Instr → Type 0
LeadsToOneOf labels i = OnTrue (is_jump i.op) (IsSomeAnd i.label (Contains labels))

abbrev pub labels_of : List CodeBlock → List (List ℕ)
labels_of blocks = map (λ (b : CodeBlock). b.label) blocks

pub record IsGoodCodeBlock (frame : ℕ) (labels : List (List ℕ)) (block : CodeBlock) : Type 0 where
  pub packets : All (IsGoodPacket frame) block.packets
  pub transfers_last : TransfersLast block.packets
  pub targets : All (λ (p : Packet). All (LeadsToOneOf labels) p.instrs) block.packets

-- ---- code

-- code with these parts
pub record KeepsRules (frame : ℕ) (blocks : List CodeBlock) : Type 0 where
  pub whole : frame % 8 ≡ 0
  pub small : frame ≤ FRAME
  pub some : 0 < length blocks
  pub few_blocks : length blocks < BLOCKS
  pub few_packets : sum_by (λ (b : CodeBlock). length b.packets) blocks < PACKETS
  pub named : All (λ (b : CodeBlock). is_name b.label ≡ true) blocks
  pub distinct_labels : AllPairs (λ (a b : CodeBlock). a.label ≢ b.label) blocks
  pub good_blocks : All (IsGoodCodeBlock frame (labels_of blocks)) blocks
  -- the last block does not fall through
  pub last : (b : ℕ) → b + 1 ≡ length blocks → IsSomeAnd (slice_get blocks b) EndsByLeaving
