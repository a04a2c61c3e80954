-- The words of models at values that were written down from their description: registers, instructions, distances, spaces.
use Rattle.std.specs.Prelude.{ℕ, pos, ◌≡◌, true, false, List, [], ◌∷◌, map, filter, Option, Some, None}
use Rattle.std.specs.List.{range_with_len}
use Rattle.std.proofs.Common.{refl}
use Rattle.un_base.specs.declared.ids.NameId.{NameId}
use Rattle.un_isa.specs.declared.op.Op.{Op}
use Rattle.un_isa.specs.declared.op.Op.TheVariants.{Mov, Add, Mux, CmpGti, Mpyi, Load, Store, Call, Jump, JumpIf, JumpIfNot, Jumpr}
use Rattle.un_isa.specs.declared.op.Op.TheVariants.{Spill, Reload, P2R, R2P, Enter, Leave}
use Rattle.un_isa.specs.declared.reg.Reg.{Reg}
use Rattle.un_isa.specs.declared.reg.Space.TheVariants.{R, P, M}
use Rattle.un_isa.specs.Hexagon.{HEXAGON}
use Rattle.un_isa.specs.Registers.{callee_saved}
use Rattle.un_isa.specs.Does.{is_transfer}
use Rattle.un_ir.specs.declared.function.SrcOp.{SrcOp}
use Rattle.un_ir.specs.declared.function.Term.TheVariants.{Fall, Jump as JumpTo, Branch, Ret}
use Rattle.un_ir.specs.declared.extended.ExtKind.TheVariants.{In, Body}
use Rattle.un_isa.specs.declared.packet_counts.Resource.TheVariants.{Instructions, Memory, Stores, MultiplyOrControl, Control}
use Rattle.un_model.specs.Emission.{frame_bytes, slot_offset}
use Rattle.un_model.specs.Instructions.{copy_of, frame_instr, transfer_of, latency_by, space_read, space_given}
use Rattle.un_model.specs.Registers.{is_assignable, predicate_registers, slots_of, with_zero, result_home}
use Rattle.un_model.specs.Solutions.{latency_gap, memory_distance, frame_distance, share_of, broken_clauses}
use Rattle.un_isa.specs.PacketCounts.{places_of}

-- ---- registers

abbrev all : List ℕ
all = range_with_len 0 36

assignable : filter (is_assignable None) all ≡
    0 ∷ 1 ∷ 2 ∷ 3 ∷ 4 ∷ 5 ∷ 6 ∷ 7 ∷ 8 ∷ 9 ∷ 10 ∷ 11 ∷ 12 ∷ 13 ∷ 14 ∷ 15 ∷ 16 ∷ 17 ∷ 18 ∷ 19 ∷ 20 ∷ 21 ∷ 22 ∷ 23 ∷ 24 ∷ 25 ∷
    26 ∷ 27 ∷ 28 ∷ 31 ∷ []
assignable = refl

three_registers : filter (is_assignable (Some 3)) all ≡ 0 ∷ 1 ∷ 2 ∷ []
three_registers = refl

predicates : predicate_registers ≡ 32 ∷ 33 ∷ 34 ∷ 35 ∷ []
predicates = refl

slots : slots_of 3 ≡ 36 ∷ 37 ∷ 38 ∷ []
slots = refl

zeros : with_zero (4 ∷ 5 ∷ []) ∷ with_zero (0 ∷ 5 ∷ []) ∷ [] ≡ (0 ∷ 4 ∷ 5 ∷ []) ∷ (0 ∷ 5 ∷ []) ∷ []
zeros = refl

-- ---- homes: of two parameters, of the saved values, of a call's result

abbrev names : List NameId
names = record { 0 = 0 } ∷ record { 0 = 1 } ∷ []

abbrev home : ℕ → Option Reg
home r = Some (record { 0 = r })

entry_homes : map (result_home HEXAGON true names In) (range_with_len 0 15) ≡
    home 0 ∷ home 1 ∷ home 16 ∷ home 17 ∷ home 18 ∷ home 19 ∷ home 20 ∷ home 21 ∷ home 22 ∷ home 23 ∷ home 24 ∷ home 25 ∷ home 26 ∷
    home 27 ∷ home 31 ∷ []
unfolding callee_saved
entry_homes = refl

-- in a later block the names have none
later_homes : map (result_home HEXAGON false names In) (0 ∷ 1 ∷ 2 ∷ 14 ∷ []) ≡ None ∷ None ∷ home 16 ∷ home 31 ∷ []
unfolding callee_saved
later_homes = refl

abbrev source : Op → SrcOp
source op = record { op = op; dst = None; srcs = []; imm = pos 0; callee = None }

result_homes : result_home HEXAGON false names (Body (source Call)) 0 ∷ result_home HEXAGON false names (Body (source Add)) 0 ∷ []
    ≡ home 0 ∷ None ∷ []
result_homes = refl

-- ---- instructions

copies : map copy_of (range_with_len 0 7) ≡ None ∷ Some Mov ∷ Some Spill ∷ Some Reload ∷ Some P2R ∷ Some R2P ∷ None ∷ []
copies = refl

frame_instrs : frame_instr Enter 0 ∷ frame_instr Leave 1 ∷ [] ≡ None ∷ Some Leave ∷ []
frame_instrs = refl

abbrev second : List (Option Op)
second = transfer_of Fall ∷ transfer_of (JumpTo (record { 0 = 1 })) ∷ transfer_of (Branch (record { 0 = 0 }) true (record { 0 = 1 })) ∷
    transfer_of (Branch (record { 0 = 0 }) false (record { 0 = 1 })) ∷ transfer_of (Ret None) ∷ []

transfers : second ≡ None ∷ Some Jump ∷ Some JumpIf ∷ Some JumpIfNot ∷ Some Jumpr ∷ []
transfers = refl

transferring : filter is_transfer (Add ∷ Call ∷ Jump ∷ JumpIf ∷ JumpIfNot ∷ Jumpr ∷ Enter ∷ Leave ∷ [])
    ≡ Jump ∷ JumpIf ∷ JumpIfNot ∷ Jumpr ∷ []
transferring = refl

-- a value at a block's start has the latency 1
latencies : map (latency_by HEXAGON) (None ∷ Some Load ∷ Some Reload ∷ Some Mpyi ∷ Some Mov ∷ Some Spill ∷ Some Call ∷ [])
    ≡ 1 ∷ 2 ∷ 2 ∷ 2 ∷ 1 ∷ 1 ∷ 1 ∷ []
latencies = refl

gaps : latency_gap HEXAGON (Some Load) (Some Add) ∷ latency_gap HEXAGON (Some Add) (Some Load) ∷ latency_gap HEXAGON None None ∷ []
    ≡ 2 ∷ 1 ∷ 1 ∷ []
gaps = refl

widths : map (share_of HEXAGON Instructions) (None ∷ Some Enter ∷ []) ≡ 0 ∷ 1 ∷ []
widths = refl

-- ---- spaces: of the first operand and of the result

abbrev moves : List Op
moves = Mov ∷ Spill ∷ Reload ∷ P2R ∷ R2P ∷ CmpGti ∷ Jumpr ∷ JumpIf ∷ Call ∷ Store ∷ []

spaces_read : map (λ (op : Op). space_read (Some op) 0) moves
    ≡ Some R ∷ Some R ∷ Some M ∷ Some P ∷ Some R ∷ Some R ∷ Some R ∷ Some P ∷ Some R ∷ Some R ∷ []
spaces_read = refl

spaces_given : map (λ (op : Op). space_given (Some op)) moves
    ≡ Some R ∷ Some M ∷ Some R ∷ Some R ∷ Some P ∷ Some P ∷ None ∷ None ∷ Some R ∷ None ∷ []
spaces_given = refl

spaces_of_mux : map (space_read (Some Mux)) (0 ∷ 1 ∷ 2 ∷ []) ≡ Some P ∷ Some R ∷ Some R ∷ []
spaces_of_mux = refl

-- what `out` reads, and the values at a block's start, may lie anywhere
spaces_of_bounds : space_read None 0 ∷ space_given None ∷ [] ≡ None ∷ None ∷ []
spaces_of_bounds = refl

-- ---- distances

abbrev accesses : List (Option Op)
accesses = Some Load ∷ Some Store ∷ Some Call ∷ Some Add ∷ None ∷ []

after_load : map (memory_distance (Some Load)) accesses ≡ None ∷ Some 0 ∷ Some 1 ∷ None ∷ None ∷ []
after_load = refl

after_store : map (memory_distance (Some Store)) accesses ≡ Some 1 ∷ Some 1 ∷ Some 1 ∷ None ∷ None ∷ []
after_store = refl

after_call : map (memory_distance (Some Call)) accesses ≡ Some 1 ∷ Some 1 ∷ Some 1 ∷ None ∷ None ∷ []
after_call = refl

after_others : memory_distance (Some Add) (Some Store) ∷ memory_distance (Some Spill) (Some Load) ∷ memory_distance None (Some Call) ∷ []
    ≡ None ∷ None ∷ None ∷ []
after_others = refl

abbrev frame_uses : List (Option Op)
frame_uses = Some Enter ∷ Some Spill ∷ Some Reload ∷ Some Call ∷ Some Leave ∷ Some Load ∷ None ∷ []

after_enter : map (frame_distance (Some Enter)) frame_uses ≡ None ∷ Some 1 ∷ Some 1 ∷ Some 1 ∷ Some 1 ∷ None ∷ None ∷ []
after_enter = refl

-- a Spill or a Reload may be in the cycle of Leave, a Call may not
before_leave : map (λ (op : Option Op). frame_distance op (Some Leave)) frame_uses
    ≡ Some 1 ∷ Some 0 ∷ Some 0 ∷ Some 1 ∷ None ∷ None ∷ None ∷ []
before_leave = refl

-- ---- packets

places : map places_of (Instructions ∷ Memory ∷ Stores ∷ MultiplyOrControl ∷ Control ∷ []) ≡ 4 ∷ 2 ∷ 1 ∷ 2 ∷ 1 ∷ []
places = refl

-- ---- code

-- a frame whose largest slot is 0 or 1 has 8 bytes
frames : map frame_bytes (0 ∷ 1 ∷ 2 ∷ 3 ∷ 63 ∷ []) ≡ 8 ∷ 8 ∷ 16 ∷ 16 ∷ 256 ∷ []
frames = refl

offsets : slot_offset (home 36) ∷ slot_offset (home 37) ∷ slot_offset (home 99) ∷ [] ≡ pos 0 ∷ pos 4 ∷ pos 252 ∷ []
offsets = refl

-- ---- the list of broken clauses

nothing_broken : broken_clauses (record {
  domains = true;
  zeros = true;
  choices = true;
  spaces = true;
  latencies = true;
  memory = true;
  registers = true;
  packets = true;
  homes = true;
  frame = true;
}) ≡ []
nothing_broken = refl

all_but_domains : broken_clauses (record {
  domains = true;
  zeros = false;
  choices = false;
  spaces = false;
  latencies = false;
  memory = false;
  registers = false;
  packets = false;
  homes = false;
  frame = false;
}) ≡ 2 ∷ 3 ∷ 4 ∷ 5 ∷ 6 ∷ 7 ∷ 8 ∷ 9 ∷ 10 ∷ []
all_but_domains = refl

-- a value in no domain is told alone
domains_broken : broken_clauses (record {
  domains = false;
  zeros = false;
  choices = true;
  spaces = true;
  latencies = true;
  memory = true;
  registers = true;
  packets = true;
  homes = true;
  frame = true;
}) ≡ 1 ∷ []
domains_broken = refl
