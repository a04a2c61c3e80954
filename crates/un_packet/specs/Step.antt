-- What a packet does.
use Rattle.std.specs.Prelude.{ℕ, ◌+◌, ◌-◌, ◌/◌, ◌%◌, max, Bool, true, false, ◌&&◌, not, nat_eq, nat_lt, nat_le, if◌then◌else◌, List, []}
use Rattle.std.specs.Prelude.{◌∷◌, ◌++◌, Option, Some, None, is_none, unwrap_or, map, length, slice_index, slice_set}
use Rattle.std.specs.List.{list_any, find, fold, flat_map}
use Rattle.std.specs.Option.{option_to_list}
use Rattle.un_isa.specs.Memories.{word_at, set_word, set_words}
use Rattle.un_isa.specs.Words.{eval, address_of}
use Rattle.un_isa.specs.Tables.{latency_of, in_mask}
use Rattle.un_isa.specs.declared.op.Op.{Op}
use Rattle.un_isa.specs.declared.op.Op.TheVariants.{Load, Store, Call, Spill, Reload, Enter, Leave, JumpIfNew, JumpIfNotNew}
use Rattle.un_isa.specs.declared.does.Does.{Does}
use Rattle.un_isa.specs.declared.does.Does.TheVariants.{Jumps}
use Rattle.un_isa.specs.declared.does.When.{When}
use Rattle.un_isa.specs.declared.does.When.TheVariants.{Always, IfTrue, IfFalse, IfNewTrue, IfNewFalse}
use Rattle.un_isa.specs.Does.{is_call, is_return}
use Rattle.un_isa.specs.Facts.{does_of}
use Rattle.un_isa.specs.declared.reg.Reg.{Reg}
use Rattle.un_isa.specs.declared.reg.TheConstants.{STACK}
use Rattle.un_isa.specs.declared.instr.Instr.{Instr}
use Rattle.un_isa.specs.declared.table.Table.{Table}
use Rattle.un_isa.specs.declared.outcome.CallRecord.{CallRecord}
use Rattle.un_isa.specs.declared.start.Reply.{Reply}

-- r0 to r31 and p0 to p3, memory, the words of the frame with the address of the first of them, the calls so far, the
-- replies that are left, the cycle in which the last packet issued, and the cycle from which each register can be read
pub record PacketState : Type 0 where
  pub regs : List ℕ
  pub memory : List (ℕ × ℕ)
  pub frame : List ℕ
  pub frame_start : ℕ
  pub calls : List CallRecord
  pub replies : List Reply
  pub cycle : ℕ
  pub ready : List ℕ

-- how a run of packets stops: where a further label would be entered, at that block
pub data PacketStop : Type 0 where
  Returned : (result target : ℕ) → PacketStop
  Trapped : PacketStop
  Waiting : CallRecord → PacketStop
  Running : ℕ → PacketStop

-- what a packet comes to: the next packet, a label, or a stop
pub data PacketStep : Type 0 where
  Went : PacketState → PacketStep
  Jumped : List ℕ → PacketState → PacketStep
  Stopped : PacketStop → PacketState → PacketStep

abbrev pub reg_in : PacketState → Reg → ℕ
reg_in s r = slice_index s.regs r.0

abbrev pub operand_in : PacketState → Instr → ℕ → ℕ
operand_in s i k = slice_index (map (reg_in s) i.srcs) k

-- the place of a word with this address, among so many words from `start` on
abbrev pub word_place : ℕ → ℕ → ℕ → Option ℕ
word_place start words a = if nat_le start a && nat_lt ((a - start) / 4) words && nat_eq (a % 4) 0 then Some ((a - start) / 4) else None

-- the place in the frame of an access, where it is one of its words
abbrev pub frame_place : PacketState → Instr → Option ℕ
frame_place s i = word_place s.frame_start (length s.frame) (address_of (slice_index s.regs STACK) i.imm)

-- an access to an address that is not there
abbrev pub traps_by : Op → PacketState → Instr → Bool
traps_by Load s i = is_none (word_at (address_of (operand_in s i 0) i.imm) s.memory)
traps_by Store s i = is_none (word_at (address_of (operand_in s i 0) i.imm) s.memory)
traps_by Spill s i = is_none (frame_place s i)
traps_by Reload s i = is_none (frame_place s i)
traps_by _ s i = false

abbrev pub traps : PacketState → Instr → Bool
traps s i = traps_by i.op s i

-- the value that an instruction writes to its register, by the old state
abbrev pub value_by : Op → PacketState → Instr → ℕ
value_by Load s i = unwrap_or (word_at (address_of (operand_in s i 0) i.imm) s.memory) 0
value_by Reload s i = slice_index s.frame (unwrap_or (frame_place s i) 0)
value_by _ s i = eval i.op (map (reg_in s) i.srcs) i.imm

abbrev pub value_of : PacketState → Instr → ℕ
value_of s i = value_by i.op s i

-- the registers that an instruction writes, each with its value: Enter and Leave move the stack pointer
abbrev pub writes_by : Op → PacketState → Instr → List (ℕ × ℕ)
writes_by Enter s i = (STACK, address_of (slice_index s.regs STACK) i.imm) ∷ []
writes_by Leave s i = (STACK, address_of (slice_index s.regs STACK) i.imm) ∷ []
writes_by _ s i = map (λ (r : Reg). (r.0, value_of s i)) (option_to_list i.dst)

abbrev pub writes_of : PacketState → Instr → List (ℕ × ℕ)
writes_of s i = writes_by i.op s i

-- the registers that an instruction waits for: an access to the frame reads the stack pointer too, and a jump that tests what its
-- own packet writes waits for none
abbrev pub reads_by : Op → Instr → List ℕ
reads_by Spill i = STACK ∷ map (λ (r : Reg). r.0) i.srcs
reads_by Reload i = STACK ∷ map (λ (r : Reg). r.0) i.srcs
reads_by Enter i = STACK ∷ []
reads_by Leave i = STACK ∷ []
reads_by JumpIfNew i = []
reads_by JumpIfNotNew i = []
reads_by _ i = map (λ (r : Reg). r.0) i.srcs

abbrev pub reads_of : Instr → List ℕ
reads_of i = reads_by i.op i

-- the cycle in which a packet issues: the one after the last packet, or later, when each register that it reads can be read
abbrev pub issue_cycle : PacketState → List Instr → ℕ
issue_cycle s is = fold max (s.cycle + 1) (map (slice_index s.ready) (flat_map reads_of is))

-- a list with other numbers at places of it
abbrev pub put_all : List (ℕ × ℕ) → List ℕ → List ℕ
put_all [] xs = xs
put_all (w ∷ ws) xs = put_all ws (slice_set xs w.0 w.1)

-- the registers after the writes of a packet
abbrev pub regs_after : PacketState → List Instr → List ℕ → List ℕ
regs_after s [] regs = regs
regs_after s (i ∷ is) regs = regs_after s is (put_all (writes_of s i) regs)

-- the cycles from which they can be read, where the packet issues in cycle c
abbrev pub ready_after : Table → ℕ → PacketState → List Instr → List ℕ → List ℕ
ready_after t c s [] ready = ready
ready_after t c s (i ∷ is) ready = ready_after t c s is (put_all (map (λ w. (w.0, c + latency_of t i.op)) (writes_of s i)) ready)

abbrev pub memory_by : Op → PacketState → Instr → List (ℕ × ℕ) → List (ℕ × ℕ)
memory_by Store s i memory = set_word (address_of (operand_in s i 0) i.imm) (operand_in s i 1) memory
memory_by _ s i memory = memory

-- the memory after the stores of a packet
abbrev pub memory_after : PacketState → List Instr → List (ℕ × ℕ) → List (ℕ × ℕ)
memory_after s [] memory = memory
memory_after s (i ∷ is) memory = memory_after s is (memory_by i.op s i memory)

abbrev pub frame_by : Op → PacketState → Instr → List ℕ → List ℕ
frame_by Spill s i frame = slice_set frame (unwrap_or (frame_place s i) 0) (operand_in s i 0)
frame_by _ s i frame = frame

-- the frame after the spills of a packet
abbrev pub frame_after : PacketState → List Instr → List ℕ → List ℕ
frame_after s [] frame = frame
frame_after s (i ∷ is) frame = frame_after s is (frame_by i.op s i frame)

-- the state after a packet that issues in cycle c, before a call's reply
abbrev pub after : Table → ℕ → PacketState → List Instr → PacketState
after t c s is = record {
  regs = regs_after s is s.regs;
  memory = memory_after s is s.memory;
  frame = frame_after s is s.frame;
  frame_start = s.frame_start;
  calls = s.calls;
  replies = s.replies;
  cycle = c;
  ready = ready_after t c s is s.ready;
}

-- what f makes of each number of a list and its place, of which the first is r
abbrev pub each_from : (ℕ → ℕ → ℕ) → ℕ → List ℕ → List ℕ
each_from f r [] = []
each_from f r (v ∷ vs) = f r v ∷ each_from f (r + 1) vs

-- a register after a call: the result, junk in the other clobbered ones, and the rest as they are
abbrev pub replied : Table → Reply → ℕ → ℕ → ℕ
replied t reply r v = if in_mask t.clobbered r then (if nat_eq r t.result then reply.result else slice_index reply.junk r) else v

-- from when on a register can be read: a call in cycle c writes each clobbered one
abbrev pub call_ready : Table → ℕ → ℕ → ℕ → ℕ
call_ready t c r v = if in_mask t.clobbered r then c + latency_of t Call else v

-- the state once a call's reply has come
abbrev pub answered : Table → CallRecord → Reply → List Reply → PacketState → PacketState
answered t call reply rest s = record {
  regs = each_from (replied t reply) 0 s.regs;
  memory = set_words reply.changed s.memory;
  frame = s.frame;
  frame_start = s.frame_start;
  calls = s.calls ++ call ∷ [];
  replies = rest;
  cycle = s.cycle;
  ready = each_from (call_ready t s.cycle) 0 s.ready;
}

-- a call as its callee sees it
abbrev pub record_of : PacketState → Instr → CallRecord
record_of s i = record { name = unwrap_or i.label []; args = map (reg_in s) i.srcs; memory = s.memory }

-- an operand in registers
abbrev pub operand_of : List ℕ → Instr → ℕ → ℕ
operand_of regs i k = slice_index (map (λ (r : Reg). slice_index regs r.0) i.srcs) k

-- whether a jump is taken, by the values of its predicate before its packet and behind the packet's writes
abbrev pub is_taken : When → ℕ → ℕ → Bool
is_taken Always old new = true
is_taken IfTrue old new = not (nat_eq old 0)
is_taken IfFalse old new = nat_eq old 0
is_taken IfNewTrue old new = not (nat_eq new 0)
is_taken IfNewFalse old new = nat_eq new 0

abbrev pub goes_by : Does → ℕ → ℕ → Bool
goes_by (Jumps when) old new = is_taken when old new
goes_by _ old new = false

-- whether an instruction jumps, by the state before its packet and the registers behind the packet's writes
abbrev pub jumps_by : Op → PacketState → List ℕ → Instr → Bool
jumps_by op s new i = goes_by (does_of op) (operand_in s i 0) (operand_of new i 0)

abbrev pub jumps : PacketState → List ℕ → Instr → Bool
jumps s new i = jumps_by i.op s new i

abbrev pub goes_on : Option Instr → PacketState → PacketStep
goes_on None s = Went s
goes_on (Some i) s = Jumped (unwrap_or i.label []) s

-- where a packet that left the state t leads: its jumps see its writes, and not yet a call's reply
abbrev pub leads : Option Instr → PacketState → List Instr → PacketState → PacketStep
leads None s is t = goes_on (find (jumps s (regs_after s is s.regs)) is) t
leads (Some i) s is t = Stopped (Returned (slice_index t.regs 0) (operand_in s i 0)) t

abbrev pub with_call : Table → Option Instr → List Reply → PacketState → List Instr → PacketStep
with_call t None replies s is = leads (find (λ i. is_return i.op) is) s is (after t (issue_cycle s is) s is)
with_call t (Some call) [] s is = Stopped (Waiting (record_of s call)) s
with_call t (Some call) (reply ∷ rest) s is =
    leads (find (λ i. is_return i.op) is) s is (answered t (record_of s call) reply rest (after t (issue_cycle s is) s is))

-- one packet
abbrev pub packet_step : Table → List Instr → PacketState → PacketStep
packet_step t is s =
    if list_any (traps s) is then Stopped Trapped s else with_call t (find (λ i. is_call i.op) is) s.replies s is
