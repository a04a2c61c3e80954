-- What code does from a start, label by label.
use Rattle.std.specs.Prelude.{ℕ, zero, suc, ◌≡◌, ◌+◌, ◌-◌, ◌/◌, nat_eq, List, [], ◌∷◌, Option, Some, None, slice_get, slice_index}
use Rattle.std.specs.Prelude.{replicate}
use Rattle.std.specs.List.{position_or_len}
use Rattle.std.specs.Cmp.Lexicographic.{pointwise}
use Rattle.un_isa.specs.declared.reg.TheConstants.{STACK, REGISTERS}
use Rattle.un_isa.specs.declared.table.Table.{Table}
use Rattle.un_isa.specs.declared.start.Start.{Start}
use Rattle.un_packet.specs.declared.code.Packet.{Packet}
use Rattle.un_packet.specs.declared.code.CodeBlock.{CodeBlock}
use Rattle.un_packet.specs.declared.code.Code.{Code}
use Rattle.un_packet.specs.Step.{PacketState, PacketStop, PacketStep, Running, Went, Jumped, Stopped, packet_step, issue_cycle}

pub record PacketRun : Type 0 where
  pub stop : PacketStop
  pub state : PacketState

-- the packets of a block, one after another, until one jumps or stops
abbrev pub then_packets : PacketStep → (PacketState → PacketStep) → PacketStep
then_packets (Went s) go = go s
then_packets (Jumped label s) go = Jumped label s
then_packets (Stopped stop s) go = Stopped stop s

abbrev pub packets_run : Table → List Packet → PacketState → PacketStep
packets_run t [] s = Went s
packets_run t (p ∷ ps) s = then_packets (packet_step t p.instrs s) (packets_run t ps)

-- the place of a label
abbrev pub label_place : List CodeBlock → List ℕ → ℕ
label_place blocks label = position_or_len (λ (b : CodeBlock). pointwise nat_eq b.label label) blocks

-- goes on at the next block, or at a label
abbrev pub leave : List CodeBlock → ℕ → PacketStep → (ℕ → PacketState → PacketRun) → PacketRun
leave blocks b (Went s) go = go (b + 1) s
leave blocks b (Jumped label s) go = go (label_place blocks label) s
leave blocks b (Stopped stop s) go = record { stop = stop; state = s }

abbrev pub through : Table → List CodeBlock → Option CodeBlock → ℕ → PacketState → (ℕ → PacketState → PacketRun) → PacketRun
through t blocks None b s go = record { stop = Running b; state = s }
through t blocks (Some block) b s go = leave blocks b (packets_run t block.packets s) go

-- a run from the label of block b that enters at most n labels, that one among them
abbrev pub enter : Table → List CodeBlock → ℕ → ℕ → PacketState → PacketRun
enter t blocks zero b s = record { stop = Running b; state = s }
enter t blocks (suc n) b s = through t blocks (slice_get blocks b) b s (enter t blocks n)

-- the state of the start, with a frame of so many bytes, whose words are 0
abbrev pub first_state : ℕ → Start → PacketState
first_state frame s = record {
  regs = s.regs;
  memory = s.memory;
  frame = replicate (frame / 4) 0;
  frame_start = slice_index s.regs STACK - frame;
  calls = [];
  replies = s.replies;
  cycle = 0;
  ready = replicate REGISTERS 0;
}

-- what code comes to from a start, where at most n labels are entered
abbrev pub packet_run : Table → Code → Start → ℕ → PacketRun
packet_run t code s n = enter t code.blocks n 0 (first_state code.frame s)

-- no packet of a block issues later than one cycle after the packet before it
abbrev pub goes_on_unless : PacketStep → (PacketState → Type 0) → Type 0
goes_on_unless (Went s) go = go s
goes_on_unless (Jumped label s) go = Unit {0}
goes_on_unless (Stopped stop s) go = Unit {0}

abbrev pub NoneWaits : Table → List Packet → PacketState → Type 0
NoneWaits t [] s = Unit {0}
NoneWaits t (p ∷ ps) s = (issue_cycle s p.instrs ≡ s.cycle + 1) × goes_on_unless (packet_step t p.instrs s) (NoneWaits t ps)

abbrev pub never_after : List CodeBlock → ℕ → PacketStep → (ℕ → PacketState → Type 0) → Type 0
never_after blocks b (Went s) go = go (b + 1) s
never_after blocks b (Jumped label s) go = go (label_place blocks label) s
never_after blocks b (Stopped stop s) go = Unit {0}

abbrev pub never_through : Table → List CodeBlock → Option CodeBlock → ℕ → PacketState → (ℕ → PacketState → Type 0) → Type 0
never_through t blocks None b s go = Unit {0}
never_through t blocks (Some block) b s go = NoneWaits t block.packets s × never_after blocks b (packets_run t block.packets s) go

-- no packet waits in a run from the label of block b that enters at most n labels
abbrev pub NeverWaits : Table → List CodeBlock → ℕ → ℕ → PacketState → Type 0
NeverWaits t blocks zero b s = Unit {0}
NeverWaits t blocks (suc n) b s = never_through t blocks (slice_get blocks b) b s (NeverWaits t blocks n)
