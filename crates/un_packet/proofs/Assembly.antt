-- Code and starts written shortly.
use Rattle.std.specs.Prelude.{ℕ, ℤ, List, Option, Some, map}
use Rattle.un_isa.specs.declared.op.Op.{Op}
use Rattle.un_isa.specs.declared.reg.Reg.{Reg}
use Rattle.un_isa.specs.declared.instr.Instr.{Instr}
use Rattle.un_isa.specs.declared.outcome.CallRecord.{CallRecord}
use Rattle.un_isa.specs.declared.start.Reply.{Reply}
use Rattle.un_isa.specs.declared.start.Start.{Start}
use Rattle.un_isa.specs.Hexagon.{HEXAGON}
use Rattle.un_packet.specs.declared.code.Packet.{Packet}
use Rattle.un_packet.specs.declared.code.CodeBlock.{CodeBlock}
use Rattle.un_packet.specs.Step.{PacketStop}
use Rattle.un_packet.specs.Run.{PacketRun, enter, first_state}

abbrev pub r : ℕ → Option Reg
r n = Some (record { 0 = n })

abbrev pub named : List ℕ → Option (List ℕ)
named label = Some label

-- an instruction: its operation, its register, its operands, its literal and its label
abbrev pub i : Op → Option Reg → List ℕ → ℤ → Option (List ℕ) → Instr
i op dst srcs imm label = record {
  op = op;
  dst = dst;
  srcs = map (λ (n : ℕ). let reg : Reg = record { 0 = n } in reg) srcs;
  imm = imm;
  label = label;
}

abbrev pub packet : List Instr → Packet
packet is = record { instrs = is }

abbrev pub block : List ℕ → List Packet → CodeBlock
block label packets = record { label = label; packets = packets }

abbrev pub record_of : List ℕ → List ℕ → List (ℕ × ℕ) → CallRecord
record_of name args memory = record { name = name; args = args; memory = memory }

abbrev pub reply : ℕ → List (ℕ × ℕ) → List ℕ → Reply
reply result changed junk = record { result = result; changed = changed; junk = junk }

-- what a run comes to: how it stops, the memory, the calls and the cycle counter
abbrev pub told : PacketRun → PacketStop × List (ℕ × ℕ) × List CallRecord × ℕ
told run = (run.stop, run.state.memory, run.state.calls, run.state.cycle)

abbrev pub run_of : ℕ → List CodeBlock → Start → ℕ → PacketRun
run_of frame blocks start n = enter HEXAGON blocks n 0 (first_state frame start)
