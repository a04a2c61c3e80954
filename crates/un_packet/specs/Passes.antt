-- How a packet is told that ran.
use Rattle.std.specs.Prelude.{ℕ, ◌≡◌, ◌+◌, List, Option, Some, None, length, slice_index}
use Rattle.un_isa.specs.declared.start.Reply.{Reply}
use Rattle.un_packet.specs.declared.code.CodeBlock.{CodeBlock}
use Rattle.un_packet.specs.declared.pass.Passed.{Passed}
use Rattle.un_packet.specs.declared.pass.Passed.TheVariants
use Rattle.un_packet.specs.declared.pass.Transfer.{Transfer}
use Rattle.un_packet.specs.declared.pass.Transfer.TheVariants.{Next, To, Back}
use Rattle.un_packet.specs.declared.state.Spare.{Spare}
use Rattle.un_packet.specs.Ends.{EndsBy}
use Rattle.un_packet.specs.Runnable.{IsSpare}
use Rattle.un_packet.specs.Step.{PacketState, PacketStep, Went, Jumped, Stopped, Returned}

-- where a packet leads that left this state
abbrev pub led : Transfer → PacketState → PacketStep
led Next t = Went t
led (To label) t = Jumped label t
led (Back target) t = Stopped (Returned (slice_index t.regs 0) target) t

-- what a packet came to, and the state after it
abbrev pub IsPassed : PacketStep → Passed → PacketState → Type 0
IsPassed step TheVariants.Went new = step ≡ Went new
IsPassed step (TheVariants.Jumped label) new = step ≡ Jumped label new
IsPassed step (TheVariants.Stopped e) new = (blocks : List CodeBlock) → EndsBy blocks step e new

-- room for a record, where there are calls
abbrev pub HasSpare : ℕ → ℕ → Option Spare → Type 0
HasSpare words calls None = calls ≡ 0
HasSpare words calls (Some spare) = IsSpare words spare

-- a packet that goes on has used a reply for each of its calls
abbrev pub UsesReplies : Passed → ℕ → List Reply → List Reply → Type 0
UsesReplies TheVariants.Went calls old new = length new + calls ≡ length old
UsesReplies (TheVariants.Jumped label) calls old new = length new + calls ≡ length old
UsesReplies (TheVariants.Stopped e) calls old new = Unit {0}
