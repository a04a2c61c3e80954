-- What a step of the machine answers.
use Rattle.std.specs.Prelude.{ℕ, ◌≡◌, ◌<◌, ◌+◌, List, length, slice_get, IsSomeAnd, MatchOption}
use Rattle.un_packet.specs.declared.code.CodeBlock.{CodeBlock}
use Rattle.un_packet.specs.declared.code.Code.{Code}
use Rattle.un_packet.specs.declared.machine.Stepped.{Stepped}
use Rattle.un_packet.specs.declared.machine.Stepped.TheVariants.{Went, Left, Ended}
use Rattle.un_packet.specs.declared.pass.Passed.{Passed}
use Rattle.un_packet.specs.declared.pass.Passed.TheVariants as PassedOf
use Rattle.un_packet.specs.Step.{PacketStep, packet_step}
use Rattle.un_packet.specs.Run.{packets_run}
use Rattle.un_packet.specs.Ends.{EndsBy}
use Rattle.un_packet.specs.Machine.{MachineState, moved, halted, GoesOn, WhereItGoesOn, LeadsTo}

-- one packet of a block of so many packets: the machine goes on to the next packet, leaves the block, or ends
abbrev pub IsPacketStep : List CodeBlock → ℕ → MachineState → PacketStep → MachineState → Stepped → Type 0
IsPacketStep blocks packets old step new Went = (old.place + 1 < packets) × GoesOn step new.state
    × (new ≡ moved old new.state old.block (old.place + 1))
IsPacketStep blocks packets old step new (Left to) = WhereItGoesOn step (packets ≡ old.place + 1)
    × LeadsTo blocks old.block step to.0 new.state × (new ≡ moved old new.state to.0 0)
IsPacketStep blocks packets old step new (Ended e) = EndsBy blocks step e new.state × (new ≡ halted old new.state)

-- behind a packet: the next one of a block of so many packets, or the next block
abbrev pub IsNext : ℕ → MachineState → MachineState → Stepped → Type 0
IsNext packets old new Went = (old.place + 1 < packets) × (new ≡ moved old old.state old.block (old.place + 1))
IsNext packets old new (Left to) = (packets ≡ old.place + 1) × (to.0 ≡ old.block + 1) × (new ≡ moved old old.state (old.block + 1) 0)
IsNext packets old new (Ended e) = ⊥

-- a block without packets is left for the next one
abbrev pub IsEmptyStep : MachineState → MachineState → Stepped → Type 0
IsEmptyStep old new answer = (answer ≡ Left (record { 0 = old.block + 1 })) × (new ≡ moved old old.state (old.block + 1) 0)

abbrev pub IsBlockStep : List CodeBlock → CodeBlock → MachineState → MachineState → Stepped → Type 0
IsBlockStep blocks block old new answer =
    MatchOption (slice_get block.packets old.place) (IsEmptyStep old new answer)
    (λ packet. IsPacketStep blocks (length block.packets) old (packet_step old.table packet.instrs old.state) new answer)

-- the step of a machine whose place is in the code
abbrev pub IsStep : Code → MachineState → MachineState → Stepped → Type 0
IsStep c old new answer = IsSomeAnd (slice_get c.blocks old.block) (λ block. IsBlockStep c.blocks block old new answer)

-- a block run from its start: it leads to another block, or ends the run
abbrev pub IsRunOf : List CodeBlock → MachineState → PacketStep → MachineState → Stepped → Type 0
IsRunOf blocks old run new Went = ⊥
IsRunOf blocks old run new (Left to) = LeadsTo blocks old.block run to.0 new.state × (new ≡ moved old new.state to.0 0)
IsRunOf blocks old run new (Ended e) = EndsBy blocks run e new.state

abbrev pub IsBlockRun : Code → MachineState → MachineState → Stepped → Type 0
IsBlockRun c old new answer =
    IsSomeAnd (slice_get c.blocks old.block) (λ block. IsRunOf c.blocks old (packets_run old.table block.packets old.state) new answer)

-- a packet of the machine ran: it ended, or stands where it stood
abbrev pub StandsAfter : Passed → MachineState → MachineState → Type 0
StandsAfter PassedOf.Went old new = new ≡ moved old new.state old.block old.place
StandsAfter (PassedOf.Jumped label) old new = new ≡ moved old new.state old.block old.place
StandsAfter (PassedOf.Stopped e) old new = new ≡ halted old new.state
