-- The machine: a state of packets, with the table that it runs by and the place of the next packet.
use Rattle.std.specs.Prelude.{ℕ, ◌≡◌, ◌+◌, ◌<◌, ◌⊎◌, Bool, true, false, List, length, slice_get, IsSomeAnd}
use Rattle.un_isa.specs.declared.table.Table.{Table}
use Rattle.un_isa.specs.declared.start.Start.{Start}
use Rattle.un_packet.specs.declared.code.Packet.{Packet}
use Rattle.un_packet.specs.declared.code.CodeBlock.{CodeBlock}
use Rattle.un_packet.specs.declared.code.Code.{Code}
use Rattle.un_packet.specs.Step.{PacketState, PacketStep, Went, Jumped, Stopped}
use Rattle.un_packet.specs.Run.{label_place, first_state}

-- the next packet is the one at `place` of the block with the number `block`, unless the run has ended
pub record MachineState : Type 0 where
  pub table : Table
  pub state : PacketState
  pub block : ℕ
  pub place : ℕ
  pub ended : Bool

-- the machine with another state, at another packet
abbrev pub moved : MachineState → PacketState → ℕ → ℕ → MachineState
moved m s b k = record { table = m.table; state = s; block = b; place = k; ended = m.ended }

-- the machine where its run ended, in this state
abbrev pub halted : MachineState → PacketState → MachineState
halted m s = record { table = m.table; state = s; block = m.block; place = m.place; ended = true }

-- a packet goes on to the next one
abbrev pub GoesOn : PacketStep → PacketState → Type 0
GoesOn (Went s) new = new ≡ s
GoesOn (Jumped label s) new = ⊥
GoesOn (Stopped stop s) new = ⊥

-- where a packet goes on, this holds
abbrev pub WhereItGoesOn : PacketStep → Type 0 → Type 0
WhereItGoesOn (Went s) fact = fact
WhereItGoesOn (Jumped label s) fact = Unit {0}
WhereItGoesOn (Stopped stop s) fact = Unit {0}

-- packets of block b lead to the block with the number `to`: to the next one behind the last packet, or to a label's
abbrev pub LeadsTo : List CodeBlock → ℕ → PacketStep → ℕ → PacketState → Type 0
LeadsTo blocks b (Went s) to new = (to ≡ b + 1) × (new ≡ s)
LeadsTo blocks b (Jumped label s) to new = (to ≡ label_place blocks label) × (new ≡ s)
LeadsTo blocks b (Stopped stop s) to new = ⊥

-- the place of the machine is in the code: at a packet, or at the start of a block without packets
abbrev pub IsPlace : List Packet → ℕ → Type 0
IsPlace packets k = (k ≡ 0) ⊎ (k < length packets)

abbrev pub IsInCode : Code → MachineState → Type 0
IsInCode c m = IsSomeAnd (slice_get c.blocks m.block) (λ b. IsPlace b.packets m.place)

-- the machine at the first packet of the code
abbrev pub first_machine : Table → Code → Start → MachineState
first_machine t c start = record { table = t; state = first_state c.frame start; block = 0; place = 0; ended = false }
