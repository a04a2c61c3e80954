-- What it means that packets do what a function does.
use Rattle.std.specs.Prelude.{ℕ, ◌≡◌, ◌-◌, ◌*◌, ◌%◌, ◌<◌, ◌≤◌, ◌^◌, true, ◌&&◌, nat_lt, nat_le, Some, IfSome, All, length, slice_get}
use Rattle.std.specs.Prelude.{slice_index, if◌then◌else◌}
use Rattle.std.specs.Option.{option_map}
use Rattle.un_base.specs.declared.ids.NameId.{NameId}
use Rattle.un_isa.specs.Starts.{is_start}
use Rattle.un_isa.specs.declared.reg.TheConstants.{STACK, LINK, GENERALS, FIRST_SLOT, REGISTERS}
use Rattle.un_isa.specs.Tables.{in_mask}
use Rattle.un_isa.specs.declared.start.Start.{Start}
use Rattle.un_isa.specs.declared.start.Reply.{Reply}
use Rattle.un_isa.specs.declared.table.Table.{Table}
use Rattle.un_ir.specs.declared.function.Kind.{Kind}
use Rattle.un_ir.specs.declared.function.Kind.TheVariants.{General, Pred}
use Rattle.un_ir.specs.declared.function.Block.{Block}
use Rattle.un_ir.specs.declared.function.Function.{Function}
use Rattle.un_ir.specs.Live.{IsLive}
use Rattle.un_ir.specs.Source.{SourceStop, SourceRun, SourceState, Returned, Trapped, Waiting, Running, source_run}
use Rattle.un_packet.specs.declared.code.CodeBlock.{CodeBlock}
use Rattle.un_packet.specs.declared.code.Code.{Code}
use Rattle.un_packet.specs.Step.{PacketState, PacketStop, Returned as ReturnedTo, Trapped as TrappedAt, Waiting as WaitingFor}
use Rattle.un_packet.specs.Step.{Running as RunningAt}
use Rattle.un_packet.specs.Run.{PacketRun, packet_run, first_state, NeverWaits}

abbrev pub IsWord : ℕ → Type 0
IsWord v = v < 2 ^ 32

abbrev pub IsEntry : ℕ × ℕ → Type 0
IsEntry w = IsWord w.0 × IsWord w.1

pub record IsReply (reply : Reply) : Type 0 where
  pub result : IsWord reply.result
  pub changed : All IsEntry reply.changed
  pub junk : All IsWord reply.junk
  pub junk_len : length reply.junk ≡ REGISTERS

-- a start whose numbers are words, and whose stack pointer has room for a frame of so many bytes
pub record CanStart (s : Start) (frame : ℕ) : Type 0 where
  pub regs_len : length s.regs ≡ REGISTERS
  pub regs : All IsWord s.regs
  pub memory : All IsEntry s.memory
  pub replies : All IsReply s.replies
  pub well : is_start s.regs s.memory s.replies ≡ true
  pub aligned : slice_index s.regs STACK % 8 ≡ 0
  pub room : frame ≤ slice_index s.regs STACK

-- the registers that a function keeps, and the stack pointer, are as at the start
pub record Keeps (t : Table) (s : Start) (p : PacketState) : Type 0 where
  pub saved : (r : ℕ) → r < GENERALS → in_mask t.saved r ≡ true → slice_index p.regs r ≡ slice_index s.regs r
  pub stack : slice_index p.regs STACK ≡ slice_index s.regs STACK

-- what a place of the register array holds: a register, or after those a word of the frame
abbrev pub held_at : PacketState → ℕ → ℕ
held_at p place = if nat_lt place FIRST_SLOT then slice_index p.regs place else slice_index p.frame (place - FIRST_SLOT)

-- a predicate in a general register or a slot stands there as 255 or 0
abbrev pub as_held : Kind → ℕ → ℕ → ℕ
as_held General place v = v
as_held Pred place v = if nat_le GENERALS place && nat_lt place FIRST_SLOT then v else v * 255

-- each name that is live at the start of block b stands in its place
abbrev pub LiveStand : Function → (ℕ → ℕ → ℕ) → ℕ → SourceState → PacketState → Type 0
LiveStand f places b s p = (name : NameId) (kind : Kind) → option_map (λ n. n.1) (slice_get f.names name.0) ≡ Some kind
    → IsLive f.blocks name b 0
    → held_at p (places b name.0) ≡ as_held kind (places b name.0) (slice_index s.values name.0)

-- the source and the packets stop in one way, where `places` has the place of each name at each block's start
abbrev pub StopsAgree : Table → Function → (ℕ → ℕ → ℕ) → Code → Start → SourceStop → SourceState → PacketStop → PacketState → Type 0
StopsAgree t f places code start (Returned value) s (ReturnedTo result target) p =
    IfSome value (λ v. result ≡ v) × (target ≡ slice_index start.regs LINK) × Keeps t start p
StopsAgree t f places code start Trapped s TrappedAt p = Unit {0}
StopsAgree t f places code start (Waiting call) s (WaitingFor other) p = call ≡ other
StopsAgree t f places code start (Running b) s (RunningAt c) p =
    (option_map (λ (block : Block). block.label) (slice_get f.blocks b) ≡ option_map (λ (block : CodeBlock). block.label)
    (slice_get code.blocks c)) × LiveStand f places b s p
StopsAgree t f places code start stop s other p = ⊥

-- a run of the source and one of the packets come to the same
pub record Agrees (t : Table) (f : Function) (places : ℕ → ℕ → ℕ) (code : Code) (start : Start) (source : SourceRun)
    (packets : PacketRun) : Type 0 where
  pub stop : StopsAgree t f places code start source.stop source.state packets.stop packets.state
  pub memory : source.state.memory ≡ packets.state.memory
  pub calls : source.state.calls ≡ packets.state.calls

-- From each start and for each number of blocks entered the packets do what the function does, and none waits. There is a start
-- with room for the code's frame, so this is never empty.
pub record Simulates (t : Table) (f : Function) (places : ℕ → ℕ → ℕ) (code : Code) : Type 0 where
  pub has_start : (s : Start) × CanStart s code.frame
  pub agrees : (s : Start) (n : ℕ) → CanStart s code.frame → Agrees t f places code s (source_run f s n) (packet_run t code s n)
  pub never_waits : (s : Start) (n : ℕ) → CanStart s code.frame → NeverWaits t code.blocks n 0 (first_state code.frame s)
