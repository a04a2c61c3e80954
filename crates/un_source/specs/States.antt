-- The state that a run keeps, as a state of the source.
use Rattle.std.specs.Prelude.{ℕ, ◌≡◌, ◌<◌, ◌^◌, All, Contains, slice_get, List, Option, Some, None, IsSome, map, drop, slice_index}
use Rattle.std.specs.Prelude.{length}
use Rattle.std.specs.Option.{option_map}
use Rattle.un_base.specs.declared.ids.NameId.{NameId}
use Rattle.un_isa.specs.declared.start.Reply.{Reply}
use Rattle.un_isa.specs.Memories.{word_at}
use Rattle.un_isa.specs.Operands.{IsShift}
use Rattle.un_isa.specs.declared.op.Op.TheVariants.{Call}
use Rattle.un_ir.specs.Live.{targets_of}
use Rattle.un_ir.specs.declared.function.Block.{Block}
use Rattle.un_ir.specs.declared.function.SrcOp.{SrcOp}
use Rattle.un_ir.specs.Source.{SourceState, SourceStop, SourceStep, SourceRun, BlockEnd, stores, calls_with, address_in, value_in, Went}
use Rattle.un_ir.specs.Source.{Stopped, Returned, Trapped, Waiting, Running}
use Rattle.un_source.specs.declared.state.State.{State}
use Rattle.un_source.specs.declared.blocks.Left.{Left}
use Rattle.un_source.specs.declared.blocks.Left.TheVariants.{To, Ended}
use Rattle.un_source.specs.declared.state.Stop.{Stop}
use Rattle.un_source.specs.declared.state.Stop.TheVariants.{Returned as HasReturned, Trapped as HasTrapped, Waiting as IsWaiting}

-- the state of the source, where these are the start's replies
abbrev pub state_of : List Reply → State → SourceState
state_of replies s = record { values = s.values; memory = s.memory; calls = s.calls; replies = drop s.replied replies }

abbrev pub value_at : List ℕ → NameId → ℕ
value_at values name = slice_index values name.0

abbrev pub values_of : List ℕ → List NameId → List ℕ
values_of values names = map (value_at values) names

abbrev pub stop_of : Stop → SourceStop
stop_of (HasReturned v) = Returned v
stop_of HasTrapped = Trapped
stop_of (IsWaiting call) = Waiting call

-- a step comes to the state `new`, or stops and leaves the state as it was
abbrev pub IsStep : SourceStep → SourceState → SourceState → Option Stop → Type 0
IsStep step old new None = step ≡ Went new
IsStep step old new (Some stop) = (step ≡ Stopped (stop_of stop)) × (new ≡ old)

-- where operations come to an end
abbrev pub end_of : Option Stop → SourceState → BlockEnd
end_of stop s = record { stop = option_map stop_of stop; state = s }

-- an operation that a function may have: it shifts by 0 to 31, and a call has a callee
pub record CanRun (o : SrcOp) : Type 0 where
  pub shift : IsShift o.op o.imm
  pub callee : o.op ≡ Call → IsSome o.callee

-- a store and a call, as steps
abbrev pub stored : SrcOp → SourceState → SourceStep
stored o s = stores (address_in o s) (slice_index (map (value_in s) o.srcs) 1) s (word_at (address_in o s) s.memory)

abbrev pub called : SrcOp → SourceState → SourceStep
called o s = calls_with o s s.replies

-- goes on at another block, or stops
abbrev pub led : Left → SourceState → (ℕ → SourceState → SourceRun) → SourceRun
led (To b) s go = go b s
led (Ended stop) s go = record { stop = stop_of stop; state = s }

-- it goes on at one of these blocks, or stops
abbrev pub LeadsTo : List ℕ → Left → Type 0
LeadsTo targets (To b) = Contains targets b
LeadsTo targets (Ended stop) = Unit {0}

-- blocks that lead to one another and whose operations a function may have
pub record CanRunBlocks (blocks : List Block) : Type 0 where
  pub entry : 0 < length blocks
  pub few : length blocks < 2 ^ 32
  pub leads : (b : ℕ) (block : Block) (c : ℕ) → slice_get blocks b ≡ Some block → Contains (targets_of b block.term) c → c < length blocks
  pub ops : (b : ℕ) (block : Block) → slice_get blocks b ≡ Some block → All CanRun block.ops

-- how a run stops that would enter a further block, or has stopped in one
abbrev pub left_stop : Left → SourceStop
left_stop (To b) = Running b
left_stop (Ended stop) = stop_of stop

-- a further block is one of so many
abbrev pub StopsInside : ℕ → Left → Type 0
StopsInside count (To b) = b < count
StopsInside count (Ended stop) = Unit {0}
