-- How the outcome of a run of packets is told.
use Rattle.std.specs.Prelude.{◌≡◌, List, [], Some, slice_get, IsSomeAnd}
use Rattle.un_isa.specs.declared.outcome.End.{End}
use Rattle.un_isa.specs.declared.outcome.End.TheVariants
use Rattle.un_isa.specs.declared.outcome.Outcome.{Outcome}
use Rattle.un_packet.specs.declared.code.CodeBlock.{CodeBlock}
use Rattle.un_packet.specs.Step.{PacketState, PacketStop, PacketStep, Went, Jumped, Stopped, Returned, Trapped, Waiting, Running}
use Rattle.un_packet.specs.Run.{PacketRun}

-- a run that goes on is told by the label of the next block, and without values
abbrev pub IsEnd : List CodeBlock → PacketStop → End → Type 0
IsEnd blocks (Returned result target) e = e ≡ TheVariants.Returned (Some result) (Some target)
IsEnd blocks Trapped e = e ≡ TheVariants.Trapped
IsEnd blocks (Waiting call) e = e ≡ TheVariants.Waiting call
IsEnd blocks (Running b) e = IsSomeAnd (slice_get blocks b) (λ block. e ≡ TheVariants.Running block.label [])

-- packets end the run
abbrev pub EndsBy : List CodeBlock → PacketStep → End → PacketState → Type 0
EndsBy blocks (Went s) e new = ⊥
EndsBy blocks (Jumped label s) e new = ⊥
EndsBy blocks (Stopped stop s) e new = IsEnd blocks stop e × (new ≡ s)

-- a run ends so, in this state
abbrev pub EndsRun : List CodeBlock → PacketRun → End → PacketState → Type 0
EndsRun blocks run e new = IsEnd blocks run.stop e × (new ≡ run.state)

-- the outcome of a run: its end, with the memory, the calls and the cycle counter
pub record IsOutcome (blocks : List CodeBlock) (run : PacketRun) (o : Outcome) : Type 0 where
  pub ended : IsEnd blocks run.stop o.end
  pub memory : o.memory ≡ run.state.memory
  pub calls : o.calls ≡ run.state.calls
  pub cycles : o.cycles ≡ Some run.state.cycle
