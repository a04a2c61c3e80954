-- What the timed parts are called on.
use Rattle.un_ir.specs.LinearOf.{AreLive}
use Rattle.un_model.specs.Solutions.{IsSolution}
use Rattle.un_problem.specs.Problems.{IsProblemOf}
use Rattle.un_baseline.specs.RoomyOptions.{AreRoomyFor}
use Rattle.inspect.specs.declared.times.Inputs.{Inputs}

-- a function with its model under roomy options, a solution of it, and the names live at each block's start
pub record AreInputs (x : Inputs) : Type 0 where
  pub problem : IsProblemOf x.f.now x.m.now
  pub roomy : AreRoomyFor x.f.now x.m.now.options
  pub solution : IsSolution x.m.now x.s.now
  pub live : AreLive x.f.now.blocks x.live.now.at_start
