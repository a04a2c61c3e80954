-- the same engine, from the same sets
use Rattle.std.proofs.Common.{◌≡◌, length}
use Rattle.un_search.specs.Dives.{base_of}
use Rattle.un_search.proofs.dive.up.Given as goal

abbrev pub invariant-loop-engine : goal.invariant-loop-engine
invariant-loop-engine l = base_of l.engine ≡ base_of l.fn.engine

abbrev pub decreases-loop-engine : goal.decreases-loop-engine
decreases-loop-engine l = length l.engine.store.marked
