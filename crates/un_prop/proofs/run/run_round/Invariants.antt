-- a round so far, with as much room
use Rattle.std.proofs.Common.{◌≡◌, length}
use Rattle.un_prop.proofs.RoundLaws.{SoFar}
use Rattle.un_prop.proofs.run.run_round.Given as goal

abbrev pub invariant-loop-p : goal.invariant-loop-p
invariant-loop-p g l = record {
  so_far : SoFar g.P.Predicate.scope g.P.Propagator.cut g.met.P.Propagator.lawful l.props l.fn.store l.p-index l.store l.changed;
  fixed : length l.scratch.fixed.items ≡ length l.fn.scratch.fixed.items;
  cycles : length l.scratch.cycles.items ≡ length l.fn.scratch.cycles.items;
}
