-- a run so far, with as much room
use Rattle.std.proofs.Common.{◌≡◌, length}
use Rattle.un_prop.proofs.RunLaws.{SoFar, work}
use Rattle.un_prop.proofs.changed.run_from.Given as goal

abbrev pub invariant-loop-i : goal.invariant-loop-i
invariant-loop-i g l = record {
  so_far : SoFar g.P.Predicate.scope g.P.Propagator.cut g.met.P.Propagator.lawful l.props l.fn.store.sets l.store.sets l.waiting
      l.sizes.words;
  sizes : l.sizes.marked ≡ l.fn.sizes.marked;
  marked : l.store.marked ≡ l.fn.store.marked;
  fixed : length l.scratch.fixed.items ≡ length l.fn.scratch.fixed.items;
  cycles : length l.scratch.cycles.items ≡ length l.fn.scratch.cycles.items;
}

abbrev pub decreases-loop-i : goal.decreases-loop-i
decreases-loop-i g l = work (length l.props) l.store.sets l.waiting
