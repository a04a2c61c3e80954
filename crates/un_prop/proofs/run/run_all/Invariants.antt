-- rounds so far, with as much room
use Rattle.std.proofs.Common.{◌≡◌, length}
use Rattle.un_domains.specs.Sets.{total}
use Rattle.un_prop.proofs.RoundLaws.{FixSoFar}
use Rattle.un_prop.proofs.run.run_all.Given as goal

abbrev pub invariant-loop : goal.invariant-loop
invariant-loop g l = record {
  so_far : FixSoFar g.P.Predicate.scope g.P.Propagator.cut g.met.P.Propagator.lawful g.P.Predicate.holds l.props l.fn.store l.store;
  fixed : length l.scratch.fixed.items ≡ length l.fn.scratch.fixed.items;
  cycles : length l.scratch.cycles.items ≡ length l.fn.scratch.cycles.items;
}

abbrev pub decreases-loop : goal.decreases-loop
decreases-loop g l = total l.store.sets
