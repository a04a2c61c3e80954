-- each variable has a value left
use Rattle.std.proofs.Common.{◌≡◌, length}
use Rattle.un_domains.specs.Sets.{NoneEmpty}
use Rattle.inspect.proofs.rounds.decide_all.Given as goal

abbrev pub invariant-loop-decision : goal.invariant-loop-decision
invariant-loop-decision l = record {
  live : NoneEmpty l.store.sets;
  long : length l.store.sets ≡ length l.fn.store.sets;
  marked : l.store.marked ≡ l.fn.store.marked;
}
