-- the rounds fail at the one and not at the other, between the bounds
use Rattle.std.proofs.Common.{◌≡◌, ◌<◌, ◌≤◌, ◌-◌}
use Rattle.un_search.proofs.lifts.halved.Given as goal

abbrev pub invariant-loop-holds : goal.invariant-loop-holds
invariant-loop-holds l = record {
  same : l.engine ≡ l.fn.engine;
  low : l.fn.first.fails ≤ l.fails;
  between : l.fails < l.holds;
  high : l.holds ≤ l.fn.first.holds;
}

abbrev pub decreases-loop-holds : goal.decreases-loop-holds
decreases-loop-holds l = l.holds - l.fails
