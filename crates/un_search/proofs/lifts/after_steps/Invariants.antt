-- the rounds fail at the one, below the other; steps are never none
use Rattle.std.proofs.Common.{◌≡◌, ◌<◌, ◌≤◌, ◌-◌}
use Rattle.un_search.proofs.lifts.after_steps.Given as goal

abbrev pub invariant-loop-step : goal.invariant-loop-step
invariant-loop-step l = record {
  same : l.engine ≡ l.fn.engine;
  low : l.fn.first.fails ≤ l.fails;
  between : l.fails < l.holds;
  some : 0 < l.step;
}

abbrev pub decreases-loop-step : goal.decreases-loop-step
decreases-loop-step l = l.holds - l.fails
