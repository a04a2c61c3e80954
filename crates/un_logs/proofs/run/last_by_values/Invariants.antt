-- the run goes to the last value so far, and no value is left behind it
use Rattle.std.proofs.Common.{ℕ, ◌≡◌, ◌<◌, ◌≤◌, true}
use Rattle.un_domains.specs.Sets.{set_at, has}
use Rattle.un_logs.specs.Rounds.{AllGo}
use Rattle.un_logs.proofs.run.last_by_values.Given as goal

abbrev pub invariant-loop-y : goal.invariant-loop-y
invariant-loop-y l = record {
  order : l.first ≤ l.last;
  below : l.last < l.y;
  left : has (set_at l.s.sets l.t.var.0) l.last ≡ true;
  each : AllGo l.r.m.now l.r.limit l.t l.s.sets l.first l.last;
  none : (z : ℕ) → l.last < z → z < l.y → has (set_at l.s.sets l.t.var.0) z ≡ true → ⊥;
}
