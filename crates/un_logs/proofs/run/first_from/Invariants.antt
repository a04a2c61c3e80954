-- no value before this one may go
use Rattle.std.proofs.Common.{ℕ, ◌<◌, ◌≤◌}
use Rattle.un_logs.specs.Rounds.{Leaves}
use Rattle.un_logs.proofs.run.first_from.Given as goal

abbrev pub invariant-loop-y : goal.invariant-loop-y
invariant-loop-y l = (z : ℕ) → l.fn.from ≤ z → z < l.y → Leaves l.r.m.now l.r.limit l.t l.s.sets z → ⊥
