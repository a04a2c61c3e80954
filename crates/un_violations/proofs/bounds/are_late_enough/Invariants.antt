use Rattle.std.proofs.Common.{ℕ, ◌<◌, get_or}
use Rattle.un_model.specs.declared.schedule.Issue.{Issue}
use Rattle.un_violations.proofs.Apartness.{IsLate}
use Rattle.un_violations.proofs.bounds.are_late_enough.Given as goal

abbrev pub invariant-loop-i : goal.invariant-loop-i
invariant-loop-i l = (k : ℕ) (d : Issue) → k < l.i-index → IsLate l.table (get_or l.issues k d)
