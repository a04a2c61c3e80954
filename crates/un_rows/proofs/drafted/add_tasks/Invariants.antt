-- those that are added, and the rest
use Rattle.std.proofs.Common.{◌≡◌, ◌++◌, drop}
use Rattle.un_rows.proofs.drafted.add_tasks.Given as goal

abbrev pub invariant-loop-task : goal.invariant-loop-task
invariant-loop-task l = l.ops ++ drop l.task-index l.more ≡ l.initial.ops ++ l.more
