-- those that are added, and those of the rest
use Rattle.std.proofs.Common.{◌≡◌, ◌++◌, drop}
use Rattle.un_rows.specs.Drafts.{owed_tasks}
use Rattle.un_rows.proofs.drafted.add_owed.Given as goal

abbrev pub invariant-loop-one : goal.invariant-loop-one
invariant-loop-one l = l.ops ++ owed_tasks l.t l.v (drop l.one-index l.owed) ≡ l.initial.ops ++ owed_tasks l.t l.first l.owed
