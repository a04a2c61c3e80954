-- the greatest so far, and of the rest
use Rattle.std.proofs.Common.{◌≡◌, ◌+◌, drop, map, max}
use Rattle.std.specs.Prelude.{fold}
use Rattle.un_length.specs.declared.block.Task.{Task}
use Rattle.un_rows.specs.Drafts.{past_all}
use Rattle.un_rows.proofs.drafted.past_all.Given as goal

abbrev pub invariant-loop-task : goal.invariant-loop-task
invariant-loop-task l = fold max l.past (map (λ (t : Task). t.at.0 + 1) (drop l.task-index l.ops)) ≡ past_all l.ops
