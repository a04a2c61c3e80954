use Rattle.std.proofs.Common.{◌≡◌, ◌+◌, drop}
use Rattle.un_sites.specs.Lengths.{task_place}
use Rattle.un_rooms.proofs.tasks.task_place.Given as goal

abbrev pub invariant-loop-i : goal.invariant-loop-i
invariant-loop-i l = l.i + task_place (drop l.i l.ops) l.v ≡ task_place l.ops l.v
