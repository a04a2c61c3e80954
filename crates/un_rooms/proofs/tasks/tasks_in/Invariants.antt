use Rattle.std.proofs.Common.{◌≡◌, ◌++◌, drop, map}
use Rattle.un_sites.specs.Lengths.{is_task, task_of, tasks_in}
use Rattle.un_sites.specs.Postings.{with_kind}
use Rattle.un_sites.specs.Sites.{place_of}
use Rattle.un_rooms.proofs.tasks.tasks_in.Given as goal

abbrev pub invariant-loop-i : goal.invariant-loop-i
invariant-loop-i l =
    l.ops ++ map (task_of l.t l.registers l.is_entry l.fn.owed l.arcs (map place_of l.spots))
    (with_kind is_task (map place_of (drop l.i l.spots)))
    ≡ tasks_in l.t l.registers l.is_entry l.fn.owed l.arcs (map place_of l.spots)
