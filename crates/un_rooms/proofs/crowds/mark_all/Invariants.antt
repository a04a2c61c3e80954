use Rattle.std.proofs.Common.{◌≡◌, ◌-◌}
use Rattle.un_sites.specs.Saved.{marked_after}
use Rattle.un_rooms.proofs.crowds.mark_all.Given as goal

abbrev pub invariant-loop : goal.invariant-loop
invariant-loop l =
    marked_after (l.fn.rounds - l.counter) l.keeping l.edges l.marks ≡ marked_after l.fn.rounds l.keeping l.edges l.initial.marks
