use Rattle.std.proofs.Common.{◌≡◌, ◌-◌}
use Rattle.un_saved.specs.Joined.{marked_after}
use Rattle.un_saved.proofs.joined.mark_all.Given as goal

abbrev pub invariant-loop : goal.invariant-loop
invariant-loop l = marked_after (l.fn.rounds - l.counter) l.links l.m ≡ marked_after l.fn.rounds l.links l.initial.m
