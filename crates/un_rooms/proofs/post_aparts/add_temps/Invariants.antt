use Rattle.std.proofs.Common.{◌≡◌, ◌++◌, drop}
use Rattle.un_rooms.proofs.post_aparts.add_temps.Given as goal

abbrev pub invariant-loop-t : goal.invariant-loop-t
invariant-loop-t l = l.temps ++ drop l.t-index l.more ≡ l.initial.temps ++ l.more
