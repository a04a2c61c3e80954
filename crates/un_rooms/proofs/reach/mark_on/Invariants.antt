use Rattle.std.proofs.Common.{ℕ, List, fold, take}
use Rattle.un_rooms.specs.Reach.{Marks}
use Rattle.un_sites.specs.Rooms.{led_by}
use Rattle.un_rooms.proofs.reach.mark_on.Given as goal

abbrev pub invariant-loop-arc : goal.invariant-loop-arc
invariant-loop-arc l = (ns : List ℕ) → Marks l.low l.initial.marks ns → Marks l.low l.marks (fold led_by ns (take l.arc-index l.arcs))
