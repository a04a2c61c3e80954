use Rattle.std.proofs.Common.{ℕ, List, fold, take}
use Rattle.un_rooms.specs.Reach.{Marks}
use Rattle.un_sites.specs.Rooms.{waits_by}
use Rattle.un_rooms.proofs.reach.mark_waits.Given as goal

abbrev pub invariant-loop-arc : goal.invariant-loop-arc
invariant-loop-arc l = (ns ms : List ℕ) → Marks l.low l.reached ns → Marks l.low l.initial.late ms
    → Marks l.low l.late (fold (waits_by ns) ms (take l.arc-index l.arcs))
