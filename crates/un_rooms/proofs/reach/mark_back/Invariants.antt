use Rattle.std.proofs.Common.{ℕ, ◌-◌, List, length, drop}
use Rattle.un_rooms.specs.Reach.{Marks, leading}
use Rattle.un_rooms.proofs.reach.mark_back.Given as goal

abbrev pub invariant-loop-k : goal.invariant-loop-k
invariant-loop-k l = (ns : List ℕ) → Marks l.low l.initial.marks ns → Marks l.low l.marks (leading (drop (length l.arcs - l.k) l.arcs) ns)
