use Rattle.std.proofs.Common.{take}
use Rattle.un_violations.specs.Orders.{HaveBounds}
use Rattle.un_violations.proofs.bounds.all_bounds.Given as goal

abbrev pub invariant-loop-i : goal.invariant-loop-i
invariant-loop-i l = HaveBounds l.rule (take l.i-index l.issues) l.n l.table.items
