use Rattle.un_violations.proofs.Apartness.{Kept}
use Rattle.un_violations.proofs.bounds.keeps_order.Given as goal

abbrev pub invariant-loop-i : goal.invariant-loop-i
invariant-loop-i l = Kept l.rule l.issues l.n l.i-index l.table.items
