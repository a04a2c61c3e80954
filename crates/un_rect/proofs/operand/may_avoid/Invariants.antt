-- no place below i has such a register
use Rattle.std.proofs.Common.{◌≡◌, false}
use Rattle.un_domains.specs.Sets.{set_at}
use Rattle.un_prop.specs.Somewhere.{any_before}
use Rattle.un_rect.specs.Operands.{avoids_at}
use Rattle.un_rect.specs.Sides.{side_of}
use Rattle.un_rect.proofs.operand.may_avoid.Given as goal

abbrev pub invariant-loop-i : goal.invariant-loop-i
invariant-loop-i l = any_before (avoids_at (side_of l.o) l.w.store.now.sets l.r) (set_at l.w.store.now.sets l.o.choice.0) l.i ≡ false
