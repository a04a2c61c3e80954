-- the temporaries from place `from` to place i are spared
use Rattle.std.proofs.Common.{ℕ, ◌≤◌, ◌<◌}
use Rattle.un_rect.specs.Extents.{AreSpared, may_order}
use Rattle.un_rect.proofs.orders.next_order.Given as goal

abbrev pub invariant-loop-i : goal.invariant-loop-i
invariant-loop-i l = (k : ℕ) → l.from ≤ k → k < l.i → AreSpared may_order l.extents l.fn.did k l.j
