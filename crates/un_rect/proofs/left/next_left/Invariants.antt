-- of the temporaries from place `from` to place i there is nothing to check
use Rattle.std.proofs.Common.{ℕ, ◌≤◌, ◌<◌}
use Rattle.un_rect.specs.Extents.{IsNoted}
use Rattle.un_rect.specs.declared.opened.Opened.TheVariants.{More}
use Rattle.un_rect.proofs.left.next_left.Given as goal

abbrev pub invariant-loop-i : goal.invariant-loop-i
invariant-loop-i l = (k : ℕ) → l.from ≤ k → k < l.i → IsNoted l.left l.fn.did k l.j More
