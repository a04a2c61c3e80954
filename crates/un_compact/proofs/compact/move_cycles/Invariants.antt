use Rattle.std.proofs.Common.{ℕ, Bool, List, take}
use Rattle.std.specs.Prelude.{◌||◌}
use Rattle.un_violations.specs.Loose.{is_cycle}
use Rattle.un_compact.specs.Squeezes.{is_in, squeezed}
use Rattle.un_compact.specs.Retimed.{AreMoved}
use Rattle.un_compact.proofs.compact.move_cycles.Given as goal

abbrev pub invariant-loop-op : goal.invariant-loop-op
invariant-loop-op l = (p : ℕ → Bool) (before : List ℕ) → AreMoved p (squeezed (is_in l.times)) l.old before l.fn.new
    → AreMoved (λ k. p k || is_cycle (take l.op-index l.ops) k) (squeezed (is_in l.times)) l.old before l.new
