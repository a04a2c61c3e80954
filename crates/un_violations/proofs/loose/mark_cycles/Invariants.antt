use Rattle.std.proofs.Common.{ℕ, Bool, take}
use Rattle.std.specs.Prelude.{◌||◌}
use Rattle.un_violations.specs.Loose.{is_cycle}
use Rattle.un_violations.specs.Marks.{AreMarked}
use Rattle.un_violations.proofs.loose.mark_cycles.Given as goal

abbrev pub invariant-loop-op : goal.invariant-loop-op
invariant-loop-op l = (p : ℕ → Bool) (n : ℕ) → AreMarked p l.fn.times n
    → AreMarked (λ k. p k || is_cycle (take l.op-index l.ops) k) l.times n
