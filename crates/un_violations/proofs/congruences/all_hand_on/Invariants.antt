use Rattle.std.proofs.Common.{ℕ, ◌<◌, get_or}
use Rattle.std.specs.Prelude.{◌==◌}
use Rattle.std.specs.List.{filter}
use Rattle.un_ir.specs.declared.extended.ExtBlock.{ExtBlock}
use Rattle.un_model.specs.declared.schedule.Read.{Read}
use Rattle.un_violations.specs.Orders.{HandsAll}
use Rattle.un_violations.proofs.congruences.all_hand_on.Given as goal

abbrev pub invariant-loop-k : goal.invariant-loop-k
invariant-loop-k l =
    (n : ℕ) (a : ExtBlock) → n < l.k → HandsAll l.blocks l.ranges (filter (λ (r : Read). r.block.0 == n) l.ends) n (get_or l.blocks n a)
