use Rattle.std.proofs.Common.{◌≡◌, drop}
use Rattle.un_ir.specs.ExtendOf.{with_all_extended}
use Rattle.un_extend.proofs.ops.push_all_extended.Given as goal

abbrev pub invariant-loop-op : goal.invariant-loop-op
invariant-loop-op l =
    with_all_extended l.names l.live_in l.is_entry l.saved (drop l.op-index l.ops) l.g ≡ with_all_extended l.names l.live_in l.is_entry
    l.saved l.ops l.initial.g
