use Rattle.std.proofs.Common.{◌≡◌, drop}
use Rattle.un_press.specs.Searches.{cycle_in}
use Rattle.un_press.proofs.carrier.cycle_at.Given as goal

abbrev pub invariant-loop-k : goal.invariant-loop-k
invariant-loop-k l =
    cycle_in l.values l.left (drop l.k l.m.ext.blocks) (drop l.k l.m.blocks) ≡ cycle_in l.values l.fn.op.0 l.m.ext.blocks l.m.blocks
