use Rattle.std.proofs.Common.{◌≡◌, length, take}
use Rattle.un_merges.specs.Lowered.{AreLowered}
use Rattle.un_merges.proofs.merges.lower_cycles.Given as goal

abbrev pub invariant-loop-op : goal.invariant-loop-op
invariant-loop-op l = (length l.new ≡ length l.old) × AreLowered (take l.op-index l.ops) l.t l.old l.new
