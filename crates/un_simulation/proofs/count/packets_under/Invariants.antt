-- what is left decides
use Rattle.std.proofs.Common.{◌≡◌, drop}
use Rattle.un_simulation.specs.Count.{packets_under}
use Rattle.un_simulation.proofs.count.packets_under.Given as goal

abbrev pub invariant-loop-block : goal.invariant-loop-block
invariant-loop-block l = packets_under (drop l.block-index l.blocks) l.label ≡ packets_under l.blocks l.label
