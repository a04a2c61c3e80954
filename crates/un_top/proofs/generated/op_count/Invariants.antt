-- the operations so far with those of the blocks that are left are all
use Rattle.std.proofs.Common.{◌≡◌, ◌+◌, drop}
use Rattle.un_top.specs.Generated.{op_count}
use Rattle.un_top.proofs.generated.op_count.Given as goal

abbrev pub invariant-loop-block : goal.invariant-loop-block
invariant-loop-block l = l.count + op_count (drop l.block-index l.blocks) ≡ op_count l.blocks
