-- the blocks that are left
use Rattle.std.proofs.Common.{◌≡◌, ◌++◌, drop}
use Rattle.un_ir.specs.LinearOf.{linear_blocks}
use Rattle.un_lssa.specs.Making.{past_blocks}
use Rattle.un_lssa.proofs.blocks.linear_blocks.Given as goal

abbrev pub invariant-loop-b : goal.invariant-loop-b
invariant-loop-b l = record {
  past : past_blocks l.t l.live.at_start l.b l.n (drop l.b l.blocks) ≡ past_blocks l.t l.live.at_start 0 0 l.blocks;
  made : l.made ++ linear_blocks l.t l.names l.live.at_start l.b l.n (drop l.b l.blocks) ≡ linear_blocks l.t l.names l.live.at_start 0 0
      l.blocks;
}
