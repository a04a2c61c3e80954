-- the blocks so far with those that are to be drawn are all
use Rattle.std.proofs.Common.{◌≡◌, ◌-◌, ◌++◌}
use Rattle.un_gen.specs.Generated.{blocks_after, all_blocks}
use Rattle.un_gen.proofs.blocks.all_blocks.Given as goal

abbrev pub invariant-loop-b : goal.invariant-loop-b
invariant-loop-b l = l.blocks ++ blocks_after l.size l.b (l.size - l.b) l.draws.state ≡ all_blocks l.fn.seed l.size
