use Rattle.std.proofs.Common.{◌≡◌, ◌++◌, drop}
use Rattle.un_model.specs.Pairs.{over_blocks}
use Rattle.un_sites.specs.Postings.{leaves_in}
use Rattle.un_single.proofs.post_frame.all_leaves.Given as goal

abbrev pub invariant-loop-k : goal.invariant-loop-k
invariant-loop-k l = l.leaves ++ over_blocks leaves_in l.k l.n (drop l.k l.m.ext.blocks) (drop l.k l.m.blocks) ≡ over_blocks leaves_in 0 0
    l.m.ext.blocks
    l.m.blocks
