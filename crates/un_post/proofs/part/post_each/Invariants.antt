use Rattle.std.proofs.Common.{◌≡◌, ◌++◌, drop}
use Rattle.un_model.specs.Pairs.{over_blocks}
use Rattle.un_sites.specs.Places.{definers_of}
use Rattle.un_post.specs.PartPostings.{part_in, where_block}
use Rattle.un_post.proofs.part.post_each.Given as goal

-- the rest of the blocks
abbrev pub invariant-loop-i : goal.invariant-loop-i
invariant-loop-i l = l.props ++ over_blocks (where_block l.k.0 (part_in l.m (definers_of l.m) l.limit)) l.i l.n (drop l.i l.m.ext.blocks)
    (drop l.i l.m.blocks) ≡ l.initial.props ++ over_blocks (where_block l.k.0 (part_in l.m (definers_of l.m) l.limit)) 0 0 l.m.ext.blocks
    l.m.blocks
