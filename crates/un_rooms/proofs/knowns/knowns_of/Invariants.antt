-- those that are added, and those of the rest
use Rattle.std.proofs.Common.{◌≡◌, ◌++◌, drop}
use Rattle.un_model.specs.Pairs.{over_blocks}
use Rattle.un_rows.specs.Rows.{known_in, knowns_of}
use Rattle.un_saved.specs.Joined.{joined_in}
use Rattle.un_rooms.proofs.knowns.knowns_of.Given as goal

abbrev pub invariant-loop-k : goal.invariant-loop-k
invariant-loop-k l =
    l.knowns ++ over_blocks (known_in l.m (joined_in l.m.ext.blocks)) l.k l.n (drop l.k l.m.ext.blocks) (drop l.k l.m.blocks)
    ≡ knowns_of l.m
