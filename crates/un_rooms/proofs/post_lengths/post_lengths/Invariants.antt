use Rattle.std.proofs.Common.{◌≡◌, ◌++◌, drop}
use Rattle.un_model.specs.Pairs.{over_blocks}
use Rattle.un_sites.specs.Befores.{length_in, lengths_of}
use Rattle.un_rooms.proofs.post_lengths.post_lengths.Given as goal

abbrev pub invariant-loop-k : goal.invariant-loop-k
invariant-loop-k l = l.props ++ over_blocks (length_in l.m) l.k l.n (drop l.k l.m.ext.blocks) (drop l.k l.m.blocks) ≡
    l.initial.props ++ lengths_of l.m
