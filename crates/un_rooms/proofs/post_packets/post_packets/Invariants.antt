use Rattle.std.proofs.Common.{◌≡◌, ◌++◌, drop}
use Rattle.un_model.specs.Pairs.{over_blocks}
use Rattle.un_sites.specs.Rooms.{packets_in, packets_of}
use Rattle.un_rooms.proofs.post_packets.post_packets.Given as goal

abbrev pub invariant-loop-k : goal.invariant-loop-k
invariant-loop-k l = l.props ++ over_blocks (packets_in l.m.ext.table) l.k l.n (drop l.k l.m.ext.blocks) (drop l.k l.m.blocks) ≡
    l.initial.props ++ packets_of l.m
