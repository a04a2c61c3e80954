use Rattle.std.proofs.Common.{◌≡◌, ◌++◌, drop}
use Rattle.un_model.specs.Pairs.{over_blocks}
use Rattle.un_sites.specs.Pressures.{pressure_in}
use Rattle.un_sites.specs.Sites.{definers_in}
use Rattle.un_rooms.proofs.post_pressures.post_pressures.Given as goal

abbrev pub invariant-loop-k : goal.invariant-loop-k
invariant-loop-k l = l.props ++ over_blocks (pressure_in l.m (definers_in l.sites)) l.k l.n
    (drop l.k l.m.ext.blocks) (drop l.k l.m.blocks) ≡ l.initial.props ++ over_blocks
    (pressure_in l.m (definers_in l.sites)) 0 0 l.m.ext.blocks l.m.blocks
