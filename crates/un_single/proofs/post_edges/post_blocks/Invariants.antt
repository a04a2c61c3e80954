use Rattle.std.proofs.Common.{◌≡◌, ◌++◌, drop}
use Rattle.un_model.specs.Pairs.{over_blocks}
use Rattle.un_sites.specs.Postings.{edges_of}
use Rattle.un_sites.specs.Sites.{definers_in}
use Rattle.un_single.proofs.post_edges.post_blocks.Given as goal

abbrev pub invariant-loop-k : goal.invariant-loop-k
invariant-loop-k l = l.props ++ over_blocks (edges_of l.blocks (definers_in l.sites)) l.k l.n (drop l.k l.blocks) (drop l.k l.vars) ≡
    l.initial.props ++ over_blocks (edges_of l.blocks (definers_in l.sites)) 0 0 l.blocks l.vars
