use Rattle.un_search.proofs.SolveLemmas.{best_code}
use Rattle.un_search.proofs.solve.with_bound.Goals as goal

pub returns-clause-last : goal.returns-clause-last
returns-clause-last c =
    let m = c.args.m.now in
    let p = c.requires.postable in
    best_code m p.model p.extended p.fit p.options c.args.nodes c.args.best c.args.tree.nodes.items _ c.requires.best c.requires.ended
    (c.bound_of-bound.ensures c.args.tree.nodes.items c.requires.lowest)
