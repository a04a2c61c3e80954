use Rattle.un_search.proofs.AttemptLemmas.{closed_root}
use Rattle.un_search.proofs.attempt.refuted.Goals as goal

pub returns-clause-refuted : goal.returns-clause-refuted
returns-clause-refuted c =
    let lost = c.requires.lost in
    closed_root c.args.m.now c.args.limit lost.posted.props c.args.nodes _ lost.posted.are lost.full lost.fails c.in_ok-tree.ensures
    c.requires.some
