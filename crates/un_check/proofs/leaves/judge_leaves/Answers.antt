use Rattle.un_check.proofs.leaves.judge_leaves.Goals as goal

pub has_right_bound-requires-clause-postable : goal.has_right_bound-requires-clause-postable
has_right_bound-requires-clause-postable c =
    let p = c.requires.problem in record { model = p.own; extended = p.extended; fit = p.fit; options = p.options }
