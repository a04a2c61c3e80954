use Rattle.un_check.proofs.tree.check_lines.Goals as goal

pub see_lines-requires-clause-postable : goal.see_lines-requires-clause-postable
see_lines-requires-clause-postable c =
    let r = c.requires in record { model = r.model; extended = r.extended; fit = r.fit; options = r.options }

pub returns-clause-verdict : goal.returns-clause-verdict
returns-clause-verdict c nodes fit is = (c.in_ok-seen.ensures nodes fit is).verdict

pub returns-clause-sound : goal.returns-clause-sound
returns-clause-sound c nodes fit is = (c.in_ok-seen.ensures nodes fit is).standing
