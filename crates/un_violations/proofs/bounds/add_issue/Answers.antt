use Rattle.un_violations.proofs.Apartness.{have_more}
use Rattle.un_violations.proofs.bounds.add_issue.Goals as goal

pub returns : goal.returns
returns c = λ issues n h. have_more c.args.rule issues n c.args.table.now.items c.args.i.now c.index.result.now c.after.result c.requires
    c.index.ensures c.after.ensures h
