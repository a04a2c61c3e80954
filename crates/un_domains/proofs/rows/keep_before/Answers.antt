use Rattle.std.proofs.Common.{nat_lt}
use Rattle.un_domains.specs.ShapeLaws.{code_cut}
use Rattle.un_domains.proofs.rows.keep_before.Goals as goal

pub returns : goal.returns
returns c =
    code_cut (λ i. nat_lt i c.args.k) c.args.at c.args.n c.args.words.now c.write.new.words c.answer.result c.as_slice-all.result.now
    c.row.result.now
    c.bounds_at-old.result.lo c.bounds_at-old.result.end c.before-new.result.lo c.before-new.result.end c.requires.within c.requires.tight
    c.as_slice-all.ensures c.bounds_at-old.ensures.lo c.bounds_at-old.ensures.end c.row.ensures c.before-new.ensures.set
    c.before-new.ensures.tight c.before-new.ensures.within c.write.ensures.words c.write.ensures.marked c.answer.ensures
