use Rattle.std.proofs.Common.{nat_eq}
use Rattle.un_domains.specs.ShapeLaws.{code_cut}
use Rattle.un_domains.proofs.rows.keep_only.Goals as goal

pub returns : goal.returns
returns c =
    code_cut (λ i. nat_eq i c.args.k) c.args.at c.args.n c.args.words.now c.write.new.words c.answer.result c.as_slice-all.result.now
    c.row.result.now
    c.bounds_at-old.result.lo c.bounds_at-old.result.end c.only-new.result.lo c.only-new.result.end c.requires.within c.requires.tight
    c.as_slice-all.ensures c.bounds_at-old.ensures.lo c.bounds_at-old.ensures.end c.row.ensures c.only-new.ensures.set
    c.only-new.ensures.tight c.only-new.ensures.within c.write.ensures.words c.write.ensures.marked c.answer.ensures
