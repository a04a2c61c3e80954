use Rattle.std.proofs.Common.{ap, sym, ◌∙◌}
use Rattle.un_domains.specs.declared.domain.Domain.{Domain}
use Rattle.un_domains.specs.Domains.{values_of}
use Rattle.un_domains.specs.Sets.{has}
use Rattle.un_symm.proofs.Domains.{range_has, range_lacks}
use Rattle.un_symm.proofs.interchangeable.has.Goals as goal

pub returns-then-lo-x : goal.returns-then-lo-x
returns-then-lo-x c =
    range_has c.in-Range.lo c.in-Range.hi c.args.x c.if-lo-x.true
    ∙ ap (λ (d : Domain). has (values_of d) c.args.x) (sym c.in-Range.is)

pub returns-else-lo-x : goal.returns-else-lo-x
returns-else-lo-x c =
    range_lacks c.in-Range.lo c.in-Range.hi c.args.x c.if-lo-x.false
    ∙ ap (λ (d : Domain). has (values_of d) c.args.x) (sym c.in-Range.is)
