use Rattle.std.proofs.Common.{sym, ◌∙◌}
use Rattle.un_domains.specs.Sets.{set_at}
use Rattle.un_steps.proofs.Looks.{one_value}
use Rattle.un_steps.proofs.look.is_only.Goals as goal

pub returns : goal.returns
returns c = one_value (set_at c.args.s.now.sets c.args.v.0) c.args.y (sym c.size.ensures.value ∙ c.if-size-ne1.false) c.has.result c.has.ensures
