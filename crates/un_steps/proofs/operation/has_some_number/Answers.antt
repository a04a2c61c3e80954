use Rattle.std.proofs.Common.{◌↔◌, ◌<◌, Bool, length, filter, sym, subst}
use Rattle.std.specs.Prelude.{Option, IsTrue}
use Rattle.un_base.specs.declared.ids.VarId.{VarId}
use Rattle.un_domains.specs.Sets.{set_at}
use Rattle.un_steps.specs.Words.{instrs_by, is_positive}
use Rattle.un_steps.proofs.Looks.{some_least}
use Rattle.un_steps.proofs.operation.has_some_number.Goals as goal

pub returns-in-Some : goal.returns-in-Some
returns-in-Some c = subst (λ (z : Option VarId). IsTrue c.is_some.result ↔ (0 < length (instrs_by c.args.s.now.sets z))) (sym c.in-Some.is)
    (subst (λ (b : Bool). IsTrue b ↔ (0 < length (filter is_positive (set_at c.args.s.now.sets c.in-Some.v.0)))) (sym c.is_some.ensures)
    (some_least (filter is_positive (set_at c.args.s.now.sets c.in-Some.v.0)) c.least_positive-least.result c.least_positive-least.ensures))
