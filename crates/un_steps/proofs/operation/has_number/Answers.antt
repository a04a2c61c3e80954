use Rattle.std.proofs.Common.{◌≡◌, sym, subst}
use Rattle.std.specs.Prelude.{Option, nat_lt}
use Rattle.un_base.specs.declared.ids.VarId.{VarId}
use Rattle.un_domains.specs.Sets.{set_at, has}
use Rattle.un_steps.specs.Words.{instrs_by}
use Rattle.un_steps.proofs.Looks.{positive_there, positive_not}
use Rattle.un_steps.proofs.operation.has_number.Goals as goal

pub returns-then-n-gt0 : goal.returns-then-n-gt0
returns-then-n-gt0 c = subst (λ (z : Option VarId). c.has.result ≡ has (instrs_by c.args.s.now.sets z) c.args.n) (sym c.in-Some.is)
    (positive_there (set_at c.args.s.now.sets c.in-Some.v.0) c.args.n c.has.result c.if-n-gt0.true c.has.ensures)

pub returns-else-n-gt0 : goal.returns-else-n-gt0
returns-else-n-gt0 c = subst (λ (z : Option VarId). nat_lt 0 c.args.n ≡ has (instrs_by c.args.s.now.sets z) c.args.n) (sym c.in-Some.is)
    (positive_not (set_at c.args.s.now.sets c.in-Some.v.0) c.args.n c.if-n-gt0.false)
