use Rattle.std.proofs.Common.{ℕ, ◌≡◌, ◌<◌, true, sym, subst}
use Rattle.std.specs.Prelude.{Option}
use Rattle.un_base.specs.declared.ids.VarId.{VarId}
use Rattle.un_domains.specs.Sets.{set_at, has}
use Rattle.un_steps.specs.Words.{instrs_by}
use Rattle.un_steps.proofs.Looks.{parts}
use Rattle.un_steps.proofs.operation.numbers_end.Goals as goal

pub returns-in-Some-clause-above : goal.returns-in-Some-clause-above
returns-in-Some-clause-above c = subst (λ (z : Option VarId). (n : ℕ) → has (instrs_by c.args.s.now.sets z) n ≡ true → n < c.end.result)
    (sym c.in-Some.is) (λ n h. let p = parts (set_at c.args.s.now.sets c.in-Some.v.0) n h in c.end.ensures.above n p.1)
