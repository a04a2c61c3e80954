use Rattle.std.proofs.Common.{sym, subst}
use Rattle.std.specs.declared.option.Option.{Option}
use Rattle.un_base.specs.declared.ids.VarId.{VarId}
use Rattle.un_rect.specs.Checks.{IsUndecided}
use Rattle.un_rect.proofs.checks.to_decide.Goals as goal

pub returns-in-Some : goal.returns-in-Some
returns-in-Some c = subst (λ (v : Option VarId). IsUndecided c.args.w.now.vars.now c.args.a.now c.args.b.now c.args.w.now.store.now.sets v)
    (sym c.var_of.ensures) (c.requires.noted c.in-Some.opened c.in-Some.is)
