use Rattle.std.proofs.Common.{sym, subst, inl, inr}
use Rattle.std.specs.Prelude.{Option}
use Rattle.un_base.specs.declared.ids.VarId.{VarId}
use Rattle.un_steps.specs.Words.{IsVar}
use Rattle.un_logs.proofs.reach.reach_between.Goals as goal

pub returns-then-is_var : goal.returns-then-is_var
returns-then-is_var c = λ y h k.
    elim k [
      | inl q ↦ c.early.ensures y (c.left-all.ensures y h) q.1
      | inr q ↦
          let t = c.is_var-then-is_var.ensures.1
          (subst (λ (o : Option VarId). IsVar o c.args.v.0) (sym c.time-then-is_var.ensures) q.0) in
          let f = c.if-is_var-2.false in absurd (cc (t, f))
    ]

pub returns : goal.returns
returns c = λ y h k.
    elim k [
      | inl q ↦
          let t = c.is_var.ensures.1 (subst (λ (o : Option VarId). IsVar o c.args.v.0) (sym c.time.ensures) q.0) in
          let f = c.if-is_var.false in absurd (cc (t, f))
      | inr q ↦ c.late.ensures y (c.left-all.ensures y h) q.1
    ]
