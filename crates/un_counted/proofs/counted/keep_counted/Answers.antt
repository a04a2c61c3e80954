use Rattle.std.proofs.Common.{List, ◌∙◌, ap, sym, subst}
use Rattle.un_base.specs.declared.ids.VarId.{VarId}
use Rattle.un_prop.specs.Failing.{fail_cut}
use Rattle.un_prop.specs.FailLaws.{first_all, first_fails}
use Rattle.un_prop.specs.GoingLaws.{stepped_same, stepped_by}
use Rattle.un_prop.specs.Rounds.{HasVars}
use Rattle.un_prop.specs.declared.propagator.Pruned.TheVariants.{Same}
use Rattle.un_counted.specs.declared.counted.LeastEnd.{LeastEnd}
use Rattle.un_counted.specs.Counted.{RowsVars, counted_test, counted_cut}
use Rattle.un_counted.proofs.counted.keep_counted.Goals as goal

pub some_may_hold-requires-clause-vars : goal.some_may_hold-requires-clause-vars
some_may_hold-requires-clause-vars c =
    let p = c.args.p.now in
    subst (λ (rows : List (List LeastEnd)). RowsVars c.args.w.now.vars.now rows) (sym c.as_slice.ensures)
    (subst (λ (us : List VarId). RowsVars us p.rows) (sym c.requires.vars) p.among)

pub some_may_hold-requires-clause-known : goal.some_may_hold-requires-clause-known
some_may_hold-requires-clause-known c = subst (λ (us : List VarId). HasVars us c.args.w.now.store.now.sets) (sym c.requires.vars)
    c.requires.known

pub returns-then-some_may_hold-clause-step : goal.returns-then-some_may_hold-clause-step
returns-then-some_may_hold-clause-step c =
    let vs = c.args.w.now.vars.now in
    let s = c.args.w.now.store.now in
    let p = c.args.p.now in
    let rows = ap (λ (rs : List (List LeastEnd)). counted_test rs p.limit s.sets) c.as_slice.ensures in
    let known : HasVars vs s.sets = subst (λ (us : List VarId). HasVars us s.sets) (sym c.requires.vars) c.requires.known in
    stepped_same vs (counted_cut vs p.rows p.limit) s Same
    (λ live. first_all (λ t y. counted_test p.rows p.limit t) vs s.sets known live
    (λ y. sym rows ∙ (sym c.some_may_hold.ensures ∙ c.if-some_may_hold.true)))

pub returns-clause-step : goal.returns-clause-step
returns-clause-step c =
    let vs = c.args.w.now.vars.now in
    let s = c.args.w.now.store.now in
    let p = c.args.p.now in
    let rows = ap (λ (rs : List (List LeastEnd)). counted_test rs p.limit s.sets) c.as_slice.ensures in
    stepped_by vs (counted_cut vs p.rows p.limit) (fail_cut vs) s c.fail.new.w.store.now Same c.fail.result
    (λ live. first_fails (λ t y. counted_test p.rows p.limit t) vs s.sets
    (λ y. sym rows ∙ (sym c.some_may_hold.ensures ∙ c.if-some_may_hold.false)))
    c.fail.ensures.step
