use Rattle.std.proofs.Common.{◌∙◌, sym}
use Rattle.un_prop.specs.Failing.{fail_cut}
use Rattle.un_prop.specs.FailLaws.{first_all, first_fails}
use Rattle.un_prop.specs.GoingLaws.{stepped_same, stepped_by}
use Rattle.un_slots.specs.Crowds.{crowds_fit, crowd_cut}
use Rattle.un_slots.proofs.Going.{going}
use Rattle.un_slots.proofs.crowd.keep_crowds.Goals as goal

pub all_fit-requires-clause-vars : goal.all_fit-requires-clause-vars
all_fit-requires-clause-vars c = c.requires.vars

pub all_fit-requires-clause-known : goal.all_fit-requires-clause-known
all_fit-requires-clause-known c = c.requires.known

pub all_fit-requires-clause-live : goal.all_fit-requires-clause-live
all_fit-requires-clause-live c = c.requires.live (going c.args.before c.if-eq.ensures)

pub fail-requires-clause-known : goal.fail-requires-clause-known
fail-requires-clause-known c = c.requires.known

pub fail-requires-clause-going : goal.fail-requires-clause-going
fail-requires-clause-going c = going c.args.before c.if-eq.ensures

pub returns-then-all_fit-clause-step : goal.returns-then-all_fit-clause-step
returns-then-all_fit-clause-step c =
    let vs = c.args.w.now.vars.now in
    let s = c.args.w.now.store.now in
    stepped_same vs (crowd_cut vs c.args.items.now c.args.horizon) s c.args.before
    (λ live. first_all (λ t y. crowds_fit c.args.items.now c.args.horizon t) vs s.sets c.requires.known live
    (λ y. sym c.all_fit.ensures.fits ∙ c.if-all_fit.true))

pub returns-clause-step : goal.returns-clause-step
returns-clause-step c =
    let vs = c.args.w.now.vars.now in
    let s = c.args.w.now.store.now in
    stepped_by vs (crowd_cut vs c.args.items.now c.args.horizon) (fail_cut vs) s c.fail.new.w.store.now c.args.before c.fail.result
    (λ live. first_fails (λ t y. crowds_fit c.args.items.now c.args.horizon t) vs s.sets
    (λ y. sym c.all_fit.ensures.fits ∙ c.if-all_fit.false))
    c.fail.ensures.step

pub all_fit-requires-clause-span : goal.all_fit-requires-clause-span
all_fit-requires-clause-span c = c.requires.span
