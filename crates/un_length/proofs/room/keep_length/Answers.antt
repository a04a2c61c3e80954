use Rattle.std.proofs.Common.{◌∙◌, sym}
use Rattle.un_prop.specs.Failing.{fail_cut}
use Rattle.un_prop.specs.FailLaws.{first_all, first_fails}
use Rattle.un_prop.specs.GoingLaws.{stepped_same, stepped_by}
use Rattle.un_prop.specs.declared.propagator.Pruned.TheVariants.{Same}
use Rattle.un_length.specs.Lengths.{length_test, length_cut}
use Rattle.un_length.proofs.room.keep_length.Goals as goal

pub returns-then-passes-clause-step : goal.returns-then-passes-clause-step
returns-then-passes-clause-step c =
    let vs = c.args.w.now.vars.now in
    let s = c.args.w.now.store.now in
    let b = c.args.block.now in
    stepped_same vs (length_cut vs b.ops b.arcs b.end b.horizon) s Same
    (λ live. first_all (λ t y. length_test vs b.ops b.arcs b.end b.horizon t) vs s.sets c.requires.known live
    (λ y. sym c.passes.ensures.test ∙ c.if-passes.true))

pub returns-clause-step : goal.returns-clause-step
returns-clause-step c =
    let vs = c.args.w.now.vars.now in
    let s = c.args.w.now.store.now in
    let b = c.args.block.now in
    stepped_by vs (length_cut vs b.ops b.arcs b.end b.horizon) (fail_cut vs) s c.fail.new.w.store.now Same c.fail.result
    (λ live. first_fails (λ t y. length_test vs b.ops b.arcs b.end b.horizon t) vs s.sets
    (λ y. sym c.passes.ensures.test ∙ c.if-passes.false))
    c.fail.ensures.step
