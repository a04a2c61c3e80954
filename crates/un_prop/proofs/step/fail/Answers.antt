use Rattle.std.proofs.Common.{false, ap, sym, length, ◌∙◌}
use Rattle.std.proofs.lemmas.List.{length-set}
use Rattle.un_domains.specs.Sets.{cut_by}
use Rattle.un_prop.specs.Failing.{fail_cut}
use Rattle.un_prop.specs.FailLaws.{first_is, first_none}
use Rattle.un_prop.specs.GoingLaws.{stepped_then, stepped_same, stepped_by, all_cut, join_failed}
use Rattle.un_prop.specs.Steps.{has_var}
use Rattle.un_prop.specs.declared.propagator.Pruned.TheVariants.{Failed}
use Rattle.un_prop.proofs.step.fail.Goals as goal

pub keep_le-requires-clause-there : goal.keep_le-requires-clause-there
keep_le-requires-clause-there c =
    let w = c.args.w.now in
    has_var w.vars.now c.in-Some.v.now w.store.now.sets (first_is (λ s y. false) w.vars.now c.in-Some.v.now w.store.now.sets
    c.in-Some.ensures.value).1 c.requires.known

pub keep_le-requires-clause-lent : goal.keep_le-requires-clause-lent
keep_le-requires-clause-lent c =
    let w = c.args.w.now in
    (first_is (λ s y. false) w.vars.now c.in-Some.v.now w.store.now.sets c.in-Some.ensures.value).1

pub returns-in-Some-clause-step : goal.returns-in-Some-clause-step
returns-in-Some-clause-step c =
    let w = c.args.w.now in
    let vs = w.vars.now in
    let v = c.in-Some.v.now in
    let old = w.store.now in
    let mid = c.keep_le.new.self.store.now in
    let new = c.keep_gt.new.self.store.now in
    let first = first_is (λ s y. false) vs v old.sets c.in-Some.ensures.value in
    let within = has_var vs v old.sets first.1 c.requires.known in
    let a = c.keep_le.ensures.cut in
    let b = c.keep_gt.ensures.cut in
    stepped_by vs (fail_cut vs) (cut_by (λ y. false) v.0) old new c.args.before Failed (λ live. first.0)
    (stepped_then vs (cut_by (λ y. false) v.0) old new c.args.before Failed Failed c.requires.going (sym (join_failed c.args.before))
    (ap length b.sets ∙ (length-set _ _ _ ∙ (ap length a.sets ∙ length-set _ _ _)))
    (λ live. all_cut vs v old mid new first.1 within a.sets a.marked b.sets b.marked))

pub returns-in-None-clause-step : goal.returns-in-None-clause-step
returns-in-None-clause-step c =
    let w = c.args.w.now in
    stepped_same w.vars.now (fail_cut w.vars.now) w.store.now c.args.before
    (λ live. first_none (λ s y. false) w.vars.now w.store.now.sets c.in-None.ensures.value)
