use Rattle.std.proofs.Common.{◌<◌, ◌≤◌, ◌+◌, ◌-◌, true, false, sym}
use Rattle.std.proofs.Common.{arith}
use Rattle.un_domains.specs.Sets.{least, greatest}
use Rattle.un_prop.specs.Acts.{at_vars}
use Rattle.un_prop.specs.Looks.{at_set}
use Rattle.un_prop.specs.GoingLaws.{stepped_same, stepped_by}
use Rattle.un_prec.specs.Links.{apart_test}
use Rattle.un_prop.specs.LookLaws.{known_of}
use Rattle.un_prop.specs.Failing.{first_cut, fail_cut}
use Rattle.un_prop.specs.FailLaws.{first_all, first_fails}
use Rattle.un_prec.specs.LinkLaws.{apart_near, apart_far, apart_unsure}
use Rattle.un_prec.proofs.rules.apart.Goals as goal

pub returns-then-not-are_sure-clause-step : goal.returns-then-not-are_sure-clause-step
returns-then-not-are_sure-clause-step c =
    let w = c.args.w.now in
    let vs = w.vars.now in
    let s = w.store.now in
    let l = c.args.link in
    stepped_same vs (first_cut (apart_test l) vs) s c.args.before (λ live. first_all (apart_test l) vs s.sets c.requires.known live
    (λ y. apart_unsure l s.sets y (sym c.if-not-are_sure.ensures)))

pub least_time-requires-clause-known : goal.least_time-requires-clause-known
least_time-requires-clause-known c = known_of c.args.w.now.vars.now (at_vars c.args.link.from) c.args.w.now.store.now.sets
    c.requires.vars.of_from c.requires.known

pub greatest_time-requires-clause-known : goal.greatest_time-requires-clause-known
greatest_time-requires-clause-known c = known_of c.args.w.now.vars.now (at_vars c.args.link.to) c.args.w.now.store.now.sets
    c.requires.vars.of_to c.requires.known

pub returns-then-low-high-clause-step : goal.returns-then-low-high-clause-step
returns-then-low-high-clause-step c =
    let w = c.args.w.now in
    let vs = w.vars.now in
    let s = w.store.now in
    let l = c.args.link in
    let near : least (at_set l.from s.sets) + l.gap ≤ greatest (at_set l.to s.sets) =
    omega (
      arith,
      c.from-least.ensures,
      c.from-gap.ensures,
      c.least_time.ensures,
      c.from-high.ensures,
      c.greatest_time.ensures,
      c.if-low-high.true,
    ) in
    stepped_same vs (first_cut (apart_test l) vs) s c.args.before (λ live. first_all (apart_test l) vs s.sets c.requires.known live
    (λ y. apart_near l s.sets y near))

pub returns-clause-step : goal.returns-clause-step
returns-clause-step c =
    let w = c.args.w.now in
    let vs = w.vars.now in
    let s = w.store.now in
    let l = c.args.link in
    let far : greatest (at_set l.to s.sets) < least (at_set l.from s.sets) + l.gap =
    omega (
      arith,
      c.from-least.ensures,
      c.from-gap.ensures,
      c.least_time.ensures,
      c.from-high.ensures,
      c.greatest_time.ensures,
      c.if-low-high.false,
    ) in
    stepped_by vs (first_cut (apart_test l) vs) (fail_cut vs) s c.fail.new.w.store.now c.args.before c.fail.result
    (λ live. first_fails (apart_test l) vs s.sets (λ y. apart_far l s.sets y (sym c.if-not-are_sure.ensures) far)) c.fail.ensures.step
