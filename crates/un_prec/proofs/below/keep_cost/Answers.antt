use Rattle.std.proofs.Common.{List, ◌≤◌, ◌<◌, ◌-◌, ◌∙◌, option_and_then, ap, subst, sym, arith}
use Rattle.std.proofs.lemmas.Bool.Decides.{nat_tests}
use Rattle.un_base.specs.declared.ids.VarId.{VarId}
use Rattle.un_prec.specs.declared.below.Weighted.{Weighted}
use Rattle.un_prec.specs.Below.{least_cost, below_test, below_steps, end_cut, BelowVars}
use Rattle.un_prop.specs.Failing.{first_cut, fail_cut}
use Rattle.un_prop.specs.FailLaws.{first_all, first_fails}
use Rattle.un_prop.specs.GoingLaws.{stepped_same, stepped_by, stepped_chain}
use Rattle.un_prop.specs.Rounds.{HasVars, round}
use Rattle.un_prop.specs.declared.propagator.Pruned.TheVariants.{Same}
use Rattle.un_prec.proofs.Ends.{ends_after}
use Rattle.un_prec.proofs.below.keep_cost.Goals as goal

pub returns-then-cost-p-clause-step : goal.returns-then-cost-p-clause-step
returns-then-cost-p-clause-step c =
    let vs = c.args.w.now.vars.now in
    let s = c.args.w.now.store.now in
    let p = c.args.p.now in
    let known : HasVars vs s.sets = subst (λ (us : List VarId). HasVars us s.sets) (sym c.requires.vars) c.requires.known in
    let cost = ap (λ (es : List Weighted). least_cost es s.sets) c.as_slice.ensures in
    let less : least_cost p.ends s.sets < p.limit = omega (arith, cost, c.cost_in-cost.ensures, c.if-cost-p.true) in
    stepped_chain vs (first_cut (below_test p.ends p.limit) vs) (round (end_cut p.ends p.limit) p.ends) s s c.keep_ends.new.w.store.now Same
    Same c.keep_ends.result
    (stepped_same vs (first_cut (below_test p.ends p.limit) vs) s Same (λ live. first_all (below_test p.ends p.limit) vs s.sets known live
    (λ y. grind (arith, nat_tests, less))))
    c.keep_ends.ensures.step

pub returns-clause-step : goal.returns-clause-step
returns-clause-step c =
    let vs = c.args.w.now.vars.now in
    let s = c.args.w.now.store.now in
    let p = c.args.p.now in
    let among : BelowVars vs p.ends = subst (λ (us : List VarId). BelowVars us p.ends) (sym c.requires.vars) p.among in
    let cost = ap (λ (es : List Weighted). least_cost es s.sets) c.as_slice.ensures in
    let more : p.limit ≤ least_cost p.ends s.sets = omega (arith, cost, c.cost_in-cost.ensures, c.if-cost-p.false) in
    stepped_by vs (below_steps vs p.ends p.limit) (fail_cut vs) s c.fail.new.w.store.now Same c.fail.result
    (λ live. ap (option_and_then (round (end_cut p.ends p.limit) p.ends))
    (first_fails (below_test p.ends p.limit) vs s.sets (λ y. grind (arith, nat_tests, more))) ∙ ends_after vs p.ends p.limit s.sets among)
    c.fail.ensures.step
