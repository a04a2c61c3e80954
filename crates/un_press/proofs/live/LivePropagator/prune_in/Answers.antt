use Rattle.std.proofs.Common.{◌≤◌, length, sym, subst, arith}
use Rattle.std.specs.declared.option.Option.{Option}
use Rattle.std.proofs.lemmas.Bool.Decides.{nat_tests}
use Rattle.un_domains.specs.Sets.{Sets}
use Rattle.un_prop.specs.GoingLaws.{starts}
use Rattle.un_prop.specs.Last.{last_cut}
use Rattle.un_prop.specs.PartLaws.{checked}
use Rattle.un_prop.specs.Pruning.{IsPrune}
use Rattle.un_prop.specs.declared.propagator.Pruned.TheVariants.{Same}
use Rattle.un_press.specs.PressureLaws.{few_hold, last_all}
use Rattle.un_press.specs.Pressures.{live_holds}
use Rattle.un_press.proofs.live.LivePropagator.prune_in.Goals as goal

pub returns-then-is_roomy-clause-prune : goal.returns-then-is_roomy-clause-prune
returns-then-is_roomy-clause-prune c =
    let p = c.args.self.now in
    let old = c.args.w.now.store.now in
    let roomy = c.is_roomy.ensures in
    let here = c.if-is_roomy.true in
    let few : length p.values ≤ p.room = grind (arith, nat_tests, roomy, here) in
    subst (λ (d : Option Sets). IsPrune p.vars d old old Same)
    (sym (last_all p.vars (live_holds p.values p.room p.horizon) old.sets c.requires.known c.requires.live
    (λ x. few_hold p.values p.room p.horizon x few)))
    (starts p.vars old c.requires.live)

pub returns-clause-prune : goal.returns-clause-prune
returns-clause-prune c =
    let p = c.args.self.now in
    checked c.args.w.now.vars.now p.vars (last_cut p.vars (live_holds p.values p.room p.horizon)) c.args.w.now.store.now
    c.check_last.new.w.store.now c.check_last.result c.requires.vars c.requires.live c.check_last.ensures.goes
