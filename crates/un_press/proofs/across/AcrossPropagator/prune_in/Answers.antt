use Rattle.std.proofs.Common.{◌≡◌, nat_le, true, sym, subst, arith}
use Rattle.std.specs.declared.option.Option.{Option}
use Rattle.std.proofs.lemmas.Bool.Decides.{nat_tests}
use Rattle.un_domains.specs.Sets.{Sets}
use Rattle.un_prop.specs.GoingLaws.{starts}
use Rattle.un_prop.specs.Last.{last_cut}
use Rattle.un_prop.specs.PartLaws.{checked}
use Rattle.un_prop.specs.Pruning.{IsPrune}
use Rattle.un_prop.specs.declared.propagator.Pruned.TheVariants.{Same}
use Rattle.un_press.specs.PressureLaws.{last_all}
use Rattle.un_press.specs.Pressures.{across_holds}
use Rattle.un_press.proofs.across.AcrossPropagator.prune_in.Goals as goal

pub returns-then-self-clause-prune : goal.returns-then-self-clause-prune
returns-then-self-clause-prune c =
    let p = c.args.self.now in
    let old = c.args.w.now.store.now in
    let fits = c.if-self.true in
    let holds : nat_le p.sure p.room ≡ true = grind (arith, nat_tests, fits) in
    subst (λ (d : Option Sets). IsPrune p.vars d old old Same)
    (sym (last_all p.vars (across_holds p.sure p.room) old.sets c.requires.known c.requires.live (λ x. holds)))
    (starts p.vars old c.requires.live)

pub returns-clause-prune : goal.returns-clause-prune
returns-clause-prune c =
    let p = c.args.self.now in
    checked c.args.w.now.vars.now p.vars (last_cut p.vars (across_holds p.sure p.room)) c.args.w.now.store.now c.check_last.new.w.store.now
    c.check_last.result c.requires.vars c.requires.live c.check_last.ensures.goes
