use Rattle.un_prop.specs.Acts.{act_vars}
use Rattle.un_prop.specs.GoingLaws.{goes_same}
use Rattle.un_prop.specs.Last.{last_cut}
use Rattle.un_prop.specs.LookLaws.{known_of}
use Rattle.un_prec.specs.Before.{before_link, before_holds}
use Rattle.un_prec.proofs.Idle.{idle_first, idle_second}
use Rattle.un_prec.proofs.before.check_active.Goals as goal

pub is_off-requires-clause-known : goal.is_off-requires-clause-known
is_off-requires-clause-known c =
    let p = c.args.p.now in
    known_of p.vars (act_vars p.a_on) c.args.w.now.store.now.sets p.among.of_from_on c.requires.known

pub returns-then-is_off-clause-goes : goal.returns-then-is_off-clause-goes
returns-then-is_off-clause-goes c =
    let p = c.args.p.now in
    let s = c.args.w.now.store.now in
    goes_same c.args.w.now.vars.now (last_cut p.vars (before_holds p.a p.a_on p.b p.b_on p.gap)) s c.args.before
    (λ live. idle_first p.vars (before_link p.a p.a_on p.b p.b_on p.gap) s.sets c.requires.known live
    (c.is_off.ensures c.if-is_off.true))

pub is_off-requires-2-clause-known : goal.is_off-requires-2-clause-known
is_off-requires-2-clause-known c =
    let p = c.args.p.now in
    known_of p.vars (act_vars p.b_on) c.args.w.now.store.now.sets p.among.of_to_on c.requires.known

pub returns-then-is_off-2-clause-goes : goal.returns-then-is_off-2-clause-goes
returns-then-is_off-2-clause-goes c =
    let p = c.args.p.now in
    let s = c.args.w.now.store.now in
    goes_same c.args.w.now.vars.now (last_cut p.vars (before_holds p.a p.a_on p.b p.b_on p.gap)) s c.args.before
    (λ live. idle_second p.vars (before_link p.a p.a_on p.b p.b_on p.gap) s.sets c.requires.known live
    (c.is_off-2.ensures c.if-is_off-2.true))
