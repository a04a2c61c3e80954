use Rattle.std.proofs.Common.{◌∙◌, set, sym, ap, arith}
use Rattle.un_domains.specs.Sets.{NoneEmpty, cut_by}
use Rattle.un_prop.specs.AmongLaws.{has_among}
use Rattle.un_prop.specs.GoingLaws.{join_failed}
use Rattle.un_prop.specs.Last.{point}
use Rattle.un_prop.specs.Pruning.{join}
use Rattle.un_prop.specs.declared.propagator.Pruned.TheVariants.{Failed}
use Rattle.un_rect.specs.Apart.{pair_holds}
use Rattle.un_rect.proofs.CheckSteps.{step_after, step_outside, written_after}
use Rattle.un_rect.proofs.Going.{going, failed}
use Rattle.un_rect.proofs.checks.decide.Goals as goal

pub returns-then-eq-clause-step : goal.returns-then-eq-clause-step
returns-then-eq-clause-step c =
    let s = c.args.w.now.store.now in
    let v = c.args.v in
    let did = c.try_some-did in
    let none = failed did.result c.if-eq.ensures in
    step_after c.args.w.now.vars.now (cut_by (λ y. pair_holds c.args.a.now c.args.b.now (set (point s.sets) v.0 y)) v.0) s
    did.new.w.store.now c.args.before did.result Failed
    c.requires.going (sym (ap (join c.args.before) none ∙ join_failed c.args.before)) did.ensures.step

pub min-requires-clause-there : goal.min-requires-clause-there
min-requires-clause-there c =
    let within = has_among c.args.w.now.vars.now c.args.v c.args.w.now.store.now.sets c.requires.lent c.requires.known in
    omega (arith, within, c.try_some-did.ensures.step.long)

pub min-requires-clause-some : goal.min-requires-clause-some
min-requires-clause-some c =
    let within = has_among c.args.w.now.vars.now c.args.v c.args.w.now.store.now.sets c.requires.lent c.requires.known in
    let full : NoneEmpty c.try_some-did.new.w.store.now.sets = c.try_some-did.ensures.step.live (λ ne. c.requires.live)
    (going c.try_some-did.result c.if-eq.ensures) in
    full c.args.v.0 (omega (arith, within, c.try_some-did.ensures.step.long))

pub bounds-fixed-v : goal.bounds-fixed-v
bounds-fixed-v c =
    let within = has_among c.args.w.now.vars.now c.args.v c.args.w.now.store.now.sets c.requires.lent c.requires.known in
    omega (arith, within, c.requires.room, c.try_some-did.auto.fixed)

pub returns-clause-step : goal.returns-clause-step
returns-clause-step c =
    let s = c.args.w.now.store.now in
    let v = c.args.v in
    let did = c.try_some-did in
    step_after c.args.w.now.vars.now (cut_by (λ y. pair_holds c.args.a.now c.args.b.now (set (point s.sets) v.0 y)) v.0) s
    did.new.w.store.now c.args.before did.result c.joined.result
    c.requires.going c.joined.ensures did.ensures.step

pub returns-clause-written : goal.returns-clause-written
returns-clause-written c still =
    let s = c.args.w.now.store.now in
    let v = c.args.v in
    let did = c.try_some-did in
    let within = has_among c.args.w.now.vars.now v s.sets c.requires.lent c.requires.known in
    written_after c.args.w.now.vars.now v.0 s.sets did.new.w.store.now.sets c.args.fixed.now did.new.fixed c.min.result c.requires.written
    did.ensures.others
    (step_outside c.args.w.now.vars.now (λ y. pair_holds c.args.a.now c.args.b.now (set (point s.sets) v.0 y)) v.0 s did.new.w.store.now
    did.result c.requires.live did.ensures.step
    (going c.try_some-did.result c.if-eq.ensures))
    (omega (arith, within, c.requires.room, did.auto.fixed)) c.min.ensures

pub try_some-did-requires-clause-of_a : goal.try_some-did-requires-clause-of_a
try_some-did-requires-clause-of_a c = c.requires.of_a

pub try_some-did-requires-clause-of_b : goal.try_some-did-requires-clause-of_b
try_some-did-requires-clause-of_b c = c.requires.of_b

pub try_some-did-requires-clause-lent : goal.try_some-did-requires-clause-lent
try_some-did-requires-clause-lent c = c.requires.lent

pub try_some-did-requires-clause-known : goal.try_some-did-requires-clause-known
try_some-did-requires-clause-known c = c.requires.known

pub try_some-did-requires-clause-live : goal.try_some-did-requires-clause-live
try_some-did-requires-clause-live c = c.requires.live

pub try_some-did-requires-clause-room : goal.try_some-did-requires-clause-room
try_some-did-requires-clause-room c = c.requires.room

pub try_some-did-requires-clause-written : goal.try_some-did-requires-clause-written
try_some-did-requires-clause-written c = c.requires.written
