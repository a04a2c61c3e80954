use Rattle.un_prop.specs.Acts.{act_vars, at_vars}
use Rattle.un_prop.specs.LookLaws.{known_of}
use Rattle.un_rect.proofs.clashes.overlaps.Goals as goal

pub is_on-requires-clause-known : goal.is_on-requires-clause-known
is_on-requires-clause-known c = known_of c.args.w.now.vars.now (act_vars c.args.a.now.on) c.args.w.now.store.now.sets c.requires.of_a.of_on
    c.requires.known

pub is_on-requires-2-clause-known : goal.is_on-requires-2-clause-known
is_on-requires-2-clause-known c = known_of c.args.w.now.vars.now (act_vars c.args.b.now.on) c.args.w.now.store.now.sets
    c.requires.of_b.of_on
    c.requires.known

pub greatest_time-requires-clause-known : goal.greatest_time-requires-clause-known
greatest_time-requires-clause-known c = known_of c.args.w.now.vars.now (at_vars c.args.b.now.at) c.args.w.now.store.now.sets
    c.requires.of_b.of_at c.requires.known

pub greatest_time-requires-2-clause-known : goal.greatest_time-requires-2-clause-known
greatest_time-requires-2-clause-known c = known_of c.args.w.now.vars.now (at_vars c.args.a.now.at) c.args.w.now.store.now.sets
    c.requires.of_a.of_at c.requires.known

pub greatest_time-requires-clause-live : goal.greatest_time-requires-clause-live
greatest_time-requires-clause-live c = c.requires.live

pub greatest_time-requires-2-clause-live : goal.greatest_time-requires-2-clause-live
greatest_time-requires-2-clause-live c = c.requires.live

pub ends_after-requires-clause-vars : goal.ends_after-requires-clause-vars
ends_after-requires-clause-vars c = c.requires.of_a

pub ends_after-requires-clause-known : goal.ends_after-requires-clause-known
ends_after-requires-clause-known c = c.requires.known

pub ends_after-requires-clause-live : goal.ends_after-requires-clause-live
ends_after-requires-clause-live c = c.requires.live

pub ends_after-requires-2-clause-vars : goal.ends_after-requires-2-clause-vars
ends_after-requires-2-clause-vars c = c.requires.of_b

pub ends_after-requires-2-clause-known : goal.ends_after-requires-2-clause-known
ends_after-requires-2-clause-known c = c.requires.known

pub ends_after-requires-2-clause-live : goal.ends_after-requires-2-clause-live
ends_after-requires-2-clause-live c = c.requires.live
