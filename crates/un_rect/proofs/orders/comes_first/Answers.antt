use Rattle.un_prop.specs.Acts.{act_vars, at_vars}
use Rattle.un_prop.specs.LookLaws.{known_of}
use Rattle.un_rect.proofs.orders.comes_first.Goals as goal

pub is_on-requires-clause-known : goal.is_on-requires-clause-known
is_on-requires-clause-known c = known_of c.args.w.now.vars.now (act_vars c.args.a.now.on) c.args.w.now.store.now.sets c.requires.of_a.of_on
    c.requires.known

pub is_on-requires-2-clause-known : goal.is_on-requires-2-clause-known
is_on-requires-2-clause-known c = known_of c.args.w.now.vars.now (act_vars c.args.b.now.on) c.args.w.now.store.now.sets
    c.requires.of_b.of_on
    c.requires.known

pub greatest_time-requires-clause-known : goal.greatest_time-requires-clause-known
greatest_time-requires-clause-known c = known_of c.args.w.now.vars.now (at_vars c.args.a.now.at) c.args.w.now.store.now.sets
    c.requires.of_a.of_at c.requires.known

pub share_one-requires-clause-of_a : goal.share_one-requires-clause-of_a
share_one-requires-clause-of_a c = c.requires.of_a

pub share_one-requires-clause-of_b : goal.share_one-requires-clause-of_b
share_one-requires-clause-of_b c = c.requires.of_b

pub share_one-requires-clause-known : goal.share_one-requires-clause-known
share_one-requires-clause-known c = c.requires.known

pub share_one-requires-clause-live : goal.share_one-requires-clause-live
share_one-requires-clause-live c = c.requires.live

pub greatest_time-requires-clause-live : goal.greatest_time-requires-clause-live
greatest_time-requires-clause-live c = c.requires.live

pub ends_after-requires-clause-vars : goal.ends_after-requires-clause-vars
ends_after-requires-clause-vars c = c.requires.of_b

pub ends_after-requires-clause-known : goal.ends_after-requires-clause-known
ends_after-requires-clause-known c = c.requires.known

pub ends_after-requires-clause-live : goal.ends_after-requires-clause-live
ends_after-requires-clause-live c = c.requires.live
