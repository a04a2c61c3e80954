use Rattle.un_prop.specs.Acts.{act_vars, at_vars}
use Rattle.un_prop.specs.LookLaws.{known_of}
use Rattle.un_rect.proofs.orders.is_late.Goals as goal

pub is_on-requires-clause-known : goal.is_on-requires-clause-known
is_on-requires-clause-known c = known_of c.args.w.now.vars.now (act_vars c.args.u.now.on) c.args.w.now.store.now.sets c.requires.of_u.of_on
    c.requires.known

pub greatest_time-requires-clause-known : goal.greatest_time-requires-clause-known
greatest_time-requires-clause-known c = known_of c.args.w.now.vars.now (at_vars c.args.b.now.at) c.args.w.now.store.now.sets
    c.requires.of_b.of_at c.requires.known

pub least_time-requires-clause-known : goal.least_time-requires-clause-known
least_time-requires-clause-known c = known_of c.args.w.now.vars.now (at_vars c.args.u.now.at) c.args.w.now.store.now.sets
    c.requires.of_u.of_at c.requires.known
