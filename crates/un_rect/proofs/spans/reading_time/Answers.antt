use Rattle.un_prop.specs.Acts.{at_vars}
use Rattle.un_prop.specs.LookLaws.{known_of}
use Rattle.un_rect.proofs.spans.reading_time.Goals as goal

pub greatest_time-requires-clause-known : goal.greatest_time-requires-clause-known
greatest_time-requires-clause-known c = known_of c.args.w.now.vars.now (at_vars c.args.u.now.at) c.args.w.now.store.now.sets
    c.requires.vars.of_at c.requires.known

pub least_time-requires-clause-known : goal.least_time-requires-clause-known
least_time-requires-clause-known c = known_of c.args.w.now.vars.now (at_vars c.args.u.now.at) c.args.w.now.store.now.sets
    c.requires.vars.of_at c.requires.known
