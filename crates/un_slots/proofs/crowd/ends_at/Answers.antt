use Rattle.un_prop.specs.Acts.{act_vars}
use Rattle.un_prop.specs.AmongLaws.{has_among}
use Rattle.un_prop.specs.LookLaws.{known_of}
use Rattle.un_slots.proofs.crowd.ends_at.Goals as goal

pub max-requires-clause-there : goal.max-requires-clause-there
max-requires-clause-there c = has_among c.args.w.now.vars.now c.args.item.now.at c.args.w.now.store.now.sets c.requires.vars.of_at
    c.requires.known

pub max-requires-clause-some : goal.max-requires-clause-some
max-requires-clause-some c = c.requires.live c.args.item.now.at.0
    (has_among c.args.w.now.vars.now c.args.item.now.at c.args.w.now.store.now.sets c.requires.vars.of_at c.requires.known)

pub surely_takes-requires-clause-known : goal.surely_takes-requires-clause-known
surely_takes-requires-clause-known c = known_of c.args.w.now.vars.now (act_vars c.args.item.now.on) c.args.w.now.store.now.sets
    c.requires.vars.of_on c.requires.known
