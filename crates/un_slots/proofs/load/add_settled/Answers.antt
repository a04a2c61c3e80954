use Rattle.un_prop.specs.Acts.{act_vars}
use Rattle.un_prop.specs.AmongLaws.{has_among}
use Rattle.un_prop.specs.LookLaws.{known_of}
use Rattle.un_slots.proofs.load.add_settled.Goals as goal

pub is_settled-requires-clause-vars : goal.is_settled-requires-clause-vars
is_settled-requires-clause-vars c = c.requires.vars

pub is_settled-requires-clause-known : goal.is_settled-requires-clause-known
is_settled-requires-clause-known c = c.requires.known

pub min-requires-clause-there : goal.min-requires-clause-there
min-requires-clause-there c = has_among c.args.w.now.vars.now c.args.item.now.at c.args.w.now.store.now.sets c.requires.vars.of_at
    c.requires.known

pub min-requires-clause-some : goal.min-requires-clause-some
min-requires-clause-some c = c.requires.live c.args.item.now.at.0
    (has_among c.args.w.now.vars.now c.args.item.now.at c.args.w.now.store.now.sets c.requires.vars.of_at c.requires.known)

pub least_number-requires-clause-known : goal.least_number-requires-clause-known
least_number-requires-clause-known c = known_of c.args.w.now.vars.now (act_vars c.args.item.now.on) c.args.w.now.store.now.sets
    c.requires.vars.of_on c.requires.known

pub least_number-requires-clause-live : goal.least_number-requires-clause-live
least_number-requires-clause-live c = c.requires.live
