use Rattle.un_prop.specs.AmongLaws.{has_among}
use Rattle.un_slots.proofs.crowd.add.Goals as goal

pub min-c-requires-clause-there : goal.min-c-requires-clause-there
min-c-requires-clause-there c = has_among c.args.w.now.vars.now c.args.item.now.at c.args.w.now.store.now.sets c.requires.vars.of_at
    c.requires.known

pub min-c-requires-clause-some : goal.min-c-requires-clause-some
min-c-requires-clause-some c = c.requires.live c.args.item.now.at.0
    (has_among c.args.w.now.vars.now c.args.item.now.at c.args.w.now.store.now.sets c.requires.vars.of_at c.requires.known)
