use Rattle.un_prop.specs.AmongLaws.{has_among}
use Rattle.un_rect.proofs.clobber.is_within.Goals as goal

pub min-requires-clause-there : goal.min-requires-clause-there
min-requires-clause-there c = has_among c.args.w.now.vars.now c.args.c.now.at c.args.w.now.store.now.sets c.requires.of_call.of_at
    c.requires.known

pub min-requires-clause-some : goal.min-requires-clause-some
min-requires-clause-some c = c.requires.live _ (has_among c.args.w.now.vars.now c.args.c.now.at c.args.w.now.store.now.sets
    c.requires.of_call.of_at c.requires.known)

pub max-requires-clause-there : goal.max-requires-clause-there
max-requires-clause-there c = has_among c.args.w.now.vars.now c.args.c.now.at c.args.w.now.store.now.sets c.requires.of_call.of_at
    c.requires.known

pub max-requires-clause-some : goal.max-requires-clause-some
max-requires-clause-some c = c.requires.live _ (has_among c.args.w.now.vars.now c.args.c.now.at c.args.w.now.store.now.sets
    c.requires.of_call.of_at c.requires.known)
