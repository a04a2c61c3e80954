use Rattle.un_prop.specs.AmongLaws.{has_among}
use Rattle.un_length.proofs.room.is_near.Goals as goal

pub max-end-requires-clause-there : goal.max-end-requires-clause-there
max-end-requires-clause-there c = has_among c.args.w.now.vars.now c.args.block.now.end c.args.w.now.store.now.sets c.requires.vars.of_end
    c.requires.known

pub max-end-requires-clause-some : goal.max-end-requires-clause-some
max-end-requires-clause-some c = c.requires.live c.args.block.now.end.0
    (has_among c.args.w.now.vars.now c.args.block.now.end c.args.w.now.store.now.sets c.requires.vars.of_end c.requires.known)
