use Rattle.un_prop.specs.AmongLaws.{has_among}
use Rattle.un_rect.proofs.clobber.keep_calls.Goals as goal

pub survives-requires-clause-there : goal.survives-requires-clause-there
survives-requires-clause-there c = has_among c.args.w.now.vars.now c.args.a.now.reg c.args.w.now.store.now.sets c.requires.of_temp.of_reg
    c.requires.known

pub survives-requires-clause-live : goal.survives-requires-clause-live
survives-requires-clause-live c = c.requires.live

pub keep_survivor-requires-clause-live : goal.keep_survivor-requires-clause-live
keep_survivor-requires-clause-live c = c.requires.live

pub keep_survivor-requires-clause-survives : goal.keep_survivor-requires-clause-survives
keep_survivor-requires-clause-survives c = c.survives.ensures c.if-survives.true

pub keep_each-requires-clause-live : goal.keep_each-requires-clause-live
keep_each-requires-clause-live c = c.requires.live
