use Rattle.un_prop.specs.AmongLaws.{has_among}
use Rattle.un_counted.proofs.counted.may_be_reached.Goals as goal

pub max-requires-clause-there : goal.max-requires-clause-there
max-requires-clause-there c = has_among c.args.w.now.vars.now _ c.args.w.now.store.now.sets
    (c.requires.vars c.loop-e.e-index (record { end = record { 0 = 0 }; freq = 0; least = 0 }) c.loop-e-test.true) c.requires.known

pub max-requires-clause-some : goal.max-requires-clause-some
max-requires-clause-some c = c.requires.live _ (has_among c.args.w.now.vars.now _ c.args.w.now.store.now.sets
    (c.requires.vars c.loop-e.e-index (record { end = record { 0 = 0 }; freq = 0; least = 0 }) c.loop-e-test.true) c.requires.known)
