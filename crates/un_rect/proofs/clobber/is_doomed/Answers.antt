use Rattle.un_prop.specs.Acts.{act_vars}
use Rattle.un_prop.specs.AmongLaws.{has_among}
use Rattle.un_prop.specs.LookLaws.{known_of}
use Rattle.un_rect.proofs.clobber.is_doomed.Goals as goal

pub is_sure-requires : goal.is_sure-requires
is_sure-requires c = known_of c.args.w.now.vars.now (act_vars c.args.a.now.on) c.args.w.now.store.now.sets c.requires.of_temp.of_on
    c.requires.known

pub is_sure-requires-2 : goal.is_sure-requires-2
is_sure-requires-2 c = known_of c.args.w.now.vars.now (act_vars c.args.u.now.on) c.args.w.now.store.now.sets c.requires.of_user.of_on
    c.requires.known

pub may_survive-requires-clause-there : goal.may_survive-requires-clause-there
may_survive-requires-clause-there c = has_among c.args.w.now.vars.now c.args.a.now.reg c.args.w.now.store.now.sets
    c.requires.of_temp.of_reg c.requires.known
