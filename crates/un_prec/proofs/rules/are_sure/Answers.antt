use Rattle.std.proofs.Common.{◌-◌}
use Rattle.un_prop.specs.Acts.{act_vars}
use Rattle.un_prop.specs.LookLaws.{known_of}
use Rattle.un_prec.proofs.rules.are_sure.Goals as goal

pub is_sure-requires : goal.is_sure-requires
is_sure-requires c = known_of c.args.w.now.vars.now (act_vars c.args.link.from_on) c.args.w.now.store.now.sets c.requires.vars.of_from_on
    c.requires.known

pub is_sure-requires-2 : goal.is_sure-requires-2
is_sure-requires-2 c = known_of c.args.w.now.vars.now (act_vars c.args.link.to_on) c.args.w.now.store.now.sets c.requires.vars.of_to_on
    c.requires.known
