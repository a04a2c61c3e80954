use Rattle.un_prop.specs.Acts.{act_vars}
use Rattle.un_prop.specs.AmongLaws.{has_among}
use Rattle.un_prop.specs.LookLaws.{known_of}
use Rattle.un_rect.proofs.checks.surely_apart.Goals as goal

pub is_off-requires-clause-known : goal.is_off-requires-clause-known
is_off-requires-clause-known c = known_of c.args.w.now.vars.now (act_vars c.args.a.now.on) c.args.w.now.store.now.sets c.requires.of_a.of_on
    c.requires.known

pub is_off-requires-2-clause-known : goal.is_off-requires-2-clause-known
is_off-requires-2-clause-known c = known_of c.args.w.now.vars.now (act_vars c.args.b.now.on) c.args.w.now.store.now.sets
    c.requires.of_b.of_on c.requires.known

pub differ-requires-clause-first : goal.differ-requires-clause-first
differ-requires-clause-first c = has_among c.args.w.now.vars.now c.args.a.now.reg c.args.w.now.store.now.sets c.requires.of_a.of_reg
    c.requires.known

pub differ-requires-clause-second : goal.differ-requires-clause-second
differ-requires-clause-second c = has_among c.args.w.now.vars.now c.args.b.now.reg c.args.w.now.store.now.sets c.requires.of_b.of_reg
    c.requires.known
