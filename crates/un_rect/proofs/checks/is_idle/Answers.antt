use Rattle.un_prop.specs.Acts.{act_vars}
use Rattle.un_prop.specs.LookLaws.{known_of}
use Rattle.un_rect.proofs.checks.is_idle.Goals as goal

pub is_off-requires-clause-known : goal.is_off-requires-clause-known
is_off-requires-clause-known c = known_of c.args.w.now.vars.now (act_vars c.args.b.now.on) c.args.w.now.store.now.sets c.requires.of_b.of_on
    c.requires.known
