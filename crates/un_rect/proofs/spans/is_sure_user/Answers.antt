use Rattle.un_prop.specs.Acts.{act_vars}
use Rattle.un_prop.specs.LookLaws.{known_of}
use Rattle.un_rect.proofs.spans.is_sure_user.Goals as goal

pub is_on-requires-clause-known : goal.is_on-requires-clause-known
is_on-requires-clause-known c = known_of c.args.w.now.vars.now (act_vars c.args.u.now.on) c.args.w.now.store.now.sets c.requires.vars.of_on
    c.requires.known
