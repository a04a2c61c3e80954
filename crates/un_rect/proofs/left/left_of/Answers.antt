use Rattle.un_prop.specs.Acts.{at_vars}
use Rattle.un_prop.specs.AmongLaws.{has_among}
use Rattle.un_prop.specs.LookLaws.{known_of}
use Rattle.un_rect.proofs.left.left_of.Goals as goal

pub min-reg-requires-clause-there : goal.min-reg-requires-clause-there
min-reg-requires-clause-there c = has_among c.args.w.now.vars.now c.args.a.now.reg c.args.w.now.store.now.sets c.requires.vars.of_reg
    c.requires.known

pub min-reg-requires-clause-some : goal.min-reg-requires-clause-some
min-reg-requires-clause-some c = c.requires.live c.args.a.now.reg.0
    (has_among c.args.w.now.vars.now c.args.a.now.reg c.args.w.now.store.now.sets c.requires.vars.of_reg c.requires.known)

pub is_single-one-requires : goal.is_single-one-requires
is_single-one-requires c = has_among c.args.w.now.vars.now c.args.a.now.reg c.args.w.now.store.now.sets c.requires.vars.of_reg
    c.requires.known

pub least_time-first-requires-clause-known : goal.least_time-first-requires-clause-known
least_time-first-requires-clause-known c = known_of c.args.w.now.vars.now (at_vars c.args.a.now.at) c.args.w.now.store.now.sets
    c.requires.vars.of_at c.requires.known
