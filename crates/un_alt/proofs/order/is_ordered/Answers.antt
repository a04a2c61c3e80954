use Rattle.std.proofs.Common.{◌-◌}
use Rattle.un_prop.specs.Acts.{act_vars}
use Rattle.un_prop.specs.Among.{among}
use Rattle.un_prop.specs.AmongLaws.{has_among}
use Rattle.un_prop.specs.LookLaws.{known_of}
use Rattle.un_alt.proofs.order.is_ordered.Goals as goal

pub is_only-requires-clause-there : goal.is_only-requires-clause-there
is_only-requires-clause-there c = let p = c.args.p.now in has_among p.vars p.flag c.args.w.now.store.now.sets p.among.of_flag
    c.requires.known

pub counts-requires-clause-known : goal.counts-requires-clause-known
counts-requires-clause-known c = let p = c.args.p.now in known_of p.vars (act_vars c.args.o.instr) c.args.w.now.store.now.sets
    c.requires.of_order.of_instr c.requires.known
