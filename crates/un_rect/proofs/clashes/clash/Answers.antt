use Rattle.un_prop.specs.AmongLaws.{has_among}
use Rattle.un_rect.proofs.clashes.clash.Goals as goal

pub is_single-requires : goal.is_single-requires
is_single-requires c = has_among c.args.w.now.vars.now c.args.a.now.reg c.args.w.now.store.now.sets c.requires.of_a.of_reg c.requires.known

pub has-requires : goal.has-requires
has-requires c = has_among c.args.w.now.vars.now c.args.b.now.reg c.args.w.now.store.now.sets c.requires.of_b.of_reg c.requires.known

pub overlaps-requires-clause-of_a : goal.overlaps-requires-clause-of_a
overlaps-requires-clause-of_a c = c.requires.of_a

pub overlaps-requires-clause-of_b : goal.overlaps-requires-clause-of_b
overlaps-requires-clause-of_b c = c.requires.of_b

pub overlaps-requires-clause-known : goal.overlaps-requires-clause-known
overlaps-requires-clause-known c = c.requires.known

pub overlaps-requires-clause-live : goal.overlaps-requires-clause-live
overlaps-requires-clause-live c = c.requires.live

pub min-r-requires-clause-there : goal.min-r-requires-clause-there
min-r-requires-clause-there c = has_among c.args.w.now.vars.now c.args.a.now.reg c.args.w.now.store.now.sets c.requires.of_a.of_reg
    c.requires.known

pub min-r-requires-clause-some : goal.min-r-requires-clause-some
min-r-requires-clause-some c = c.requires.live c.args.a.now.reg.0
    (has_among c.args.w.now.vars.now c.args.a.now.reg c.args.w.now.store.now.sets c.requires.of_a.of_reg c.requires.known)
