use Rattle.un_prop.specs.AmongLaws.{has_among}
use Rattle.un_rect.proofs.operand.may_be.Goals as goal

pub has-requires : goal.has-requires
has-requires c = has_among c.args.w.now.vars.now c.args.v c.args.w.now.store.now.sets c.requires.there c.requires.known

pub may_avoid-requires-clause-vars : goal.may_avoid-requires-clause-vars
may_avoid-requires-clause-vars c = c.requires.vars

pub may_avoid-requires-clause-known : goal.may_avoid-requires-clause-known
may_avoid-requires-clause-known c = c.requires.known

pub may_avoid-requires-clause-live : goal.may_avoid-requires-clause-live
may_avoid-requires-clause-live c = c.requires.live
