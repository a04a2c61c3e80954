use Rattle.std.proofs.Common.{None}
use Rattle.un_prop.specs.LookLaws.{known_of}
use Rattle.un_prop.specs.declared.act.Act.TheVariants.{Always}
use Rattle.un_prop.specs.declared.act.At.TheVariants.{Const}
use Rattle.un_prop.specs.declared.act.UserOf.{UserOf}
use Rattle.un_rect.proofs.spans.last_possible_use.Goals as goal

pub greatest_time-time-requires-clause-known : goal.greatest_time-time-requires-clause-known
greatest_time-time-requires-clause-known c =
    let d : UserOf = record { on = Always; at = Const 0; choice = None; value = 0 } in
    known_of c.args.w.now.vars.now _ c.args.w.now.store.now.sets (c.requires.vars c.loop-u.u-index d c.loop-u-test.true).of_at
    c.requires.known

pub may_choose-requires-clause-known : goal.may_choose-requires-clause-known
may_choose-requires-clause-known c = c.requires.known

pub may_choose-requires-clause-vars : goal.may_choose-requires-clause-vars
may_choose-requires-clause-vars c =
    let d : UserOf = record { on = Always; at = Const 0; choice = None; value = 0 } in
    (c.requires.vars c.loop-u.u-index d c.loop-u-test.true).of_choice

pub greatest_time-time-requires-clause-live : goal.greatest_time-time-requires-clause-live
greatest_time-time-requires-clause-live c = c.requires.live
