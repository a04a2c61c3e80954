use Rattle.std.proofs.Common.{None}
use Rattle.un_prop.specs.LookLaws.{known_of}
use Rattle.un_prop.specs.declared.act.Act.TheVariants.{Always}
use Rattle.un_prop.specs.declared.act.At.TheVariants.{Const}
use Rattle.un_prop.specs.declared.act.UserOf.{UserOf}
use Rattle.un_rect.proofs.spans.last_sure_use.Goals as goal

pub least_time-time-requires-clause-known : goal.least_time-time-requires-clause-known
least_time-time-requires-clause-known c =
    let d : UserOf = record { on = Always; at = Const 0; choice = None; value = 0 } in
    known_of c.args.w.now.vars.now _ c.args.w.now.store.now.sets (c.requires.vars c.loop-u.u-index d c.loop-u-test.true).of_at
    c.requires.known

pub is_sure_user-requires-clause-known : goal.is_sure_user-requires-clause-known
is_sure_user-requires-clause-known c = c.requires.known

pub is_sure_user-requires-clause-live : goal.is_sure_user-requires-clause-live
is_sure_user-requires-clause-live c = c.requires.live

pub least_time-time-requires-clause-live : goal.least_time-time-requires-clause-live
least_time-time-requires-clause-live c = c.requires.live
