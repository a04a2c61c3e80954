use Rattle.std.proofs.Common.{None}
use Rattle.un_prop.specs.LookLaws.{known_of}
use Rattle.un_prop.specs.declared.act.Act.TheVariants.{Always}
use Rattle.un_prop.specs.declared.act.At.TheVariants.{Const}
use Rattle.un_prop.specs.declared.act.UserOf.{UserOf}
use Rattle.un_rect.proofs.spans.last_reading.Goals as goal

pub is_on-requires-clause-known : goal.is_on-requires-clause-known
is_on-requires-clause-known c =
    let d : UserOf = record { on = Always; at = Const 0; choice = None; value = 0 } in
    known_of c.args.w.now.vars.now _ c.args.w.now.store.now.sets (c.requires.vars c.loop-u.u-index d c.loop-u-test.true).of_on
    c.requires.known
