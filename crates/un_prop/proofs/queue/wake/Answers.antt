use Rattle.std.proofs.Common.{arith}
use Rattle.un_prop.proofs.WakeLaws.{has_get}
use Rattle.un_prop.proofs.queue.wake.Goals as goal

pub raise-requires : goal.raise-requires
raise-requires c = omega (arith, c.requires _ (has_get c.args.places.now c.loop-i.i-index 0 c.loop-i-test.true), c.loop-i.invariant.long)
