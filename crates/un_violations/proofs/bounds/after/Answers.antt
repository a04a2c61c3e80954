use Rattle.std.proofs.Common.{refl}
use Rattle.un_violations.proofs.Apartness.{bounds_after}
use Rattle.un_violations.proofs.bounds.after.Goals as goal

pub returns : goal.returns
returns c =
    bounds_after c.args.rule c.args.bounds.now c.args.i.now _
    (rw (c.max.ensures, c.cycle_after-load.ensures, c.distance.ensures) refl)
    (rw (c.max-2.ensures, c.cycle_after-store.ensures, c.distance-2.ensures) refl)
    (rw (c.max-3.ensures, c.cycle_after-call.ensures, c.distance-3.ensures) refl)
    (rw (c.max-4.ensures, c.cycle_after-access.ensures, c.distance-4.ensures) refl)
    (rw (c.max-5.ensures, c.cycle_after-leave.ensures, c.distance-5.ensures) refl)
