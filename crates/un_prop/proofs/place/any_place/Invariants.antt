-- no place below y can be chosen
use Rattle.std.proofs.Common.{◌≡◌, false}
use Rattle.un_domains.specs.Sets.{set_at}
use Rattle.un_prop.specs.Somewhere.{any_before}
use Rattle.un_prop.proofs.place.any_place.Given as goal

abbrev pub invariant-loop-y : goal.invariant-loop-y
invariant-loop-y g l = any_before (g.C.Choice.can l.c l.w.store.now.sets) (set_at l.w.store.now.sets l.choice.0) l.y ≡ false
