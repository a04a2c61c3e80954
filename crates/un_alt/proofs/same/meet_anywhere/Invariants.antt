-- no value below y is one of both
use Rattle.std.proofs.Common.{◌≡◌, false}
use Rattle.un_domains.specs.Sets.{set_at, has}
use Rattle.un_prop.specs.Somewhere.{any_before}
use Rattle.un_alt.proofs.same.meet_anywhere.Given as goal

abbrev pub invariant-loop-y : goal.invariant-loop-y
invariant-loop-y l = any_before (has (set_at l.w.store.now.sets l.to.0)) (set_at l.w.store.now.sets l.v.0) l.y ≡ false
