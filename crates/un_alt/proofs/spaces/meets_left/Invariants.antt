-- there is no such value for the places below n
use Rattle.std.proofs.Common.{◌≡◌, false}
use Rattle.std.specs.List.{list_any}
use Rattle.un_domains.specs.Sets.{set_at, has}
use Rattle.un_prop.specs.Choices.{passes_at}
use Rattle.un_prop.specs.Somewhere.{any_before}
use Rattle.un_alt.proofs.spaces.meets_left.Given as goal

abbrev pub invariant-loop-n : goal.invariant-loop-n
invariant-loop-n l = any_before (passes_at (list_any (has (set_at l.w.store.now.sets l.v.0))) l.sets) (set_at l.w.store.now.sets l.u.0)
    l.n ≡ false
