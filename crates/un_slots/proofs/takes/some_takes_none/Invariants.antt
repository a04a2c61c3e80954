-- no number below n takes none
use Rattle.std.proofs.Common.{◌≡◌, false, nat_eq}
use Rattle.un_domains.specs.Sets.{set_at}
use Rattle.un_prop.specs.Somewhere.{any_before}
use Rattle.un_slots.specs.Slots.{share_at}
use Rattle.un_slots.proofs.takes.some_takes_none.Given as goal

abbrev pub invariant-loop-n : goal.invariant-loop-n
invariant-loop-n l = any_before (λ m. nat_eq (share_at l.r l.uses m) 0) (set_at l.w.store.now.sets l.v.0) l.n ≡ false
