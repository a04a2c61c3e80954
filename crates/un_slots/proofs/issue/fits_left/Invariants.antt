-- no number below n fits
use Rattle.std.proofs.Common.{ℕ, ◌≡◌, false}
use Rattle.un_domains.specs.Sets.{set_at}
use Rattle.un_prop.specs.Somewhere.{any_before}
use Rattle.un_isa.specs.declared.packet_counts.Resource.{Resource}
use Rattle.un_slots.specs.Loads.{fits_beside}
use Rattle.un_slots.specs.Amounts.{IsLoad}
use Rattle.un_slots.proofs.issue.fits_left.Given as goal

abbrev pub invariant-loop-n : goal.invariant-loop-n
invariant-loop-n l = (f : Resource → ℕ) → IsLoad l.load f → any_before (fits_beside f l.item) (set_at l.w.store.now.sets l.v.0) l.n ≡ false
