-- no register below r is left outside the mask
use Rattle.std.proofs.Common.{◌≡◌, false, not}
use Rattle.un_domains.specs.Sets.{set_at}
use Rattle.un_isa.specs.Tables.{in_mask}
use Rattle.un_prop.specs.Somewhere.{any_before}
use Rattle.un_rect.proofs.clobber.any_survives.Given as goal

abbrev pub invariant-loop-r : goal.invariant-loop-r
invariant-loop-r l = any_before (λ r. not (in_mask l.mask r)) (set_at l.w.store.now.sets l.a.reg.0) l.r ≡ false
