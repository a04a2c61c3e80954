-- no register below r is of the mask
use Rattle.std.proofs.Common.{◌≡◌, false}
use Rattle.un_domains.specs.Sets.{set_at}
use Rattle.un_isa.specs.Tables.{in_mask}
use Rattle.un_prop.specs.Somewhere.{any_before}
use Rattle.un_rect.proofs.clobber.may_be_hit.Given as goal

abbrev pub invariant-loop-r : goal.invariant-loop-r
invariant-loop-r l = any_before (in_mask l.mask) (set_at l.w.store.now.sets l.a.reg.0) l.r ≡ false
