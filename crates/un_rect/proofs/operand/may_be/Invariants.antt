-- the registers so far are not such ones
use Rattle.std.proofs.Common.{◌≡◌, ◌&&◌, drop}
use Rattle.std.specs.List.{list_any}
use Rattle.un_domains.specs.Sets.{set_at, has}
use Rattle.un_rect.specs.Operands.{may_avoid}
use Rattle.un_rect.specs.Sides.{side_of}
use Rattle.un_rect.proofs.operand.may_be.Given as goal

abbrev pub invariant-loop-r : goal.invariant-loop-r
invariant-loop-r l = list_any (λ r. has (set_at l.w.store.now.sets l.v.0) r && may_avoid (side_of l.other) l.w.store.now.sets r)
    (drop l.r-index l.r-items)
    ≡ list_any (λ r. has (set_at l.w.store.now.sets l.v.0) r && may_avoid (side_of l.other) l.w.store.now.sets r) l.r-items
