-- what those before take, and the rest
use Rattle.std.proofs.Common.{◌≡◌, ◌+◌, ◌-◌, ◌^◌, drop, min}
use Rattle.un_isa.specs.declared.packet_counts.Resource.{Resource}
use Rattle.un_slots.specs.Slots.{taken}
use Rattle.un_slots.specs.Amounts.{amount}
use Rattle.un_slots.proofs.load.taken.Given as goal

abbrev pub invariant-loop-item : goal.invariant-loop-item
invariant-loop-item l = (r : Resource) → min (amount r l.load + taken r (drop l.item-index l.items) l.fixed l.c) (2 ^ 32 - 1) ≡ min
    (taken r l.items l.fixed l.c) (2 ^ 32 - 1)
