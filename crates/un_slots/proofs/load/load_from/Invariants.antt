-- what those before take, and the rest
use Rattle.std.proofs.Common.{◌≡◌, ◌+◌, ◌-◌, ◌^◌, drop, min}
use Rattle.un_isa.specs.declared.packet_counts.Resource.{Resource}
use Rattle.un_slots.specs.Loads.{load}
use Rattle.un_slots.specs.Amounts.{amount}
use Rattle.un_slots.proofs.load.load_from.Given as goal

abbrev pub invariant-loop-j : goal.invariant-loop-j
invariant-loop-j l = (r : Resource) → min (amount r l.load + load r (drop l.j l.items) l.w.store.now.sets l.c) (2 ^ 32 - 1) ≡ min
    (load r (drop l.m l.items) l.w.store.now.sets l.c) (2 ^ 32 - 1)
