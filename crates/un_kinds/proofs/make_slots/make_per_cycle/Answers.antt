use Rattle.un_kinds.proofs.Scoped.{slot_vars}
use Rattle.un_kinds.proofs.make_slots.make_per_cycle.Goals as goal

pub invariant_of-made : goal.invariant_of-made
invariant_of-made c = record { ascend = c.in_ok-vars.ensures.rises; among = slot_vars _ _ c.in_ok-vars.ensures }
