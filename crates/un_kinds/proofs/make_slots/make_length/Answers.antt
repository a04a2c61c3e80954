use Rattle.un_kinds.proofs.Scoped.{block_vars}
use Rattle.un_kinds.proofs.make_slots.make_length.Goals as goal

pub invariant_of-made : goal.invariant_of-made
invariant_of-made c = record { ascend = c.in_ok-vars.ensures.rises; among = block_vars _ _ _ c.in_ok-vars.ensures }
