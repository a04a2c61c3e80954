use Rattle.un_kinds.proofs.Scoped.{chosen_vars}
use Rattle.un_kinds.proofs.make_alt.make_chosen.Goals as goal

pub invariant_of-made : goal.invariant_of-made
invariant_of-made c = record { ascend = c.in_ok-vars.ensures.rises; among = chosen_vars _ _ _ _ c.in_ok-vars.ensures }
