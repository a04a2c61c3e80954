use Rattle.un_kinds.proofs.Scoped.{same_vars}
use Rattle.un_kinds.proofs.make_alt.make_same.Goals as goal

pub invariant_of-made : goal.invariant_of-made
invariant_of-made c = record { ascend = c.in_ok-vars.ensures.rises; among = same_vars _ _ _ _ c.in_ok-vars.ensures }
