use Rattle.un_kinds.proofs.Scoped.{counted_vars}
use Rattle.un_kinds.proofs.make_counted.make_counted.Goals as goal

pub invariant_of-result : goal.invariant_of-result
invariant_of-result c = record { ascend = c.in_ok-vars.ensures.rises; among = counted_vars _ _ c.in_ok-vars.ensures }
