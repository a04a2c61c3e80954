use Rattle.un_kinds.proofs.Scoped.{below_vars}
use Rattle.un_kinds.proofs.make_prec.make_below.Goals as goal

pub invariant_of-result : goal.invariant_of-result
invariant_of-result c = record { ascend = c.in_ok-vars.ensures.rises; among = below_vars _ _ c.in_ok-vars.ensures }
