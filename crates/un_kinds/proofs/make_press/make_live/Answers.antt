use Rattle.un_kinds.proofs.Scoped.{live_vars}
use Rattle.un_kinds.proofs.make_press.make_live.Goals as goal

pub invariant_of-made : goal.invariant_of-made
invariant_of-made c = record { ascend = c.in_ok-vars.ensures.rises; among = live_vars _ _ c.in_ok-vars.ensures }
