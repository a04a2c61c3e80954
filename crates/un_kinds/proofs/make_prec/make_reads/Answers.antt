use Rattle.un_kinds.proofs.Scoped.{reads_vars}
use Rattle.un_kinds.proofs.make_prec.make_reads.Goals as goal

pub invariant_of-made : goal.invariant_of-made
invariant_of-made c = record { ascend = c.in_ok-vars.ensures.rises; among = reads_vars _ _ _ _ _ c.in_ok-vars.ensures }
