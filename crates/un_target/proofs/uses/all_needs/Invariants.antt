use Rattle.un_target.specs.Lending.{lent_parts}
use Rattle.un_target.proofs.UseLaws.{AreBelow}
use Rattle.un_target.proofs.uses.all_needs.Given as goal

abbrev pub invariant-loop-number : goal.invariant-loop-number
invariant-loop-number l = AreBelow (lent_parts l.parts) l.all l.number
