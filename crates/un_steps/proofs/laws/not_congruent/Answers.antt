use Rattle.un_steps.specs.Rules.{IsNotCongruent}
use Rattle.un_steps.proofs.NotCongruent as rule
use Rattle.un_steps.proofs.Solving.{of_operations}
use Rattle.un_steps.proofs.laws.not_congruent.Goals as goal

pub returns : goal.returns
returns c = of_operations c.args.m.now c.args.limit (λ m s p v y. IsNotCongruent m s p v y) c.requires
    (λ x h s inside q v y m goes is. let n = c.args.m.now in rule.not_congruent n.ext n.options x h s inside q v y m goes is)
