use Rattle.un_steps.specs.Rules.{IsNotHome}
use Rattle.un_steps.proofs.NotHome as rule
use Rattle.un_steps.proofs.Solving.{of_operations}
use Rattle.un_steps.proofs.laws.not_home.Goals as goal

pub returns : goal.returns
returns c = of_operations c.args.m.now c.args.limit (λ m s p v y. IsNotHome m s p v y) c.requires
    (λ x h s inside q v y m goes is. let n = c.args.m.now in rule.not_home n.ext n.options x h s inside q v y m goes is)
