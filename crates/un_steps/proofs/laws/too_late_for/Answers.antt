use Rattle.un_steps.specs.Rules.{IsTooLateFor}
use Rattle.un_steps.proofs.TooLateFor as rule
use Rattle.un_steps.proofs.Solving.{of_operations}
use Rattle.un_steps.proofs.laws.too_late_for.Goals as goal

pub returns : goal.returns
returns c = of_operations c.args.m.now c.args.limit (λ m s p v y. IsTooLateFor m s p v y) c.requires
    (λ x h s inside q v y m goes is. let n = c.args.m.now in rule.too_late_for n.ext n.options x h s inside q v y m goes is)
