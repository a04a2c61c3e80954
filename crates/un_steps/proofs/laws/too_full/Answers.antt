use Rattle.un_steps.specs.Rules.{IsTooFull}
use Rattle.un_steps.specs.Words.{operations_in}
use Rattle.un_steps.proofs.TooFull as rule
use Rattle.un_steps.proofs.Solving.{of_model}
use Rattle.un_steps.proofs.laws.too_full.Goals as goal

pub returns : goal.returns
returns c = of_model c.args.m.now c.args.limit (λ m limit s n v y. IsTooFull m s (operations_in m n) v) c.requires
    (λ x s n v y h inside cheap goes is. let m = c.args.m.now in rule.too_full m.ext m.options x h s inside n v goes)
