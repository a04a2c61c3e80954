use Rattle.std.specs.Prelude.{IsSomeAnd, slice_get}
use Rattle.un_model.specs.declared.model.BlockVars.{BlockVars}
use Rattle.un_steps.specs.Rules.{IsTooDear}
use Rattle.un_steps.proofs.TooDear as rule
use Rattle.un_steps.proofs.Solving.{of_model}
use Rattle.un_steps.proofs.laws.too_dear.Goals as goal

pub returns : goal.returns
returns c = of_model c.args.m.now c.args.limit
    (λ m limit s n v y. IsSomeAnd (slice_get m.blocks n) (λ (vars : BlockVars). IsTooDear m limit s vars v y)) c.requires
    (λ x s n v y h inside cheap goes is. let m = c.args.m.now in rule.too_dear m.ext m.options x h s inside c.args.limit n v y cheap goes is)
