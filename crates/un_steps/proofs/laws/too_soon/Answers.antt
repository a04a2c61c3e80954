use Rattle.std.specs.Prelude.{IsSomeAnd, slice_get}
use Rattle.un_steps.specs.Allowed.{MayGoAtArc, arcs_of}
use Rattle.un_steps.proofs.TooSoon as rule
use Rattle.un_steps.proofs.Solving.{of_model}
use Rattle.un_steps.proofs.laws.too_soon.Goals as goal

pub returns : goal.returns
returns c = of_model c.args.m.now c.args.limit (λ m limit s n v y. IsSomeAnd (slice_get (arcs_of m) n) (MayGoAtArc m s v y)) c.requires
    (λ x s n v y h inside cheap goes is. let m = c.args.m.now in rule.too_soon m.ext m.options x h s inside n v y goes is)
