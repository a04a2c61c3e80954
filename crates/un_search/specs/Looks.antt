-- The look that a relaxation gives.
use Rattle.std.specs.Prelude.{◌≡◌}
use Rattle.un_bound.specs.declared.relax.RelaxAnswer.{RelaxAnswer}
use Rattle.un_bound.specs.declared.relax.RelaxAnswer.TheVariants.{Empty, Least}
use Rattle.un_branching.specs.declared.problem.Look.{Look}
use Rattle.un_branching.specs.declared.problem.Look.TheVariants.{Failed, Found, Open}

-- an empty one is as good as failed rounds, and one with members has their least cost
abbrev pub IsLookOf : RelaxAnswer → Look → Type 0
IsLookOf Empty Failed = Unit {0}
IsLookOf Empty (Found x) = ⊥
IsLookOf Empty (Open n) = ⊥
IsLookOf (Least cost) Failed = ⊥
IsLookOf (Least cost) (Found x) = ⊥
IsLookOf (Least cost) (Open n) = n ≡ cost
