use Rattle.un_steps.specs.Found.{alternative_of}
use Rattle.un_steps.proofs.Looks.{nothing, something}
use Rattle.un_steps.proofs.rules.chooses_no_space.Goals as goal

pub returns-in-None : goal.returns-in-None
returns-in-None c = nothing alternative_of c.alternative.result _ _ c.alternative.ensures c.in-None.is

pub returns-in-Some : goal.returns-in-Some
returns-in-Some c = something alternative_of c.alternative.result _ _ c.in-Some.a c.has_no_space.result c.alternative.ensures c.in-Some.is c.has_no_space.ensures
