use Rattle.un_steps.specs.Found.{operation_of}
use Rattle.un_steps.proofs.Looks.{nothing, something}
use Rattle.un_steps.proofs.rules.is_given_late.Goals as goal

pub returns-in-None : goal.returns-in-None
returns-in-None c = nothing operation_of c.definer.result _ _ c.definer.ensures c.in-None.is

pub returns-in-Some : goal.returns-in-Some
returns-in-Some c = something operation_of c.definer.result _ _ c.in-Some.d c.is_late_for.result c.definer.ensures c.in-Some.is c.is_late_for.ensures
