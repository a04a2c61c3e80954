use Rattle.un_steps.specs.Found.{operation_of}
use Rattle.un_steps.proofs.Looks.{nothing, something}
use Rattle.un_steps.proofs.full.is_full_to_at.Goals as goal

pub returns-in-None : goal.returns-in-None
returns-in-None c = nothing operation_of c.at.result _ _ c.at.ensures c.in-None.is

pub returns-in-Some : goal.returns-in-Some
returns-in-Some c = something operation_of c.at.result _ _ c.in-Some.q c.is_full_to.result c.at.ensures c.in-Some.is
    c.is_full_to.ensures
