use Rattle.un_steps.specs.Found.{operation_of}
use Rattle.un_steps.proofs.Looks.{nothing, something}
use Rattle.un_steps.proofs.allowed.may_go_at.Goals as goal

pub returns-in-None : goal.returns-in-None
returns-in-None c = nothing operation_of c.operation.result _ _ c.operation.ensures c.in-None.is

pub returns-in-Some : goal.returns-in-Some
returns-in-Some c = something operation_of c.operation.result _ _ c.in-Some.p c.takes.result c.operation.ensures c.in-Some.is
    c.takes.ensures
