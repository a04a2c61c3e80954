-- What the code names operations, alternatives and registers by.
use Rattle.un_steps.specs.Words.{Operation, Alternative}
use Rattle.un_steps.specs.declared.operation.Found.{Found}
use Rattle.un_steps.specs.declared.reads.Alternate.{Alternate}

abbrev pub operation_of : Found → Operation
operation_of p = record { block = p.block; owner = p.owner.now; end = p.end; op = p.op.now; vars = p.vars.now }

abbrev pub alternative_of : Alternate → Alternative
alternative_of a = record { at = a.at; operand = a.operand.now; temp = a.temp }
