use Rattle.std.proofs.Common.{◌↔◌, subst}
use Rattle.std.specs.Prelude.{Option, IsTrue}
use Rattle.un_base.specs.declared.ids.VarId.{VarId}
use Rattle.un_steps.specs.Found.{operation_of}
use Rattle.un_steps.specs.Words.{IsVar}
use Rattle.un_steps.proofs.Looks.{nothing, something}
use Rattle.un_steps.proofs.full.is_time_at.Goals as goal

pub returns-in-None : goal.returns-in-None
returns-in-None c = nothing operation_of c.at.result _ _ c.at.ensures c.in-None.is

pub returns-in-Some : goal.returns-in-Some
returns-in-Some c = something operation_of c.at.result _ _ c.in-Some.p c.is_var.result c.at.ensures c.in-Some.is
    (subst (λ (w : Option VarId). IsTrue c.is_var.result ↔ IsVar w c.args.v.0) c.time.ensures c.is_var.ensures)
