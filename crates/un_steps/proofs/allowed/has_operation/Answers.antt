use Rattle.std.proofs.Common.{◌↔◌, ◌<◌, Bool, length, sym, subst}
use Rattle.std.specs.Prelude.{IsTrue}
use Rattle.un_steps.specs.Found.{operation_of}
use Rattle.un_steps.specs.Words.{operations_of}
use Rattle.un_steps.proofs.Looks.{some_get}
use Rattle.un_steps.proofs.allowed.has_operation.Goals as goal

pub returns : goal.returns
returns c =
    let m = c.args.m.now in
    subst (λ (b : Bool). IsTrue b ↔ (c.args.n < length (operations_of m))) (sym c.is_some.ensures)
    (some_get operation_of c.operation-found.result (operations_of m) c.args.n c.operation-found.ensures)
