use Rattle.std.proofs.Common.{refl}
use Rattle.std.specs.List.{each_same}
use Rattle.un_ir.proofs.extended.ExtOpClone.clone.Goals as goal

pub returns : goal.returns
returns c =
    let a = c.args.self.now in
    let operands = each_same a.operands c.in_ok-operands.operands c.in_ok-operands.ensures.cases in
    let results = each_same a.results c.in_ok-results.results c.in_ok-results.ensures.cases in
    record { cases = rw (c.in_ok-kind.ensures.cases, operands, results) refl }
