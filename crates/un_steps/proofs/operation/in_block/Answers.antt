use Rattle.std.proofs.Common.{sym}
use Rattle.un_steps.specs.Words.{operation}
use Rattle.un_steps.proofs.Finding.{pairs_get}
use Rattle.un_steps.proofs.operation.in_block.Goals as goal

pub returns : goal.returns
returns c =
    let block = c.args.block.now in
    let vars = c.args.vars.now in
    sym (pairs_get (operation c.args.b block vars.end) 0 c.args.n block.ops vars.ops c.get-op.result.now c.get-op_vars.result.now
    c.get-op.ensures c.get-op_vars.ensures)
