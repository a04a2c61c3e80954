use Rattle.std.proofs.Common.{sym, arith}
use Rattle.un_steps.specs.Full.{operations_of}
use Rattle.un_steps.specs.Words.{operation}
use Rattle.un_steps.proofs.Finding.{pairs_length, get_past}
use Rattle.un_steps.proofs.full.at.Goals as goal

pub in_block-requires-clause-op : goal.in_block-requires-clause-op
in_block-requires-clause-op c =
    let b = c.args.b.now in
    let owner = b.owner.now in let vars = b.vars.now in
    let l = pairs_length (operation b.number owner vars.end) 0 owner.ops vars.ops in
    let n = c.count.ensures in let t = c.if-i-count.true in
    omega (arith, l, n, t)

pub in_block-requires-clause-vars : goal.in_block-requires-clause-vars
in_block-requires-clause-vars c =
    let b = c.args.b.now in
    let owner = b.owner.now in let vars = b.vars.now in
    let l = pairs_length (operation b.number owner vars.end) 0 owner.ops vars.ops in
    let n = c.count.ensures in let t = c.if-i-count.true in
    omega (arith, l, n, t)

pub returns : goal.returns
returns c = let n = c.count.ensures in let t = c.if-i-count.false in
    sym (get_past (operations_of c.args.b.now) c.args.i (omega (arith, n, t)))
