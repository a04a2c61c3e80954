use Rattle.std.proofs.Common.{arith}
use Rattle.un_steps.specs.Words.{operation}
use Rattle.un_steps.proofs.Finding.{pairs_length}
use Rattle.un_steps.proofs.full.count.Goals as goal

pub returns : goal.returns
returns c =
    let b = c.args.b.now in
    let owner = b.owner.now in let vars = b.vars.now in
    let l = pairs_length (operation b.number owner vars.end) 0 owner.ops vars.ops in
    let n = c.len.ensures in let k = c.len-2.ensures in let m = c.min.ensures in
    omega (arith, l, n, k, m)
