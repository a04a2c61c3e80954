use Rattle.std.proofs.Common.{sym, ◌∙◌, arith}
use Rattle.un_steps.proofs.Finding.{found_here, found_later, found_none}
use Rattle.un_steps.proofs.operation.operation.Goals as goal

pub returns-then-rest-count : goal.returns-then-rest-count
returns-then-rest-count c =
    let m = c.args.m.now in
    let a = c.len-in-loop-k.ensures in let b = c.len-in-loop-k-2.ensures in let n = c.min-count.ensures in let t = c.if-rest-count.true in
    c.in_block.ensures ∙ sym (found_here m.ext.blocks m.blocks c.loop-k.k c.loop-k.rest c.get-block.result.now c.get-vars.result.now
    c.get-block.ensures c.get-vars.ensures (omega (arith, a, b, n, t))) ∙ c.loop-k.invariant

pub loop-k-preserved : goal.loop-k-preserved
loop-k-preserved c =
    let m = c.args.m.now in
    let a = c.len-in-loop-k.ensures in let b = c.len-in-loop-k-2.ensures in let n = c.min-count.ensures in let t = c.if-rest-count.false in
    sym (found_later m.ext.blocks m.blocks c.loop-k.k c.loop-k.rest c.min-count.result c.get-block.result.now c.get-vars.result.now
    c.get-block.ensures c.get-vars.ensures (omega (arith, a, b, n)) t) ∙ c.loop-k.invariant

pub returns : goal.returns
returns c =
    let m = c.args.m.now in
    let a = c.len.ensures in let b = c.len-2.ensures in let n = c.min-k-end.ensures in let t = c.loop-k-test.false in
    sym (found_none m.ext.blocks m.blocks c.loop-k.k c.loop-k.rest (omega (arith, a, b, n, t))) ∙ c.loop-k.invariant
