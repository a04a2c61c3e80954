use Rattle.std.proofs.Common.{sym, ◌∙◌, arith}
use Rattle.un_steps.proofs.Finding.{joined_here, joined_later, joined_none}
use Rattle.un_steps.proofs.allowed.arc.Goals as goal

pub returns-then-rest-count : goal.returns-then-rest-count
returns-then-rest-count c =
    let m = c.args.m.now in
    let n = c.len-count.ensures in let t = c.if-rest-count.true in
    sym c.get-a.ensures ∙ sym (joined_here m.arcs c.loop-k.k c.loop-k.rest c.get-arcs.result.now c.get-arcs.ensures (omega (arith, n, t)))
    ∙ c.loop-k.invariant

pub loop-k-preserved : goal.loop-k-preserved
loop-k-preserved c =
    let m = c.args.m.now in
    sym (joined_later m.arcs c.loop-k.k c.loop-k.rest c.len-count.result c.get-arcs.result.now c.get-arcs.ensures c.len-count.ensures
    c.if-rest-count.false) ∙ c.loop-k.invariant

pub returns : goal.returns
returns c =
    let m = c.args.m.now in
    let a = c.len-k-end.ensures in let t = c.loop-k-test.false in
    sym (joined_none m.arcs c.loop-k.k c.loop-k.rest (omega (arith, a, t))) ∙ c.loop-k.invariant
