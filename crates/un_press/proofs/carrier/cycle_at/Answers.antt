use Rattle.std.proofs.Common.{sym, ◌∙◌, arith}
use Rattle.un_press.proofs.Loops.{cycle_here, cycle_later, cycle_nowhere}
use Rattle.un_press.proofs.carrier.cycle_at.Goals as goal

pub loop-k-preserved : goal.loop-k-preserved
loop-k-preserved c =
    rw c.len-left.ensures (sym (cycle_later c.args.values.now c.loop-k.k c.loop-k.left c.args.m.now.ext.blocks c.args.m.now.blocks
    c.get-block.result.now c.get-vars.result.now c.get-block.ensures c.get-vars.ensures (omega arith)) ∙ c.loop-k.invariant)

pub returns-then-left-len : goal.returns-then-left-len
returns-then-left-len c =
    c.block_cycle.ensures ∙ sym (cycle_here c.args.values.now c.loop-k.k c.loop-k.left c.args.m.now.ext.blocks c.args.m.now.blocks
    c.get-block.result.now c.get-vars.result.now c.get-block.ensures c.get-vars.ensures (omega arith)) ∙ c.loop-k.invariant

pub returns : goal.returns
returns c = sym (cycle_nowhere c.args.values.now c.loop-k.k c.loop-k.left c.args.m.now.ext.blocks c.args.m.now.blocks (omega arith))
    ∙ c.loop-k.invariant
