use Rattle.std.proofs.Common.{sym, ◌∙◌, arith}
use Rattle.un_press.specs.Searches.{is_there}
use Rattle.un_press.proofs.Loops.{block_here, block_later, blocks_nowhere}
use Rattle.un_press.proofs.carrier.read_in_blocks.Goals as goal

pub loop-k-preserved : goal.loop-k-preserved
loop-k-preserved c =
    sym (block_later (is_there c.args.m.now c.args.values.now c.args.sought.value c.args.sought.by) c.args.values.now c.args.t c.loop-k.k
    c.args.m.now.ext.blocks c.args.m.now.blocks c.get-block.result.now c.get-vars.result.now c.get-block.ensures c.get-vars.ensures
    (sym c.read_in.ensures ∙ c.in_default.is)) ∙ c.loop-k.invariant

pub returns-in-Some : goal.returns-in-Some
returns-in-Some c =
    sym (block_here (is_there c.args.m.now c.args.values.now c.args.sought.value c.args.sought.by) c.args.values.now c.args.t c.loop-k.k
    c.args.m.now.ext.blocks c.args.m.now.blocks c.get-block.result.now c.get-vars.result.now c.in-Some.y c.get-block.ensures
    c.get-vars.ensures (sym c.read_in.ensures ∙ c.in-Some.is)) ∙ c.loop-k.invariant

pub returns : goal.returns
returns c =
    sym (blocks_nowhere (is_there c.args.m.now c.args.values.now c.args.sought.value c.args.sought.by) c.args.values.now c.args.t c.loop-k.k
    c.args.m.now.ext.blocks c.args.m.now.blocks (omega arith)) ∙ c.loop-k.invariant
