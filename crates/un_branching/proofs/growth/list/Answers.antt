use Rattle.std.proofs.Common.{arith}
use Rattle.un_branching.proofs.WalkLemmas.{lists_there, lists_more, lists_all}
use Rattle.un_branching.proofs.growth.list.Goals as goal

pub loop-left-preserved : goal.loop-left-preserved
loop-left-preserved c = lists_more c.args.tree.now c.loop-left.left c.loop-left.at c.loop-left.nodes.items _ _ c.loop-left-test.true
    c.loop-left.invariant c.in_ok-push.ensures.items

pub returns : goal.returns
returns c = lists_all c.args.tree.now c.loop-left.left c.loop-left.at c.loop-left.nodes.items (omega arith) c.loop-left.invariant

pub bounds-tree-at : goal.bounds-tree-at
bounds-tree-at c = lists_there c.args.tree.now c.loop-left.left c.loop-left.at c.loop-left-test.true c.loop-left.invariant.stays
