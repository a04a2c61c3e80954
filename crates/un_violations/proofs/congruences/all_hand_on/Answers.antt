use Rattle.un_violations.proofs.Edges.{not_on}
use Rattle.un_violations.proofs.congruences.all_hand_on.Goals as goal

pub returns-then-not-hands_on : goal.returns-then-not-hands_on
returns-then-not-hands_on c =
    not_on c.args.blocks.now c.args.ranges.now c.args.ends.now c.in_ok-handed.handed c.as_slice.result.now c.loop-k.k
    c.index-blocks-k.result c.hands_on.result c.loop-k-test.true c.index-blocks-k.is c.in_ok-handed.ensures c.as_slice.ensures
    c.hands_on.ensures c.if-not-hands_on.true
