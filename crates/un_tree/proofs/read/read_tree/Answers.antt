use Rattle.std.proofs.Common.{inl, inr}
use Rattle.un_tree.proofs.TreeTexts.{all_read}
use Rattle.un_tree.proofs.read.read_tree.Goals as goal

pub returns-in-End-clause-whole : goal.returns-in-End-clause-whole
returns-in-End-clause-whole c nodes fit is =
    let so_far = c.loop-nodes.invariant in
    (all_read c.args.text.now c.loop-nodes.nodes.items nodes c.loop-nodes.left.now so_far.whole so_far.fit fit is (inl c.in-End.ensures)).1

pub returns-in-Bad-clause-whole : goal.returns-in-Bad-clause-whole
returns-in-Bad-clause-whole c nodes fit is =
    let so_far = c.loop-nodes.invariant in
    absurd (c.in-Bad.ensures.0 (all_read c.args.text.now c.loop-nodes.nodes.items nodes c.loop-nodes.left.now so_far.whole so_far.fit fit is
    (inr c.in-Bad.ensures.1)).0)
