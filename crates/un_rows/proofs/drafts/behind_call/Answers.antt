use Rattle.std.proofs.Common.{ℕ, ap, arith}
use Rattle.un_lists.proofs.Lists.{get_below}
use Rattle.un_rows.proofs.Walks.{counted_more}
use Rattle.un_rows.specs.Drafts.{arc}
use Rattle.un_rows.specs.declared.draft.Owed.{Owed}
use Rattle.un_rows.proofs.drafts.behind_call.Goals as goal

pub loop-i-preserved : goal.loop-i-preserved
loop-i-preserved c =
    let o = get_below c.args.owed.now c.loop-i.i (omega (arith, c.loop-i-test.true)) in
    counted_more (λ (i : ℕ) (o : Owed). arc c.args.call i) c.args.n c.loop-i.i c.args.owed.now o.0 c.loop-i.arcs _ c.push.new.self _
    c.loop-i.invariant o.1 (ap (arc c.args.call) c.in_ok-to.ensures.later) c.in_ok-push.ensures.ok
