use Rattle.std.proofs.Common.{sym, subst, List, take, arith}
use Rattle.std.proofs.lemmas.List.{take_more}
use Rattle.un_model.specs.declared.schedule.Issue.{Issue}
use Rattle.un_violations.specs.Orders.{HaveBounds}
use Rattle.un_violations.proofs.Zeros.{zero_issue}
use Rattle.un_violations.proofs.bounds.all_bounds.Goals as goal

pub add_issue-requires : goal.add_issue-requires
add_issue-requires c =
    let below = c.requires c.loop-i.i-index zero_issue c.loop-i-test.true in
    let h = c.loop-i.invariant.0 in
    omega (arith, below, h)

pub loop-i-preserved : goal.loop-i-preserved
loop-i-preserved c =
    subst (λ (xs : List Issue). HaveBounds c.args.rule xs c.args.n c.add_issue.new.table.items)
    (sym (take_more c.args.issues.now c.loop-i.i-index zero_issue c.loop-i-test.true))
    (c.add_issue.ensures (take c.loop-i.i-index c.args.issues.now) c.args.n c.loop-i.invariant)
