use Rattle.un_branching.proofs.WalkLemmas.{leads_more, leads_all, split_all}
use Rattle.un_branching.proofs.growth.path_to.Goals as goal

pub loop-at-preserved : goal.loop-at-preserved
loop-at-preserved c = leads_more c.args.branches.now c.args.link c.loop-at.at c.in-Some.above c.loop-at.path.items _ _ c.requires.earlier
    c.in-Some.is c.loop-at.invariant c.in_ok-push.ensures.items

pub returns-clause-leads : goal.returns-clause-leads
returns-clause-leads c = leads_all c.args.branches.now c.args.link c.loop-at.at c.loop-at.path.items _ c.in_default.not-Some
    c.loop-at.invariant c.reverse.ensures.items

pub returns-clause-split : goal.returns-clause-split
returns-clause-split c = split_all c.args.branches.now c.args.link c.loop-at.at c.loop-at.path.items _ c.in_default.not-Some
    c.loop-at.invariant c.reverse.ensures.items
