use Rattle.un_top.proofs.StepLaws.{good_made, if_made}
use Rattle.un_top.proofs.RightTrees.{right_plain, right_sides, right_whole}
use Rattle.un_top.specs.Steps.{IsGoodLog}
use Rattle.un_top.proofs.steps.told_plain.Goals as goal

pub judge-requires-clause-whole : goal.judge-requires-clause-whole
judge-requires-clause-whole c = right_whole c.args.f.now.name c.args.m.now c.args.r.now c.requires.right

pub judge-requires-clause-plain : goal.judge-requires-clause-plain
judge-requires-clause-plain c = right_plain c.args.f.now.name c.args.m.now c.args.r.now c.requires.right c.requires.plain

pub judge-requires-clause-strict : goal.judge-requires-clause-strict
judge-requires-clause-strict c = right_sides c.args.f.now.name c.args.m.now c.args.r.now c.requires.right

pub returns-in-Ok-Yes-clause-good : goal.returns-in-Ok-Yes-clause-good
returns-in-Ok-Yes-clause-good c =
    let a = c.args in
    let told = c.in-Ok-Yes in
    if_made (IsGoodLog a.counts a.m.now a.r.now a.log.now) c.yes_steps.result
    (good_made a.counts a.m.now a.r.now c.limit_of.result c.rules_by.result c.limit_of.ensures c.rules_by.ensures a.log.now told.field-0
    told.field-0-is c.requires.plain (right_plain a.f.now.name a.m.now a.r.now c.requires.right c.requires.plain) told.ensures.verdict
    told.ensures.stands)
