use Rattle.std.proofs.Common.{subst}
use Rattle.un_top.proofs.StepLaws.{split_not_good}
use Rattle.un_top.specs.Steps.{HasNoSplit}
use Rattle.un_top.proofs.steps.told_log.Goals as goal

pub returns-in-Some-clause-refused : goal.returns-in-Some-clause-refused
returns-in-Some-clause-refused c =
    split_not_good c.args.counts c.args.m.now c.args.r.now c.args.log.now c.as_slice.result.now c.in-Some.place c.split_status.result
    c.as_slice.ensures.value c.in-Some.ensures.some c.split_status.ensures

pub told_plain-requires-clause-plain : goal.told_plain-requires-clause-plain
told_plain-requires-clause-plain c = subst HasNoSplit c.as_slice.ensures.value c.in-None.ensures.none
