use Rattle.std.proofs.Common.{subst}
use Rattle.un_top.proofs.StepLaws.{split_refused}
use Rattle.un_top.specs.Steps.{HasNoSplit}
use Rattle.un_top.proofs.steps.log_of.Goals as goal

pub returns-in-Some-clause-refused : goal.returns-in-Some-clause-refused
returns-in-Some-clause-refused c =
    split_refused c.args.counts c.args.m.now c.args.r.now c.as_slice.result.now c.in-Some.place c.split_status.result
    c.as_slice.ensures.value c.in-Some.ensures.some c.split_status.ensures

pub plain_log-requires-clause-plain : goal.plain_log-requires-clause-plain
plain_log-requires-clause-plain c = subst HasNoSplit c.as_slice.ensures.value c.in-None.ensures.none
