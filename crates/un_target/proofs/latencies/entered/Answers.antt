use Rattle.un_isa.specs.Facts.{latency_by}
use Rattle.serde_json.specs.Find.{get_member}
use Rattle.serde_json.specs.View.{view, members_view}
use Rattle.un_target.specs.Names.{name_of}
use Rattle.un_target.proofs.LatencyLaws.{some_entered, none_entered, not_entered}
use Rattle.un_target.proofs.latencies.entered.Goals as goal

pub returns-in-Some-clause-some : goal.returns-in-Some-clause-some
returns-in-Some-clause-some c = some_entered (get_member (name_of c.args.op) (members_view c.args.entries.now.entries))
    (view c.in-Some.value.now) (latency_by c.args.op) c.number_within.result c.in-Some.ensures c.number_within.ensures.some

pub returns-in-Some-clause-none : goal.returns-in-Some-clause-none
returns-in-Some-clause-none c = none_entered (get_member (name_of c.args.op) (members_view c.args.entries.now.entries))
    (view c.in-Some.value.now) (latency_by c.args.op) c.number_within.result c.in-Some.ensures c.number_within.ensures.none

pub returns-in-None-clause-some : goal.returns-in-None-clause-some
returns-in-None-clause-some c = not_entered (get_member (name_of c.args.op) (members_view c.args.entries.now.entries))
    (latency_by c.args.op) c.usual.result c.in-None.ensures c.usual.ensures
