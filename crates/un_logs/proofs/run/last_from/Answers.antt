use Rattle.un_logs.proofs.Turning.{full_each}
use Rattle.un_logs.proofs.run.last_from.Goals as goal

pub returns-in-TooFull-clause-each : goal.returns-in-TooFull-clause-each
returns-in-TooFull-clause-each c =
    let r = c.args.r.now in
    let l = c.requires in
    full_each r.m.now r.limit c.args.t.now c.args.s.now.sets c.args.first c.last_left.result c.in-TooFull.is l.free

pub returns-in-TooFull-clause-longest : goal.returns-in-TooFull-clause-longest
returns-in-TooFull-clause-longest c = λ y lt h all. c.last_left.ensures.none y lt h
