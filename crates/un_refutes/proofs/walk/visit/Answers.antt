use Rattle.std.proofs.Common.{subst}
use Rattle.un_stand.specs.Rooms.{path_of}
use Rattle.un_refutes.specs.SymWalks.{IsJudged}
use Rattle.un_refutes.proofs.WalkLemmas.{broken, past_end, walk_on}
use Rattle.un_refutes.proofs.walk.visit.Goals as goal

pub returns-then-not-walk-clause-visited : goal.returns-then-not-walk-clause-visited
returns-then-not-walk-clause-visited c nodes rest h =
    let g = c.args.rules.now in past_end g.m.now g.limit nodes c.args.walk.now c.args.node rest h c.if-not-walk.true

pub returns-in-Some-clause-visited : goal.returns-in-Some-clause-visited
returns-in-Some-clause-visited c nodes rest h =
    let g = c.args.rules.now in
    broken g.m.now g.limit nodes rest c.args.node c.args.walk.now h c.if-not-walk.false c.judge.result c.in-Some.verdict c.in-Some.is
    c.judge.ensures

pub pass-requires-clause-keeps : goal.pass-requires-clause-keeps
pass-requires-clause-keeps c =
    let g = c.args.rules.now in
    subst (IsJudged g.m.now g.limit c.args.walk.now.place c.args.node (path_of c.args.walk.now.room)) c.in-None.is c.judge.ensures

pub returns-in_ok-pass-in-None-clause-visited : goal.returns-in_ok-pass-in-None-clause-visited
returns-in_ok-pass-in-None-clause-visited c nodes rest h =
    let g = c.args.rules.now in
    let p = c.in_ok-pass-in-None.ensures in
    walk_on g.m.now g.limit nodes rest c.args.node c.args.walk.now h c.if-not-walk.false c.pass.new.walk
    (subst (IsJudged g.m.now g.limit c.args.walk.now.place c.args.node (path_of c.args.walk.now.room)) c.in-None.is c.judge.ensures)
    p.waits p.place
