use Rattle.std.proofs.Common.{ℕ, Some, sym, subst, ap, ◌∙◌}
use Rattle.un_check.specs.Judging.{HasScratch, IsFound}
use Rattle.un_check.specs.Walks.{box_of}
use Rattle.un_check.proofs.WalkLemmas.{kept_pass, leaf_pass, no_more, passed_other, passed_open}
use Rattle.un_check.proofs.walk.visit.Goals as goal

pub returns-in-Broken-clause-visited : goal.returns-in-Broken-clause-visited
returns-in-Broken-clause-visited c nodes rest behind h =
    let g = c.args.rules.now in
    let w = c.args.walk.now in
    no_more g.m.now g.limit nodes rest c.args.node w h c.in-Broken.verdict
    (subst (IsFound g.m.now g.limit w.place c.args.node rest (box_of g.m.now w.at) w.at.stage) c.in-Broken.is (c.judge.ensures.found rest behind))

pub pass-requires-clause-pass : goal.pass-requires-clause-pass
pass-requires-clause-pass c =
    let g = c.args.rules.now in
    let w = c.args.walk.now in
    let b = c.requires.behind in
    kept_pass g.m.now g.limit w.place c.args.node b.rest (box_of g.m.now w.at) w.at.stage
    (subst (IsFound g.m.now g.limit w.place c.args.node b.rest (box_of g.m.now w.at) w.at.stage) c.in-Kept.is (c.judge.ensures.found b.rest b.is))

pub pass-requires-in-Leaf-clause-pass : goal.pass-requires-in-Leaf-clause-pass
pass-requires-in-Leaf-clause-pass c =
    let g = c.args.rules.now in
    let w = c.args.walk.now in
    let b = c.requires.behind in
    leaf_pass g.m.now g.limit w.place c.args.node b.rest (box_of g.m.now w.at) w.at.stage c.in-Leaf.least
    (subst (IsFound g.m.now g.limit w.place c.args.node b.rest (box_of g.m.now w.at) w.at.stage) c.in-Leaf.is (c.judge.ensures.found b.rest b.is))

pub returns-in_ok-pass-in-Kept-clause-visited : goal.returns-in_ok-pass-in-Kept-clause-visited
returns-in_ok-pass-in-Kept-clause-visited c nodes rest behind h =
    let g = c.args.rules.now in
    let w = c.args.walk.now in
    let p = c.in_ok-pass-in-Kept.ensures in
    passed_other g.m.now g.limit nodes rest c.args.node w h c.pass.new.walk p.waits p.place p.outer
    (subst (IsFound g.m.now g.limit w.place c.args.node rest (box_of g.m.now w.at) w.at.stage) c.in-Kept.is (c.judge.ensures.found rest behind))
    p.count p.least

pub returns-in_ok-pass-in-Leaf-clause-visited : goal.returns-in_ok-pass-in-Leaf-clause-visited
returns-in_ok-pass-in-Leaf-clause-visited c nodes rest behind h =
    let g = c.args.rules.now in
    let w = c.args.walk.now in
    let p = c.in_ok-pass-in-Leaf.ensures in
    passed_open g.m.now g.limit nodes rest c.args.node w h c.pass-in-Leaf.new.walk p.waits p.place p.outer c.in-Leaf.least
    (subst (IsFound g.m.now g.limit w.place c.args.node rest (box_of g.m.now w.at) w.at.stage) c.in-Leaf.is (c.judge.ensures.found rest behind))
    (p.count ∙ c.in_ok-walk-in-Leaf.ensures.later) (p.least ∙ ap (λ (n : ℕ). Some n) c.lowered.ensures)

pub returns-in_ok-pass-in-Kept-clause-room : goal.returns-in_ok-pass-in-Kept-clause-room
returns-in_ok-pass-in-Kept-clause-room c =
    subst (HasScratch c.args.rules.now.m.now) (sym c.in_ok-pass-in-Kept.ensures.scratch) c.judge.ensures.room

pub returns-in_ok-pass-in-Leaf-clause-room : goal.returns-in_ok-pass-in-Leaf-clause-room
returns-in_ok-pass-in-Leaf-clause-room c =
    subst (HasScratch c.args.rules.now.m.now) (sym c.in_ok-pass-in-Leaf.ensures.scratch) c.judge.ensures.room
