use Rattle.std.proofs.Common.{sym, subst}
use Rattle.un_model.specs.Boxes.{root_of}
use Rattle.un_stand.specs.Rooms.{path_of}
use Rattle.un_tree.specs.Boxes.{reached}
use Rattle.un_tree.specs.Waits.{Whole}
use Rattle.un_tree.specs.declared.node.Node.{Node}
use Rattle.un_check.specs.Judging.{IsJudged}
use Rattle.un_check.proofs.judge.judge_box.Goals as goal

pub returns-in-Branch-clause-judged : goal.returns-in-Branch-clause-judged
returns-in-Branch-clause-judged c rest h =
    let g = c.args.rules.now in
    subst (λ (n : Node). IsJudged g.m.now g.limit c.args.place n (Whole (reached (root_of g.m.now) (path_of c.args.room.now))) rest
    c.judge_branch.result) (sym c.in-Branch.is) (c.judge_branch.ensures.judged rest)

pub returns-in-Closed-clause-judged : goal.returns-in-Closed-clause-judged
returns-in-Closed-clause-judged c rest h =
    let g = c.args.rules.now in
    subst (λ (n : Node). IsJudged g.m.now g.limit c.args.place n (Whole (reached (root_of g.m.now) (path_of c.args.room.now))) rest
    c.judge_closed.result) (sym c.in-Closed.is) (c.judge_closed.ensures rest)

pub returns-in-Open-clause-judged : goal.returns-in-Open-clause-judged
returns-in-Open-clause-judged c rest h =
    let g = c.args.rules.now in
    subst (λ (n : Node). IsJudged g.m.now g.limit c.args.place n (Whole (reached (root_of g.m.now) (path_of c.args.room.now))) rest
    c.judge_open.result) (sym c.in-Open.is) (c.judge_open.ensures.judged rest)
