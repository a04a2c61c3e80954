use Rattle.std.proofs.Common.{sym, subst}
use Rattle.un_stand.specs.Rooms.{path_of}
use Rattle.un_tree.specs.Boxes.{reached}
use Rattle.un_tree.specs.Waits.{Inside}
use Rattle.un_tree.specs.declared.node.Node.{Node}
use Rattle.un_check.specs.Judging.{IsJudged}
use Rattle.un_check.proofs.part.judge_in.Goals as goal

pub returns-in-Branch : goal.returns-in-Branch
returns-in-Branch c first limit number rest h =
    subst (λ (n : Node). IsJudged c.args.m.now limit c.args.place n (Inside c.args.k number (reached first (path_of c.args.room.now))) rest
    c.judge_branch_in.result) (sym c.in-Branch.is) (c.judge_branch_in.ensures first limit number rest h)

pub returns-in-Closed : goal.returns-in-Closed
returns-in-Closed c first limit number rest h =
    subst (λ (n : Node). IsJudged c.args.m.now limit c.args.place n (Inside c.args.k number (reached first (path_of c.args.room.now))) rest
    c.judge_closed_in.result) (sym c.in-Closed.is) (c.judge_closed_in.ensures first limit number rest h)
