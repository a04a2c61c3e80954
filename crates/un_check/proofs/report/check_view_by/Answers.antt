use Rattle.std.proofs.Common.{ℕ, Option, subst}
use Rattle.un_check.specs.Causes.{limit_of}
use Rattle.un_check.specs.Seen.{IsSeen}
use Rattle.un_check.proofs.ReportLemmas.{told_err, told_ok, view_sound}
use Rattle.un_check.proofs.report.check_view_by.Goals as goal

pub see_lines-requires-clause-postable : goal.see_lines-requires-clause-postable
see_lines-requires-clause-postable c =
    let p = c.requires.problem in record { model = p.own; extended = p.extended; fit = p.fit; options = p.options }

pub see_lines-requires-clause-lines : goal.see_lines-requires-clause-lines
see_lines-requires-clause-lines c =
    let lines = c.requires.lines in record { nodes = lines.nodes; fit = lines.fit; spelled = lines.spelled }

pub returns-in-Err-clause-told : goal.returns-in-Err-clause-told
returns-in-Err-clause-told c nodes fit is =
    told_err _ _ c.in_ok-head.head c.in-Err.cause (c.in_ok-head.ensures c.args.v.now.nodes nodes) c.in-Err.is

pub returns-in_ok-seen-in-Ok-clause-told : goal.returns-in_ok-seen-in-Ok-clause-told
returns-in_ok-seen-in-Ok-clause-told c nodes fit is =
    let v = c.args.v.now in
    c.judge_tree.ensures.told v.name.now nodes
    (subst (λ (limit : Option ℕ). IsSeen c.args.m.now limit nodes c.in_ok-seen-in-Ok.seen) c.limit_of.ensures
    (c.in_ok-seen-in-Ok.ensures nodes fit is))
    (told_ok _ _ c.in_ok-head.head (c.in_ok-head.ensures v.nodes nodes) c.in-Ok.is)

pub returns-in_ok-seen-in-Ok-clause-sound : goal.returns-in_ok-seen-in-Ok-clause-sound
returns-in_ok-seen-in-Ok-clause-sound c r view fit =
    let nodes = r.tree.nodes.items in
    view_sound c.args.f.now c.args.m.now r c.args.v.now c.judge_tree.result view (returns-in_ok-seen-in-Ok-clause-told c nodes fit view.tree)
    (c.judge_tree.ensures.standing nodes
    (subst (λ (limit : Option ℕ). IsSeen c.args.m.now limit nodes c.in_ok-seen-in-Ok.seen) c.limit_of.ensures
    (c.in_ok-seen-in-Ok.ensures nodes fit view.tree)))
