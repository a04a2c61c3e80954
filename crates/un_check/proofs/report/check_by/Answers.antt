use Rattle.std.proofs.Common.{List, ℕ, Option, subst}
use Rattle.un_tree.specs.declared.node.Node.{Node}
use Rattle.un_check.specs.Causes.{limit_of, IsCause, IsRightHead}
use Rattle.un_check.specs.Seen.{IsSeen}
use Rattle.un_check.proofs.ReportLemmas.{told_err, told_ok, sound_told}
use Rattle.un_check.proofs.report.check_by.Goals as goal

pub see_tree-requires : goal.see_tree-requires
see_tree-requires c =
    let p = c.requires.problem in
    record { postable = record { model = p.own; extended = p.extended; fit = p.fit; options = p.options } }

pub returns-in-Err-clause-told : goal.returns-in-Err-clause-told
returns-in-Err-clause-told c =
    let r = c.args.r.now in
    let m = c.args.m.now in
    let f = c.args.f.now in
    subst (λ (name : List ℕ). IsCause f.name m (record { name = name; nodes = r.nodes; answer = r.answer; tree = r.tree.nodes.items }) c.in-Err.cause)
    c.as_bytes.ensures.bytes
    (told_err _ _ c.in_ok-head.head c.in-Err.cause (c.in_ok-head.ensures r.nodes r.tree.nodes.items) c.in-Err.is)

pub returns-in_ok-seen-in-Ok-clause-told : goal.returns-in_ok-seen-in-Ok-clause-told
returns-in_ok-seen-in-Ok-clause-told c =
    let r = c.args.r.now in
    let m = c.args.m.now in
    let f = c.args.f.now in
    c.judge_tree.ensures.told r.name r.tree.nodes.items
    (subst (λ (limit : Option ℕ). IsSeen m limit r.tree.nodes.items c.in_ok-seen-in-Ok.seen) c.limit_of.ensures
    (subst (λ (ns : List Node). IsSeen m c.limit_of.result ns c.in_ok-seen-in-Ok.seen) c.as_slice.ensures.value c.in_ok-seen-in-Ok.ensures))
    (subst (λ (name : List ℕ). IsRightHead f.name m (record { name = name; nodes = r.nodes; answer = r.answer; tree = r.tree.nodes.items }))
    c.as_bytes.ensures.bytes
    (told_ok _ _ c.in_ok-head.head (c.in_ok-head.ensures r.nodes r.tree.nodes.items) c.in-Ok.is))

pub returns-in_ok-seen-in-Ok-clause-sound : goal.returns-in_ok-seen-in-Ok-clause-sound
returns-in_ok-seen-in-Ok-clause-sound c =
    let r = c.args.r.now in
    let m = c.args.m.now in
    sound_told c.args.f.now m r c.judge_tree.result (returns-in_ok-seen-in-Ok-clause-told c)
    (c.judge_tree.ensures.standing r.tree.nodes.items
    (subst (λ (limit : Option ℕ). IsSeen m limit r.tree.nodes.items c.in_ok-seen-in-Ok.seen) c.limit_of.ensures
    (subst (λ (ns : List Node). IsSeen m c.limit_of.result ns c.in_ok-seen-in-Ok.seen) c.as_slice.ensures.value c.in_ok-seen-in-Ok.ensures)))
