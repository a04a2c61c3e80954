use Rattle.std.proofs.Common.{sym, ap, ◌∙◌, arith}
use Rattle.un_base.specs.declared.ids.VarId.{VarId}
use Rattle.un_lists.proofs.Lists.{get_below, index_get}
use Rattle.un_steps.proofs.Picking.{picked_later, picked_none}
use Rattle.un_steps.proofs.reads.picked.Goals as goal

pub loop-j-preserved : goal.loop-j-preserved
loop-j-preserved c =
    let ws = c.args.choices.now in
    let bs = c.args.operands.now in
    let n = c.min-j-end.ensures in let t = c.loop-j-test.true in
    let w = get_below ws c.loop-j.j (omega (arith, n, t)) in
    let b = get_below bs c.loop-j.j (omega (arith, n, t)) in
    sym (picked_later c.args.v.0 c.args.y c.loop-j.j ws bs w.0 b.0 w.1 b.1 (λ e.
    c.if-choices-j.false (ap (λ (u : VarId). u.0) (index_get ws c.loop-j.j _ w.0 w.1) ∙ e))) ∙ c.loop-j.invariant

pub returns : goal.returns
returns c =
    let n = c.min-j-end.ensures in let t = c.loop-j-test.false in
    sym (picked_none c.args.v.0 c.args.y c.loop-j.j c.args.choices.now c.args.operands.now (omega (arith, n, t))) ∙ c.loop-j.invariant
