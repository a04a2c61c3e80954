use Rattle.std.proofs.Common.{sym, ap, ◌∙◌, arith, Some}
use Rattle.un_base.specs.declared.ids.TempId.{TempId}
use Rattle.un_model.specs.Schedules.{choice_of}
use Rattle.un_press.specs.Searches.{is_there}
use Rattle.un_press.proofs.Loops.{found_here, found_later, found_nowhere}
use Rattle.un_press.proofs.carrier.first_there.Goals as goal

pub loop-j-preserved : goal.loop-j-preserved
loop-j-preserved c =
    sym (found_later (is_there c.args.m.now c.args.values.now c.args.sought.value c.args.sought.by)
    (choice_of c.args.values.now c.args.vars.now) c.loop-j.j
    c.args.op.now.operands c.get-operand.result.now c.get-operand.ensures
    (ap (is_there c.args.m.now c.args.values.now c.args.sought.value c.args.sought.by) (sym c.choice-y.ensures) ∙ sym c.is_there.ensures
    ∙ c.if-is_there.false)) ∙ c.loop-j.invariant

pub returns-then-is_there : goal.returns-then-is_there
returns-then-is_there c =
    ap (λ (y : TempId). Some y) c.choice-y.ensures
    ∙ sym (found_here (is_there c.args.m.now c.args.values.now c.args.sought.value c.args.sought.by)
    (choice_of c.args.values.now c.args.vars.now) c.loop-j.j
    c.args.op.now.operands c.get-operand.result.now c.get-operand.ensures
    (ap (is_there c.args.m.now c.args.values.now c.args.sought.value c.args.sought.by) (sym c.choice-y.ensures) ∙ sym c.is_there.ensures
    ∙ c.if-is_there.true)) ∙ c.loop-j.invariant

pub returns : goal.returns
returns c = sym (found_nowhere (is_there c.args.m.now c.args.values.now c.args.sought.value c.args.sought.by)
    (choice_of c.args.values.now c.args.vars.now)
    c.loop-j.j c.args.op.now.operands (omega arith)) ∙ c.loop-j.invariant
