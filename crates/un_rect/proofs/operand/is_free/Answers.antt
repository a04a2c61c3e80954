use Rattle.std.proofs.Common.{◌∙◌, sym}
use Rattle.un_rect.specs.Sides.{side_of}
use Rattle.un_rect.proofs.OperandSteps.{free}
use Rattle.un_rect.proofs.operand.is_free.Goals as goal

pub returns-then-may_have : goal.returns-then-may_have
returns-then-may_have c = λ yes r.
    free (side_of c.args.o.now) c.args.w.now.store.now.sets c.loop-q.q-index 0 r c.loop-q-test.true
    (sym c.may_have.ensures ∙ c.if-may_have.true) (sym c.may_avoid.ensures ∙ yes)
