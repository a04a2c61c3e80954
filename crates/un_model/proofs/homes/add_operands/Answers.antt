use Rattle.un_ir.specs.declared.extended.Operand.{Operand}
use Rattle.un_model.specs.Homes.{is_operand_mark}
use Rattle.un_model.proofs.Steps.{any_more}
use Rattle.un_model.proofs.homes.add_operands.Goals as goal

pub loop-j-preserved : goal.loop-j-preserved
loop-j-preserved c = λ x i lt. any_more (λ (o : Operand). is_operand_mark o x i) c.loop-j.j c.args.op.now.operands c.get.result.now _ _ _
    c.get.ensures (c.loop-j.invariant x i lt) (c.in_ok-add_operand.ensures x i lt)
