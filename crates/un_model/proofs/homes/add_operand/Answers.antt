use Rattle.un_model.proofs.HomeMarks.{by_operand}
use Rattle.un_model.proofs.homes.add_operand.Goals as goal

pub returns-in_ok-add_alternatives : goal.returns-in_ok-add_alternatives
returns-in_ok-add_alternatives c = λ x i lt. by_operand c.args.operand.now c.in-Some.reg x i _ _ c.in-Some.is c.if-reg-lt-GENERALS.true
    (c.in_ok-add_alternatives.ensures x i lt)
