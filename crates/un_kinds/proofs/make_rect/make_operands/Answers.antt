use Rattle.un_rect.specs.Operands.{side}
use Rattle.un_kinds.proofs.Scoped.{first_side, second_side}
use Rattle.un_kinds.proofs.make_rect.make_operands.Goals as goal

pub invariant_of-made : goal.invariant_of-made
invariant_of-made c =
    let a = side c.args.a.choice c.args.a.regs c.args.a.allowed in
    let b = side c.args.b.choice c.args.b.regs c.args.b.allowed in
    record {
      ascend = c.in_ok-vars.ensures.rises;
      of_first = first_side _ a b c.in_ok-vars.ensures;
      of_second = second_side _ a b c.in_ok-vars.ensures;
    }
