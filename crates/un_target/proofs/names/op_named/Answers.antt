use Rattle.std.proofs.Common.{◌≡◌, arith}
use Rattle.un_isa.specs.declared.op.Op.{Op}
use Rattle.un_target.specs.Names.{name_of}
use Rattle.un_target.proofs.NameLaws.{small, one_more, other_name}
use Rattle.un_target.proofs.names.op_named.Goals as goal

pub returns-clause-none : goal.returns-clause-none
returns-clause-none c = λ op e. c.loop-number.invariant op (omega (arith, small op, c.loop-number-test.false)) e

pub loop-number-preserved : goal.loop-number-preserved
loop-number-preserved c = one_more (λ (op : Op). c.args.text.now ≡ name_of op → ⊥) c.loop-number.number c.op_at-op.result c.op_at-op.ensures
    c.loop-number.invariant (other_name c.name.result.now c.args.text.now c.op_at-op.result c.name.ensures c.if-eq.ensures)
