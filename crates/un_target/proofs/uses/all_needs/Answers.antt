use Rattle.std.proofs.Common.{length, ap, arith}
use Rattle.un_isa.specs.declared.table.Table.{Table}
use Rattle.un_target.specs.Lending.{lent_parts}
use Rattle.un_target.proofs.UseLaws.{one_use, every_use, none_uses}
use Rattle.un_target.proofs.uses.all_needs.Goals as goal

pub loop-number-init : goal.loop-number-init
loop-number-init c = record { count = ap (λ (t : Table). length t.uses) c.hexagon.ensures.table; each = λ op h. absurd (omega (arith, h)) }

pub loop-number-preserved : goal.loop-number-preserved
loop-number-preserved c = one_use (lent_parts c.args.parts.now) c.loop-number.all c.loop-number.number c.op_at-op.result c.in-Some.n
    c.op_at-op.ensures c.loop-number-test.true c.loop-number.invariant c.in-Some.ensures.some

pub returns-in_default-clause-none : goal.returns-in_default-clause-none
returns-in_default-clause-none c = none_uses (lent_parts c.args.parts.now) c.op_at-op.result c.in_default.ensures.none

pub returns-clause-some : goal.returns-clause-some
returns-clause-some c = every_use (lent_parts c.args.parts.now) c.loop-number.all c.loop-number.number c.loop-number-test.false
    c.loop-number.invariant
