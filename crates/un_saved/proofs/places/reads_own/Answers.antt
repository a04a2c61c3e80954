use Rattle.std.proofs.Common.{arith}
use Rattle.un_saved.proofs.Saving.{none_own}
use Rattle.un_saved.proofs.places.reads_own.Goals as goal

pub returns-then-i-operands : goal.returns-then-i-operands
returns-then-i-operands c =
    none_own c.args.temps.now c.args.operands.now c.loop-i.i _ (omega (arith, c.loop-i-test.true, c.loop-i.auto.i-end))
    (omega (arith, c.if-i-operands.true)) c.loop-i.invariant
