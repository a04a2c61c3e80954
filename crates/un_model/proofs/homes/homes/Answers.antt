use Rattle.std.proofs.Common.{arith}
use Rattle.un_model.specs.Homes.{is_op_mark}
use Rattle.un_model.proofs.HomeMarks.{homes_told}
use Rattle.un_model.proofs.Steps.{any_more, any_all}
use Rattle.un_model.proofs.homes.homes.Goals as goal

pub loop-i-preserved : goal.loop-i-preserved
loop-i-preserved c = λ x r lt. any_more (is_op_mark c.args.e.now c.args.is_entry c.args.block.now.live_in x r) c.loop-i.i
    c.args.block.now.ops c.get.result.now _ _ _ c.get.ensures (c.loop-i.invariant x r lt) (c.in_ok-add_op.ensures x r lt)

pub returns : goal.returns
returns c =
    homes_told c.args.e.now c.args.is_entry c.args.block.now c.loop-i.homes
    (λ x r le. any_all (is_op_mark c.args.e.now c.args.is_entry c.args.block.now.live_in x r) c.loop-i.i c.args.block.now.ops _ _
    (c.loop-i.invariant x r le) (omega (arith, c.loop-i-test.false)))
