use Rattle.std.proofs.Common.{◌∙◌, sym, arith}
use Rattle.un_length.specs.Places.{at_place}
use Rattle.un_least.specs.Least.{tail_cycle}
use Rattle.un_length.proofs.Steps.{place_is, one_written}
use Rattle.un_least.proofs.least.write_tails.Goals as goal

pub loop-i-preserved : goal.loop-i-preserved
loop-i-preserved c =
    one_written (at_place (tail_cycle c.args.end) c.args.ops.now) c.loop-i.late c.loop-i.i c.tail_cycle.result
    (omega (arith, c.loop-i-test.true, c.requires.room, c.loop-i.auto.late))
    (c.tail_cycle.ensures ∙ sym (place_is (tail_cycle c.args.end) c.args.ops.now c.loop-i.i c.loop-i-test.true)) c.loop-i.invariant
