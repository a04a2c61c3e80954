use Rattle.std.proofs.Common.{◌∙◌, sym, arith}
use Rattle.un_length.specs.Places.{at_place}
use Rattle.un_least.specs.Least.{head_cycle}
use Rattle.un_length.proofs.Steps.{place_is, one_written}
use Rattle.un_least.proofs.least.write_heads.Goals as goal

pub loop-i-preserved : goal.loop-i-preserved
loop-i-preserved c =
    one_written (at_place head_cycle c.args.ops.now) c.loop-i.early c.loop-i.i c.head_cycle.result
    (omega (arith, c.loop-i-test.true, c.requires.room, c.loop-i.auto.early))
    (c.head_cycle.ensures ∙ sym (place_is head_cycle c.args.ops.now c.loop-i.i c.loop-i-test.true)) c.loop-i.invariant
