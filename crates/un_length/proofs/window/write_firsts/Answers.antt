use Rattle.std.proofs.Common.{◌∙◌, sym, arith}
use Rattle.un_length.specs.Places.{at_place}
use Rattle.un_length.specs.Windows.{first_cycle}
use Rattle.un_length.proofs.Steps.{place_is, one_written, op_there}
use Rattle.un_length.proofs.window.write_firsts.Goals as goal

pub first_cycle-requires-clause-there : goal.first_cycle-requires-clause-there
first_cycle-requires-clause-there c = op_there c.args.w.now.vars.now c.args.ops.now c.loop-i.i c.args.w.now.store.now.sets
    c.requires.vars c.loop-i-test.true c.requires.known

pub loop-i-preserved : goal.loop-i-preserved
loop-i-preserved c =
    let f = first_cycle c.args.w.now.store.now.sets in
    one_written (at_place f c.args.ops.now) c.loop-i.early c.loop-i.i c.first_cycle.result
    (omega (arith, c.loop-i-test.true, c.requires.room, c.loop-i.auto.early))
    (c.first_cycle.ensures ∙ sym (place_is f c.args.ops.now c.loop-i.i c.loop-i-test.true))
    c.loop-i.invariant
