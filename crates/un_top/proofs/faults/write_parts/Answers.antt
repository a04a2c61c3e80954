use Rattle.std.proofs.Common.{arith, []}
use Rattle.un_top.proofs.Parts.{prefix_of_parts, front_of_parts}
use Rattle.un_top.proofs.faults.write_parts.Goals as goal

pub loop-part-preserved : goal.loop-part-preserved
loop-part-preserved g c = record {
  later = omega (arith, c.in-Ok.ensures.later, c.loop-part.invariant.later);
  front = front_of_parts _ _ _ c.args.parts.now c.loop-part.part-index (record { ref_ptr = (0, 0); now = [] }) c.loop-part-test.true
      c.loop-part.invariant.front c.in-Ok.ensures.all;
}

pub returns-in-Err-clause-prefix : goal.returns-in-Err-clause-prefix
returns-in-Err-clause-prefix g c =
    prefix_of_parts _ _ _ c.args.parts.now c.loop-part.part-index (record { ref_ptr = (0, 0); now = [] }) c.loop-part-test.true
    c.loop-part.invariant.front c.in-Err.ensures.prefix
