use Rattle.std.proofs.Common.{◌+◌, ◌≤◌, ap, arith, length, ◌∙◌}
use Rattle.un_packet.specs.declared.code.CodeBlock.{CodeBlock}
use Rattle.un_packet.proofs.Runs.{whole, gone, left, ended, finished, stays_in, place_small, at_start, counted}
use Rattle.un_packet.proofs.run.run_block.Goals as goal

pub loop-place-init : goal.loop-place-init
loop-place-init c = record {
  half = whole c.args.c.now c.args.machine.now c.requires.block c.requires.place;
  inside = at_start c.args.c.now c.args.machine.now c.requires.block c.requires.place;
  place = omega (arith, c.requires.place);
  cycle = omega arith;
}

pub step-requires-clause-going : goal.step-requires-clause-going
step-requires-clause-going c = c.loop-place.invariant.half.ended ∙ c.requires.going

pub step-requires-clause-counter : goal.step-requires-clause-counter
step-requires-clause-counter c = let small = place_small c.args.c.now c.loop-place.machine c.loop-place.invariant.inside in
    omega (arith, small, c.loop-place.invariant.cycle, c.requires.counter)

pub step-requires-clause-place : goal.step-requires-clause-place
step-requires-clause-place c = c.loop-place.invariant.inside

pub returns-in-Left-clause-run : goal.returns-in-Left-clause-run
returns-in-Left-clause-run c = left c.args.c.now c.args.machine.now c.loop-place.machine c.step.new.self c.in-Left.to
    c.loop-place.invariant.half c.in-Left.ensures.step

pub returns-in-Left-clause-counter : goal.returns-in-Left-clause-counter
returns-in-Left-clause-counter c = let small = place_small c.args.c.now c.loop-place.machine c.loop-place.invariant.inside in
    omega (arith, small, c.loop-place.invariant.cycle, c.in-Left.ensures.counter)

pub returns-in-Ended-clause-run : goal.returns-in-Ended-clause-run
returns-in-Ended-clause-run c = ended c.args.c.now c.args.machine.now c.loop-place.machine c.step.new.self c.in-Ended.end
    c.loop-place.invariant.half c.in-Ended.ensures.step

pub returns-in-Ended-clause-counter : goal.returns-in-Ended-clause-counter
returns-in-Ended-clause-counter c = let small = place_small c.args.c.now c.loop-place.machine c.loop-place.invariant.inside in
    omega (arith, small, c.loop-place.invariant.cycle, c.in-Ended.ensures.counter)

pub loop-place-preserved : goal.loop-place-preserved
loop-place-preserved c =
    let on = gone c.args.c.now c.args.machine.now c.loop-place.machine c.step.new.self c.loop-place.invariant.half c.in-Went.ensures.step in
    record {
      half = on.half;
      inside = stays_in c.args.c.now c.args.machine.now c.loop-place.machine c.step.new.self on;
      place = omega (arith, on.place, c.loop-place.invariant.place);
      cycle = omega (arith, on.place, c.in-Went.ensures.counter, c.loop-place.invariant.cycle);
    }

pub step-requires-2-clause-going : goal.step-requires-2-clause-going
step-requires-2-clause-going c = c.loop-place.invariant.half.ended ∙ c.requires.going

pub step-requires-2-clause-counter : goal.step-requires-2-clause-counter
step-requires-2-clause-counter c = let small = place_small c.args.c.now c.loop-place.machine c.loop-place.invariant.inside in
    omega (arith, small, c.loop-place.invariant.cycle, c.requires.counter)

pub step-requires-2-clause-place : goal.step-requires-2-clause-place
step-requires-2-clause-place c = c.loop-place.invariant.inside

pub returns-clause-run : goal.returns-clause-run
returns-clause-run c =
    let long : length c.index-as_slice-block.result.packets ≤ c.loop-place.machine.place + 1 =
    omega (
      arith,
      c.len-packets.ensures,
      ap (λ (b : CodeBlock). length b.packets) c.index-as_slice-block.is,
      c.loop-place-test.false,
      c.loop-place.invariant.place,
    ) in
    finished c.args.c.now c.args.machine.now c.loop-place.machine c.step-2.new.self c.step-2.result c.loop-place.invariant.half
    c.step-2.ensures.step
    (counted c.args.c.now c.args.machine.now c.as_slice.result.now c.block.result (c.loop-place.machine.place + 1)
    c.index-as_slice-block.result c.as_slice.ensures c.block.ensures c.requires.block c.index-as_slice-block.is long)

pub returns-clause-counter : goal.returns-clause-counter
returns-clause-counter c = let small = place_small c.args.c.now c.loop-place.machine c.loop-place.invariant.inside in
    omega (arith, small, c.loop-place.invariant.cycle, c.step-2.ensures.counter)
