use Rattle.std.proofs.Common.{◌≡◌, ap, sym, ◌∙◌, arith}
use Rattle.un_packet.specs.declared.code.CodeBlock.{CodeBlock}
use Rattle.un_packet.specs.Machine.{MachineState}
use Rattle.un_packet.proofs.Runs.{has_led, run_goes, run_left}
use Rattle.un_packet.proofs.run.run.Goals as goal

pub loop-i-preserved : goal.loop-i-preserved
loop-i-preserved c =
    let old = c.loop-i.machine in
    let new = c.run_block.new.machine in
    let led = has_led c.args.c.now old new c.in-Left.field-0 c.in-Left.ensures.run in
    let block : new.block ≡ c.in-Left.field-0.0 = ap (λ (m : MachineState). m.block) led.moves in
    record {
      rest = run_goes c.args.machine.now.table c.args.c.now c.args.n c.loop-i._i old new c.in-Left.field-0.0 _ c.loop-i-test.true
          c.loop-i.invariant.table led c.loop-i.invariant.rest;
      table = ap (λ (m : MachineState). m.table) led.moves ∙ c.loop-i.invariant.table;
      going = ap (λ (m : MachineState). m.ended) led.moves ∙ c.loop-i.invariant.going;
      place = ap (λ (m : MachineState). m.place) led.moves;
      block = omega (arith, block, led.inside);
      cycle = omega (arith, c.in-Left.ensures.counter, c.loop-i.invariant.cycle);
    }

pub returns : goal.returns
returns c =
    run_left c.args.machine.now.table c.args.c.now.blocks c.as_slice.result.now c.args.n c.loop-i._i c.block.result c.loop-i.machine
    c.index-as_slice-block.result _ _ _ c.loop-i-test.false c.loop-i.invariant.rest c.as_slice.ensures c.block.ensures
    c.loop-i.invariant.block c.index-as_slice-block.is (ap (λ (b : CodeBlock). b.label) (sym c.index-as_slice-block.is)) c.new.ensures
