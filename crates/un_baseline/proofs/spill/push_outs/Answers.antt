use Rattle.std.proofs.Common.{length, arith}
use Rattle.un_model.proofs.Steps.{places_more, places_all}
use Rattle.un_baseline.specs.SpillEverywhere.{out_place}
use Rattle.un_baseline.proofs.spill.push_outs.Goals as goal

pub loop-j-preserved : goal.loop-j-preserved
loop-j-preserved c =
    places_more (out_place c.args.names.now c.args.live_out.now c.args.s.now
    (length c.args.operands.now) c.args.s.now.term) c.loop-j.j c.loop-j.j c.args.operands.now c.get.result.now c.loop-j.values _
    c.push.new.self c.in_ok-out_place.field-0 c.loop-j.invariant c.get.ensures (rw
    (← c.len-count.ensures) c.in_ok-out_place.ensures) c.in_ok-push.ensures.ok

pub returns : goal.returns
returns c =
    places_all (out_place c.args.names.now c.args.live_out.now c.args.s.now
    (length c.args.operands.now) c.args.s.now.term) c.loop-j.j c.loop-j.j c.args.operands.now c.loop-j.values _ c.loop-j.invariant
    (omega arith)
