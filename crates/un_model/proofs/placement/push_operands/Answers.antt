use Rattle.std.proofs.Common.{arith}
use Rattle.un_model.specs.Schedules.{read_of}
use Rattle.un_model.proofs.Steps.{places_more, places_all}
use Rattle.un_model.proofs.placement.push_operands.Goals as goal

pub loop-j-preserved : goal.loop-j-preserved
loop-j-preserved c =
    places_more (read_of c.args.values.now c.args.i.now c.args.vars.now) c.loop-j.j c.loop-j.j c.args.op.now.operands c.get.result.now
    c.loop-j.reads _ c.push.new.self c.read.result c.loop-j.invariant c.get.ensures c.read.ensures c.in_ok-push.ensures.ok

pub returns : goal.returns
returns c = places_all (read_of c.args.values.now c.args.i.now c.args.vars.now) c.loop-j.j c.loop-j.j c.args.op.now.operands
    c.loop-j.reads _ c.loop-j.invariant (omega arith)
