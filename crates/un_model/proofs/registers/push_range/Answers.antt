use Rattle.un_model.proofs.Numbering.{range_more}
use Rattle.un_model.proofs.registers.push_range.Goals as goal

pub loop-k-preserved : goal.loop-k-preserved
loop-k-preserved c = range_more c.loop-k.numbers c.push.new.self c.args.numbers.now c.args.first c.loop-k.k c.loop-k.invariant
    c.in_ok-push.ensures.ok
