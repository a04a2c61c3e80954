use Rattle.std.proofs.Common.{arith}
use Rattle.un_prop.proofs.WakeLaws.{filled_first, filled_next}
use Rattle.un_prop.proofs.readers.Readers.new.Goals as goal

pub loop-i-init : goal.loop-i-init
loop-i-init g c = filled_first g.P.Predicate.scope c.args.props.now c.args.vars c.in_ok-rows.rows.items c.in_ok-rows.ensures

pub loop-i-preserved : goal.loop-i-preserved
loop-i-preserved g c = filled_next g.P.Predicate.scope c.args.props.now c.args.vars c.loop-i.i c.index-props-i.result c.reads.result.now
    c.loop-i.rows.items c.enter.new.rows.items (omega arith) c.index-props-i.is c.reads.ensures c.loop-i.invariant c.in_ok-enter.ensures
