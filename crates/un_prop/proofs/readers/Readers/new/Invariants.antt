-- those so far are entered
use Rattle.un_prop.proofs.WakeLaws.{Filled}
use Rattle.un_prop.proofs.readers.Readers.new.Given as goal

abbrev pub invariant-loop-i : goal.invariant-loop-i
invariant-loop-i g l = Filled g.P.Predicate.scope l.props l.vars l.i l.rows.items
