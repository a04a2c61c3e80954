-- the marks of the names so far
use Rattle.un_live.specs.Marks.{AreColumns}
use Rattle.un_live.proofs.live.columns.Given as goal

abbrev pub invariant-loop-name : goal.invariant-loop-name
invariant-loop-name l = AreColumns l.blocks l.name l.columns
