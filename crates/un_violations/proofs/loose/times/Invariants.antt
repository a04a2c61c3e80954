use Rattle.std.proofs.Common.{take}
use Rattle.un_violations.specs.Loose.{is_time}
use Rattle.un_violations.specs.Marks.{AreMarked}
use Rattle.un_violations.proofs.loose.times.Given as goal

abbrev pub invariant-loop-vars : goal.invariant-loop-vars
invariant-loop-vars l = AreMarked (is_time (take l.vars-index l.blocks)) l.times l.n
