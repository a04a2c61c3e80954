use Rattle.un_live.specs.Marks.{name_of}
use Rattle.un_live.proofs.LiveLaws.{IsPass}
use Rattle.un_live.proofs.marks.sweep.Given as goal

abbrev pub invariant-loop-rest : goal.invariant-loop-rest
invariant-loop-rest l = IsPass l.blocks (name_of l.name) l.initial.marks l.marks l.changed l.rest

abbrev pub decreases-loop-rest : goal.decreases-loop-rest
decreases-loop-rest l = l.rest
