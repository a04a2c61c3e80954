use Rattle.std.proofs.Common.{length}
use Rattle.un_bound.specs.Lengths.{AreEarliest}
use Rattle.un_bound.specs.Choices.{InSets}
use Rattle.un_bound.proofs.settle.raise.Given as goal

abbrev pub invariant-loop-arc : goal.invariant-loop-arc
invariant-loop-arc l = AreEarliest (InSets l.b.store.now.sets l.b.end l.b.ops.now l.b.vars.now) (length l.b.ops.now) l.b.first l.arcs
    l.arc-index l.cycles
