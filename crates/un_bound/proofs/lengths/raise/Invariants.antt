use Rattle.std.proofs.Common.{length}
use Rattle.un_bound.specs.Lengths.{FromFirst, AreEarliest, AreSmall}
use Rattle.un_bound.proofs.lengths.raise.Given as goal

abbrev pub invariant-loop-arc : goal.invariant-loop-arc
invariant-loop-arc l = record {
  small : AreSmall l.cycles;
  earliest : AreEarliest (FromFirst l.ops) (length l.ops) l.first l.arcs l.arc-index l.cycles;
}
