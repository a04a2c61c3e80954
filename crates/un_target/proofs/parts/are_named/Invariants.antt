use Rattle.un_target.specs.Names.{IsNamed}
use Rattle.un_target.proofs.EntryLaws.{IsAhead}
use Rattle.un_target.proofs.parts.are_named.Given as goal

abbrev pub invariant-loop-key : goal.invariant-loop-key
invariant-loop-key l = IsAhead IsNamed l.entries.entries l.key-iterator
