use Rattle.un_target.specs.Parts.{IsKey}
use Rattle.un_target.proofs.EntryLaws.{IsAhead}
use Rattle.un_target.proofs.parts.are_keys.Given as goal

abbrev pub invariant-loop-key : goal.invariant-loop-key
invariant-loop-key l = IsAhead IsKey l.entries.entries l.key-iterator
