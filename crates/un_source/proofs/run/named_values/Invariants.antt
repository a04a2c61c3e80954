use Rattle.std.proofs.Common.{◌≡◌, take}
use Rattle.un_source.specs.Outcomes.{named_values}
use Rattle.un_source.proofs.run.named_values.Given as goal

abbrev pub invariant-loop-name : goal.invariant-loop-name
invariant-loop-name l = l.pairs ≡ named_values l.values (take l.name-index l.names)
