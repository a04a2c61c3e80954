use Rattle.std.proofs.Common.{◌≡◌, drop, map}
use Rattle.un_domains.specs.Sets.{has}
use Rattle.un_steps.specs.Words.{number_of}
use Rattle.un_steps.proofs.operation.is_choice.Given as goal

abbrev pub invariant-loop-j : goal.invariant-loop-j
invariant-loop-j l = has (map number_of (drop l.j l.choices)) l.v.0 ≡ has (map number_of l.choices) l.v.0
