use Rattle.std.proofs.Common.{◌≡◌, drop, map}
use Rattle.std.specs.List.{list_any}
use Rattle.un_steps.specs.Words.{number_of}
use Rattle.un_steps.specs.Rules.{lacks_zero}
use Rattle.un_steps.proofs.operation.choice_lacks_zero.Given as goal

abbrev pub invariant-loop-j : goal.invariant-loop-j
invariant-loop-j l = list_any (lacks_zero l.s.sets) (map number_of (drop l.j l.choices)) ≡ list_any (lacks_zero l.s.sets)
    (map number_of l.choices)
