use Rattle.std.proofs.Common.{◌≡◌, drop}
use Rattle.std.specs.List.{find}
use Rattle.un_model.specs.Pairs.{places_from}
use Rattle.un_model.specs.Schedules.{choice_of}
use Rattle.un_press.specs.Searches.{is_there}
use Rattle.un_press.proofs.carrier.first_there.Given as goal

abbrev pub invariant-loop-j : goal.invariant-loop-j
invariant-loop-j l =
    find (is_there l.m l.values l.sought.value l.sought.by) (places_from (choice_of l.values l.vars) l.j (drop l.j l.op.operands)) ≡
    find (is_there l.m l.values l.sought.value l.sought.by) (places_from (choice_of l.values l.vars) 0 l.op.operands)
