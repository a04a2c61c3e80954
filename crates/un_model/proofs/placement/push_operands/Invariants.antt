use Rattle.std.proofs.Common.{◌≡◌, ◌++◌, drop}
use Rattle.un_model.specs.Pairs.{places_from}
use Rattle.un_model.specs.Schedules.{read_of}
use Rattle.un_model.proofs.placement.push_operands.Given as goal

abbrev pub invariant-loop-j : goal.invariant-loop-j
invariant-loop-j l =
    l.reads ++ places_from (read_of l.values l.i l.vars) l.j (drop l.j l.op.operands) ≡ l.initial.reads ++ places_from
    (read_of l.values l.i l.vars) 0 l.op.operands
