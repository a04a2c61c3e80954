-- the names that are left get the temporaries that are left
use Rattle.std.proofs.Common.{◌≡◌, ◌+◌, drop}
use Rattle.un_ir.specs.LinearOf.{first_temps}
use Rattle.un_lssa.proofs.names.assign_all.Given as goal

abbrev pub invariant-loop-name : goal.invariant-loop-name
invariant-loop-name l = record {
  place : l.n ≡ l.first + l.name-index;
  temps : first_temps l.current l.n (drop l.name-index l.names) ≡ first_temps l.initial.current l.first l.names;
}
