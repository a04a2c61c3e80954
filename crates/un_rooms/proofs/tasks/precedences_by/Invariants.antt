use Rattle.std.proofs.Common.{◌≡◌, ◌++◌, drop}
use Rattle.un_rooms.specs.Waits.{befores_by}
use Rattle.un_sites.specs.Lengths.{precedences_by}
use Rattle.un_rooms.proofs.tasks.precedences_by.Given as goal

abbrev pub invariant-loop-wait : goal.invariant-loop-wait
invariant-loop-wait l = l.arcs ++ precedences_by l.ops (befores_by (drop l.wait-index l.waits)) ≡ precedences_by l.ops (befores_by l.waits)
