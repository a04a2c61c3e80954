use Rattle.std.proofs.Common.{◌≡◌, ◌++◌, drop}
use Rattle.un_model.specs.Pairs.{places_from}
use Rattle.un_model.specs.Schedules.{range_of, ranges_of}
use Rattle.un_model.proofs.placement.ranges.Given as goal

abbrev pub invariant-loop-k : goal.invariant-loop-k
invariant-loop-k l =
    l.ranges ++ places_from (range_of l.values l.issues l.reads) l.k (drop l.k l.temps) ≡ ranges_of l.values l.issues l.reads l.temps
