use Rattle.std.proofs.Common.{◌≡◌, take}
use Rattle.std.specs.Prelude.{◌==◌}
use Rattle.std.specs.List.{filter}
use Rattle.un_model.specs.declared.schedule.Read.{Read}
use Rattle.un_violations.proofs.congruences.handed_by.Given as goal

abbrev pub invariant-loop-r : goal.invariant-loop-r
invariant-loop-r l = l.found ≡ filter (λ (r : Read). r.block.0 == l.k) (take l.r-index l.ends)
