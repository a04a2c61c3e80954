use Rattle.std.proofs.Common.{◌≡◌, take}
use Rattle.std.specs.Prelude.{is_none}
use Rattle.std.specs.List.{filter}
use Rattle.un_model.specs.declared.schedule.Read.{Read}
use Rattle.un_violations.proofs.congruences.end_reads.Given as goal

abbrev pub invariant-loop-r : goal.invariant-loop-r
invariant-loop-r l = l.found ≡ filter (λ (r : Read). is_none r.instr) (take l.r-index l.reads)
