-- as many as there were rounds
use Rattle.std.proofs.Common.{◌≡◌, [], replicate}
use Rattle.un_prop.proofs.readers.empty_rows.Given as goal

abbrev pub invariant-loop : goal.invariant-loop
invariant-loop l = l.rows.items ≡ replicate l.counter []
