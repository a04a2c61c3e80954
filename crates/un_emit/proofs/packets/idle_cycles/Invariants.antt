use Rattle.std.proofs.Common.{◌≡◌, [], replicate}
use Rattle.un_emit.proofs.packets.idle_cycles.Given as goal

abbrev pub invariant-loop : goal.invariant-loop
invariant-loop l = l.cycles.items ≡ replicate l.counter []
