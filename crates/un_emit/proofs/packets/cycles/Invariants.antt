-- what the operations so far issue in each cycle
use Rattle.std.proofs.Common.{◌≡◌, ◌-◌, map}
use Rattle.std.specs.List.{range_with_len}
use Rattle.un_model.specs.Cost.{value_of}
use Rattle.un_emit.proofs.BodyPackets.{so_far}
use Rattle.un_emit.proofs.packets.cycles.Given as goal

abbrev pub invariant-loop-k : goal.invariant-loop-k
invariant-loop-k l = l.cycles.items ≡ map (so_far l.m l.values l.block l.vars l.k) (range_with_len 1 (value_of l.values l.vars.end - 1))
