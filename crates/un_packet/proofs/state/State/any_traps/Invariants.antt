-- what is left decides
use Rattle.std.proofs.Common.{◌≡◌, drop}
use Rattle.std.specs.List.{list_any}
use Rattle.un_packet.specs.Step.{traps}
use Rattle.un_packet.proofs.state.State.any_traps.Given as goal

abbrev pub invariant-loop-i : goal.invariant-loop-i
invariant-loop-i l = list_any (traps l.self) (drop l.i-index l.packet) ≡ list_any (traps l.self) l.packet
