-- what is left decides
use Rattle.std.proofs.Common.{◌≡◌, drop, find}
use Rattle.un_isa.specs.Does.{is_return}
use Rattle.un_packet.proofs.state.State.return_target.Given as goal

abbrev pub invariant-loop-i : goal.invariant-loop-i
invariant-loop-i l = find (λ i. is_return i.op) (drop l.i-index l.packet) ≡ find (λ i. is_return i.op) l.packet
