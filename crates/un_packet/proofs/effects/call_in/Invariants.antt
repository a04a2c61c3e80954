-- what is left decides
use Rattle.std.proofs.Common.{◌≡◌, drop, find}
use Rattle.un_isa.specs.Does.{is_call}
use Rattle.un_packet.proofs.effects.call_in.Given as goal

abbrev pub invariant-loop-i : goal.invariant-loop-i
invariant-loop-i l = find (λ i. is_call i.op) (drop l.i-index l.packet) ≡ find (λ i. is_call i.op) l.packet
