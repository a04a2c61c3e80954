use Rattle.std.proofs.Common.{◌≡◌, List, map}
use Rattle.un_isa.specs.declared.instr.Instr.{Instr}
use Rattle.un_model.specs.Emission.{or_nop}
use Rattle.un_emit.specs.Emitted.{packet_with}
use Rattle.un_emit.proofs.packets.packets.Given as goal

abbrev pub invariant-loop-instrs : goal.invariant-loop-instrs
invariant-loop-instrs l = l.packets ≡ map (λ (instrs : List Instr). packet_with (or_nop instrs)) l.yielded
