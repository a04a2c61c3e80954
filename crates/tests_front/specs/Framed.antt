-- Code that enters and leaves the largest frame.
use Rattle.std.specs.Prelude.{pos, negsuc, List, [], ◌∷◌, None, codes}
use Rattle.un_isa.specs.declared.op.Op.TheVariants.{Jumpr, Enter, Leave}
use Rattle.un_isa.specs.declared.instr.Instr.{Instr}
use Rattle.un_isa.specs.declared.reg.TheConstants.{LINK}
use Rattle.un_packet.specs.declared.code.Packet.{Packet}
use Rattle.un_packet.specs.declared.code.CodeBlock.{CodeBlock}

abbrev pub down : Instr
down = record { op = Enter; dst = None; srcs = []; imm = negsuc 1023; label = None }

abbrev pub up : Instr
up = record { op = Leave; dst = None; srcs = []; imm = pos 1024; label = None }

abbrev pub back : Instr
back = record { op = Jumpr; dst = None; srcs = record { 0 = LINK } ∷ []; imm = pos 0; label = None }

abbrev pub entering : Packet
entering = record { instrs = down ∷ [] }

abbrev pub leaving : Packet
leaving = record { instrs = up ∷ back ∷ [] }

abbrev pub framed : List CodeBlock
framed = record { label = codes "e"; packets = entering ∷ leaving ∷ [] } ∷ []
