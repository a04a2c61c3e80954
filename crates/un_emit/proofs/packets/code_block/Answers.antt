use Rattle.std.proofs.Common.{◌∙◌, List, map, ap}
use Rattle.un_isa.specs.declared.instr.Instr.{Instr}
use Rattle.un_packet.specs.declared.code.CodeBlock.{CodeBlock}
use Rattle.un_packet.specs.declared.code.Packet.{Packet}
use Rattle.un_model.specs.Emission.{or_nop}
use Rattle.un_emit.specs.Emitted.{packet_with}
use Rattle.un_emit.proofs.BodyPackets.{packets_are}
use Rattle.un_emit.proofs.packets.code_block.Goals as goal

pub returns : goal.returns
returns c =
    ap (λ (ps : List Packet). let code : CodeBlock = record { label = c.args.block.now.label; packets = ps } in code)
    (c.in_ok-packets.ensures ∙ ap (map (λ (is : List Instr). packet_with (or_nop is))) c.in_ok-cycles.ensures ∙ packets_are
    c.args.m.now c.args.values.now c.args.block.now c.args.vars.now)
