use Rattle.std.proofs.Common.{◌++◌, codes, map, refl}
use Rattle.un_base.specs.Lines.{joined_lines}
use Rattle.un_ir.proofs.TextLoops.{text_step}
use Rattle.un_listing.specs.Listing.{packet_line}
use Rattle.un_listing.proofs.print.put_packets.Goals as goal

pub loop-packet-preserved : goal.loop-packet-preserved
loop-packet-preserved c =
    text_step (λ ps. joined_lines (map packet_line ps)) (λ p. packet_line p ++ codes "\n") (λ p ps. refl) _ _ _ c.args.packets.now
    c.loop-packet.packet-index c.packet-item.result c.packet-item.result c.loop-packet-test.true c.packet-item.is
    c.in_ok-put_packet.ensures c.loop-packet.invariant
