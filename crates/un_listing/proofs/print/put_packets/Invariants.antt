use Rattle.std.proofs.Common.{◌≡◌, ◌++◌, drop, map}
use Rattle.un_base.specs.Lines.{joined_lines}
use Rattle.un_listing.specs.Listing.{packet_line}
use Rattle.un_listing.proofs.print.put_packets.Given as goal

-- the text so far with what is left is the whole
abbrev pub invariant-loop-packet : goal.invariant-loop-packet
invariant-loop-packet l =
    l.out.items ++ joined_lines (map packet_line (drop l.packet-index l.packets))
    ≡ l.initial.out.items ++ joined_lines (map packet_line l.packets)
