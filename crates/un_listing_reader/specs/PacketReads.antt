-- What a line is read as, as a packet's.
use Rattle.std.specs.Prelude.{ℕ, ◌≡◌, List, Option, Some, None}
use Rattle.un_packet.specs.declared.code.Packet.{Packet}
use Rattle.un_packet.specs.CodeRules.{IsGoodPacket}
use Rattle.un_listing_reader.specs.declared.line.Line.{Line}
use Rattle.un_listing_reader.specs.declared.line.Line.TheVariants.{Packet as PacketLine, Broken as BrokenLine}
use Rattle.un_listing_reader.specs.declared.packet.PacketRead.{PacketRead}
use Rattle.un_listing_reader.specs.declared.packet.PacketRead.TheVariants.{Good, Broken, Other}
use Rattle.un_listing_reader.specs.PacketForms.{IsPacketForm}
use Rattle.un_listing_reader.specs.PacketWords.{IsPacketLine}

-- a packet keeps the rules of code with a frame of so many bytes, or breaks one
abbrev pub IsByRules : ℕ → Packet → PacketRead → Type 0
IsByRules frame p (Good q) = IsGoodPacket frame p × (q ≡ p)
IsByRules frame p Broken = ¬ IsGoodPacket frame p
IsByRules frame p Other = ⊥

-- a line is a packet's of such code; or of none, and a packet's by its form or not
abbrev pub IsPacketReadAs : ℕ → List ℕ → PacketRead → Type 0
IsPacketReadAs frame line (Good p) = IsPacketLine frame line p
IsPacketReadAs frame line Broken = ((p : Packet) → ¬ IsPacketLine frame line p) × IsPacketForm line
IsPacketReadAs frame line Other = ((p : Packet) → ¬ IsPacketLine frame line p) × ¬ IsPacketForm line

-- the line that it is
abbrev pub line_of : PacketRead → Option Line
line_of (Good p) = Some (PacketLine p)
line_of Broken = Some BrokenLine
line_of Other = None
