-- What a line is read as, by what it is as a packet's.
use Rattle.std.proofs.Common.{◌≡◌, ℕ, true, List, ◌++◌, codes}
use Rattle.un_base.specs.Names.{is_name}
use Rattle.un_packet.specs.declared.code.Packet.{Packet}
use Rattle.un_listing_reader.specs.declared.line.Line.TheVariants.{Block as BlockLine, Packet as PacketLine, Broken as BrokenLine}
use Rattle.un_listing_reader.specs.declared.packet.PacketRead.{PacketRead}
use Rattle.un_listing_reader.specs.declared.packet.PacketRead.TheVariants.{Good, Broken, Other}
use Rattle.un_listing_reader.specs.PacketReads.{IsPacketReadAs, line_of}
use Rattle.un_listing_reader.specs.PacketWords.{IsPacketLine}
use Rattle.un_listing_reader.specs.Reading.{SpellsNone, IsReadAs}

-- the text is no label's line
abbrev pub HasNoLabel : List ℕ → Type 0
HasNoLabel text = (label : List ℕ) → is_name label ≡ true → text ≡ codes "block " ++ (label ++ codes "\n") → ⊥

spells_none : (frame : ℕ) (text : List ℕ) → HasNoLabel text → ((p : Packet) → ¬ IsPacketLine frame text p) → SpellsNone frame text
spells_none frame text none unlike (BlockLine label) s = none label s.good s.spelled
spells_none frame text none unlike (PacketLine p) s = unlike p (record { rules = s.good; text = s.spelled })
spells_none frame text none unlike BrokenLine s = s.good

pub line_read : (frame : ℕ) (text : List ℕ) → HasNoLabel text → (r : PacketRead) → IsPacketReadAs frame text r
    → IsReadAs frame text (line_of r)
line_read frame text none (Good p) h = record { good = h.rules; spelled = h.text }
line_read frame text none Broken h = (spells_none frame text none h.0, h.1)
line_read frame text none Other h = (spells_none frame text none h.0, h.1)
