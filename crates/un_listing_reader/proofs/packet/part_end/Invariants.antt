-- no semicolon so far
use Rattle.std.proofs.Common.{◌≡◌, ◌+◌, drop}
use Rattle.std.specs.List.{position_or_len}
use Rattle.un_listing_reader.specs.PacketWords.{is_semicolon}
use Rattle.un_listing_reader.proofs.packet.part_end.Given as goal

abbrev pub invariant-loop-i : goal.invariant-loop-i
invariant-loop-i l = position_or_len is_semicolon l.text ≡ l.i + position_or_len is_semicolon (drop l.i l.text)
