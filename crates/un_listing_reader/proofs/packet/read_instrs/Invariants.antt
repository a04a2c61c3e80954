-- the instructions so far, and those of the rest
use Rattle.std.proofs.Common.{◌≡◌, ◌++◌, length}
use Rattle.std.specs.Option.{option_map}
use Rattle.un_listing_reader.specs.PacketWords.{parts_of, instrs_in}
use Rattle.un_listing_reader.proofs.packet.read_instrs.Given as goal

abbrev pub invariant-parts : goal.invariant-parts
invariant-parts l = instrs_in (parts_of l.text) ≡ option_map (λ is. l.found ++ is) (instrs_in (parts_of l.rest))

abbrev pub decreases-parts : goal.decreases-parts
decreases-parts l = length l.rest
