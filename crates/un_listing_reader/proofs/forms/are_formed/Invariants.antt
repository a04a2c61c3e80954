-- all so far
use Rattle.std.proofs.Common.{All, take}
use Rattle.un_listing_reader.specs.PacketForms.{IsFormed}
use Rattle.un_listing_reader.proofs.forms.are_formed.Given as goal

abbrev pub invariant-loop-i : goal.invariant-loop-i
invariant-loop-i l = All IsFormed (take l.i-index l.instrs)
