-- all so far have their compares
use Rattle.std.proofs.Common.{All, take}
use Rattle.un_packet.specs.CodeRules.{HasItsCompare}
use Rattle.un_listing_reader.proofs.rules.have_compares.Given as goal

abbrev pub invariant-loop-i : goal.invariant-loop-i
invariant-loop-i l = All (HasItsCompare l.instrs) (take l.i-index l.instrs)
