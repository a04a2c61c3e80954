-- all so far are good
use Rattle.std.proofs.Common.{All, take}
use Rattle.un_packet.specs.CodeRules.{IsGoodInstr}
use Rattle.un_listing_reader.proofs.rules.are_good.Given as goal

abbrev pub invariant-loop-i : goal.invariant-loop-i
invariant-loop-i l = All (IsGoodInstr l.frame) (take l.i-index l.instrs)
