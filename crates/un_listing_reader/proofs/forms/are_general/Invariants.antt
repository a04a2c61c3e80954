-- all so far
use Rattle.std.proofs.Common.{All, take}
use Rattle.un_listing_reader.proofs.Formed.{IsGeneral}
use Rattle.un_listing_reader.proofs.forms.are_general.Given as goal

abbrev pub invariant-loop-reg : goal.invariant-loop-reg
invariant-loop-reg l = All IsGeneral (take l.reg-index l.regs)
