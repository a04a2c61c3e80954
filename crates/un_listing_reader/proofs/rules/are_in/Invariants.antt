-- the registers so far lie in the spaces so far
use Rattle.std.proofs.Common.{◌≡◌, take}
use Rattle.un_listing_reader.proofs.NeedLaws.{spaces}
use Rattle.un_listing_reader.proofs.rules.are_in.Given as goal

abbrev pub invariant-loop-i : goal.invariant-loop-i
invariant-loop-i l = take l.i (spaces l.regs) ≡ take l.i l.spaces
