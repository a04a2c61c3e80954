-- the numbers count up so far
use Rattle.std.proofs.Common.{◌≡◌, drop}
use Rattle.un_listing_reader.specs.Needed.{counts_from}
use Rattle.un_listing_reader.proofs.rules.count_up.Given as goal

abbrev pub invariant-loop-i : goal.invariant-loop-i
invariant-loop-i l = counts_from 0 l.regs ≡ counts_from l.i (drop l.i l.regs)
