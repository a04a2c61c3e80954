-- the registers so far with those that are left are all
use Rattle.std.proofs.Common.{◌≡◌, ◌++◌, drop}
use Rattle.std.specs.List.{flat_map}
use Rattle.un_packet.specs.CodeRules.{written}
use Rattle.un_listing_reader.proofs.rules.all_written.Given as goal

abbrev pub invariant-loop-i : goal.invariant-loop-i
invariant-loop-i l = l.regs.items ++ flat_map written (drop l.i-index l.instrs) ≡ flat_map written l.instrs
