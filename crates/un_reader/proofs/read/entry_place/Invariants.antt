-- no block line so far
use Rattle.std.proofs.Common.{◌≡◌, ◌+◌, drop}
use Rattle.std.specs.List.{position_or_len}
use Rattle.un_faults.specs.TextFaults.{is_block}
use Rattle.un_reader.proofs.read.entry_place.Given as goal

abbrev pub invariant-loop-i : goal.invariant-loop-i
invariant-loop-i l = position_or_len is_block l.lines ≡ l.i + position_or_len is_block (drop l.i l.lines)
