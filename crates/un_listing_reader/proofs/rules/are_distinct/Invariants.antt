-- no number so far is there twice
use Rattle.std.proofs.Common.{◌≡◌, drop}
use Rattle.un_listing_reader.specs.Needed.{is_distinct}
use Rattle.un_listing_reader.proofs.rules.are_distinct.Given as goal

abbrev pub invariant-loop-k : goal.invariant-loop-k
invariant-loop-k l = is_distinct l.numbers ≡ is_distinct (drop l.k l.numbers)
