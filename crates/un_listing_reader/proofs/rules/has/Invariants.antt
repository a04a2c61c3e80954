-- the numbers that are left decide
use Rattle.std.proofs.Common.{◌≡◌, drop, ◌==◌}
use Rattle.std.specs.List.{list_any}
use Rattle.un_listing_reader.proofs.rules.has.Given as goal

abbrev pub invariant-loop-m : goal.invariant-loop-m
invariant-loop-m l = list_any (λ m. m == l.n) l.numbers ≡ list_any (λ m. m == l.n) (drop l.m-index l.numbers)
