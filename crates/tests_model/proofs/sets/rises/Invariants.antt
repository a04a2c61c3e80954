-- the values before i rise
use Rattle.std.proofs.Common.{ℕ, ◌<◌, get_or}
use Rattle.tests_model.proofs.sets.rises.Given as goal

abbrev pub invariant-loop-i : goal.invariant-loop-i
invariant-loop-i l = (a b : ℕ) → a < b → b < l.i → get_or l.values a 0 < get_or l.values b 0
