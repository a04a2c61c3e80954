-- those below i are written
use Rattle.std.proofs.Common.{ℕ, ◌≡◌, ◌<◌, get_or}
use Rattle.un_length.specs.Places.{at_place}
use Rattle.un_least.specs.Least.{head_cycle}
use Rattle.un_least.proofs.least.write_heads.Given as goal

abbrev pub invariant-loop-i : goal.invariant-loop-i
invariant-loop-i l = (k : ℕ) → k < l.i → get_or l.early k 0 ≡ at_place head_cycle l.ops k
