use Rattle.std.proofs.Common.{◌≡◌, ℕ, ◌<◌, ◌≤◌, true}
use Rattle.un_isa.specs.Tables.{in_mask}
use Rattle.un_target.proofs.saved.keeps_all.Given as goal

abbrev pub invariant-loop-r : goal.invariant-loop-r
invariant-loop-r l = (q : ℕ) → 16 ≤ q → q < l.r → in_mask l.mask q ≡ true
