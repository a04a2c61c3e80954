-- no set so far is empty
use Rattle.std.proofs.Common.{ℕ, ◌<◌, length}
use Rattle.un_domains.specs.Sets.{set_at}
use Rattle.un_judge.proofs.leaf.has_empty.Given as goal

abbrev pub invariant-loop-v : goal.invariant-loop-v
invariant-loop-v l = (k : ℕ) → k < l.v → 0 < length (set_at l.cuts.sets k)
