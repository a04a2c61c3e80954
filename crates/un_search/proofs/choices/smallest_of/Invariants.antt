-- the smallest so far has two values
use Rattle.std.proofs.Common.{◌<◌, IfSome, length}
use Rattle.un_domains.specs.Sets.{set_at}
use Rattle.un_search.proofs.choices.smallest_of.Given as goal

abbrev pub invariant-loop-v : goal.invariant-loop-v
invariant-loop-v l = IfSome l.smallest (λ v. (v.0 < length l.store.sets) × (1 < length (set_at l.store.sets v.0)))
