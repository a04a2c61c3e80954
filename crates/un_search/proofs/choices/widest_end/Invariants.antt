-- the widest so far has two values
use Rattle.std.proofs.Common.{◌<◌, IfSome, length}
use Rattle.un_domains.specs.Sets.{set_at}
use Rattle.un_search.proofs.choices.widest_end.Given as goal

abbrev pub invariant-loop-block : goal.invariant-loop-block
invariant-loop-block l = IfSome l.widest (λ v. (v.0 < length l.store.sets) × (1 < length (set_at l.store.sets v.0)))
