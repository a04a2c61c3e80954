-- the first end of the gaps at numbers below n
use Rattle.std.proofs.Common.{ℕ, ◌≡◌, ◌+◌, nat_le}
use Rattle.un_domains.specs.Sets.{set_at}
use Rattle.un_prop.specs.Choices.{passes_at}
use Rattle.un_prop.specs.Somewhere.{any_before, is_by}
use Rattle.un_prec.proofs.reads.first_end.Given as goal

abbrev pub invariant-loop-n : goal.invariant-loop-n
invariant-loop-n l = (t : ℕ) → is_by l.first t ≡ any_before (λ n. passes_at (λ g. nat_le (l.least + g) t) l.gaps n)
    (set_at l.w.store.now.sets l.v.0) l.n
