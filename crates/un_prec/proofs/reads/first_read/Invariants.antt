-- the first time for the places below i
use Rattle.std.proofs.Common.{ℕ, ◌≡◌}
use Rattle.un_domains.specs.Sets.{set_at}
use Rattle.un_prop.specs.Choices.{passes_at}
use Rattle.un_prop.specs.Somewhere.{any_before, is_by}
use Rattle.un_prec.specs.Reads.{may_be_late}
use Rattle.un_prec.proofs.reads.first_read.Given as goal

abbrev pub invariant-loop-i : goal.invariant-loop-i
invariant-loop-i l = (t : ℕ) → is_by l.first t ≡ any_before (passes_at (may_be_late l.w.store.now.sets t) l.alts)
    (set_at l.w.store.now.sets l.choice.0) l.i
