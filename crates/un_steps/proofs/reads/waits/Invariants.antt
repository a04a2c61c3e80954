use Rattle.std.proofs.Common.{ℕ, ◌≡◌, ◌+◌, ◌<◌, true}
use Rattle.un_domains.specs.Sets.{has}
use Rattle.un_steps.specs.Found.{operation_of}
use Rattle.un_steps.specs.Words.{instrs, gap_by}
use Rattle.un_steps.proofs.reads.waits.Given as goal

abbrev pub invariant-loop-i : goal.invariant-loop-i
invariant-loop-i l = (k : ℕ) → k < l.i → has (instrs l.s.sets (operation_of l.d)) k ≡ true → (j : ℕ)
    → has (instrs l.s.sets (operation_of l.p)) j ≡ true → l.last < l.c + gap_by l.m (operation_of l.d) (operation_of l.p) k j
