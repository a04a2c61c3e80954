use Rattle.std.proofs.Common.{ℕ, ◌≡◌, ◌+◌, ◌<◌, true}
use Rattle.un_domains.specs.Sets.{has}
use Rattle.un_steps.specs.Found.{operation_of}
use Rattle.un_steps.specs.Words.{instrs, gap_by}
use Rattle.un_steps.proofs.reads.waits_for.Given as goal

abbrev pub invariant-loop-j : goal.invariant-loop-j
invariant-loop-j l = (k : ℕ) → k < l.j → has (instrs l.s.sets (operation_of l.p)) k ≡ true
    → l.last < l.c + gap_by l.m (operation_of l.d) (operation_of l.p) l.i k
