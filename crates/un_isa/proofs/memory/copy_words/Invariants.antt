-- those so far are written over
use Rattle.std.proofs.Common.{◌≡◌, ℕ, ◌<◌, length, get_or}
use Rattle.un_isa.proofs.memory.copy_words.Given as goal

abbrev pub invariant-loop-i : goal.invariant-loop-i
invariant-loop-i l = record {
  long : length l.to ≡ length l.from;
  written : (k : ℕ) (d : ℕ × ℕ) → k < l.i → get_or l.to k d ≡ get_or l.from k d;
}
