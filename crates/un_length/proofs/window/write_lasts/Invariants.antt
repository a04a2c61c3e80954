-- those below i are written
use Rattle.std.proofs.Common.{ℕ, ◌≡◌, ◌<◌, get_or}
use Rattle.un_length.specs.Places.{at_place}
use Rattle.un_length.specs.Windows.{last_cycle}
use Rattle.un_length.proofs.window.write_lasts.Given as goal

abbrev pub invariant-loop-i : goal.invariant-loop-i
invariant-loop-i l = (k : ℕ) → k < l.i → get_or l.late k 0 ≡ at_place (last_cycle l.fn.end l.w.store.now.sets) l.ops k
