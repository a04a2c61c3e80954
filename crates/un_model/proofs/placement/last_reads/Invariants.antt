use Rattle.std.proofs.Common.{◌≡◌, ◌<◌, ℕ, length, take, get_or}
use Rattle.un_model.specs.Schedules.{last_read}
use Rattle.un_model.proofs.placement.last_reads.Given as goal

abbrev pub invariant-loop-r : goal.invariant-loop-r
invariant-loop-r l = (length l.lasts.items ≡ l.n) × ((k : ℕ) → k < l.n → get_or l.lasts.items k 0 ≡ last_read (take l.r-index l.reads) k)
