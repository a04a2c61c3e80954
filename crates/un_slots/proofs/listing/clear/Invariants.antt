-- the cycles so far
use Rattle.std.proofs.Common.{ℕ, ◌≡◌, ◌<◌, slice_index}
use Rattle.un_slots.proofs.listing.clear.Given as goal

abbrev pub invariant-loop-c : goal.invariant-loop-c
invariant-loop-c l = (e : ℕ) → e < l.c → slice_index l.cycles e ≡ 0
