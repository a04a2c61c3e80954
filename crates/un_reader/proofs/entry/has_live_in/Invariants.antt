-- no name so far is live
use Rattle.std.proofs.Common.{ℕ, ◌<◌}
use Rattle.un_reader.specs.Entry.{IsLiveAtEntry}
use Rattle.un_reader.proofs.entry.has_live_in.Given as goal

abbrev pub invariant-loop-i : goal.invariant-loop-i
invariant-loop-i l = (k : ℕ) → k < l.i → IsLiveAtEntry l.parts.params l.parts.names l.parts.blocks (record { 0 = k }) → ⊥
