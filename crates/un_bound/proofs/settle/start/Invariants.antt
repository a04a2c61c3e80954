use Rattle.std.proofs.Common.{ℕ, ◌<◌, Some}
use Rattle.std.specs.Prelude.{slice_index}
use Rattle.un_bound.specs.Choices.{IsNext, InSets}
use Rattle.un_bound.proofs.settle.start.Given as goal

abbrev pub invariant-loop-i : goal.invariant-loop-i
invariant-loop-i l = (k : ℕ) → k < l.i → IsNext (InSets l.b.store.now.sets l.b.end l.b.ops.now l.b.vars.now k) 0
    (Some (slice_index l.cycles k))
