-- what is left of the leaf's box and of the log
use Rattle.std.proofs.Common.{ℕ, ◌≡◌, List, ◌∷◌, length}
use Rattle.un_domains.specs.Sets.{Sets, IsIn}
use Rattle.un_model.specs.Boxes.{IsBelow}
use Rattle.un_judge.specs.Leaves.{LeftComes}
use Rattle.un_judge.specs.declared.verdict.StepVerdict.{StepVerdict}
use Rattle.un_judge.proofs.leaf.close.Given as goal

abbrev pub invariant-loop-line : goal.invariant-loop-line
invariant-loop-line l = record {
  comes : (boxes : List Sets) (verdict : StepVerdict) → LeftComes l.r l.left (l.cuts.sets ∷ boxes) verdict
      → LeftComes l.r l.log (l.fn.cuts.sets ∷ boxes) verdict;
  kept : (x : List ℕ) → IsIn x l.fn.cuts.sets → IsBelow l.r.m.now l.r.limit x → IsIn x l.cuts.sets;
  marked : l.cuts.marked ≡ l.fn.cuts.marked;
}

abbrev pub decreases-loop-line : goal.decreases-loop-line
decreases-loop-line l = length l.left.text.now
