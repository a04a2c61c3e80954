-- How far the judging of a log has come, node after node.
use Rattle.std.specs.Prelude.{ℕ, ◌≡◌, ⊤, List, [], ◌∷◌, ◌++◌, Option, MatchOption, length}
use Rattle.std.specs.List.{AllByRecursion, flat_map}
use Rattle.un_domains.specs.Sets.{Sets}
use Rattle.un_model.specs.Boxes.{IsBelow, root_of}
use Rattle.un_tree.specs.Covered.{OuterStands, OuterStandsIn}
use Rattle.un_tree.specs.Waits.{Waiting, Whole, IsWhole, IsPlain, HasSides, visits, visits_of}
use Rattle.un_tree.specs.declared.node.Node.{Node}
use Rattle.un_walk.specs.Stands.{IsStandAt}
use Rattle.un_walk.specs.Turns.{waiting_at}
use Rattle.un_judge.specs.Judged.{IsJudged, closed_by, closed_box}
use Rattle.un_judge.specs.Leaves.{LeftComes}
use Rattle.un_judge.specs.declared.judge.Walk.{Walk}
use Rattle.un_judge.specs.declared.leaf.Rules.{Rules}
use Rattle.un_judge.specs.declared.verdict.StepVerdict.{StepVerdict}
use Rattle.un_judge.specs.declared.verdict.StepVerdict.TheVariants.{Yes, BadStep, Short}

abbrev pub NotYes : StepVerdict → Type 0
NotYes Yes = ⊥
NotYes (BadStep n) = ⊤
NotYes Short = ⊤

-- what is left of a log behind the last leaf
abbrev pub TextComes : List ℕ → StepVerdict → Type 0
TextComes text Yes = text ≡ []
TextComes text (BadStep n) = ⊥
TextComes [] Short = ⊥
TextComes (b ∷ bs) Short = ⊤

-- the lines of a node were gone over: what is left comes to what was left before it, and a closed leaf is refuted
pub record Passes (r : Rules) (n : Node) (old new : Walk) (told : Option StepVerdict) : Type 0 where
  pub comes : (boxes : List Sets) (verdict : StepVerdict) → MatchOption told (LeftComes r new.left boxes verdict) (λ bad. verdict ≡ bad)
      → LeftComes r old.left (closed_by n (Whole old.stand.cuts.sets) ++ boxes) verdict
  pub refuted : MatchOption told (OuterStandsIn (IsBelow r.m.now r.limit) n (Whole old.stand.cuts.sets)) NotYes

-- what waits where a walk stands
abbrev pub waits_of : Rules → Walk → List Waiting
waits_of r w = waiting_at (root_of r.m.now) w.stand.path.items w.more

-- how many blocks there are
abbrev pub blocks_of : Rules → ℕ
blocks_of r = length r.m.now.ext.blocks

-- the nodes before the rest were gone over: where the rest stands, all nodes do, and what the lines that are left come to for its
-- leaves, the log comes to
pub record IsWalk (r : Rules) (nodes : List Node) (log : List ℕ) (rest : List Node) (w : Walk) : Type 0 where
  pub at : IsStandAt (root_of r.m.now) w.stand
  pub place : ℕ
  pub whole : IsWhole (blocks_of r) rest (waits_of r w)
  pub plain : AllByRecursion IsPlain rest
  pub strict : AllByRecursion HasSides (visits (blocks_of r) place rest (waits_of r w))
  pub stands : AllByRecursion (OuterStands (IsBelow r.m.now r.limit)) (visits (blocks_of r) place rest (waits_of r w))
      → AllByRecursion (OuterStands (IsBelow r.m.now r.limit)) (visits_of (blocks_of r) (root_of r.m.now) nodes)
  pub comes : (verdict : StepVerdict) → LeftComes r w.left (flat_map closed_box (visits (blocks_of r) place rest (waits_of r w))) verdict
      → IsJudged r.rules r.m.now r.limit nodes log verdict
