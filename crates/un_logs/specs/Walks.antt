-- How far the logging of a tree has come, node after node.
use Rattle.std.specs.Prelude.{ℕ, ◌≡◌, List, ◌++◌, All}
use Rattle.std.specs.List.{AllByRecursion, flat_map}
use Rattle.un_domains.specs.Sets.{Sets}
use Rattle.un_model.specs.Boxes.{root_of}
use Rattle.un_tree.specs.Waits.{Waiting, Whole, Visit, IsWhole, IsPlain, HasSides, visits, visits_of}
use Rattle.un_tree.specs.declared.node.Node.{Node}
use Rattle.un_walk.specs.Stands.{IsStandAt}
use Rattle.un_walk.specs.Turns.{waiting_at}
use Rattle.un_judge.specs.Judged.{closed_by, closed_box, closed_boxes}
use Rattle.un_judge.specs.Walks.{blocks_of}
use Rattle.un_judge.specs.declared.leaf.Rules.{Rules}
use Rattle.un_logs.specs.Goods.{IsGood}
use Rattle.un_logs.specs.Stuck.{IsLost, IsStuckBy}
use Rattle.un_logs.specs.declared.log.Walk.{Walk}

-- the lines of a node were written: put before a log that is good for what follows, they make one that is good from the node on
pub record Passes (r : Rules) (n : Node) (box : Sets) (before now : List ℕ) : Type 0 where
  pub part : List ℕ
  pub grown : now ≡ before ++ part
  pub good : (boxes : List Sets) (rest : List ℕ) → IsGood r boxes rest → IsGood r (closed_by n (Whole box) ++ boxes) (part ++ rest)
  pub lost : IsStuckBy r.rules r.m.now r.limit n (Whole box) → ⊥

-- what waits where a walk stands
abbrev pub waits_of : Rules → Walk → List Waiting
waits_of r w = waiting_at (root_of r.m.now) w.stand.path.items w.more

-- the lines of the nodes before the rest were written
pub record IsWalk (r : Rules) (nodes rest : List Node) (w : Walk) : Type 0 where
  pub at : IsStandAt (root_of r.m.now) w.stand
  pub whole : IsWhole (blocks_of r) rest (waits_of r w)
  pub plain : AllByRecursion IsPlain rest
  pub strict : AllByRecursion HasSides (visits (blocks_of r) w.place rest (waits_of r w))
  pub done : List Visit
  pub split : visits_of (blocks_of r) (root_of r.m.now) nodes ≡ done ++ visits (blocks_of r) w.place rest (waits_of r w)
  pub lost : All (IsLost r.rules r.m.now r.limit) done
  pub good : (tail : List ℕ) → IsGood r (flat_map closed_box (visits (blocks_of r) w.place rest (waits_of r w))) tail
      → IsGood r (closed_boxes (blocks_of r) (root_of r.m.now) nodes) (w.text.items ++ tail)
