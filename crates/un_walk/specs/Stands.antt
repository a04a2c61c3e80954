-- Where a walk over a tree stands: at a box that decisions make of a first one.
use Rattle.std.specs.Prelude.{◌≡◌, List, [], ◌∷◌, ⊤}
use Rattle.un_domains.specs.Sets.{Sets, NoneEmpty}
use Rattle.un_tree.specs.Boxes.{Splits, decided, reached}
use Rattle.un_tree.specs.declared.node.Decision.{Decision}
use Rattle.un_walk.specs.declared.stand.Stand.{Stand}

-- each decision splits the box that it finds
abbrev pub AllSplit : Sets → List Decision → Type 0
AllSplit b [] = ⊤
AllSplit b (d ∷ ds) = Splits b d.var d.val × AllSplit (decided d b) ds

-- the boxes before each of the decisions
abbrev pub ways : Sets → List Decision → List Sets
ways b [] = []
ways b (d ∷ ds) = b ∷ ways (decided d b) ds

-- the box that the decisions on the way make of a first one, with a mark for each
pub record IsStandAt (root : Sets) (s : Stand) : Type 0 where
  pub full : NoneEmpty root
  pub split : AllSplit root s.path.items
  pub sets : s.cuts.sets ≡ reached root s.path.items
  pub marked : s.cuts.marked ≡ ways root s.path.items

-- of some first one
pub record IsStand (s : Stand) : Type 0 where
  pub root : Sets
  pub at : IsStandAt root s
