-- What waits behind a place on the way over a tree: the other sides of the decisions there, as paths and as boxes.
use Rattle.std.specs.Prelude.{Bool, true, false, List, [], ◌∷◌, ◌++◌}
use Rattle.un_domains.specs.Sets.{Sets}
use Rattle.un_domains.specs.declared.side.Side.{Side}
use Rattle.un_domains.specs.declared.side.Side.TheVariants.{AtMost, Above}
use Rattle.un_tree.specs.Boxes.{half, decided, reached}
use Rattle.un_tree.specs.Waits.{Waiting, Whole}
use Rattle.un_tree.specs.declared.node.Decision.{Decision}

-- the path to the other side of a decision below a path: the side above comes last
abbrev pub other_path : List Decision → Decision → Side → List (List Decision)
other_path above d AtMost = (above ++ record { var = d.var; val = d.val; side = Above } ∷ []) ∷ []
other_path above d Above = []

-- the paths that wait behind decisions below a path, the deepest first
abbrev pub paths_behind : List Decision → List Decision → List (List Decision)
paths_behind above [] = []
paths_behind above (d ∷ ds) = paths_behind (above ++ d ∷ []) ds ++ other_path above d d.side

-- the paths that wait where a walk stands, its own first, where there is more of the tree
abbrev pub paths_at : List Decision → Bool → List (List Decision)
paths_at ds true = ds ∷ paths_behind [] ds
paths_at ds false = []

-- what waits on the other side of a decision: the side above comes last
abbrev pub other_side : Sets → Decision → Side → List Waiting
other_side b d AtMost = Whole (half b d.var d.val Above) ∷ []
other_side b d Above = []

-- what waits behind the box of decisions, the deepest first
abbrev pub waits : Sets → List Decision → List Waiting
waits b [] = []
waits b (d ∷ ds) = waits (decided d b) ds ++ other_side b d d.side

-- what waits where a walk stands, itself first, where there is more of the tree
abbrev pub waiting_at : Sets → List Decision → Bool → List Waiting
waiting_at root ds true = Whole (reached root ds) ∷ waits root ds
waiting_at root ds false = []
