-- Boxes: a set of values for each variable. Their sides, what decisions make of them, and how many assignments they have.
use Rattle.std.specs.Prelude.{ℕ, ◌<◌, ◌≤◌, ◌*◌, List, [], ◌∷◌, length}
use Rattle.un_base.specs.declared.ids.VarId.{VarId}
use Rattle.un_domains.specs.Sets.{Sets, set_at, kept, least, greatest, NoneEmpty}
use Rattle.un_domains.specs.Order.{Below}
use Rattle.un_domains.specs.Sides.{side_test}
use Rattle.un_domains.specs.declared.side.Side.{Side}
use Rattle.un_tree.specs.declared.node.Decision.{Decision}

-- a side of a box
abbrev pub half : Sets → VarId → ℕ → Side → Sets
half b v x side = kept (side_test side x) b v.0

-- the box has the variable, and values of it on both sides
abbrev pub Splits : Sets → VarId → ℕ → Type 0
Splits b v x = (v.0 < length b) × (least (set_at b v.0) ≤ x) × (x < greatest (set_at b v.0))

-- the box after a decision
abbrev pub decided : Decision → Sets → Sets
decided d b = half b d.var d.val d.side

-- the box after decisions, the first one first
abbrev pub reached : Sets → List Decision → Sets
reached b [] = b
reached b (d ∷ ds) = reached (decided d b) ds

-- a box within the first one, with a value of each variable
abbrev pub IsBox : Sets → Sets → Type 0
IsBox root b = Below b root × NoneEmpty b

-- how many assignments a box has
abbrev pub volume : Sets → ℕ
volume [] = 1
volume (xs ∷ b) = length xs * volume b
