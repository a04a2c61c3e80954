-- What a model's trees go by besides boxes: how many blocks there are, which variables are a block's own, and what has to be single where
-- blocks are refuted one by one: the frame flag, and the registers of the values at each block's start.
use Rattle.std.specs.Prelude.{ℕ, zero, suc, ◌≡◌, ◌+◌, ◌<◌, ◌≤◌, ⊤, List, All, length, slice_get, MatchOption, Option, Some, None}
use Rattle.un_base.specs.declared.ids.TempId.{TempId}
use Rattle.un_base.specs.declared.ids.VarId.{VarId}
use Rattle.un_domains.specs.Sets.{Sets, set_at}
use Rattle.un_ir.specs.declared.extended.ExtBlock.{ExtBlock}
use Rattle.un_model.specs.Boxes.{root_of}
use Rattle.un_model.specs.Congruences.{live_in_temps}
use Rattle.un_model.specs.declared.model.BlockVars.{BlockVars}
use Rattle.un_model.specs.declared.model.Model.{Model}
use Rattle.un_model.specs.declared.model.TempVars.{TempVars}
use Rattle.un_tree.specs.Waits.{Visit, IsTreeOf, visits_of}
use Rattle.un_tree.specs.declared.node.Node.{Node}

-- how many blocks a model has
abbrev pub blocks_of : Model → ℕ
blocks_of m = length m.ext.blocks

-- the nodes of a tree of a model's first box
abbrev pub visits_in : Model → List Node → List Visit
visits_in m t = visits_of (blocks_of m) (root_of m) t

-- the nodes are one whole tree of it
abbrev pub IsTreeIn : Model → List Node → Type 0
IsTreeIn m t = IsTreeOf (blocks_of m) (root_of m) t

-- ---- a block's own variables

-- the variables of a block stand side by side, that of its end last: the first one is behind the end of the block before it
abbrev pub past_end : Option BlockVars → ℕ
past_end None = 0
past_end (Some vars) = vars.end.0 + 1

abbrev pub first_own : List BlockVars → ℕ → ℕ
first_own blocks zero = 0
first_own blocks (suc k) = past_end (slice_get blocks k)

-- the variable is one of block k: neither another block's nor the flag
abbrev pub IsOwn : Model → ℕ → VarId → Type 0
IsOwn m k v = (first_own m.blocks k ≤ v.0) × (v.0 < past_end (slice_get m.blocks k))

-- ---- what joins blocks

-- a variable has one value
abbrev pub HasOne : Sets → VarId → Type 0
HasOne b v = length (set_at b v.0) ≡ 1

-- the register of a temporary has one value
abbrev pub HasRegister : Model → Sets → TempId → Type 0
HasRegister m b x = MatchOption (slice_get m.temps x.0) ⊤ (λ (t : TempVars). HasOne b t.reg)

-- the flag has one value in a box, and so has the register of each value at a block's start
pub record AreJoined (m : Model) (b : Sets) : Type 0 where
  pub flag : HasOne b m.flag
  pub starts : All (λ (block : ExtBlock). All (HasRegister m b) (live_in_temps block.ops)) m.ext.blocks
