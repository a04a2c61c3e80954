-- What a solution costs.
use Rattle.std.specs.Prelude.{ℕ, ◌+◌, ◌*◌, ◌-◌, List, [], ◌∷◌, slice_index}
use Rattle.un_base.specs.declared.ids.VarId.{VarId}
use Rattle.un_ir.specs.declared.extended.ExtBlock.{ExtBlock}
use Rattle.un_model.specs.declared.model.BlockVars.{BlockVars}
use Rattle.un_model.specs.declared.model.Model.{Model}
use Rattle.un_model.specs.declared.model.Solution.{Solution}

-- the value of a variable, 0 where there is none
abbrev pub value_of : List ℕ → VarId → ℕ
value_of values v = slice_index values v.0

-- the cycles in which the packets of a block issue, as often as the block runs
abbrev pub block_cost : List ℕ → ExtBlock → BlockVars → ℕ
block_cost values block vars = block.freq * (value_of values vars.end - 1)

-- the sum over the blocks of frequency times (end - 1)
abbrev pub blocks_cost : List ℕ → List ExtBlock → List BlockVars → ℕ
blocks_cost values [] vars = 0
blocks_cost values (block ∷ blocks) [] = 0
blocks_cost values (block ∷ blocks) (vars ∷ more) = block_cost values block vars + blocks_cost values blocks more

abbrev pub cost_of : Model → Solution → ℕ
cost_of m s = blocks_cost s.values m.ext.blocks m.blocks
