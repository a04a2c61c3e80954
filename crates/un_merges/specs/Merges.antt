-- Merges of the packets of a block, and solutions that have none.
use Rattle.std.specs.Prelude.{ℕ, ◌-◌, ◌<◌, Bool, false, ◌==◌, ◌&&◌, ◌||◌, if◌then◌else◌, Option, Some, None, All, nat_lt}
use Rattle.std.specs.List.{list_any}
use Rattle.un_base.specs.declared.ids.VarId.{VarId}
use Rattle.un_model.specs.declared.model.OpVars.{OpVars}
use Rattle.un_model.specs.declared.model.BlockVars.{BlockVars}
use Rattle.un_model.specs.declared.model.Model.{Model}
use Rattle.un_model.specs.declared.model.Solution.{Solution}
use Rattle.un_model.specs.Cost.{value_of}
use Rattle.un_model.specs.Pairs.{places_from}
use Rattle.un_model.specs.Solutions.{IsSolution}

-- whether a variable, where there is one, has the number k
abbrev pub is_number : ℕ → Option VarId → Bool
is_number k None = false
is_number k (Some v) = k == v.0

-- whether variable k is the cycle of an operation of a block, or the block's end
abbrev pub is_cycle : BlockVars → ℕ → Bool
is_cycle vars k = list_any (λ (o : OpVars). is_number k o.cycle) vars.ops || k == vars.end.0

-- the value x of variable k, one less where the variable passes and x is greater than t
abbrev pub lowered : (ℕ → Bool) → ℕ → ℕ → ℕ → ℕ
lowered passes t k x = if passes k && nat_lt t x then x - 1 else x

-- a solution with each cycle of a block that is greater than t, the block's end among them, lowered by one: the packets of
-- cycles t and t + 1 become one
unfoldable pub merged : BlockVars → ℕ → Solution → Solution
merged vars t s = record { values = places_from (lowered (is_cycle vars) t) 0 s.values }

-- no merge of a block is a solution
unfoldable pub HasNoMergeIn : Model → Solution → BlockVars → Type 0
HasNoMergeIn m s vars = (t : ℕ) → 0 < t → t < value_of s.values vars.end → IsSolution m (merged vars t s) → ⊥

abbrev pub HasNoMerge : Model → Solution → Type 0
HasNoMerge m s = All (HasNoMergeIn m s) m.blocks
