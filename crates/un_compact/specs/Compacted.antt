-- Schedules without the cycles that nothing needs.
use Rattle.std.specs.Prelude.{ℕ, ◌≡◌, false, List, All, IfSome, length, slice_index}
use Rattle.un_base.specs.declared.ids.VarId.{VarId}
use Rattle.un_model.specs.declared.model.OpVars.{OpVars}
use Rattle.un_model.specs.declared.model.BlockVars.{BlockVars}
use Rattle.un_model.specs.declared.model.Model.{Model}
use Rattle.un_model.specs.declared.model.Solution.{Solution}
use Rattle.un_model.specs.Cost.{value_of}
use Rattle.un_violations.specs.Loose.{is_time}
use Rattle.un_compact.specs.Squeezes.{is_used, IsSqueeze}

-- each cycle of a block, its end among them, comes where a squeeze of the cycles in use moves it
pub record IsCompactedIn (old new : List ℕ) (vars : BlockVars) : Type 0 where
  pub moved : ℕ → ℕ
  pub squeeze : IsSqueeze (is_used old vars) moved
  pub cycles : All (λ (o : OpVars). IfSome o.cycle (λ (v : VarId). value_of new v ≡ moved (value_of old v))) vars.ops
  pub end : value_of new vars.end ≡ moved (value_of old vars.end)

-- each block is compacted, and all that is neither a cycle nor an end stays
pub record IsCompacted (m : Model) (old new : Solution) : Type 0 where
  pub long : length new.values ≡ length old.values
  pub blocks : All (IsCompactedIn old.values new.values) m.blocks
  pub rest : (k : ℕ) → is_time m.blocks k ≡ false → slice_index new.values k ≡ slice_index old.values k
