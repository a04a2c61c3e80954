-- The relaxation of a model in a box: the cycles of the operations that every solution issues, and the blocks' ends, each in its set,
-- with their precedences and places alone.
use Rattle.std.specs.Prelude.{ℕ, ◌≡◌, ◌+◌, ◌-◌, ◌*◌, ◌<◌, ◌≤◌, true, List, [], ◌∷◌, Option, Some, IfSome, length, slice_get, slice_index}
use Rattle.un_ir.specs.declared.extended.ExtOp.{ExtOp}
use Rattle.un_ir.specs.declared.extended.ExtBlock.{ExtBlock}
use Rattle.un_base.specs.declared.ids.VarId.{VarId}
use Rattle.un_domains.specs.Sets.{Sets, set_at, has}
use Rattle.un_model.specs.declared.model.Arc.{Arc}
use Rattle.un_model.specs.declared.model.OpVars.{OpVars}
use Rattle.un_model.specs.declared.model.BlockVars.{BlockVars}
use Rattle.un_model.specs.declared.model.Model.{Model}
use Rattle.un_ir.specs.Kinds.{is_mandatory}
use Rattle.un_bound.specs.declared.relax.RelaxAnswer.{RelaxAnswer}
use Rattle.un_bound.specs.declared.relax.RelaxAnswer.TheVariants.{Empty, Least}
use Rattle.un_bound.specs.Timings.{IsTiming}

-- the end of a block and the cycles of its operations in order
pub record Times : Type 0 where
  pub end : ℕ
  pub cycles : List ℕ

abbrev pub IsValue : Sets → VarId → ℕ → Type 0
IsValue s v n = has (set_at s v.0) n ≡ true

-- an operation that every solution issues has a cycle of its set, where it has one
abbrev pub InOwnSet : Sets → ℕ → ExtOp → OpVars → Type 0
InOwnSet s cycle op vars = is_mandatory op.kind ≡ true → IfSome vars.cycle (λ (v : VarId). IsValue s v cycle)

-- a timing of a block in these sets, of which the first operation has the number n
pub record IsRelaxed (s : Sets) (n : ℕ) (end : VarId) (ops : List ExtOp) (vars : List OpVars) (arcs : List Arc) (times : Times)
    : Type 0 where
  pub timing : IsTiming n ops arcs times.end times.cycles
  pub stop : IsValue s end times.end
  pub cycles : (k : ℕ) (op : ExtOp) (v : OpVars) → slice_get ops k ≡ Some op → slice_get vars k ≡ Some v
      → InOwnSet s (slice_index times.cycles k) op v

-- one of each block
abbrev pub AreRelaxed : Sets → ℕ → List ExtBlock → List BlockVars → List (List Arc) → List Times → Type 0
AreRelaxed s n (block ∷ blocks) (vars ∷ more) (here ∷ arcs) [] = ⊥
AreRelaxed s n (block ∷ blocks) (vars ∷ more) (here ∷ arcs) (t ∷ times) =
    IsRelaxed s n vars.end block.ops vars.ops here t × AreRelaxed s (n + length block.ops) blocks more arcs times
AreRelaxed s n blocks vars arcs times = times ≡ []

-- frequency times the cycles before the end, over all blocks
abbrev pub times_cost : List ExtBlock → List Times → ℕ
times_cost [] times = 0
times_cost (block ∷ blocks) [] = 0
times_cost (block ∷ blocks) (t ∷ times) = block.freq * (t.end - 1) + times_cost blocks times

-- a member of the relaxation without a limit, and under one
abbrev pub IsMember : Model → Sets → List Times → Type 0
IsMember m s times = AreRelaxed s 0 m.ext.blocks m.blocks m.arcs times

abbrev pub IsMemberUnder : Option ℕ → Model → Sets → List Times → Type 0
IsMemberUnder limit m s times = IsMember m s times × IfSome limit (λ (c : ℕ). times_cost m.ext.blocks times < c)

-- the least cost of a member
pub record IsLeast (m : Model) (s : Sets) (cost : ℕ) : Type 0 where
  pub reached : (times : List Times) × IsMember m s times × (times_cost m.ext.blocks times ≡ cost)
  pub least : (times : List Times) → IsMember m s times → cost ≤ times_cost m.ext.blocks times

abbrev pub IsRelaxation : Model → Sets → RelaxAnswer → Type 0
IsRelaxation m s Empty = (times : List Times) → IsMember m s times → ⊥
IsRelaxation m s (Least cost) = IsLeast m s cost
