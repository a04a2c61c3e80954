-- Words of private contracts: the first operand that reads a value after a cycle by what was defined by then.
use Rattle.std.specs.Prelude.{ℕ, ◌-◌, Bool, true, false, ◌==◌, ◌&&◌, nat_lt, nat_le, if◌then◌else◌, List, [], ◌∷◌, Option, Some, None}
use Rattle.std.specs.Prelude.{slice_get}
use Rattle.std.specs.Prelude.{length}
use Rattle.std.specs.List.{find}
use Rattle.un_base.specs.declared.ids.TempId.{TempId}
use Rattle.un_ir.specs.declared.extended.ExtOp.{ExtOp}
use Rattle.un_ir.specs.declared.extended.ExtBlock.{ExtBlock}
use Rattle.un_model.specs.declared.model.BlockVars.{BlockVars}
use Rattle.un_model.specs.declared.model.Model.{Model}
use Rattle.un_model.specs.declared.model.OpVars.{OpVars}
use Rattle.un_model.specs.declared.model.TempVars.{TempVars}
use Rattle.un_model.specs.Cost.{value_of}
use Rattle.un_model.specs.Pairs.{places_from}
use Rattle.un_model.specs.Schedules.{choice_of, cycle_of, is_active}

-- the cycle of an operation in a block with this end, 0 where there is none
abbrev pub place_cycle : List ℕ → ℕ → Option ExtOp → Option OpVars → ℕ
place_cycle values end None vars = 0
place_cycle values end (Some op) None = 0
place_cycle values end (Some op) (Some vars) = cycle_of values end op vars

abbrev pub block_cycle : List ℕ → ExtBlock → BlockVars → ℕ → ℕ
block_cycle values block vars k = place_cycle values (value_of values vars.end) (slice_get block.ops k) (slice_get vars.ops k)

-- that of operation n of these blocks
abbrev pub cycle_in : List ℕ → ℕ → List ExtBlock → List BlockVars → ℕ
cycle_in values n [] vars = 0
cycle_in values n (block ∷ blocks) [] = 0
cycle_in values n (block ∷ blocks) (vars ∷ more) =
    if nat_lt n (length block.ops) then block_cycle values block vars n else cycle_in values (n - length block.ops) blocks more

-- by a cycle, where one is given
abbrev pub by_cycle : Option ℕ → ℕ → Bool
by_cycle None n = true
by_cycle (Some t) n = nat_le n t

-- a temporary carries value x and is defined by a cycle, where one is given
abbrev pub there_by : Model → List ℕ → TempId → Option ℕ → Option TempVars → Bool
there_by m values x by None = false
there_by m values x by (Some v) = (v.value.0 == x.0) && by_cycle by (cycle_in values v.op.0 m.ext.blocks m.blocks)

abbrev pub is_there : Model → List ℕ → TempId → Option ℕ → TempId → Bool
is_there m values x by y = there_by m values x by (slice_get m.temps y.0)

-- the first that passes of what an operation reads after cycle t
abbrev pub read_by : (TempId → Bool) → List ℕ → ℕ → ℕ → ExtOp → OpVars → Option TempId
read_by test values t end op vars =
    if is_active values op vars && nat_lt t (cycle_of values end op vars) then find test (places_from (choice_of values vars) 0 op.operands)
    else None

abbrev pub or_later : Option TempId → Option TempId → Option TempId
or_later None later = later
or_later (Some y) later = Some y

-- of what the operations of a block read, and those of several
abbrev pub read_in : (TempId → Bool) → List ℕ → ℕ → ℕ → List ExtOp → List OpVars → Option TempId
read_in test values t end [] vars = None
read_in test values t end (op ∷ ops) [] = None
read_in test values t end (op ∷ ops) (vars ∷ more) = or_later (read_by test values t end op vars) (read_in test values t end ops more)

abbrev pub read_in_blocks : (TempId → Bool) → List ℕ → ℕ → List ExtBlock → List BlockVars → Option TempId
read_in_blocks test values t [] vars = None
read_in_blocks test values t (block ∷ blocks) [] = None
read_in_blocks test values t (block ∷ blocks) (vars ∷ more) =
    or_later (read_in test values t (value_of values vars.end) block.ops vars.ops) (read_in_blocks test values t blocks more)

-- a temporary is defined by cycle t
abbrev pub defined_by : Model → List ℕ → ℕ → Option TempVars → Bool
defined_by m values t None = false
defined_by m values t (Some v) = nat_le (cycle_in values v.op.0 m.ext.blocks m.blocks) t

abbrev pub is_defined : Model → List ℕ → TempId → ℕ → Bool
is_defined m values x t = defined_by m values t (slice_get m.temps x.0)
