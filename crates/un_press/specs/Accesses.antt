-- How many Spills and Reloads a solution issues in a block, up to a cycle and from one on.
use Rattle.std.specs.Prelude.{ℕ, ◌+◌, ◌≤◌, ◌==◌, ◌&&◌, nat_le, nat_lt, Bool, true, false, Option, Some, is_some, count_by}
use Rattle.un_isa.specs.declared.op.Op.{Op}
use Rattle.un_isa.specs.declared.op.Op.TheVariants.{Spill, Reload}
use Rattle.un_isa.specs.declared.table.Table.{Table}
use Rattle.un_isa.specs.Tables.{latency_of}
use Rattle.un_ir.specs.declared.extended.ExtKind.{ExtKind}
use Rattle.un_ir.specs.declared.extended.ExtKind.TheVariants.{Out, Body, End}
use Rattle.un_ir.specs.declared.extended.Operand.{Operand}
use Rattle.un_model.specs.declared.model.Model.{Model}
use Rattle.un_model.specs.declared.model.Solution.{Solution}
use Rattle.un_model.specs.declared.schedule.Issue.{Issue}
use Rattle.un_model.specs.Schedules.{issues_of}

abbrev pub is_spill : Option Op → Bool
is_spill (Some Spill) = true
is_spill _ = false

abbrev pub is_reload : Option Op → Bool
is_reload (Some Reload) = true
is_reload _ = false

-- an operation of block b spills in a cycle from 1 to t
abbrev pub spills_by : ℕ → ℕ → Issue → Bool
spills_by b t i = (i.block.0 == b) && is_spill i.instr && (nat_lt 0 i.cycle && nat_le i.cycle t)

-- an operation of block b reloads after cycle t, and what it gives is there by the end of the block
abbrev pub reloads_after : Table → ℕ → ℕ → Issue → Bool
reloads_after table b t i =
    (i.block.0 == b) && is_reload i.instr && (nat_lt t i.cycle && nat_le (i.cycle + latency_of table Reload) i.end)

-- at least n operations of block b do so
abbrev pub Spills : Model → Solution → ℕ → ℕ → ℕ → Type 0
Spills m s b t n = n ≤ count_by (spills_by b t) (issues_of m s.values)

abbrev pub Reloads : Model → Solution → ℕ → ℕ → ℕ → Type 0
Reloads m s b t n = n ≤ count_by (reloads_after m.ext.table b t) (issues_of m s.values)

-- an operand takes no slot: one of an operation of the source or of a terminator, and one of a block's end that has a home
abbrev pub takes_register : ExtKind → Operand → Bool
takes_register (Body o) x = true
takes_register (End term) x = true
takes_register Out x = is_some x.home
takes_register _ x = false
