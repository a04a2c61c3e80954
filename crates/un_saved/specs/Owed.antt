-- The Spills and Reloads that saved values owe, and those that names owe beside them.
use Rattle.std.specs.Prelude.{ℕ, ◌==◌, ◌+◌, ◌&&◌, nat_lt, Bool}
use Rattle.un_isa.specs.Tables.{latency_of}
use Rattle.un_isa.specs.declared.op.Op.TheVariants.{Reload}
use Rattle.un_isa.specs.declared.table.Table.{Table}
use Rattle.un_model.specs.declared.schedule.Issue.{Issue}
use Rattle.un_press.specs.Accesses.{is_spill, is_reload}

-- an operation of block b spills from cycle 2 on, before the end of the block
abbrev pub spills_inside : ℕ → Issue → Bool
spills_inside b i = (i.block.0 == b) && is_spill i.instr && (nat_lt 1 i.cycle && nat_lt i.cycle i.end)

-- an operation of block b reloads after cycle t, and what it gives is there before the end of the block
abbrev pub reloads_behind : Table → ℕ → ℕ → Issue → Bool
reloads_behind table b t i =
    (i.block.0 == b) && is_reload i.instr && (nat_lt t i.cycle && nat_lt (i.cycle + latency_of table Reload) i.end)
