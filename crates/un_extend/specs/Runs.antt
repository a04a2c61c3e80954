-- What the run of an extended function comes to, by the run of the linear one.
use Rattle.std.specs.Prelude.{ℕ, ◌≡◌}
use Rattle.un_isa.specs.declared.start.Start.{Start}
use Rattle.un_ir.specs.declared.extended.Ext.{Ext}
use Rattle.un_ir.specs.declared.extended.Lssa.{Lssa}
use Rattle.un_ir.specs.Linear.{linear_run}

-- from each start, and where at most n blocks are entered, the extended function comes to what the linear one comes to
abbrev pub RunsAsLinear : Lssa → Ext → Type 0
RunsAsLinear l e = (start : Start) (n : ℕ) → linear_run e.table e.blocks start n ≡ linear_run l.table l.blocks start n
