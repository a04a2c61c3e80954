-- What the run of a linear function comes to, by the run of the source.
use Rattle.std.specs.Prelude.{ℕ, ◌≡◌, List, ◌++◌, map, length, slice_index}
use Rattle.un_base.specs.declared.ids.NameId.{NameId}
use Rattle.un_isa.specs.Registers.{callee_saved}
use Rattle.un_isa.specs.declared.reg.TheConstants.{LINK, REGISTERS}
use Rattle.un_isa.specs.declared.start.Start.{Start}
use Rattle.un_isa.specs.declared.table.Table.{Table}
use Rattle.un_ir.specs.declared.function.Function.{Function}
use Rattle.un_ir.specs.declared.extended.Lssa.{Lssa}
use Rattle.un_ir.specs.Source.{SourceState, SourceStop, SourceRun, Returned, Trapped, Waiting, Running, source_run}
use Rattle.un_ir.specs.Linear.{World, LinearStop, LinearRun, first_saved, linear_run, Returned as ReturnedTo, Trapped as Traps}
use Rattle.un_ir.specs.Linear.{Waiting as Waits, Running as RunningWith}
use Rattle.un_ir.specs.LinearOf.{live_at}

abbrev pub world_of : SourceState → World
world_of s = record { memory = s.memory; calls = s.calls; replies = s.replies }

-- the values of the names that are live at the start of block b, in their order, and the saved values, which are those of
-- the start
abbrev pub values_at : Table → Start → List (List NameId) → ℕ → List ℕ → List ℕ
values_at t start lists b values = map (λ (name : NameId). slice_index values name.0) (live_at lists b) ++ first_saved t start

-- a return gives the same result, the start's link register, and the start's values of the callee-saved registers
abbrev pub stop_with : Table → Start → List (List NameId) → List ℕ → SourceStop → LinearStop
stop_with t start lists values (Returned v) = ReturnedTo v (slice_index start.regs LINK) (map (slice_index start.regs) (callee_saved t))
stop_with t start lists values Trapped = Traps
stop_with t start lists values (Waiting call) = Waits call
stop_with t start lists values (Running b) = RunningWith b (values_at t start lists b values)

-- the same stop, with the memory, the calls and the replies that are left
abbrev pub as_linear : Table → Start → List (List NameId) → SourceRun → LinearRun
as_linear t start lists run = let s = run.state in record { stop = stop_with t start lists s.values run.stop; world = world_of s }

-- from each start, and where at most n blocks are entered, the linear function comes to what the function comes to
abbrev pub RunsAsSource : Function → List (List NameId) → Table → Lssa → Type 0
RunsAsSource f lists t l = (start : Start) (n : ℕ) → length start.regs ≡ REGISTERS
    → linear_run l.table l.blocks start n ≡ as_linear t start lists (source_run f start n)
