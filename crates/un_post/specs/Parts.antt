-- A block of a model as a problem of its own: which assignments are of the part of a block, and what they cost there.
use Rattle.std.specs.Prelude.{ℕ, ◌≡◌, ◌==◌, true, false, List, Option, Some, None, All, filter, map, slice_get, if◌then◌else◌}
use Rattle.un_ir.specs.declared.extended.ExtBlock.{ExtBlock}
use Rattle.un_model.specs.declared.model.BlockVars.{BlockVars}
use Rattle.un_model.specs.declared.model.Model.{Model}
use Rattle.un_model.specs.declared.schedule.Issue.{Issue}
use Rattle.un_model.specs.declared.schedule.LiveRange.{LiveRange}
use Rattle.un_model.specs.declared.schedule.Read.{Read}
use Rattle.un_model.specs.declared.schedule.Schedule.{Schedule}
use Rattle.un_model.specs.Congruences.{HandsOn}
use Rattle.un_model.specs.Cost.{value_of, block_cost}
use Rattle.un_model.specs.Schedules.{schedule_of}
use Rattle.un_model.specs.Solutions.{Gap, KeepsDomains, KeepsZeros, KeepsChoices, KeepsSpaces, KeepsLatencies, KeepsMemory, KeepsRegisters}
use Rattle.un_model.specs.Solutions.{KeepsPackets, KeepsHomes, HasFrame, KeepsFrameOrder, uses_frame, latency_gap}

-- ---- what a schedule says of one block

-- a temporary that is not there: it is not active, no instruction gives it, and it has no register
abbrev pub absent : LiveRange → LiveRange
absent h = record { block = h.block; op = h.op; instr = None; active = false; reg = 0; from = h.from; last = h.last }

-- a temporary as block k sees it: those of other blocks are not there, but keep their places in the list, by which reads name them
abbrev pub only_in : ℕ → LiveRange → LiveRange
only_in k h = if h.block.0 == k then h else absent h

-- what block k issues, what it reads, and its temporaries
abbrev pub block_schedule : ℕ → Schedule → Schedule
block_schedule k t = record {
  issues = filter (λ (i : Issue). i.block.0 == k) t.issues;
  reads = filter (λ (r : Read). r.block.0 == k) t.reads;
  ranges = map (only_in k) t.ranges;
}

-- ---- the part of a block

-- In a block a set flag needs no use of the frame, which may stand in another block: a use sets the flag, Enter and Leave are as it
-- says, and in order.
pub record KeepsPartFrame (flag : ℕ) (t : Schedule) : Type 0 where
  pub used : uses_frame t ≡ true → flag ≡ 1
  pub without : flag ≡ 0 → All (HasFrame false) t.issues
  pub with_frame : flag ≡ 1 → All (HasFrame true) t.issues
  pub ordered : flag ≡ 1 → KeepsFrameOrder t.issues

-- the clauses of a solution that speak of block k alone, what it hands on to the blocks behind it, and all domains
pub record IsPartSchedule (gap : Gap) (m : Model) (k : ℕ) (values : List ℕ) (t : Schedule) : Type 0 where
  pub in_domains : KeepsDomains m.domains values
  pub zeros : KeepsZeros (block_schedule k t)
  pub choices : KeepsChoices (block_schedule k t)
  pub spaces : KeepsSpaces (block_schedule k t)
  pub latencies : KeepsLatencies gap (block_schedule k t)
  pub memory : KeepsMemory (block_schedule k t)
  pub registers : KeepsRegisters m.ext.table.clobbered (block_schedule k t)
  pub packets : KeepsPackets m.ext.table (block_schedule k t)
  pub homes : KeepsHomes (block_schedule k t)
  pub congruences : (a : ExtBlock) → slice_get m.ext.blocks k ≡ Some a → HandsOn m.ext.blocks t k a
  pub frame : KeepsPartFrame (value_of values m.flag) (block_schedule k t)

-- the values are of the part of block k
abbrev pub IsPartOf : Model → ℕ → List ℕ → Type 0
IsPartOf m k values = IsPartSchedule (latency_gap m.ext.table) m k values (schedule_of m values)

-- ---- its cost

abbrev pub cost_or : List ℕ → Option ExtBlock → Option BlockVars → ℕ
cost_or values None vars = 0
cost_or values (Some block) None = 0
cost_or values (Some block) (Some vars) = block_cost values block vars

-- the frequency of block k times (end - 1)
abbrev pub part_cost : Model → ℕ → List ℕ → ℕ
part_cost m k values = cost_or values (slice_get m.ext.blocks k) (slice_get m.blocks k)
