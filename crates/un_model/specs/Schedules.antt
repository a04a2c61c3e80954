-- A solution read as a schedule.
use Rattle.std.specs.Prelude.{ℕ, ◌-◌, Bool, false, ◌==◌, ◌&&◌, ◌||◌, if◌then◌else◌, List, [], Option, Some, None, is_some, unwrap_or}
use Rattle.std.specs.Prelude.{◌≡◌, ◌<◌, fold, length, max, slice_get, slice_index}
use Rattle.std.specs.List.{list_all}
use Rattle.un_base.specs.declared.ids.VarId.{VarId}
use Rattle.un_base.specs.declared.ids.TempId.{TempId}
use Rattle.un_isa.specs.declared.op.Op.{Op}
use Rattle.un_ir.specs.Kinds.{is_delimiter, is_frame_op}
use Rattle.un_ir.specs.declared.extended.ExtKind.{ExtKind}
use Rattle.un_ir.specs.declared.extended.ExtKind.TheVariants.{In, Out}
use Rattle.un_ir.specs.declared.extended.Operand.{Operand}
use Rattle.un_ir.specs.declared.extended.ExtOp.{ExtOp}
use Rattle.un_ir.specs.declared.extended.ExtBlock.{ExtBlock}
use Rattle.un_model.specs.declared.model.TempVars.{TempVars}
use Rattle.un_model.specs.declared.model.OpVars.{OpVars}
use Rattle.un_model.specs.declared.model.BlockVars.{BlockVars}
use Rattle.un_model.specs.declared.model.Model.{Model}
use Rattle.un_model.specs.declared.schedule.Issue.{Issue}
use Rattle.un_model.specs.declared.schedule.Read.{Read}
use Rattle.un_model.specs.declared.schedule.LiveRange.{LiveRange}
use Rattle.un_model.specs.declared.schedule.Schedule.{Schedule}
use Rattle.un_model.specs.Cost.{value_of}
use Rattle.un_model.specs.Instructions.{instruction_of}
use Rattle.un_model.specs.Pairs.{places_from, pairs_from, joined, over_blocks}

-- ---- operations

-- the value of a variable that not every operation has
abbrev pub value_by : List ℕ → Option VarId → ℕ
value_by values None = 0
value_by values (Some v) = value_of values v

abbrev pub instr_of : List ℕ → ExtOp → OpVars → Option Op
instr_of values op vars = instruction_of op.kind (value_by values vars.instr)

-- the cycle of an operation in a block with this end: the values at the start are there in cycle 0
abbrev pub cycle_by : List ℕ → ℕ → ExtKind → OpVars → ℕ
cycle_by values end In vars = 0
cycle_by values end Out vars = end
cycle_by values end _ vars = value_by values vars.cycle

abbrev pub cycle_of : List ℕ → ℕ → ExtOp → OpVars → ℕ
cycle_of values end op vars = cycle_by values end op.kind vars

-- a block's start and its end are active, and what issues an instruction
abbrev pub is_active : List ℕ → ExtOp → OpVars → Bool
is_active values op vars = is_delimiter op.kind || is_some (instr_of values op vars)

-- whether the cycle and the choices of an operation are 0
abbrev pub is_zero : List ℕ → OpVars → Bool
is_zero values vars = value_by values vars.cycle == 0 && list_all (λ (v : VarId). value_of values v == 0) vars.choices

-- operation n, in block b, which has this end
abbrev pub issue_of : List ℕ → ℕ → ℕ → ℕ → ExtOp → OpVars → Issue
issue_of values b end n op vars = record {
  block = record { 0 = b };
  op = record { 0 = n };
  instr = instr_of values op vars;
  active = is_active values op vars;
  frame = is_frame_op op.kind;
  zero = is_zero values vars;
  cycle = cycle_of values end op vars;
  end = end;
}

-- those of block b, of which the first has the number n
abbrev pub block_issues : List ℕ → ℕ → ℕ → ExtBlock → BlockVars → List Issue
block_issues values b n block vars = pairs_from (issue_of values b (value_of values vars.end)) n block.ops vars.ops

abbrev pub issues_of : Model → List ℕ → List Issue
issues_of m values = over_blocks (block_issues values) 0 0 m.ext.blocks m.blocks

-- ---- operands

-- the temporary at place c of the alternatives
abbrev pub chosen : List TempId → ℕ → TempId
chosen alts c = unwrap_or (slice_get alts c) (record { 0 = 0 })

-- the temporary that the operand at place j chooses: the first where it has no choice
abbrev pub choice_of : List ℕ → OpVars → ℕ → Operand → TempId
choice_of values vars j operand = chosen operand.alts (value_by values (slice_get vars.choices j))

-- the operand at place j of an operation that issues so
abbrev pub read_of : List ℕ → Issue → OpVars → ℕ → Operand → Read
read_of values i vars j operand = record {
  block = i.block;
  user = i.op;
  instr = i.instr;
  operand = j;
  temp = choice_of values vars j operand;
  cycle = i.cycle;
  home = operand.home;
}

-- what an operation that issues so reads, where it is active
abbrev pub op_reads : List ℕ → Issue → ExtOp → OpVars → List Read
op_reads values i op vars = if i.active then places_from (read_of values i vars) 0 op.operands else []

-- what operation n reads, in block b, which has this end
abbrev pub reads_at : List ℕ → ℕ → ℕ → ℕ → ExtOp → OpVars → List Read
reads_at values b end n op vars = op_reads values (issue_of values b end n op vars) op vars

abbrev pub block_reads : List ℕ → ℕ → ℕ → ExtBlock → BlockVars → List Read
block_reads values b n block vars = joined (pairs_from (reads_at values b (value_of values vars.end)) n block.ops vars.ops)

abbrev pub reads_of : Model → List ℕ → List Read
reads_of m values = over_blocks (block_reads values) 0 0 m.ext.blocks m.blocks

-- ---- temporaries

-- the cycle of a read of temporary t
abbrev pub cycle_for : ℕ → Read → ℕ
cycle_for t r = if r.temp.0 == t then r.cycle else 0

-- the largest cycle of the users of temporary t, 0 where it has none
abbrev pub last_read : List Read → ℕ → ℕ
last_read reads t = fold (λ (a : ℕ) (r : Read). max a (cycle_for t r)) 0 reads

-- the numbers are the last reads of so many temporaries
abbrev pub HasLastReads : List Read → ℕ → List ℕ → Type 0
HasLastReads reads n lasts = (length lasts ≡ n) × ((k : ℕ) → k < n → slice_index lasts k ≡ last_read reads k)

-- a temporary occupies its register from its definer's cycle to the one before its last read, and at least in the first
abbrev pub range_by : List ℕ → TempVars → ℕ → Option Issue → LiveRange
range_by values t last None = record
    { block = record { 0 = 0 }; op = t.op; instr = None; active = false; reg = value_of values t.reg; from = 0; last = 0 }
range_by values t last (Some i) = record {
  block = i.block;
  op = t.op;
  instr = i.instr;
  active = i.active;
  reg = value_of values t.reg;
  from = i.cycle;
  last = max i.cycle
      (last - 1);
}

-- the live range of temporary k
abbrev pub range_of : List ℕ → List Issue → List Read → ℕ → TempVars → LiveRange
range_of values issues reads k t = range_by values t (last_read reads k) (slice_get issues t.op.0)

abbrev pub ranges_of : List ℕ → List Issue → List Read → List TempVars → List LiveRange
ranges_of values issues reads temps = places_from (range_of values issues reads) 0 temps

-- ---- the schedule

-- the values of a solution as a schedule
abbrev pub schedule_of : Model → List ℕ → Schedule
schedule_of m values = record {
  issues = issues_of m values;
  reads = reads_of m values;
  ranges = ranges_of values (issues_of m values) (reads_of m values) m.temps;
}
