-- A plan says of each operation what it does. The values of a model's variables are read off it, in their order.
use Rattle.std.specs.Prelude.{ℕ, ◌≡◌, ◌+◌, ◌-◌, ◌==◌, ◌&&◌, ◌||◌, is_some, Bool, true, false, if◌then◌else◌, List, [], ◌∷◌, ◌++◌, Option}
use Rattle.std.specs.Prelude.{Some, None, map, max, length, slice_get, slice_index}
use Rattle.std.specs.List.{AllZip, list_all}
use Rattle.un_ir.specs.declared.extended.ExtKind.{ExtKind}
use Rattle.un_ir.specs.declared.extended.ExtKind.TheVariants.{In, Out}
use Rattle.un_ir.specs.declared.extended.Operand.{Operand}
use Rattle.un_ir.specs.declared.extended.ExtOp.{ExtOp}
use Rattle.un_ir.specs.declared.extended.ExtBlock.{ExtBlock}
use Rattle.un_model.specs.declared.schedule.Issue.{Issue}
use Rattle.un_model.specs.declared.schedule.Read.{Read}
use Rattle.un_model.specs.declared.schedule.LiveRange.{LiveRange}
use Rattle.un_model.specs.declared.schedule.Schedule.{Schedule}
use Rattle.un_model.specs.Instructions.{instruction_of}
use Rattle.un_model.specs.Pairs.{places_from, pairs_from, joined}
use Rattle.un_ir.specs.Kinds.{is_delimiter, is_frame_op, is_optional}
use Rattle.un_model.specs.Schedules.{chosen, last_read}
use Rattle.un_model.specs.Variables.{has_cycle, chosen_operands}

-- what an operation does: the number of its instruction, where it is optional, its cycle, the place of the alternative that
-- each operand chooses, the register of each result
pub record Step : Type 0 where
  pub instr : ℕ
  pub cycle : ℕ
  pub choices : List ℕ
  pub registers : List ℕ

-- the steps of a block's operations, and its end
pub record BlockPlan : Type 0 where
  pub steps : List Step
  pub end : ℕ

-- ---- the values

abbrev pub value_if : Bool → ℕ → List ℕ
value_if true n = n ∷ []
value_if false n = []

abbrev pub step_values : ExtOp → Step → List ℕ
step_values op s = value_if (is_optional op.kind) s.instr ++ (value_if (has_cycle op.kind) s.cycle ++ (s.choices ++ s.registers))

abbrev pub steps_values : List ExtOp → List Step → List ℕ
steps_values [] steps = []
steps_values (op ∷ ops) [] = []
steps_values (op ∷ ops) (s ∷ steps) = step_values op s ++ steps_values ops steps

abbrev pub block_values : ExtBlock → BlockPlan → List ℕ
block_values block p = steps_values block.ops p.steps ++ p.end ∷ []

abbrev pub blocks_values : List ExtBlock → List BlockPlan → List ℕ
blocks_values [] plans = []
blocks_values (block ∷ blocks) [] = []
blocks_values (block ∷ blocks) (p ∷ plans) = block_values block p ++ blocks_values blocks plans

-- the values of a plan of all blocks with this frame flag
abbrev pub plan_values : List ExtBlock → List BlockPlan → ℕ → List ℕ
plan_values blocks plans flag = blocks_values blocks plans ++ flag ∷ []

-- ---- which plans suit an extended function

-- a step has a choice and a register for each variable
pub record Suits (op : ExtOp) (s : Step) : Type 0 where
  pub choices : length s.choices ≡ length (chosen_operands op)
  pub registers : length s.registers ≡ length op.results

abbrev pub SuitsBlock : ExtBlock → BlockPlan → Type 0
SuitsBlock block p = AllZip Suits block.ops p.steps

abbrev pub SuitsAll : List ExtBlock → List BlockPlan → Type 0
SuitsAll blocks plans = AllZip SuitsBlock blocks plans

-- ---- the schedule of a plan

-- the cycle of an operation in a block with this end
abbrev pub planned_cycle : ℕ → ExtKind → ℕ → ℕ
planned_cycle end In c = 0
planned_cycle end Out c = end
planned_cycle end _ c = c

-- operation n, of block b
abbrev pub planned_issue : ℕ → ℕ → ℕ → ExtOp → Step → Issue
planned_issue b end n op s = record {
  block = record { 0 = b };
  op = record { 0 = n };
  instr = instruction_of op.kind s.instr;
  active = is_delimiter op.kind || is_some (instruction_of op.kind s.instr);
  frame = is_frame_op op.kind;
  zero = (if has_cycle op.kind then s.cycle else 0) == 0 && list_all (λ (c : ℕ). c == 0) s.choices;
  cycle = planned_cycle end op.kind s.cycle;
  end = end;
}

abbrev pub planned_issues : ℕ → ℕ → ExtBlock → BlockPlan → List Issue
planned_issues b n block p = pairs_from (planned_issue b p.end) n block.ops p.steps

-- the operand at place j of an operation that issues so
abbrev pub planned_read : Issue → Step → ℕ → Operand → Read
planned_read i s j operand = record {
  block = i.block;
  user = i.op;
  instr = i.instr;
  operand = j;
  temp = chosen operand.alts (slice_index s.choices j);
  cycle = i.cycle;
  home = operand.home;
}

abbrev pub planned_reads_by : Issue → ExtOp → Step → List Read
planned_reads_by i op s = if i.active then places_from (planned_read i s) 0 op.operands else []

abbrev pub planned_reads : ℕ → ℕ → ExtBlock → BlockPlan → List Read
planned_reads b n block p = joined (pairs_from (λ (k : ℕ) (op : ExtOp) (s : Step). planned_reads_by
    (planned_issue b p.end k op s) op s) n block.ops p.steps)

-- what f gives of each block with its plan, one after another
abbrev pub over_plans : {A : Type 0} → (ℕ → ℕ → ExtBlock → BlockPlan → List A) → ℕ → ℕ → List ExtBlock → List BlockPlan → List A
over_plans f b n [] plans = []
over_plans f b n (block ∷ blocks) [] = []
over_plans f b n (block ∷ blocks) (p ∷ plans) = f b n block p ++ over_plans f (b + 1) (n + length block.ops) blocks plans

-- the operation that defines a temporary, by its number, and the temporary's register
pub record Place : Type 0 where
  pub op : ℕ
  pub reg : ℕ

abbrev pub place_at : ℕ → ℕ → Place
place_at n r = record { op = n; reg = r }

-- those of the temporaries of operations, of which the first has the number n
abbrev pub step_places : ℕ → List Step → List Place
step_places n [] = []
step_places n (s ∷ steps) = map (place_at n) s.registers ++ step_places (n + 1) steps

abbrev pub plan_places : ℕ → List ExtBlock → List BlockPlan → List Place
plan_places n [] plans = []
plan_places n (block ∷ blocks) [] = []
plan_places n (block ∷ blocks) (p ∷ plans) = step_places n p.steps ++ plan_places (n + length block.ops) blocks plans

-- the live range of a temporary that is read last in this cycle
abbrev pub planned_range : Place → ℕ → Option Issue → LiveRange
planned_range d last None = record {
  block = record { 0 = 0 };
  op = record { 0 = d.op };
  instr = None;
  active = false;
  reg = d.reg;
  from
      = 0;
  last = 0;
}
planned_range d last (Some i) = record {
  block = i.block;
  op = record { 0 = d.op };
  instr = i.instr;
  active = i.active;
  reg = d.reg;
  from = i.cycle;
  last = max i.cycle (last - 1);
}

abbrev pub range_at : List Issue → List Read → ℕ → Place → LiveRange
range_at issues reads k d = planned_range d (last_read reads k) (slice_get issues d.op)

abbrev pub planned_schedule : List ExtBlock → List BlockPlan → Schedule
planned_schedule blocks plans =
    let issues = over_plans planned_issues 0 0 blocks plans in
    let reads = over_plans planned_reads 0 0 blocks plans in
    record { issues = issues; reads = reads; ranges = places_from (range_at issues reads) 0 (plan_places 0 blocks plans) }
