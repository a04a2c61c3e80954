-- The schedule of the values of a plan: what each operation issues and reads, and which registers temporaries occupy, as the
-- plan has it.
use Rattle.std.proofs.Common.{◌≡◌, ℕ, ◌+◌, Bool, true, false, List, [], ◌∷◌, ◌++◌, length, map, Option, Some, None, refl, sym, ap, ◌∙◌}
use Rattle.std.proofs.Common.{arith}
use Rattle.std.specs.Prelude.{◌==◌, ◌&&◌, ◌||◌, is_some, if◌then◌else◌, slice_get}
use Rattle.std.specs.List.{AllZip, list_all}
use Rattle.std.proofs.lemmas.List.{length-append}
use Rattle.un_isa.specs.declared.op.Op.{Op}
use Rattle.un_base.specs.declared.ids.TempId.{TempId}
use Rattle.un_base.specs.declared.ids.VarId.{VarId}
use Rattle.un_ir.specs.declared.extended.ExtKind.{ExtKind}
use Rattle.un_ir.specs.declared.extended.ExtKind.TheVariants.{In, Out, Body, End, Copy, Enter, Leave}
use Rattle.un_ir.specs.declared.extended.Operand.{Operand}
use Rattle.un_ir.specs.declared.extended.ExtOp.{ExtOp}
use Rattle.un_ir.specs.declared.extended.ExtBlock.{ExtBlock}
use Rattle.un_ir.specs.declared.extended.Ext.{Ext}
use Rattle.un_model.specs.declared.model.Options.{Options}
use Rattle.un_model.specs.declared.model.TempVars.{TempVars}
use Rattle.un_model.specs.declared.model.OpVars.{OpVars}
use Rattle.un_model.specs.declared.model.BlockVars.{BlockVars}
use Rattle.un_model.specs.declared.schedule.Issue.{Issue}
use Rattle.un_model.specs.declared.schedule.Read.{Read}
use Rattle.un_model.specs.declared.schedule.LiveRange.{LiveRange}
use Rattle.un_model.specs.declared.schedule.Schedule.{Schedule}
use Rattle.un_model.specs.Cost.{value_of}
use Rattle.un_model.specs.Instructions.{instruction_of}
use Rattle.un_model.specs.Pairs.{places_from, pairs_from, joined, over_blocks}
use Rattle.un_ir.specs.Kinds.{is_delimiter, is_frame_op, is_optional}
use Rattle.un_model.specs.Schedules.{value_by, cycle_by, issue_of, block_issues, chosen, read_of, op_reads}
use Rattle.un_model.specs.Schedules.{reads_at, block_reads, last_read, range_by, range_of, schedule_of}
use Rattle.un_model.specs.Variables.{has_cycle, count_if, chosen_operands, cycle_place, choice_place, register_place}
use Rattle.un_model.specs.Variables.{var_count, var_at, op_vars, ops_vars, ops_count, block_vars, block_count, blocks_vars, blocks_count}
use Rattle.un_model.specs.Variables.{op_temps, ops_temps, blocks_temps, carried, model_of}
use Rattle.un_baseline.specs.Plans.{Step, BlockPlan, value_if, step_values, steps_values, block_values, blocks_values, plan_values, Suits}
use Rattle.un_baseline.specs.Plans.{SuitsBlock, SuitsAll, planned_cycle, planned_issue, planned_issues, planned_read, planned_reads_by}
use Rattle.un_baseline.specs.Plans.{planned_reads, over_plans, Place, place_at, step_places, plan_places, planned_range, range_at}
use Rattle.un_baseline.specs.Plans.{planned_schedule}
use Rattle.un_baseline.proofs.Holding.{Holds, holds_whole, holds_left, holds_right, holds_first, value_there, value_behind, choice_there}
use Rattle.un_baseline.proofs.Holding.{zeros_there}

-- ---- one operation

-- the places of the variables of an operation
pub record Spots (values : List ℕ) (first : ℕ) (op : ExtOp) (s : Step) : Type 0 where
  pub instr : value_by values (op_vars first op).instr ≡ (if is_optional op.kind then s.instr else 0)
  pub cycle : value_by values (op_vars first op).cycle ≡ (if has_cycle op.kind then s.cycle else 0)
  pub choices : Holds values (first + choice_place op) s.choices
  pub registers : Holds values (first + register_place op) s.registers

pub spots : (values : List ℕ) (first : ℕ) (op : ExtOp) (s : Step) → Suits op s → Holds values first (step_values op s)
    → Spots values first op s
spots values first op s fit h =
    let timed = value_if (has_cycle op.kind) s.cycle ++ (s.choices ++ s.registers) in
    let behind_instr = value_behind values first (first + cycle_place op) (is_optional op.kind) s.instr timed refl h in
    let behind_cycle = value_behind values (first + cycle_place op) (first + choice_place op) (has_cycle op.kind) s.cycle
    (s.choices ++ s.registers) (omega arith) behind_instr in
    let c = fit.choices in
    record {
      instr = value_there values first (is_optional op.kind) s.instr timed h;
      cycle = value_there values (first + cycle_place op) (has_cycle op.kind) s.cycle (s.choices ++ s.registers) behind_instr;
      choices = holds_left values (first + choice_place op) s.choices s.registers behind_cycle;
      registers = holds_right values (first + choice_place op) (first + register_place op) s.choices s.registers (omega arith) behind_cycle;
    }

instruction_at : (kind : ExtKind) (n : ℕ) → instruction_of kind (if is_optional kind then n else 0) ≡ instruction_of kind n
instruction_at In n = refl
instruction_at Out n = refl
instruction_at (Body o) n = refl
instruction_at (End term) n = refl
instruction_at (Copy node) n = refl
instruction_at Enter n = refl
instruction_at Leave n = refl

cycle_at : (values : List ℕ) (end : ℕ) (kind : ExtKind) (vars : OpVars) (c : ℕ)
    → value_by values vars.cycle ≡ (if has_cycle kind then c else 0) → cycle_by values end kind vars ≡ planned_cycle end kind c
cycle_at values end In vars c h = refl
cycle_at values end Out vars c h = refl
cycle_at values end (Body o) vars c h = h
cycle_at values end (End term) vars c h = h
cycle_at values end (Copy node) vars c h = h
cycle_at values end Enter vars c h = h
cycle_at values end Leave vars c h = h

abbrev issue_by : ℕ → ℕ → ℕ → ExtOp → Option Op → Bool → ℕ → Issue
issue_by b end n op instr idle cycle = record {
  block = record { 0 = b };
  op = record { 0 = n };
  instr = instr;
  active = is_delimiter op.kind || is_some instr;
  frame = is_frame_op op.kind;
  zero = idle;
  cycle = cycle;
  end = end;
}

pub issue_is : (values : List ℕ) (b end n first : ℕ) (op : ExtOp) (s : Step) → Suits op s → Holds values first (step_values op s)
    → issue_of values b end n op (op_vars first op) ≡ planned_issue b end n op s
issue_is values b end n first op s fit h =
    let at = spots values first op s fit h in
    let vars = op_vars first op in
    let instr : instruction_of op.kind (value_by values vars.instr) ≡ instruction_of op.kind s.instr = ap
    (instruction_of op.kind) at.instr ∙ instruction_at op.kind s.instr in
    let idle : ((value_by values vars.cycle == 0) && list_all (λ (v : VarId). value_of values v == 0) vars.choices) ≡
    (((if has_cycle op.kind then s.cycle else 0) == 0) && list_all (λ (c : ℕ). c == 0) s.choices) =
    ap (λ (c : ℕ). (c == 0) && list_all (λ (v : VarId). value_of values v == 0) vars.choices) at.cycle
    ∙ ap (λ (z : Bool). ((if has_cycle op.kind then s.cycle else 0) == 0) && z) (zeros_there values (first + choice_place op) (length
    (chosen_operands op)) s.choices (sym fit.choices) at.choices) in
    let cycle = cycle_at values end op.kind vars s.cycle at.cycle in
    ap (λ (i : Option Op). issue_by b end n op i ((value_by values vars.cycle == 0) && list_all (λ
    (v : VarId). value_of values v == 0) vars.choices) (cycle_by values end op.kind vars)) instr
    ∙ ap (λ (z : Bool). issue_by b end n op (instruction_of op.kind s.instr) z (cycle_by values end op.kind vars)) idle
    ∙ ap (λ (c : ℕ). issue_by b end n op (instruction_of op.kind s.instr)
    (((if has_cycle op.kind then s.cycle else 0) == 0) && list_all (λ (x : ℕ). x == 0) s.choices) c) cycle

-- ---- reads

places_same : {A B : Type 0} (f g : ℕ → A → B) (k : ℕ) (xs : List A) → ((j : ℕ) (x : A) → f j x ≡ g j x)
    → places_from f k xs ≡ places_from g k xs
places_same f g k [] h = refl
places_same {B = B} f g k (x ∷ xs) h = ap (λ (y : B). y ∷ places_from f (k + 1) xs) (h k x)
    ∙ ap (λ (ys : List B). g k x ∷ ys) (places_same f g (k + 1) xs h)

abbrev read_by : Issue → ℕ → Operand → ℕ → Read
read_by i j operand choice = record {
  block = i.block;
  user = i.op;
  instr = i.instr;
  operand = j;
  temp = chosen operand.alts choice;
  cycle = i.cycle;
  home = operand.home;
}

pub reads_are : (values : List ℕ) (i : Issue) (first : ℕ) (op : ExtOp) (s : Step) → Suits op s → Holds values first (step_values op s)
    → op_reads values i op (op_vars first op) ≡ planned_reads_by i op s
reads_are values i first op s fit h =
    let at = spots values first op s fit h in
    ap (λ (rs : List Read). if i.active then rs else [])
    (places_same (read_of values i (op_vars first op)) (planned_read i s) 0 op.operands (λ j x.
    ap (read_by i j x) (choice_there values (first + choice_place op) (length (chosen_operands op)) s.choices j
    (sym fit.choices) at.choices)))

pub reads_at_are : (values : List ℕ) (b end n first : ℕ) (op : ExtOp) (s : Step) → Suits op s → Holds values first (step_values op s)
    → reads_at values b end n op (op_vars first op) ≡ planned_reads_by (planned_issue b end n op s) op s
reads_at_are values b end n first op s fit h =
    ap (λ (i : Issue). op_reads values i op (op_vars first op)) (issue_is values b end n first op s fit h)
    ∙ reads_are values (planned_issue b end n op s) first op s fit h

-- ---- the operations of a block

-- the number of an operation's variables
pub step_size : (op : ExtOp) (s : Step) → Suits op s → length (step_values op s) ≡ var_count op
step_size op s fit =
    let i = length_if (is_optional op.kind) s.instr in
    let c = length_if (has_cycle op.kind) s.cycle in
    let a = length-append (value_if (is_optional op.kind) s.instr) (value_if (has_cycle op.kind) s.cycle ++ (s.choices ++ s.registers)) in
    let b = length-append (value_if (has_cycle op.kind) s.cycle) (s.choices ++ s.registers) in
    let d = length-append s.choices s.registers in
    let e = fit.choices in
    let g = fit.registers in
    omega arith
  where
    length_if : (b : Bool) (n : ℕ) → length (value_if b n) ≡ count_if b
    length_if true n = refl
    length_if false n = refl

pub steps_size : (ops : List ExtOp) (steps : List Step) → AllZip Suits ops steps → length (steps_values ops steps) ≡ ops_count ops
steps_size [] [] h = refl
steps_size [] (s ∷ steps) h = absurd h
steps_size (op ∷ ops) [] h = absurd h
steps_size (op ∷ ops) (s ∷ steps) h =
    let a = length-append (step_values op s) (steps_values ops steps) in
    let b = step_size op s h.0 in
    let c = steps_size ops steps h.1 in
    omega arith

pub issues_are : (values : List ℕ) (b end n first : ℕ) (ops : List ExtOp) (steps : List Step) → AllZip Suits ops steps
    → Holds values first (steps_values ops steps)
    → pairs_from (issue_of values b end) n ops (ops_vars first ops) ≡ pairs_from (planned_issue b end) n ops steps
issues_are values b end n first [] steps fit h = refl
issues_are values b end n first (op ∷ ops) [] fit h = absurd fit
issues_are values b end n first (op ∷ ops) (s ∷ steps) fit h =
    let size = step_size op s fit.0 in
    ap (λ (i : Issue). i ∷ pairs_from (issue_of values b end) (n + 1) ops (ops_vars (first + var_count op) ops))
    (issue_is values b end n first op s fit.0 (holds_left values first (step_values op s) (steps_values ops steps) h))
    ∙ ap (λ (is : List Issue). planned_issue b end n op s ∷ is) (issues_are values b end (n + 1) (first + var_count op) ops steps fit.1
    (holds_right values first (first + var_count op) (step_values op s) (steps_values ops steps) (omega arith) h))

pub all_reads_are : (values : List ℕ) (b end n first : ℕ) (ops : List ExtOp) (steps : List Step) → AllZip Suits ops steps
    → Holds values first (steps_values ops steps)
    → pairs_from (reads_at values b end) n ops (ops_vars first ops) ≡ pairs_from (λ (k : ℕ) (op : ExtOp) (s : Step). planned_reads_by
    (planned_issue b end k op s) op s) n ops steps
all_reads_are values b end n first [] steps fit h = refl
all_reads_are values b end n first (op ∷ ops) [] fit h = absurd fit
all_reads_are values b end n first (op ∷ ops) (s ∷ steps) fit h =
    let size = step_size op s fit.0 in
    ap (λ (rs : List Read). rs ∷ pairs_from (reads_at values b end) (n + 1) ops (ops_vars (first + var_count op) ops))
    (reads_at_are values b end n first op s fit.0 (holds_left values first (step_values op s) (steps_values ops steps) h))
    ∙ ap (λ (rss : List (List Read)). planned_reads_by (planned_issue b end n op s) op s ∷ rss) (all_reads_are values b end (n + 1)
    (first + var_count op) ops steps fit.1 (holds_right values first (first + var_count op) (step_values op s)
    (steps_values ops steps) (omega arith) h))

-- ---- a block

pub block_size : (block : ExtBlock) (p : BlockPlan) → SuitsBlock block p → length (block_values block p) ≡ block_count block
block_size block p fit =
    let a = length-append (steps_values block.ops p.steps) (p.end ∷ []) in
    let b = steps_size block.ops p.steps fit in
    omega arith

pub end_is : (values : List ℕ) (first : ℕ) (block : ExtBlock) (p : BlockPlan) → SuitsBlock block p
    → Holds values first (block_values block p) → value_of values (block_vars first block).end ≡ p.end
end_is values first block p fit h =
    let size = steps_size block.ops p.steps fit in
    holds_first values (first + ops_count block.ops) p.end [] (holds_right values first (first + ops_count block.ops)
    (steps_values block.ops p.steps) (p.end ∷ []) (omega arith) h)

pub block_issues_are : (values : List ℕ) (b n first : ℕ) (block : ExtBlock) (p : BlockPlan) → SuitsBlock block p
    → Holds values first (block_values block p)
    → block_issues values b n block (block_vars first block) ≡ planned_issues b n block p
block_issues_are values b n first block p fit h =
    ap (λ (end : ℕ). pairs_from (issue_of values b end) n block.ops (ops_vars first block.ops)) (end_is values first block p fit h)
    ∙ issues_are values b p.end n first block.ops p.steps fit (holds_left values first (steps_values block.ops p.steps) (p.end ∷ []) h)

pub block_reads_are : (values : List ℕ) (b n first : ℕ) (block : ExtBlock) (p : BlockPlan) → SuitsBlock block p
    → Holds values first (block_values block p)
    → block_reads values b n block (block_vars first block) ≡ planned_reads b n block p
block_reads_are values b n first block p fit h =
    ap (λ (end : ℕ). joined (pairs_from (reads_at values b end) n block.ops (ops_vars first block.ops))) (end_is values first block p fit h)
    ∙ ap (joined {A = Read}) (all_reads_are values b p.end n first block.ops p.steps fit (holds_left values first
    (steps_values block.ops p.steps) (p.end ∷ []) h))

-- ---- all blocks

over_same : {A : Type 0} (values : List ℕ) (f : ℕ → ℕ → ExtBlock → BlockVars → List A) (g : ℕ → ℕ → ExtBlock → BlockPlan → List A)
    → ((b n first : ℕ) (block : ExtBlock) (p : BlockPlan) → SuitsBlock block p → Holds values first (block_values block p)
    → f b n block (block_vars first block) ≡ g b n block p)
    → (b n first : ℕ) (blocks : List ExtBlock) (plans : List BlockPlan) → SuitsAll blocks plans
    → Holds values first (blocks_values blocks plans)
    → over_blocks f b n blocks (blocks_vars first blocks) ≡ over_plans g b n blocks plans
over_same values f g each b n first [] plans fit h = refl
over_same values f g each b n first (block ∷ blocks) [] fit h = absurd fit
over_same {A} values f g each b n first (block ∷ blocks) (p ∷ plans) fit h =
    let size = block_size block p fit.0 in
    ap (λ (xs : List A). xs ++ over_blocks f (b + 1) (n + length block.ops) blocks (blocks_vars (first + block_count block) blocks))
    (each b n first block p fit.0 (holds_left values first (block_values block p) (blocks_values blocks plans) h))
    ∙ ap (λ (xs : List A). g b n block p ++ xs) (over_same values f g each (b + 1) (n + length block.ops)
    (first + block_count block) blocks plans fit.1 (holds_right values first (first + block_count block) (block_values block p)
    (blocks_values blocks plans) (omega arith) h))

-- ---- temporaries

pub record Matches (values : List ℕ) (t : TempVars) (d : Place) : Type 0 where
  pub op : t.op.0 ≡ d.op
  pub reg : value_of values t.reg ≡ d.reg

AllZip-append : {A B : Type 0} (R : A → B → Type 0) (xs : List A) (ys : List B) (us : List A) (vs : List B) → AllZip R xs ys
    → AllZip R us vs → AllZip R (xs ++ us) (ys ++ vs)
AllZip-append R [] [] us vs h k = k
AllZip-append R [] (y ∷ ys) us vs h k = absurd h
AllZip-append R (x ∷ xs) [] us vs h k = absurd h
AllZip-append R (x ∷ xs) (y ∷ ys) us vs h k = (h.0, AllZip-append R xs ys us vs h.1 k)

op_matches : (values : List ℕ) (n reg : ℕ) (op : ExtOp) (xs : List TempId) (registers : List ℕ) → length registers ≡ length xs
    → Holds values reg registers
    → AllZip (Matches values) (places_from (λ (k : ℕ)
    (x : TempId). record { op = record { 0 = n }; value = carried op x; reg = var_at k }) reg xs) (map (place_at n) registers)
op_matches values n reg op [] [] e h = tt
op_matches values n reg op [] (r ∷ rs) e h = absurd (omega arith)
op_matches values n reg op (x ∷ xs) [] e h = absurd (omega arith)
op_matches values n reg op (x ∷ xs) (r ∷ rs) e h = (
  record { op = refl; reg = holds_first values reg r rs h },
  op_matches values n (reg + 1) op xs rs (omega arith)
      (holds_right values reg (reg + 1) (r ∷ []) rs refl h),
)

ops_match : (values : List ℕ) (n first : ℕ) (ops : List ExtOp) (steps : List Step) → AllZip Suits ops steps
    → Holds values first (steps_values ops steps)
    → AllZip (Matches values) (ops_temps n first ops) (step_places n steps)
ops_match values n first [] [] fit h = tt
ops_match values n first [] (s ∷ steps) fit h = absurd fit
ops_match values n first (op ∷ ops) [] fit h = absurd fit
ops_match values n first (op ∷ ops) (s ∷ steps) fit h =
    let size = step_size op s fit.0 in
    let at = spots values first op s fit.0 (holds_left values first (step_values op s) (steps_values ops steps) h) in
    AllZip-append (Matches values) (op_temps n (first + register_place op) op) (map (place_at n) s.registers) (ops_temps (n + 1)
    (first + var_count op) ops) (step_places (n + 1) steps)
    (op_matches values n (first + register_place op) op op.results s.registers fit.0.registers at.registers)
    (ops_match values (n + 1) (first + var_count op) ops steps fit.1 (holds_right values first (first + var_count op)
    (step_values op s) (steps_values ops steps) (omega arith) h))

temps_match : (values : List ℕ) (n first : ℕ) (blocks : List ExtBlock) (plans : List BlockPlan) → SuitsAll blocks plans
    → Holds values first (blocks_values blocks plans)
    → AllZip (Matches values) (blocks_temps n first blocks) (plan_places n blocks plans)
temps_match values n first [] plans fit h = tt
temps_match values n first (block ∷ blocks) [] fit h = absurd fit
temps_match values n first (block ∷ blocks) (p ∷ plans) fit h =
    let size = block_size block p fit.0 in
    let here = holds_left values first (block_values block p) (blocks_values blocks plans) h in
    AllZip-append (Matches values) (ops_temps n first block.ops) (step_places n p.steps) (blocks_temps (n + length block.ops)
    (first + block_count block) blocks) (plan_places (n + length block.ops) blocks plans)
    (ops_match values n first block.ops p.steps fit.0 (holds_left values first (steps_values block.ops p.steps) (p.end ∷ []) here))
    (temps_match values (n + length block.ops) (first + block_count block) blocks plans fit.1 (holds_right values first
    (first + block_count block) (block_values block p) (blocks_values blocks plans) (omega arith) h))

-- ---- live ranges

same_range : (values : List ℕ) (t : TempVars) (d : Place) (last : ℕ) (i : Option Issue) → t.op.0 ≡ d.op
    → value_of values t.reg ≡ d.reg → range_by values t last i ≡ planned_range d last i
same_range values t d last None op reg = rw (op, reg) refl
same_range values t d last (Some i) op reg = rw (op, reg) refl

ranges_are : (values : List ℕ) (issues : List Issue) (reads : List Read) (k : ℕ) (temps : List TempVars) (places : List Place)
    → AllZip (Matches values) temps places
    → places_from (range_of values issues reads) k temps ≡ places_from (range_at issues reads) k places
ranges_are values issues reads k [] [] h = refl
ranges_are values issues reads k [] (d ∷ ds) h = absurd h
ranges_are values issues reads k (t ∷ ts) [] h = absurd h
ranges_are values issues reads k (t ∷ ts) (d ∷ ds) h =
    ap (λ (r : LiveRange). r ∷ places_from (range_of values issues reads) (k + 1) ts)
    (ap (λ (n : ℕ). range_by values t (last_read reads k) (slice_get issues n)) h.0.op
    ∙ same_range values t d (last_read reads k) (slice_get issues d.op) h.0.op h.0.reg)
    ∙ ap (λ (rs : List LiveRange). range_at issues reads k d ∷ rs) (ranges_are values issues reads (k + 1) ts ds h.1)

-- ---- the schedule

abbrev with_ranges : List ℕ → List TempVars → List Issue → List Read → Schedule
with_ranges values temps issues reads = record {
  issues = issues;
  reads = reads;
  ranges = places_from
      (range_of values issues reads) 0 temps;
}

-- the values of a plan are, as a schedule, what the plan says
pub schedule_of_plan : (e : Ext) (o : Options) (plans : List BlockPlan) (flag : ℕ) → SuitsAll e.blocks plans
    → schedule_of (model_of e o) (plan_values e.blocks plans flag) ≡ planned_schedule e.blocks plans
schedule_of_plan e o plans flag fit =
    let values = plan_values e.blocks plans flag in
    let temps = blocks_temps 0 0 e.blocks in
    let h = holds_left values 0 (blocks_values e.blocks plans) (flag ∷ []) (holds_whole values) in
    let issues = over_same values (block_issues values) planned_issues (block_issues_are values) 0 0 0 e.blocks plans fit h in
    let reads = over_same values (block_reads values) planned_reads (block_reads_are values) 0 0 0 e.blocks plans fit h in
    let is = over_plans planned_issues 0 0 e.blocks plans in
    let rs = over_plans planned_reads 0 0 e.blocks plans in
    ap (λ (x : List Issue). with_ranges values temps x (over_blocks (block_reads values) 0 0 e.blocks (blocks_vars 0 e.blocks))) issues
    ∙ ap (λ (x : List Read). with_ranges values temps is x) reads
    ∙ ap (λ (x : List LiveRange). record { issues = is; reads = rs; ranges = x }) (ranges_are values is rs 0 temps
    (plan_places 0 e.blocks plans) (temps_match values 0 0 e.blocks plans fit h))

-- the frame flag is the last value
pub flag_of_plan : (e : Ext) (o : Options) (plans : List BlockPlan) (flag : ℕ) → SuitsAll e.blocks plans
    → value_of (plan_values e.blocks plans flag) (model_of e o).flag ≡ flag
flag_of_plan e o plans flag fit =
    let values = plan_values e.blocks plans flag in
    let size = all_size e.blocks plans fit in
    holds_first values (blocks_count e.blocks) flag [] (holds_right values 0 (blocks_count e.blocks) (blocks_values e.blocks plans)
    (flag ∷ []) (omega arith) (holds_whole values))
  where
    all_size : (blocks : List ExtBlock) (ps : List BlockPlan) → SuitsAll blocks ps → length (blocks_values blocks ps) ≡ blocks_count blocks
    all_size [] [] h = refl
    all_size [] (p ∷ ps) h = absurd h
    all_size (block ∷ blocks) [] h = absurd h
    all_size (block ∷ blocks) (p ∷ ps) h =
        let a = length-append (block_values block p) (blocks_values blocks ps) in
        let b = block_size block p h.0 in
        let c = all_size blocks ps h.1 in
        omega arith
