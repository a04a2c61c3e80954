-- The list of what is posted for a model, under a limit on the cost or none.
use Rattle.std.specs.Prelude.{ℕ, ◌+◌, ◌==◌, Bool, true, false, List, [], ◌∷◌, ◌++◌, Option, Some, None, map, filter, slice_get, slice_index}
use Rattle.std.specs.List.{range_with_len}
use Rattle.std.specs.Option.{option_to_list}
use Rattle.un_base.specs.declared.ids.TempId.{TempId}
use Rattle.un_base.specs.declared.ids.VarId.{VarId}
use Rattle.un_isa.specs.declared.op.Op.{Op}
use Rattle.un_isa.specs.declared.op.Op.TheVariants.{Call}
use Rattle.un_isa.specs.declared.reg.Reg.{Reg}
use Rattle.un_isa.specs.declared.reg.Space.{Space}
use Rattle.un_isa.specs.declared.reg.Space.TheVariants.{R, P, M}
use Rattle.un_isa.specs.declared.reg.TheConstants.{GENERALS, FIRST_SLOT}
use Rattle.un_isa.specs.declared.table.Table.{Table}
use Rattle.un_ir.specs.Kinds.{is_call_kind}
use Rattle.un_ir.specs.declared.function.Term.TheVariants.{Fall}
use Rattle.un_ir.specs.declared.extended.TheConstants.{SPILL, RELOAD}
use Rattle.un_ir.specs.declared.extended.ExtKind.{ExtKind}
use Rattle.un_ir.specs.declared.extended.ExtKind.TheVariants.{Out, End, Copy}
use Rattle.un_ir.specs.declared.extended.Operand.{Operand}
use Rattle.un_ir.specs.declared.extended.ExtBlock.{ExtBlock}
use Rattle.un_ir.specs.Extended.{is_copy, is_enter, is_leave}
use Rattle.un_ir.specs.Linear.{is_in}
use Rattle.un_ir.specs.Live.{targets_of}
use Rattle.un_model.specs.declared.model.Model.{Model}
use Rattle.un_model.specs.declared.model.BlockVars.{BlockVars}
use Rattle.un_model.specs.Arcs.{own_instr}
use Rattle.un_ir.specs.Linear.{place_over}
use Rattle.un_model.specs.Congruences.{term_of, live_in_temps}
use Rattle.un_model.specs.Instructions.{space_read, space_given}
use Rattle.un_model.specs.Pairs.{places_from, joined, over_blocks}
use Rattle.un_model.specs.Registers.{predicate_registers, slots_of}
use Rattle.un_model.specs.Solutions.{latency_gap}
use Rattle.un_model.specs.Variables.{var_at}
use Rattle.un_prop.specs.declared.act.Act.{Act}
use Rattle.un_prop.specs.declared.act.Act.TheVariants.{Always}
use Rattle.un_prop.specs.declared.act.At.TheVariants.{Const, Var}
use Rattle.un_prec.specs.declared.reads.ReadAlt.{ReadAlt}
use Rattle.un_prec.specs.declared.below.Weighted.{Weighted}
use Rattle.un_alt.specs.declared.frame.FrameOp.{FrameOp}
use Rattle.un_alt.specs.declared.frame.FrameUse.{FrameUse}
use Rattle.un_alt.specs.declared.frame.FrameLeave.{FrameLeave}
use Rattle.un_sites.specs.Places.{Place, Definer, Asked, act_of, time_of, by_number, block_places, places_of, definers_of, definer_or}
use Rattle.un_sites.specs.Places.{registers_at, asked_by, no_place}
use Rattle.un_kinds.specs.Constraints.{Constraint, Before, Reads, Inside, Last, Below, Chosen, Zeros, Spaces, Same, Home, Frame}

-- ---- what is posted of each operation, and of each operand

-- one operation after another
abbrev pub over_places : (Place → List Constraint) → Model → List Constraint
over_places f m = joined (map f (places_of m))

-- one operand after another
abbrev pub over_operands : (Asked → List Constraint) → Model → List Constraint
over_operands f m = over_places (λ (p : Place). joined (map f (asked_by (definers_of m) p))) m

-- ---- an operation's own variables

-- an operation that is not active has only zeros; an end that falls through is never active
abbrev pub zeros_by : ExtKind → Option VarId → Option VarId → List VarId → List Constraint
zeros_by (End Fall) instr (Some at) others = Before (Var at) Always (Const 0) Always 0 ∷ []
zeros_by kind (Some instr) cycle others = Zeros instr (option_to_list cycle ++ others) ∷ []
zeros_by kind None cycle others = []

abbrev pub zeros_of : List Definer → Place → List Constraint
zeros_of ds p = zeros_by p.it.kind p.vars.instr p.vars.cycle (p.vars.choices ++ registers_at ds p.it.results)

-- a terminator issues in the block's last cycle, each other operation within the block
abbrev pub issue_by : ExtKind → Act → VarId → Option VarId → List Constraint
issue_by kind on end None = []
issue_by (End Fall) on end (Some at) = []
issue_by (End term) on end (Some at) = Last at end ∷ []
issue_by kind on end (Some at) = Inside at on end ∷ []

abbrev pub issues_in : Place → List Constraint
issues_in p = issue_by p.it.kind (act_of p) p.end p.vars.cycle

-- ---- operands

-- an operand chooses an active temporary
abbrev pub chosen_by : Act → Option VarId → List Definer → List Constraint
chosen_by on None alts = []
chosen_by on (Some choice) alts = Chosen on choice (map (λ (d : Definer). act_of d.place) alts) ∷ []

abbrev pub chosen_of : Asked → List Constraint
chosen_of a = chosen_by (act_of a.user) a.choice a.alts

-- how long a user waits for a definer, by the definer's numbers; every number of a user waits alike
abbrev pub gaps_of : Table → Place → Definer → List ℕ
gaps_of t user d = by_number (λ (instr : Option Op). latency_gap t instr (own_instr user.it)) d.place.it.kind

abbrev pub read_alt : Table → Place → Definer → ReadAlt
read_alt t user d = record { at = time_of d.place; on = act_of d.place; gaps = gaps_of t user d }

-- the operand of a copy d reads its value, which is always active: a precedence by the gap after the value
abbrev pub lone_read : Table → Place → Definer → Constraint
lone_read t p d = Before (time_of d.place) (act_of d.place) (time_of p) (act_of p) (slice_index (gaps_of t p d) 1)

-- an operand waits for what it chooses
abbrev pub waits_by : Table → Place → Option VarId → List Definer → List Constraint
waits_by t p None alts = map (lone_read t p) alts
waits_by t p (Some choice) alts = Reads (time_of p) (act_of p) choice (map (read_alt t p) alts) ∷ []

abbrev pub waits_of : Table → Asked → List Constraint
waits_of t a = waits_by t a.user a.choice a.alts

-- the registers of a space of a machine with k slots; where no space is asked for, all of them
abbrev pub registers_in : ℕ → Option Space → List ℕ
registers_in k None = range_with_len 0 (FIRST_SLOT + k)
registers_in k (Some R) = range_with_len 0 GENERALS
registers_in k (Some P) = predicate_registers
registers_in k (Some M) = slots_of k

-- the registers that each number of an operation lets its operand at place j have
abbrev pub operand_sets : ℕ → ExtKind → ℕ → List (List ℕ)
operand_sets k kind j = by_number (λ (instr : Option Op). registers_in k (space_read instr j)) kind

abbrev pub registers_of : List Definer → List VarId
registers_of alts = map (λ (d : Definer). d.reg) alts

-- an operand lies in the space of the operation's instruction, but at a block's end in any
abbrev pub space_by : ℕ → ExtKind → Act → ℕ → Option VarId → List VarId → List Constraint
space_by k Out on j choice regs = []
space_by k kind on j choice regs = Spaces on choice regs (operand_sets k kind j) ∷ []

abbrev pub spaces_of : ℕ → Asked → List Constraint
spaces_of k a = space_by k a.user.it.kind (act_of a.user) a.at a.choice (registers_of a.alts)

abbrev pub home_by : Option VarId → List VarId → Option Reg → List Constraint
home_by choice regs None = []
home_by choice regs (Some home) = Home choice regs home.0 ∷ []

abbrev pub homes_of : Asked → List Constraint
homes_of a = home_by a.choice (registers_of a.alts) a.home

abbrev pub of_operand : Table → ℕ → Asked → List Constraint
of_operand t k a = chosen_of a ++ (waits_of t a ++ (spaces_of k a ++ homes_of a))

-- ---- results

-- the registers that each number of an operation lets its result have
abbrev pub result_sets : ℕ → ExtKind → List (List ℕ)
result_sets k kind = by_number (λ (instr : Option Op). registers_in k (space_given instr)) kind

-- a copy's result lies in the space of its instruction; what the source defines has a domain in its space
abbrev pub result_by : ℕ → ExtKind → Act → List VarId → List Constraint
result_by k (Copy node) on regs = map (λ (r : VarId). Spaces on None (r ∷ []) (result_sets k (Copy node))) regs
result_by k kind on regs = []

abbrev pub results_in : ℕ → List Definer → Place → List Constraint
results_in k ds p = result_by k p.it.kind (act_of p) (registers_at ds p.it.results)

-- ---- all of an operation

abbrev pub of_place : Table → ℕ → List Definer → Place → List Constraint
of_place t k ds p = zeros_of ds p ++ (issues_in p ++ (joined (map (of_operand t k) (asked_by ds p)) ++ results_in k ds p))

-- ---- congruences

-- the operation at a block's end
abbrev pub last_place : List Place → Place
last_place [] = no_place
last_place (p ∷ []) = p
last_place (p ∷ q ∷ ps) = last_place (q ∷ ps)

abbrev pub same_by : List Definer → TempId → Option Operand → Option VarId → List Constraint
same_by ds x None choice = []
same_by ds x (Some operand) None = []
same_by ds x (Some operand) (Some c) = Same c (registers_at ds operand.alts) (definer_or (slice_get ds x.0)).reg ∷ []

-- the value at place j of those that block b takes has the register of what the end of block a hands over for it
abbrev pub congruence : List Definer → Place → ExtBlock → ExtBlock → ℕ → TempId → List Constraint
congruence ds out a b j x = same_by ds x (slice_get out.it.operands (place_over a b j)) (slice_get out.vars.choices (place_over a b j))

abbrev pub over_edge : List Definer → Place → ExtBlock → Option ExtBlock → List Constraint
over_edge ds out a None = []
over_edge ds out a (Some b) = joined (places_from (congruence ds out a b) 0 (live_in_temps b.ops))

abbrev pub edges_of : List ExtBlock → List Definer → ℕ → ℕ → ExtBlock → BlockVars → List Constraint
edges_of blocks ds k n a vars =
    joined (map (λ (l : ℕ). over_edge ds (last_place (block_places k n a vars)) a (slice_get blocks l)) (targets_of k (term_of a.ops)))

-- ---- the frame

abbrev pub with_kind : (ExtKind → Bool) → List Place → List Place
with_kind is ps = filter (λ (p : Place). is p.it.kind) ps

abbrev pub var_or : Option VarId → VarId
var_or None = var_at 0
var_or (Some v) = v

abbrev pub instr_var : Place → VarId
instr_var p = var_or p.vars.instr

abbrev pub cycle_var : Place → VarId
cycle_var p = var_or p.vars.cycle

abbrev pub frame_op : Place → FrameOp
frame_op p = record { instr = instr_var p; at = cycle_var p }

-- a copy that is a Spill or a Reload; a Call, and a Leave, that is active
abbrev pub copy_use : Place → FrameUse
copy_use p = record { instr = act_of p; least = SPILL; most = RELOAD; at = cycle_var p }

abbrev pub single_use : Place → FrameUse
single_use p = record { instr = act_of p; least = 1; most = 1; at = cycle_var p }

abbrev pub uses_of : List Place → List FrameUse
uses_of ps = map copy_use (with_kind is_copy ps) ++ (map single_use (with_kind is_call_kind ps) ++
    map single_use (with_kind is_leave ps))

abbrev pub leave_of : List Place → Place → FrameLeave
leave_of ps p = record {
  leave = frame_op p;
  copies = map copy_use (with_kind is_copy ps);
  calls = map cycle_var (with_kind is_call_kind ps);
}

abbrev pub leaves_in : ℕ → ℕ → ExtBlock → BlockVars → List FrameLeave
leaves_in b n block vars = let ps : List Place = block_places b n block vars in map (leave_of ps) (with_kind is_leave ps)

abbrev pub in_entry : List Place → List Place
in_entry ps = filter (λ (p : Place). p.block == 0) ps

abbrev pub frame_by : Model → List Definer → List Place → Place → Constraint
frame_by m ds ps enter = Frame true m.flag (map instr_var (with_kind is_copy ps))
    (joined (map (λ (p : Place). registers_at ds p.it.results) (with_kind is_in ps))) (Some (frame_op enter)) (uses_of (in_entry ps))
    (over_blocks leaves_in 0 0 m.ext.blocks m.blocks)

abbrev pub frame_of : Model → List Definer → List Place → List Constraint
frame_of m ds ps = map (frame_by m ds ps) (with_kind is_enter ps)

-- the Enter among these operations, where there is one
abbrev pub enter_among : List Place → Option FrameOp
enter_among [] = None
enter_among (p ∷ ps) = Some (frame_op p)

-- the frame in a block with these operations: its flag may be set for a use in another block
abbrev pub part_frame : Model → List Definer → List Place → Constraint
part_frame m ds ps = Frame false m.flag (map instr_var (with_kind is_copy ps))
    (joined (map (λ (p : Place). registers_at ds p.it.results) (with_kind is_in ps))) (enter_among (with_kind is_enter ps)) (uses_of ps)
    (map (leave_of ps) (with_kind is_leave ps))

-- ---- the cost

abbrev pub weighted : ExtBlock → BlockVars → Weighted
weighted block vars = record { end = vars.end; freq = block.freq }

abbrev pub ends_by : List ExtBlock → List BlockVars → List Weighted
ends_by [] vars = []
ends_by (block ∷ blocks) [] = []
ends_by (block ∷ blocks) (vars ∷ more) = weighted block vars ∷ ends_by blocks more

abbrev pub limit_of : Model → Option ℕ → List Constraint
limit_of m None = []
limit_of m (Some limit) = Below (ends_by m.ext.blocks m.blocks) limit ∷ []

-- a limit on the cost of one block
abbrev pub part_limit : ExtBlock → BlockVars → Option ℕ → List Constraint
part_limit block vars None = []
part_limit block vars (Some limit) = Below (weighted block vars ∷ []) limit ∷ []

-- ---- all of a model, under a limit or none

abbrev pub postings_of : Model → Option ℕ → List Constraint
postings_of m limit = let ds : List Definer = definers_of m in
    over_places (of_place m.ext.table m.options.slots ds) m ++ (over_blocks (edges_of m.ext.blocks ds) 0 0 m.ext.blocks m.blocks ++
    (frame_of m ds (places_of m) ++ limit_of m limit))
