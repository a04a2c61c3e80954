-- Schedules that keep and that break each clause of a solution, worked out by hand.
use Rattle.std.specs.Prelude.{ℕ, ◌≡◌, ◌+◌, ◌≤◌, Bool, true, false, List, [], ◌∷◌, Option, Some, None, codes, map, unwrap_or}
use Rattle.std.proofs.Common.{refl, ap, arith, lit<, lit≤, inl, inr}
use Rattle.un_base.specs.declared.ids.TempId.{TempId}
use Rattle.un_isa.specs.declared.op.Op.{Op}
use Rattle.un_isa.specs.declared.op.Op.TheVariants.{Mov, Add, Mpyi, Load, Store, Call, Jump, Spill, Reload, Enter, Leave}
use Rattle.un_isa.specs.declared.reg.Reg.{Reg}
use Rattle.un_isa.specs.declared.reg.Space.TheVariants.{R, M}
use Rattle.un_isa.specs.Hexagon.{HEXAGON}
use Rattle.un_model.specs.declared.model.OpVars.{OpVars}
use Rattle.un_isa.specs.declared.packet_counts.Resource.TheVariants.{Instructions, Memory, Stores, MultiplyOrControl, Control}
use Rattle.un_model.specs.declared.schedule.Issue.{Issue}
use Rattle.un_model.specs.declared.schedule.Read.{Read}
use Rattle.un_model.specs.declared.schedule.LiveRange.{LiveRange}
use Rattle.un_model.specs.declared.schedule.Schedule.{Schedule}
use Rattle.un_base.specs.declared.ids.NameId.{NameId}
use Rattle.un_ir.specs.declared.function.Term.TheVariants.{Ret}
use Rattle.un_ir.specs.declared.extended.ExtKind.{ExtKind}
use Rattle.un_ir.specs.declared.extended.ExtKind.TheVariants.{In, Out, End}
use Rattle.un_ir.specs.declared.extended.Operand.{Operand}
use Rattle.un_ir.specs.declared.extended.ExtOp.{ExtOp}
use Rattle.un_ir.specs.declared.extended.ExtBlock.{ExtBlock}
use Rattle.un_ir.specs.Linear.{place_over}
use Rattle.un_model.specs.Congruences.{IsCongruent, HandsOn, HandsOver, KeepsCongruences}
use Rattle.un_domains.specs.declared.domain.Domain.TheVariants.{Range, Set}
use Rattle.un_model.specs.Schedules.{is_zero, last_read}
use Rattle.un_model.specs.Solutions.{Precedes, InDomain, KeepsZeros, KeepsChoices, KeepsSpaces, KeepsLatencies, latency_gap}
use Rattle.un_model.specs.Solutions.{KeepsMemory, ShareNoCycle, SparesRange, IsSpared, KeepsRegisters, HasRoom, KeepsPackets}
use Rattle.un_model.specs.Solutions.{KeepsHomes, KeepsFrame, uses_frame}

-- ---- schedules in few words: of one block, whose end is 9

abbrev issue : ℕ → Op → ℕ → Issue
issue n op cycle = record {
  block = record { 0 = 0 };
  op = record { 0 = n };
  instr = Some op;
  active = true;
  frame = false;
  zero = false;
  cycle = cycle;
  end = 9;
}

-- an inactive operation, whose cycle and choices are 0 or not
abbrev idle : Bool → Issue
idle zero = record {
  block = record { 0 = 0 };
  op = record { 0 = 0 };
  instr = None;
  active = false;
  frame = false;
  zero = zero;
  cycle = 0;
  end = 9;
}

-- Enter or Leave
abbrev mover : Option Op → Bool → ℕ → Issue
mover instr active cycle = record {
  block = record { 0 = 0 };
  op = record { 0 = 0 };
  instr = instr;
  active = active;
  frame = true;
  zero = false;
  cycle = cycle;
  end = 9;
}

abbrev range : ℕ → Option Op → Bool → ℕ → ℕ → ℕ → LiveRange
range n instr active reg from last = record {
  block = record { 0 = 0 };
  op = record { 0 = n };
  instr = instr;
  active = active;
  reg = reg;
  from = from;
  last = last;
}

-- an operand of temporary 0
abbrev read : Option Op → ℕ → ℕ → Option Reg → Read
read instr operand cycle home = record {
  block = record { 0 = 0 };
  user = record { 0 = 5 };
  instr = instr;
  operand = operand;
  temp = record { 0 = 0 };
  cycle = cycle;
  home = home;
}

abbrev schedule : List Issue → List Read → List LiveRange → Schedule
schedule issues reads ranges = record { issues = issues; reads = reads; ranges = ranges }

-- ---- 1: domains

in_range : InDomain 3 (Range 1 3) × InDomain 36 (Set (0 ∷ 36 ∷ []))
in_range = ((lit≤ tt, lit≤ tt), (1, lit< tt, refl))

over_range : InDomain 4 (Range 1 3) → ⊥
over_range h = omega (arith, h)

under_range : InDomain 0 (Range 1 3) → ⊥
under_range h = omega (arith, h)

-- ---- 2: an inactive operation has 0 for its cycle, its choices and its register

abbrev vars : OpVars
vars = record { instr = None; cycle = Some (record { 0 = 0 }); choices = record { 0 = 1 } ∷ record { 0 = 2 } ∷ [] }

zeros : is_zero (0 ∷ 0 ∷ 0 ∷ []) vars ∷ is_zero (4 ∷ 0 ∷ 0 ∷ []) vars ∷ is_zero (0 ∷ 0 ∷ 1 ∷ []) vars ∷ [] ≡ true ∷ false ∷ false ∷ []
zeros = refl

no : {b : Bool} → b ≡ true → b ≡ false → ⊥
no h e = cc (h, e)

with_cycle : KeepsZeros (schedule (idle false ∷ []) [] []) → ⊥
with_cycle h = elim (h.0 0 (idle false) (lit< tt)) [ inl e ↦ no e refl | inr e ↦ no e refl ]

abbrev idle_range : LiveRange
idle_range = range 0 None false 5 0 0

with_register : KeepsZeros (schedule [] [] (idle_range ∷ [])) → ⊥
with_register h = elim (h.1 0 idle_range (lit< tt)) [ inl e ↦ no e refl | inr e ↦ omega (arith, e) ]

-- ---- 3: what is read is active

inactive : KeepsChoices (schedule [] (read (Some Add) 0 3 None ∷ []) (range 0 None false 0 0 0 ∷ [])) → ⊥
inactive h = no (h 0 (read None 0 0 None) (lit< tt)) refl

-- ---- 4: registers lie in the spaces of the instructions

abbrev in_slot : LiveRange
in_slot = range 0 None true 36 0 4

adds_a_slot : KeepsSpaces (schedule [] (read (Some Add) 0 3 None ∷ []) (in_slot ∷ [])) → ⊥
adds_a_slot h = let same : M ≡ R = h.0 0 (read None 0 0 None) (lit< tt) in cc same

reloads_a_register : KeepsSpaces (schedule [] (read (Some Reload) 0 3 None ∷ []) (range 0 None true 4 0 4 ∷ [])) → ⊥
reloads_a_register h = let same : R ≡ M = h.0 0 (read None 0 0 None) (lit< tt) in cc same

spills_to_a_register : KeepsSpaces (schedule [] [] (range 0 (Some Spill) true 4 0 4 ∷ [])) → ⊥
spills_to_a_register h = let same : R ≡ M = h.1 0 in_slot (lit< tt) in cc same

-- ---- 5: places in a block, and waits

in_cycle_0 : KeepsLatencies (latency_gap HEXAGON) (schedule (issue 0 Add 0 ∷ []) [] []) → ⊥
in_cycle_0 h = omega (arith, h.0 0 (issue 0 Add 0) (lit< tt))

at_the_end : KeepsLatencies (latency_gap HEXAGON) (schedule (issue 0 Add 9 ∷ []) [] []) → ⊥
at_the_end h = omega (arith, h.0 0 (issue 0 Add 0) (lit< tt))

early_jump : KeepsLatencies (latency_gap HEXAGON) (schedule (issue 0 Jump 7 ∷ []) [] []) → ⊥
early_jump h = omega (arith, h.0 0 (issue 0 Add 0) (lit< tt))

-- a load in cycle 1 is read in cycle 3 and not in cycle 2
abbrev loaded : LiveRange
loaded = range 0 (Some Load) true 4 1 2

late : KeepsLatencies (latency_gap HEXAGON) (schedule [] (read (Some Add) 0 3 None ∷ []) (loaded ∷ [])) → 3 ≤ 3
late h = h.1 0 (read None 0 0 None) (lit< tt) refl

early : KeepsLatencies (latency_gap HEXAGON) (schedule [] (read (Some Add) 0 2 None ∷ []) (loaded ∷ [])) → ⊥
early h = let gap : 3 ≤ 2 = h.1 0 (read None 0 0 None) (lit< tt) refl in omega (arith, gap)

-- ---- 6: memory

store_with_load : KeepsMemory (schedule (issue 0 Store 2 ∷ issue 1 Load 2 ∷ []) [] []) → ⊥
unfolding Precedes
store_with_load h = let later : 3 ≤ 2 = h 0 1 (idle true) (lit< tt) (lit< tt) refl in omega (arith, later)

load_after_store : KeepsMemory (schedule (issue 0 Load 3 ∷ issue 1 Store 2 ∷ []) [] []) → ⊥
unfolding Precedes
load_after_store h = let later : 3 + 0 ≤ 2 = h 0 1 (idle true) (lit< tt) (lit< tt) refl in omega (arith, later)

-- ---- 7: registers

-- r4 from cycle 1 to cycle 2, and from cycle 2 on
shared : KeepsRegisters HEXAGON.clobbered (schedule [] [] (range 0 None true 4 1 2 ∷ range 1 None true 4 2 3 ∷ [])) → ⊥
unfolding ShareNoCycle
shared h = h.0 0 1 in_slot (lit< tt) (lit< tt) refl refl refl refl 2 (lit≤ tt, lit≤ tt) (lit≤ tt, lit≤ tt)

-- r4 over a call in cycle 2
clobbered : KeepsRegisters HEXAGON.clobbered (schedule (issue 7 Call 2 ∷ []) [] (range 0 None true 4 1 2 ∷ [])) → ⊥
unfolding SparesRange IsSpared
clobbered h = let own : 7 ≡ 0 = h.1 0 in_slot (lit< tt) 0 (idle true) (lit< tt) refl refl refl refl (lit≤ tt, lit≤ tt) in omega (arith, own)

-- ---- 8: packets

abbrev two_stores : Schedule
two_stores = schedule (issue 0 Store 2 ∷ issue 1 Spill 2 ∷ []) [] []

stores : KeepsPackets HEXAGON two_stores → ⊥
unfolding HasRoom
stores h = let few : 2 ≤ 1 = h 0 2 Stores in omega (arith, few)

loads : KeepsPackets HEXAGON (schedule (issue 0 Load 2 ∷ issue 1 Reload 2 ∷ issue 2 Store 2 ∷ []) [] []) → ⊥
unfolding HasRoom
loads h = let few : 3 ≤ 2 = h 0 2 Memory in omega (arith, few)

products : KeepsPackets HEXAGON (schedule (issue 0 Mpyi 2 ∷ issue 1 Mpyi 2 ∷ issue 2 Call 2 ∷ []) [] []) → ⊥
unfolding HasRoom
products h = let few : 3 ≤ 2 = h 0 2 MultiplyOrControl in omega (arith, few)

transfers : KeepsPackets HEXAGON (schedule (issue 0 Jump 2 ∷ issue 1 Call 2 ∷ []) [] []) → ⊥
unfolding HasRoom
transfers h = let few : 2 ≤ 1 = h 0 2 Control in omega (arith, few)

five : KeepsPackets HEXAGON (schedule (issue 0 Add 2 ∷ issue 1 Add 2 ∷ issue 2 Add 2 ∷ issue 3 Add 2 ∷ issue 4 Enter 2 ∷ []) [] []) → ⊥
unfolding HasRoom
five h = let few : 5 ≤ 4 = h 0 2 Instructions in omega (arith, few)

-- ---- 9: homes

away : KeepsHomes (schedule [] (read (Some Call) 0 3 (Some (record { 0 = 0 })) ∷ []) (range 0 None true 4 0 4 ∷ [])) → ⊥
away h = let same : 4 ≡ 0 = h 0 (read None 0 0 None) (lit< tt) in omega (arith, same)

-- ---- 9: congruences: block 0 falls through to block 1, and name 0 is handed over

abbrev names : List ℕ → List NameId
names ns = map (λ (n : ℕ). let name : NameId = record { 0 = n } in name) ns

abbrev op : ExtKind → List ℕ → List ℕ → ExtOp
op kind operands results = record {
  kind = kind;
  operands = map (λ (n : ℕ). let operand : Operand = record { alts = record { 0 = n } ∷ []; home = None } in operand) operands;
  results = map (λ (n : ℕ). let temp : TempId = record { 0 = n } in temp) results;
}

abbrev from : ExtBlock
from = record {
  freq = 1;
  label = codes "a";
  live_in = [];
  live_out = names (0 ∷ []);
  ops = op In [] (0 ∷ []) ∷ op Out (0 ∷ []) [] ∷ [];
  horizon = 8;
}

abbrev to : ExtBlock
to = record {
  freq = 1;
  label = codes "b";
  live_in = names (0 ∷ []);
  live_out = [];
  ops = op In [] (1 ∷ []) ∷ op (End (Ret None)) [] [] ∷ [];
  horizon = 8;
}

-- temporary 0 is in this register, and temporary 1 in r5
abbrev handed_in : ℕ → Schedule
handed_in reg = schedule [] (read None 0 9 None ∷ []) (range 0 None true reg 0 8 ∷ range 9 None true 5 0 0 ∷ [])

handed : (j : ℕ) → j ≡ 0 → IsCongruent (handed_in 5) 0 from to j (record { 0 = 1 })
handed j e = rw e refl

moved : KeepsCongruences (from ∷ to ∷ []) (handed_in 4) → ⊥
unfolding HandsOn HandsOver
moved h =
    let same : Some 4 ≡ Some 5 = h 0 from refl 1 to (0, lit< tt, refl) refl 0 (record { 0 = 1 }) refl in
    let registers : 4 ≡ 5 = ap (λ (o : Option ℕ). unwrap_or o 0) same in
    omega (arith, registers)

-- by name, and by order behind the names
over : map (place_over (record from { live_out = names (3 ∷ 0 ∷ []) }) to) (0 ∷ 1 ∷ 13 ∷ []) ≡ 1 ∷ 2 ∷ 14 ∷ []
over = refl

-- ---- 10: the frame

-- a Spill, a Reload, or a value at a block's start in a slot uses it; a value of an operation in a slot does not
uses : uses_frame (schedule (issue 0 Spill 2 ∷ []) [] []) ∷ uses_frame (schedule (issue 0 Reload 2 ∷ []) [] [])
    ∷ uses_frame (schedule [] [] (in_slot ∷ []))
    ∷ uses_frame (schedule (issue 0 Load 2 ∷ []) [] (range 0 (Some Mov) true 36 1 2 ∷ range 0 None false 36 0 0 ∷ []))
    ∷ [] ≡ true ∷ true ∷ true ∷ false ∷ []
uses = refl

flag_without_use : KeepsFrame 1 (schedule [] [] []) → ⊥
flag_without_use h = no (h.needed refl) refl

use_without_flag : KeepsFrame 0 (schedule (issue 0 Spill 2 ∷ []) [] []) → ⊥
use_without_flag h = let one : 0 ≡ 1 = h.used refl in omega (arith, one)

enters_without_flag : KeepsFrame 0 (schedule (mover (Some Enter) true 1 ∷ []) [] []) → ⊥
enters_without_flag h = no refl (h.without refl 0 (idle true) (lit< tt) refl)

flag_without_leave : KeepsFrame 1 (schedule (issue 0 Spill 2 ∷ mover None false 0 ∷ []) [] []) → ⊥
flag_without_leave h = no (h.with_frame refl 1 (idle true) (lit< tt) refl) refl

spills_before_enter : KeepsFrame 1 (schedule (issue 0 Spill 1 ∷ mover (Some Enter) true 1 ∷ []) [] []) → ⊥
unfolding Precedes
spills_before_enter h = let later : 2 ≤ 1 = h.ordered refl 1 (idle true) (lit< tt) 0 (idle true) (lit< tt) refl in omega (arith, later)

reloads_after_leave : KeepsFrame 1 (schedule (issue 0 Reload 4 ∷ mover (Some Leave) true 3 ∷ []) [] []) → ⊥
unfolding Precedes
reloads_after_leave h = let later : 4 + 0 ≤ 3 = h.ordered refl 0 (idle true) (lit< tt) 1 (idle true) (lit< tt) refl in omega (arith, later)

-- ---- the last read

last : last_read (read None 0 3 None ∷ read None 0 7 None ∷ read None 0 5 None ∷ []) 0 ∷ last_read (read None 0 3 None ∷ []) 1 ∷ []
    ≡ 7 ∷ 0 ∷ []
last = refl
