-- A small extended function of two blocks, the variables of its model and a solution of it as a schedule and as code, written down
-- by hand from the description of models.
use Rattle.std.specs.Prelude.{ℕ, ℤ, pos, negsuc, ◌≡◌, Bool, true, false, List, [], ◌∷◌, Option, Some, None, codes, map}
use Rattle.std.proofs.Common.{refl}
use Rattle.un_base.specs.declared.ids.NameId.{NameId}
use Rattle.un_base.specs.declared.ids.TempId.{TempId}
use Rattle.un_isa.specs.declared.op.Op.{Op}
use Rattle.un_isa.specs.declared.reg.Reg.{Reg}
use Rattle.un_isa.specs.declared.instr.Instr.{Instr}
use Rattle.un_isa.specs.Hexagon.{HEXAGON}
use Rattle.un_isa.specs.Registers.{callee_saved}
use Rattle.un_domains.specs.declared.domain.Domain.TheVariants.{Range, Set}
use Rattle.un_ir.specs.declared.function.Kind.TheVariants.{General, Pred}
use Rattle.un_ir.specs.declared.function.Term.TheVariants.{Ret}
use Rattle.un_ir.specs.declared.extended.NodeCopy.TheVariants.{D}
use Rattle.un_ir.specs.declared.extended.ExtKind.{ExtKind}
use Rattle.un_ir.specs.declared.extended.ExtKind.TheVariants.{In, Out, Body, End, Copy, Enter, Leave}
use Rattle.un_ir.specs.declared.extended.Operand.{Operand}
use Rattle.un_ir.specs.declared.extended.ExtOp.{ExtOp}
use Rattle.un_ir.specs.declared.extended.ExtBlock.{ExtBlock}
use Rattle.un_model.specs.declared.model.Model.{Model}
use Rattle.un_model.specs.declared.model.TempVars.{TempVars}
use Rattle.un_model.specs.declared.schedule.Issue.{Issue}
use Rattle.un_model.specs.declared.schedule.Read.{Read}
use Rattle.un_model.specs.declared.schedule.LiveRange.{LiveRange}
use Rattle.un_model.specs.Cost.{cost_of}
use Rattle.un_model.specs.Emission.{frame_of, packets_of}
use Rattle.un_model.specs.Registers.{general_registers}
use Rattle.un_model.specs.Schedules.{issues_of, reads_of, schedule_of}
use Rattle.un_model.specs.Solutions.{uses_frame}
use Rattle.un_model.specs.Variables.{model_of}

-- ---- the function: the entry loads at a parameter and hands the word to r5, the other block compares and calls

abbrev pub names : List ℕ → List NameId
names ns = map (λ (n : ℕ). let name : NameId = record { 0 = n } in name) ns

abbrev temps : List ℕ → List TempId
temps ns = map (λ (n : ℕ). let temp : TempId = record { 0 = n } in temp) ns

abbrev pub reads : List ℕ → Option Reg → Operand
reads alternatives home = record { alts = temps alternatives; home = home }

abbrev pub op : ExtKind → List Operand → List ℕ → ExtOp
op kind operands results = record { kind = kind; operands = operands; results = temps results }

abbrev pub source : Op → ℤ → ExtKind
source o imm = Body (record { op = o; dst = None; srcs = []; imm = imm; callee = None })

abbrev r5 : Option Reg
r5 = Some (record { 0 = 5 })

-- temporary 0 is the parameter, 1 the saved value of r16, 2 the copy of the parameter, 3 the loaded word
abbrev entry : ExtBlock
entry = record {
  freq = 10;
  label = codes "e";
  live_in = names (0 ∷ []);
  live_out = [];
  ops =
      op In [] (0 ∷ 1 ∷ [])
      ∷ op (Copy D) (reads (0 ∷ []) None ∷ []) (2 ∷ [])
      ∷ op Enter [] []
      ∷ op (source Op.Load (pos 4)) (reads (0 ∷ 2 ∷ []) None ∷ []) (3 ∷ [])
      ∷ op Leave [] []
      ∷ op (End (Ret None)) (reads (1 ∷ []) None ∷ []) []
      ∷ op Out (reads (3 ∷ 2 ∷ []) r5 ∷ []) [] ∷ [];
  horizon = 8;
}

-- temporary 4 is a truth value at the start, 5 the saved value of r16, 6 the copy of 4, 7 a truth value, 8 a call's result
abbrev later : ExtBlock
later = record {
  freq = 1;
  label = codes "k";
  live_in = names (1 ∷ []);
  live_out = [];
  ops =
      op In [] (4 ∷ 5 ∷ [])
      ∷ op (Copy D) (reads (4 ∷ []) None ∷ []) (6 ∷ [])
      ∷ op (source Op.CmpEqi (pos 1)) [] (7 ∷ [])
      ∷ op (source Op.Call (pos 0)) [] (8 ∷ [])
      ∷ op Out [] [] ∷ [];
  horizon = 4;
}

-- r0 and r1 may be assigned, and there is one slot
abbrev pub model : Model
model =
    model_of (record { table = HEXAGON; names = General ∷ Pred ∷ []; blocks = entry ∷ later ∷ [] })
    (record { regs = Some 2; slots = 1 })

-- ---- its variables

domains : model.domains ≡
    -- the parameter in r0, the saved value in r16
    Set (0 ∷ []) ∷ Set (16 ∷ [])
    -- the copy of a word: instruction, cycle, register
    ∷ Range 0 3 ∷ Range 0 7 ∷ Set (0 ∷ 1 ∷ 36 ∷ [])
    -- Enter
    ∷ Range 0 1 ∷ Range 0 7
    -- the load: cycle, choice, register; r5 is a home of its result
    ∷ Range 1 7 ∷ Range 0 1 ∷ Set (0 ∷ 1 ∷ 5 ∷ [])
    -- Leave
    ∷ Range 0 1 ∷ Range 0 7
    -- the return: cycle, choice; the choice of `out`; the end
    ∷ Range 1 7 ∷ Range 0 0 ∷ Range 0 1 ∷ Range 1 8
    -- a truth value and a saved value at the start of a block that is not the entry
    ∷ Set (0 ∷ 1 ∷ 32 ∷ 33 ∷ 34 ∷ 35 ∷ 36 ∷ []) ∷ Set (0 ∷ 1 ∷ 16 ∷ 36 ∷ [])
    -- the copy of a truth value
    ∷ Range 0 5 ∷ Range 0 3 ∷ Set (0 ∷ 1 ∷ 32 ∷ 33 ∷ 34 ∷ 35 ∷ 36 ∷ [])
    -- the comparison, the call, the end
    ∷ Range 1 3 ∷ Set (32 ∷ 33 ∷ 34 ∷ 35 ∷ []) ∷ Range 1 3 ∷ Set (0 ∷ []) ∷ Range 1 4
    -- the frame flag
    ∷ Range 0 1 ∷ []
unfolding general_registers callee_saved
domains = refl

flag : model.flag ≡ record { 0 = 26 }
flag = refl

-- a temporary: its definer, the value that it carries, its register's variable
abbrev defined : ℕ → ℕ → ℕ → TempVars
defined n value reg = record { op = record { 0 = n }; value = record { 0 = value }; reg = record { 0 = reg } }

temporaries : model.temps ≡
    defined 0 0 0 ∷ defined 0 1 1 ∷ defined 1 0 4 ∷ defined 3 3 9 ∷ defined 7 4 16 ∷ defined 7 5 17 ∷ defined 8 4 20 ∷ defined 9 7 22 ∷
    defined 10 8 24 ∷ []
temporaries = refl

-- ---- values: the parameter is spilled in cycle 2, and the copy of the truth value is inactive

abbrev values : List ℕ
values =
    0 ∷ 16 ∷ 2 ∷ 2 ∷ 36 ∷ 1 ∷ 1 ∷ 1 ∷ 0 ∷ 1 ∷ 1 ∷ 3 ∷ 4 ∷ 0 ∷ 0 ∷ 5 ∷
    33 ∷ 16 ∷ 0 ∷ 0 ∷ 0 ∷ 1 ∷ 32 ∷ 2 ∷ 0 ∷ 3 ∷ 1 ∷ []

-- four cycles ten times, and two cycles once
cost : cost_of model (record { values = values }) ≡ 42
cost = refl

-- ---- the schedule

abbrev issue : ℕ → ℕ → Option Op → Bool → Bool → Bool → ℕ → ℕ → Issue
issue b n instr active frame zero cycle end = record {
  block = record { 0 = b };
  op = record { 0 = n };
  instr = instr;
  active = active;
  frame = frame;
  zero = zero;
  cycle = cycle;
  end = end;
}

issues : issues_of model values ≡
    issue 0 0 None true false true 0 5
    ∷ issue 0 1 (Some Op.Spill) true false false 2 5
    ∷ issue 0 2 (Some Op.Enter) true true false 1 5
    ∷ issue 0 3 (Some Op.Load) true false false 1 5
    ∷ issue 0 4 (Some Op.Leave) true true false 3 5
    ∷ issue 0 5 (Some Op.Jumpr) true false false 4 5
    ∷ issue 0 6 None true false true 5 5
    ∷ issue 1 7 None true false true 0 3
    ∷ issue 1 8 None false false true 0 3
    ∷ issue 1 9 (Some Op.CmpEqi) true false false 1 3
    ∷ issue 1 10 (Some Op.Call) true false false 2 3
    ∷ issue 1 11 None true false true 3 3 ∷ []
issues = refl

abbrev read : ℕ → Option Op → ℕ → ℕ → Option Reg → Read
read user instr temp cycle home = record {
  block = record { 0 = 0 };
  user = record { 0 = user };
  instr = instr;
  operand = 0;
  temp = record { 0 = temp };
  cycle = cycle;
  home = home;
}

-- an inactive operation reads nothing
all_reads : reads_of model values ≡
    read 1 (Some Op.Spill) 0 2 None ∷ read 3 (Some Op.Load) 0 1 None ∷ read 5 (Some Op.Jumpr) 1 4 None ∷ read 6 None 3 5 r5 ∷ []
all_reads = refl

abbrev range : ℕ → ℕ → Option Op → Bool → ℕ → ℕ → ℕ → LiveRange
range b n instr active reg from last = record {
  block = record { 0 = b };
  op = record { 0 = n };
  instr = instr;
  active = active;
  reg = reg;
  from = from;
  last = last;
}

-- up to the cycle before the last read, and at least in the definer's cycle
ranges : (schedule_of model values).ranges ≡
    range 0 0 None true 0 0 1
    ∷ range 0 0 None true 16 0 3
    ∷ range 0 1 (Some Op.Spill) true 36 2 2
    ∷ range 0 3 (Some Op.Load) true 1 1 4
    ∷ range 1 7 None true 33 0 0
    ∷ range 1 7 None true 16 0 0
    ∷ range 1 8 None false 0 0 0
    ∷ range 1 9 (Some Op.CmpEqi) true 32 1 1
    ∷ range 1 10 (Some Op.Call) true 0 2 2 ∷ []
ranges = refl

spills : uses_frame (schedule_of model values) ≡ true
spills = refl

-- ---- the code: slot 0 is the first word of a frame of 8 bytes

frame : frame_of model values ≡ 8
frame = refl

abbrev instr : Op → Option Reg → List ℕ → ℤ → Instr
instr o dst srcs imm = record {
  op = o;
  dst = dst;
  srcs = map (λ (n : ℕ). let reg : Reg = record { 0 = n } in reg) srcs;
  imm = imm;
  label = None;
}

abbrev reg : ℕ → Option Reg
reg n = Some (record { 0 = n })

code : packets_of model values ≡
    ((instr Op.Enter None [] (negsuc 7) ∷ instr Op.Load (reg 1) (0 ∷ []) (pos 4) ∷ [])
    ∷ (instr Op.Spill None (0 ∷ []) (pos 0) ∷ [])
    ∷ (instr Op.Leave None [] (pos 8) ∷ [])
    ∷ (instr Op.Jumpr None (16 ∷ []) (pos 0) ∷ []) ∷ [])
    ∷ ((instr Op.CmpEqi (reg 32) [] (pos 1) ∷ []) ∷ (instr Op.Call None [] (pos 0) ∷ []) ∷ [])
    ∷ []
code = refl
