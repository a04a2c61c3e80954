-- The operations and the temporaries of a model, as propagators name them.
use Rattle.std.specs.Prelude.{ℕ, Bool, true, false, List, [], Option, Some, None, map, slice_get}
use Rattle.std.specs.List.{range_with_len}
use Rattle.un_base.specs.declared.ids.TempId.{TempId}
use Rattle.un_base.specs.declared.ids.VarId.{VarId}
use Rattle.un_isa.specs.declared.op.Op.{Op}
use Rattle.un_isa.specs.declared.reg.Reg.{Reg}
use Rattle.un_ir.specs.declared.extended.ExtKind.{ExtKind}
use Rattle.un_ir.specs.declared.extended.ExtKind.TheVariants.{In, Out}
use Rattle.un_ir.specs.declared.extended.Operand.{Operand}
use Rattle.un_ir.specs.declared.extended.ExtOp.{ExtOp}
use Rattle.un_ir.specs.declared.extended.ExtBlock.{ExtBlock}
use Rattle.un_model.specs.declared.model.Model.{Model}
use Rattle.un_model.specs.declared.model.TempVars.{TempVars}
use Rattle.un_model.specs.declared.model.OpVars.{OpVars}
use Rattle.un_model.specs.declared.model.BlockVars.{BlockVars}
use Rattle.un_model.specs.Instructions.{instruction_of}
use Rattle.un_ir.specs.Kinds.{is_optional}
use Rattle.un_model.specs.Variables.{var_at}
use Rattle.un_model.specs.Pairs.{places_from, pairs_from, over_blocks}
use Rattle.un_prop.specs.declared.act.Act.{Act}
use Rattle.un_prop.specs.declared.act.Act.TheVariants.{Always, Var as ActVar}
use Rattle.un_prop.specs.declared.act.At.{At}
use Rattle.un_prop.specs.declared.act.At.TheVariants.{Const, Var}

-- ---- operations

-- an operation, number `op` of the function, of a block that has this number and this end, with its variables
pub record Place : Type 0 where
  pub block : ℕ
  pub end : VarId
  pub op : ℕ
  pub it : ExtOp
  pub vars : OpVars

-- without a variable for its instruction it is always active
abbrev pub act_by : Option VarId → Act
act_by None = Always
act_by (Some v) = ActVar v

abbrev pub act_of : Place → Act
act_of p = act_by p.vars.instr

-- the values at a block's start are there in cycle 0, and the block ends at its end
abbrev pub time_by : VarId → ExtKind → Option VarId → At
time_by end In cycle = Const 0
time_by end Out cycle = Var end
time_by end _ None = Const 0
time_by end _ (Some v) = Var v

abbrev pub time_of : Place → At
time_of p = time_by p.end p.it.kind p.vars.cycle

-- the numbers of its activity: 1 where it is always active, and else those of its instructions
abbrev pub numbers_by : Bool → List ℕ
numbers_by false = range_with_len 0 2
numbers_by true = range_with_len 0 6

abbrev pub numbers_of : ExtKind → List ℕ
numbers_of kind = numbers_by (is_optional kind)

-- what there is for the instruction of each number of an operation
abbrev pub by_number : {A : Type 0} → (Option Op → A) → ExtKind → List A
by_number f kind = map (λ (n : ℕ). f (instruction_of kind n)) (numbers_of kind)

-- the operations of block b, of which the first has the number n
abbrev pub place_at : ℕ → VarId → ℕ → ExtOp → OpVars → Place
place_at b end n op vars = record { block = b; end = end; op = n; it = op; vars = vars }

abbrev pub block_places : ℕ → ℕ → ExtBlock → BlockVars → List Place
block_places b n block vars = pairs_from (place_at b vars.end) n block.ops vars.ops

abbrev pub places_of : Model → List Place
places_of m = over_blocks block_places 0 0 m.ext.blocks m.blocks

-- ---- temporaries

-- the definer of a temporary, and the variable of its register
pub record Definer : Type 0 where
  pub place : Place
  pub reg : VarId

abbrev pub no_place : Place
no_place = record {
  block = 0;
  end = var_at 0;
  op = 0;
  it = record { kind = In; operands = []; results = [] };
  vars = record { instr = None; cycle = None; choices = [] };
}

abbrev pub definer_by : TempVars → Option Place → Definer
definer_by t None = record { place = no_place; reg = t.reg }
definer_by t (Some p) = record { place = p; reg = t.reg }

abbrev pub definer_of : List Place → TempVars → Definer
definer_of places t = definer_by t (slice_get places t.op.0)

-- those of all temporaries, by the numbers of these
abbrev pub definers_of : Model → List Definer
definers_of m = map (definer_of (places_of m)) m.temps

abbrev pub nowhere : Definer
nowhere = record { place = no_place; reg = var_at 0 }

abbrev pub definer_or : Option Definer → Definer
definer_or None = nowhere
definer_or (Some d) = d

-- those of these temporaries
abbrev pub definers_at : List Definer → List TempId → List Definer
definers_at ds xs = map (λ (x : TempId). definer_or (slice_get ds x.0)) xs

abbrev pub registers_at : List Definer → List TempId → List VarId
registers_at ds xs = map (λ (d : Definer). d.reg) (definers_at ds xs)

-- ---- operands

-- the operand at a place of an operation: the variable of its choice, the definers of its alternatives, and its home
pub record Asked : Type 0 where
  pub user : Place
  pub at : ℕ
  pub choice : Option VarId
  pub alts : List Definer
  pub home : Option Reg

abbrev pub asked : List Definer → Place → ℕ → Operand → Asked
asked ds p j operand = record {
  user = p;
  at = j;
  choice = slice_get p.vars.choices j;
  alts = definers_at ds operand.alts;
  home = operand.home;
}

abbrev pub asked_by : List Definer → Place → List Asked
asked_by ds p = places_from (asked ds p) 0 p.it.operands
