-- The words of step logs: the operations of a model by their numbers, and what a box leaves to them. A box is a set of values for each
-- variable.
use Rattle.std.specs.Prelude.{ℕ, ◌≡◌, ◌+◌, ◌==◌, nat_lt, not, Bool, true, false, if◌then◌else◌, List, [], ◌∷◌, ◌++◌, Option, Some}
use Rattle.std.specs.Prelude.{None, map, length, filter, slice_get}
use Rattle.std.specs.List.{flat_map}
use Rattle.std.specs.Option.{option_to_list}
use Rattle.un_base.specs.declared.ids.VarId.{VarId}
use Rattle.un_base.specs.declared.ids.TempId.{TempId}
use Rattle.un_ir.specs.declared.extended.ExtKind.{ExtKind}
use Rattle.un_ir.specs.declared.extended.ExtKind.TheVariants.{In, Out}
use Rattle.un_ir.specs.declared.extended.Operand.{Operand}
use Rattle.un_ir.specs.declared.extended.ExtOp.{ExtOp}
use Rattle.un_ir.specs.declared.extended.ExtBlock.{ExtBlock}
use Rattle.un_domains.specs.Sets.{Sets, set_at, has, least, greatest}
use Rattle.un_model.specs.declared.model.Model.{Model}
use Rattle.un_model.specs.declared.model.TempVars.{TempVars}
use Rattle.un_model.specs.declared.model.OpVars.{OpVars}
use Rattle.un_model.specs.declared.model.BlockVars.{BlockVars}
use Rattle.un_model.specs.Instructions.{instruction_of}
use Rattle.un_model.specs.Pairs.{pairs_from}
use Rattle.un_model.specs.Solutions.{latency_gap}

-- ---- the least and the greatest value, where there is a value

abbrev pub least_of : List ℕ → Option ℕ
least_of xs = if length xs == 0 then None else Some (least xs)

abbrev pub greatest_of : List ℕ → Option ℕ
greatest_of xs = if length xs == 0 then None else Some (greatest xs)

-- ---- operations

-- an operation of a block, which has this number and whose end has this variable, with its own variables
pub record Operation : Type 0 where
  pub block : ℕ
  pub owner : ExtBlock
  pub end : VarId
  pub op : ExtOp
  pub vars : OpVars

abbrev pub operation : ℕ → ExtBlock → VarId → ℕ → ExtOp → OpVars → Operation
operation b owner end n op vars = record { block = b; owner = owner; end = end; op = op; vars = vars }

-- those of block b
abbrev pub block_operations : ℕ → ExtBlock → BlockVars → List Operation
block_operations b block vars = pairs_from (operation b block vars.end) 0 block.ops vars.ops

-- those of blocks, of which the first has the number b
abbrev pub operations_from : ℕ → List ExtBlock → List BlockVars → List Operation
operations_from b [] vars = []
operations_from b (block ∷ blocks) [] = []
operations_from b (block ∷ blocks) (vars ∷ more) = block_operations b block vars ++ operations_from (b + 1) blocks more

-- the operations of a model, by their numbers
abbrev pub operations_of : Model → List Operation
operations_of m = operations_from 0 m.ext.blocks m.blocks

abbrev pub operation_at : Model → ℕ → Option Operation
operation_at m n = slice_get (operations_of m) n

abbrev pub operations_by : ℕ → Option ExtBlock → Option BlockVars → List Operation
operations_by b (Some block) (Some vars) = block_operations b block vars
operations_by b (Some block) None = []
operations_by b None vars = []

-- those of the block with the number b
abbrev pub operations_in : Model → ℕ → List Operation
operations_in m b = operations_by b (slice_get m.ext.blocks b) (slice_get m.blocks b)

-- ---- temporaries

-- the values that are left to a register
abbrev pub regs_by : Sets → Option TempVars → List ℕ
regs_by s None = []
regs_by s (Some t) = set_at s t.reg.0

-- those of a temporary's register
abbrev pub regs : Model → Sets → TempId → List ℕ
regs m s x = regs_by s (slice_get m.temps x.0)

abbrev pub definer_by : Model → Option TempVars → Option Operation
definer_by m None = None
definer_by m (Some t) = operation_at m t.op.0

-- the operation that defines a temporary
abbrev pub definer_of : Model → TempId → Option Operation
definer_of m x = definer_by m (slice_get m.temps x.0)

-- ---- variables of an operation

-- variable v is this one, where there is one
abbrev pub IsVar : Option VarId → ℕ → Type 0
IsVar None v = ⊥
IsVar (Some w) v = w.0 ≡ v

abbrev pub number_of : VarId → ℕ
number_of v = v.0

abbrev pub reg_numbers : Option TempVars → List ℕ
reg_numbers None = []
reg_numbers (Some t) = t.reg.0 ∷ []

-- the variables of the registers of its results
abbrev pub result_vars : Model → Operation → List ℕ
result_vars m p = flat_map (λ (x : TempId). reg_numbers (slice_get m.temps x.0)) p.op.results

-- its variables but that of its instruction: its cycle, its choices and the registers of its results
abbrev pub other_vars : Model → Operation → List ℕ
other_vars m p = map number_of (option_to_list p.vars.cycle) ++ (map number_of p.vars.choices ++ result_vars m p)

-- ---- when it issues

-- the variable of its time: its cycle, and for `out` the end of its block; `in` has none
abbrev pub time_by : ExtKind → VarId → Option VarId → Option VarId
time_by In end cycle = None
time_by Out end cycle = Some end
time_by _ end cycle = cycle

abbrev pub time_of : Operation → Option VarId
time_of p = time_by p.op.kind p.end p.vars.cycle

abbrev pub cycles_by : Sets → Option VarId → List ℕ
cycles_by s None = 0 ∷ []
cycles_by s (Some v) = set_at s v.0

-- the cycles that are left to it: 0 alone for `in`
abbrev pub cycles : Sets → Operation → List ℕ
cycles s p = cycles_by s (time_of p)

abbrev pub is_positive : ℕ → Bool
is_positive n = nat_lt 0 n

-- those in which it gives its results: an operation that is active issues later than in cycle 0
abbrev pub giving_by : ExtKind → List ℕ → List ℕ
giving_by In cs = 0 ∷ []
giving_by _ cs = filter is_positive cs

abbrev pub giving_cycles : Sets → Operation → List ℕ
giving_cycles s p = giving_by p.op.kind (cycles s p)

-- ---- which instruction it issues

-- a variable, where there is one, cannot be 0
abbrev pub IsNeverZero : Sets → Option VarId → Type 0
IsNeverZero s None = Unit {0}
IsNeverZero s (Some v) = has (set_at s v.0) 0 ≡ false

-- it is active in all of the box: it cannot be left out, or is not
abbrev pub IsSure : Sets → Operation → Type 0
IsSure s p = IsNeverZero s p.vars.instr

-- the same as a test
abbrev pub is_never_zero : Sets → Option VarId → Bool
is_never_zero s None = true
is_never_zero s (Some v) = not (has (set_at s v.0) 0)

abbrev pub is_sure : Sets → Operation → Bool
is_sure s p = is_never_zero s p.vars.instr

abbrev pub IsZeroAlone : Sets → Option VarId → Type 0
IsZeroAlone s None = ⊥
IsZeroAlone s (Some v) = set_at s v.0 ≡ 0 ∷ []

-- it is active nowhere in the box
abbrev pub IsOff : Sets → Operation → Type 0
IsOff s p = IsZeroAlone s p.vars.instr

abbrev pub instrs_by : Sets → Option VarId → List ℕ
instrs_by s None = 0 ∷ []
instrs_by s (Some v) = filter is_positive (set_at s v.0)

-- the numbers of the instructions that are left to it where it is active; 0 stands for the one that an operation has by itself
abbrev pub instrs : Sets → Operation → List ℕ
instrs s p = instrs_by s p.vars.instr

-- how long p waits for d where the two have these instructions
abbrev pub gap_by : Model → Operation → Operation → ℕ → ℕ → ℕ
gap_by m d p i j = latency_gap m.ext.table (instruction_of d.op.kind i) (instruction_of p.op.kind j)

-- ---- what it reads

-- an alternative of an operand, with the operand and its place
pub record Alternative : Type 0 where
  pub at : ℕ
  pub operand : Operand
  pub temp : TempId

abbrev pub alternative_by : ℕ → Operand → Option TempId → Option Alternative
alternative_by j operand None = None
alternative_by j operand (Some x) = Some (record { at = j; operand = operand; temp = x })

-- alternative y of the operand whose choice is variable v, of operands counted from j
abbrev pub alternative_in : ℕ → ℕ → ℕ → List VarId → List Operand → Option Alternative
alternative_in v y j [] operands = None
alternative_in v y j (w ∷ ws) [] = None
alternative_in v y j (w ∷ ws) (operand ∷ operands) =
    if w.0 == v then alternative_by j operand (slice_get operand.alts y) else alternative_in v y (j + 1) ws operands

abbrev pub alternative : Operation → ℕ → ℕ → Option Alternative
alternative p v y = alternative_in v y 0 p.vars.choices p.op.operands

abbrev pub choices_by : Sets → Option VarId → List ℕ
choices_by s None = 0 ∷ []
choices_by s (Some v) = set_at s v.0

-- the alternatives that are left to the operand at place j, by their places
abbrev pub choices_left : Sets → Operation → ℕ → List ℕ
choices_left s p j = choices_by s (slice_get p.vars.choices j)
