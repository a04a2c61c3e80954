-- The variables of an extended function under options, with their domains.
use Rattle.std.specs.Prelude.{ℕ, ◌≡◌, ◌+◌, ◌-◌, Bool, true, false, if◌then◌else◌, List, [], ◌∷◌, ◌++◌, Option, Some, None, map, length}
use Rattle.std.specs.Prelude.{slice_get, unwrap_or}
use Rattle.std.specs.List.{range_with_len}
use Rattle.std.specs.Option.{option_to_list}
use Rattle.un_base.specs.declared.ids.TempId.{TempId}
use Rattle.un_base.specs.declared.ids.VarId.{VarId}
use Rattle.un_isa.specs.declared.op.Op.{Op}
use Rattle.un_isa.specs.declared.op.Op.TheVariants.{Call}
use Rattle.un_isa.specs.declared.reg.Reg.{Reg}
use Rattle.un_ir.specs.Kinds.{is_optional, has_choices}
use Rattle.un_ir.specs.declared.extended.TheConstants.{RELOAD, TO_PREDICATE}
use Rattle.un_ir.specs.declared.extended.ExtKind.{ExtKind}
use Rattle.un_ir.specs.declared.extended.ExtKind.TheVariants.{In, Out, Body, End, Copy, Enter, Leave}
use Rattle.un_ir.specs.declared.extended.Operand.{Operand}
use Rattle.un_ir.specs.declared.extended.ExtOp.{ExtOp}
use Rattle.un_ir.specs.declared.extended.ExtBlock.{ExtBlock}
use Rattle.un_ir.specs.declared.extended.Ext.{Ext}
use Rattle.un_domains.specs.declared.domain.Domain.{Domain}
use Rattle.un_domains.specs.declared.domain.Domain.TheVariants.{Range, Set}
use Rattle.un_model.specs.declared.model.Options.{Options}
use Rattle.un_model.specs.declared.model.TempVars.{TempVars}
use Rattle.un_model.specs.declared.model.OpVars.{OpVars}
use Rattle.un_model.specs.declared.model.BlockVars.{BlockVars}
use Rattle.un_model.specs.declared.model.Model.{Model}
use Rattle.un_model.specs.declared.model.Arc.{Arc}
use Rattle.un_model.specs.Arcs.{blocks_arcs}
use Rattle.un_model.specs.Instructions.{gives_truth}
use Rattle.un_model.specs.Pairs.{places_from}
use Rattle.un_model.specs.Registers.{result_home, is_truth, predicate_registers, general_registers, value_registers, with_zero, reg_at}

-- ---- which variables there are

-- what is neither a block's start nor its end has a variable for its cycle
abbrev pub has_cycle : ExtKind → Bool
has_cycle In = false
has_cycle Out = false
has_cycle _ = true

abbrev pub count_if : Bool → ℕ
count_if true = 1
count_if false = 0

abbrev pub chosen_operands : ExtOp → List Operand
chosen_operands op = if has_choices op.kind then op.operands else []

-- the places, among the variables of an operation, of its cycle, of its choices and of the registers of its results
abbrev pub cycle_place : ExtOp → ℕ
cycle_place op = count_if (is_optional op.kind)

abbrev pub choice_place : ExtOp → ℕ
choice_place op = cycle_place op + count_if (has_cycle op.kind)

abbrev pub register_place : ExtOp → ℕ
register_place op = choice_place op + length (chosen_operands op)

-- how many variables an operation has
abbrev pub var_count : ExtOp → ℕ
var_count op = register_place op + length op.results

abbrev pub var_at : ℕ → VarId
var_at n = record { 0 = n }

abbrev pub var_if : Bool → ℕ → Option VarId
var_if true n = Some (var_at n)
var_if false n = None

-- the variables of an operation, of which the first has this number
abbrev pub op_vars : ℕ → ExtOp → OpVars
op_vars first op = record {
  instr = var_if (is_optional op.kind) first;
  cycle = var_if (has_cycle op.kind) (first + cycle_place op);
  choices = map var_at (range_with_len (first + choice_place op) (length (chosen_operands op)));
}

-- the variables of the operations of a block
abbrev pub ops_vars : ℕ → List ExtOp → List OpVars
ops_vars first [] = []
ops_vars first (op ∷ ops) = op_vars first op ∷ ops_vars (first + var_count op) ops

-- how many variables they have
abbrev pub ops_count : List ExtOp → ℕ
ops_count [] = 0
ops_count (op ∷ ops) = var_count op + ops_count ops

-- the variables of a block: those of its operations, then its end
abbrev pub block_vars : ℕ → ExtBlock → BlockVars
block_vars first block = record { ops = ops_vars first block.ops; end = var_at (first + ops_count block.ops) }

abbrev pub block_count : ExtBlock → ℕ
block_count block = ops_count block.ops + 1

abbrev pub blocks_vars : ℕ → List ExtBlock → List BlockVars
blocks_vars first [] = []
blocks_vars first (block ∷ blocks) = block_vars first block ∷ blocks_vars (first + block_count block) blocks

abbrev pub blocks_count : List ExtBlock → ℕ
blocks_count [] = 0
blocks_count (block ∷ blocks) = block_count block + blocks_count blocks

-- ---- temporaries

abbrev pub first_alternative : List Operand → TempId → TempId
first_alternative [] x = x
first_alternative (operand ∷ operands) x = unwrap_or (slice_get operand.alts 0) x

-- the value that the result x of an operation carries: a copy carries the first alternative of its operand
abbrev pub carried_by : ExtKind → List Operand → TempId → TempId
carried_by (Copy node) operands x = first_alternative operands x
carried_by _ operands x = x

abbrev pub carried : ExtOp → TempId → TempId
carried op x = carried_by op.kind op.operands x

-- the temporary x that operation n defines, with register variable k
abbrev pub temp_of : ℕ → ExtOp → ℕ → TempId → TempVars
temp_of n op k x = record { op = record { 0 = n }; value = carried op x; reg = var_at k }

-- the temporaries that operation n defines, the first with this register variable
abbrev pub op_temps : ℕ → ℕ → ExtOp → List TempVars
op_temps n reg op = places_from (temp_of n op) reg op.results

-- those of operations of which the first has the number n and its first variable this number
abbrev pub ops_temps : ℕ → ℕ → List ExtOp → List TempVars
ops_temps n first [] = []
ops_temps n first (op ∷ ops) = op_temps n (first + register_place op) op ++ ops_temps (n + 1) (first + var_count op) ops

abbrev pub blocks_temps : ℕ → ℕ → List ExtBlock → List TempVars
blocks_temps n first [] = []
blocks_temps n first (block ∷ blocks) = ops_temps n first block.ops ++ blocks_temps (n + length block.ops) (first + block_count block)
    blocks

-- ---- domains

-- the instructions of a copy: 0 inactive, 1 Mov, 2 Spill, 3 Reload, and for a truth value 4 P2R and 5 R2P
abbrev pub copy_domain : Bool → Domain
copy_domain false = Range 0 RELOAD
copy_domain true = Range 0 TO_PREDICATE

-- the instructions of an operation, which carries a truth value or another
abbrev pub instr_domain : Bool → ExtKind → Option Domain
instr_domain truth (Copy node) = Some (copy_domain truth)
instr_domain truth Enter = Some (Range 0 1)
instr_domain truth Leave = Some (Range 0 1)
instr_domain truth _ = None

-- the cycles of an operation in a block with this horizon
abbrev pub cycle_domain : ℕ → ExtKind → Option Domain
cycle_domain horizon In = None
cycle_domain horizon Out = None
cycle_domain horizon (Body o) = Some (Range 1 (horizon - 1))
cycle_domain horizon (End term) = Some (Range 1 (horizon - 1))
cycle_domain horizon (Copy node) = Some (Range 0 (horizon - 1))
cycle_domain horizon Enter = Some (Range 0 (horizon - 1))
cycle_domain horizon Leave = Some (Range 0 (horizon - 1))

-- the places of the alternatives of an operand
abbrev pub choice_domain : Operand → Domain
choice_domain operand = Range 0 (length operand.alts - 1)

abbrev pub home_domain : Option Reg → Domain
home_domain home = Set (map (λ (r : Reg). r.0) (option_to_list home))

-- the registers of a result of the source: a call's its home alone, a truth value's p0 to p3
abbrev pub source_domain : Ext → Options → Bool → ExtBlock → Op → TempId → Domain
source_domain e o is_entry block Call x = home_domain (Some (reg_at e.table.result))
source_domain e o is_entry block op x = Set (if gives_truth op then predicate_registers else general_registers e o.regs is_entry block x)

-- the registers of value x at place j of those at a block's start: its home alone in the entry
abbrev pub start_domain : Ext → Options → Bool → ExtBlock → ℕ → TempId → Domain
start_domain e o true block j x = home_domain (result_home e.table true block.live_in In j)
start_domain e o false block j x = Set (value_registers e o.regs o.slots false block x)

-- the registers of a copy of value y; an inactive one has 0
abbrev pub copy_registers : Ext → Options → Bool → ExtBlock → TempId → Domain
copy_registers e o is_entry block y = Set (with_zero (value_registers e o.regs o.slots is_entry block y))

-- the registers of the result x at place j of an operation of a block, which carries value y
abbrev pub register_domain : Ext → Options → Bool → ExtBlock → ExtKind → ℕ → TempId → TempId → Domain
register_domain e o is_entry block In j x y = start_domain e o is_entry block j x
register_domain e o is_entry block (Body source) j x y = source_domain e o is_entry block source.op x
register_domain e o is_entry block (Copy node) j x y = copy_registers e o is_entry block y
register_domain e o is_entry block _ j x y = Set []

abbrev pub result_domain : Ext → Options → Bool → ExtBlock → ExtOp → ℕ → TempId → Domain
result_domain e o is_entry block op j x = register_domain e o is_entry block op.kind j x (carried op x)

-- what an operation carries that has a first result: the value of that
abbrev pub carries_truth : Ext → ExtBlock → ExtOp → List TempId → Bool
carries_truth e block op [] = false
carries_truth e block op (x ∷ xs) = is_truth e.names block (carried op x)

-- the domains of an operation's variables: its instruction, its cycle, its choices, the registers of its results
abbrev pub op_domains : Ext → Options → Bool → ExtBlock → ℕ → ExtOp → List Domain
op_domains e o is_entry block horizon op =
    option_to_list (instr_domain (carries_truth e block op op.results) op.kind) ++ option_to_list (cycle_domain horizon op.kind) ++ map
    choice_domain (chosen_operands op) ++ places_from (result_domain e o is_entry block op) 0 op.results

abbrev pub ops_domains : Ext → Options → Bool → ExtBlock → ℕ → List ExtOp → List Domain
ops_domains e o is_entry block horizon [] = []
ops_domains e o is_entry block horizon (op ∷ ops) = op_domains e o is_entry block horizon op ++ ops_domains e o is_entry block horizon ops

-- those of a block: of its operations, then of its end
abbrev pub block_domains : Ext → Options → Bool → ℕ → ExtBlock → List Domain
block_domains e o is_entry horizon block = ops_domains e o is_entry block horizon block.ops ++ Range 1 horizon ∷ []

-- the first block is the entry
abbrev pub blocks_domains : Ext → Options → (ExtBlock → ℕ) → Bool → List ExtBlock → List Domain
blocks_domains e o horizon is_entry [] = []
blocks_domains e o horizon is_entry (block ∷ blocks) = block_domains e o is_entry (horizon block) block ++ blocks_domains e o horizon
    false blocks

-- no cycle of a block is past its horizon
abbrev pub own_horizon : ExtBlock → ℕ
own_horizon block = block.horizon

-- all domains under a horizon for each block, the frame flag's last
abbrev pub domains_of : (ExtBlock → ℕ) → Ext → Options → List Domain
domains_of horizon e o = blocks_domains e o horizon true e.blocks ++ Range 0 1 ∷ []

-- ---- the model

-- the arcs of each block
abbrev pub arcs_of : Ext → List (List Arc)
arcs_of e = blocks_arcs e.table (blocks_temps 0 0 e.blocks) 0 e.blocks

-- the model of an extended function under options
abbrev pub model_of : Ext → Options → Model
model_of e o = record {
  ext = e;
  options = o;
  domains = domains_of own_horizon e o;
  temps = blocks_temps 0 0 e.blocks;
  blocks = blocks_vars 0 e.blocks;
  flag = var_at (blocks_count e.blocks);
  arcs = arcs_of e;
}

-- it is the model of its own function under its own options
abbrev pub IsModel : Model → Type 0
IsModel m = m ≡ model_of m.ext m.options
