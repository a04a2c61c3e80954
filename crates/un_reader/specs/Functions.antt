-- The function that lines are.
use Rattle.std.specs.Prelude.{ℕ, ◌≡◌, List, [], ◌∷◌, Option, Some, None, map, unwrap_or}
use Rattle.std.specs.List.{position_or_len}
use Rattle.std.specs.Option.{option_map}
use Rattle.std.specs.Str.{bytes_eq}
use Rattle.un_faults.specs.Vocabulary.{NameId, BlockId, SrcOp, Term, Fall, JumpTo, BranchTo, Return, SourceBlock, OpLine, TermLine}
use Rattle.un_faults.specs.Vocabulary.{Jump, Branch, Ret, Line, Func, Spelled}
use Rattle.un_ir.specs.declared.function.Function.{Function}
use Rattle.un_faults.specs.Before.{same_name, names_of, labels_of, name_of}
use Rattle.un_faults.specs.Groups.{Group, grouped}
use Rattle.un_faults.specs.Literals.{literal_value}

-- the number of a name is its place among the names
abbrev pub name_id : List Spelled → Spelled → NameId
name_id names name = record { 0 = position_or_len (same_name name) names }

-- the number of a block is the place of its label
abbrev pub block_id : List (List ℕ) → List ℕ → BlockId
block_id labels label = record { 0 = position_or_len (bytes_eq label) labels }

abbrev pub op_of : List Spelled → OpLine → SrcOp
op_of names o =
    record {
      op =
          o.op;
      dst = option_map (name_id names) o.dst;
      srcs = map (name_id names) o.srcs;
      imm = literal_value o.imm;
      callee = o.callee;
    }

abbrev pub term_by : List Spelled → List (List ℕ) → Option TermLine → Term
term_by names labels None = Fall
term_by names labels (Some (Jump to)) = JumpTo (block_id labels to)
term_by names labels (Some (Branch pred sense to)) = BranchTo (name_id names pred) sense (block_id labels to)
term_by names labels (Some (Ret value)) = Return (option_map (name_id names) value)

abbrev pub block_of : List Spelled → List (List ℕ) → Group → SourceBlock
block_of names labels g = record { label = g.label; freq = g.freq.size; ops = map (op_of names) g.ops; term = term_by names labels g.term }

abbrev pub blocks_of : List Spelled → List (List ℕ) → List Line → List SourceBlock
blocks_of names labels lines = map (block_of names labels) (grouped lines)

abbrev pub params_or : Line → List Spelled → List Spelled
params_or (Func name params) later = params
params_or _ later = later

-- the parameters on the `func` line
abbrev pub params_of : List Line → List Spelled
params_of [] = []
params_of (line ∷ lines) = params_or line (params_of lines)

-- the parameters by the numbers of their names
abbrev pub param_ids : List Line → List NameId
param_ids lines = map (name_id (names_of lines)) (params_of lines)

-- the blocks by the numbers of their names and labels
abbrev pub source_blocks : List Line → List SourceBlock
source_blocks lines = blocks_of (names_of lines) (labels_of lines) lines

-- the name, parameters, names and blocks that lines without a fault give
pub record ArePartsOf (lines : List Line) (its_name : List ℕ) (its_params : List NameId) (its_names : List Spelled)
    (its_blocks : List SourceBlock) : Type 0 where
  pub name : its_name ≡ unwrap_or (name_of lines) []
  pub params : its_params ≡ param_ids lines
  pub names : its_names ≡ names_of lines
  pub blocks : its_blocks ≡ source_blocks lines

-- the function that lines without a fault are
abbrev pub IsFunctionOf : List Line → Function → Type 0
IsFunctionOf lines f = ArePartsOf lines f.name f.params f.names f.blocks
