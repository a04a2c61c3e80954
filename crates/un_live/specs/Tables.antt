-- What blocks do to names first, name by name.
use Rattle.std.specs.Prelude.{ℕ, Bool, false, nat_eq, List, [], ◌∷◌, Option, Some, None, slice_index_or, slice_set, replicate}
use Rattle.std.specs.Prelude.{if◌then◌else◌}
use Rattle.std.specs.List.{list_any}
use Rattle.std.specs.Option.{option_map_or}
use Rattle.un_base.specs.declared.ids.NameId.{NameId}
use Rattle.un_ir.specs.declared.function.SrcOp.{SrcOp}
use Rattle.un_ir.specs.declared.function.Term.{Term}
use Rattle.un_ir.specs.declared.function.Block.{Block}
use Rattle.un_ir.specs.Live.{read_by_term}
use Rattle.un_live.specs.declared.meeting.Meeting.{Meeting}
use Rattle.un_live.specs.declared.meeting.Meeting.TheVariants.{Read, Assigned, Neither}

-- ---- one name

abbrev pub reads : NameId → List NameId → Bool
reads name names = list_any (λ n. nat_eq n.0 name.0) names

abbrev pub assigns : NameId → Option NameId → Bool
assigns name dst = option_map_or (λ n. nat_eq n.0 name.0) dst false

-- operations and the terminator behind them read the name first, or assign it first, or neither
abbrev pub meeting : NameId → List SrcOp → Term → Meeting
meeting name [] term = if reads name (read_by_term term) then Read else Neither
meeting name (o ∷ os) term = if reads name o.srcs then Read else (if assigns name o.dst then Assigned else meeting name os term)

-- ---- all names, by their numbers

abbrev pub meet : Meeting → Meeting → Meeting
meet Neither later = later
meet first later = first

-- what is done first to the name with this number
abbrev pub met : List Meeting → ℕ → Meeting
met table i = slice_index_or table i Neither

abbrev pub noted : List Meeting → NameId → Meeting → List Meeting
noted table name m = slice_set table name.0 (meet (met table name.0) m)

abbrev pub noted_all : List Meeting → List NameId → Meeting → List Meeting
noted_all table [] m = table
noted_all table (name ∷ names) m = noted_all (noted table name m) names m

abbrev pub noted_dst : List Meeting → Option NameId → List Meeting
noted_dst table None = table
noted_dst table (Some name) = noted table name Assigned

abbrev pub noted_ops : List Meeting → List SrcOp → List Meeting
noted_ops table [] = table
noted_ops table (o ∷ os) = noted_ops (noted_dst (noted_all table o.srcs Read) o.dst) os

abbrev pub noted_term : List Meeting → Term → List Meeting
noted_term table term = noted_all table (read_by_term term) Read

-- what a block does first to each of so many names
abbrev pub table_of : ℕ → Block → List Meeting
table_of names block = noted_term (noted_ops (replicate names Neither) block.ops) block.term
