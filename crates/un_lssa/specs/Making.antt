-- Words of the making of a linear function.
use Rattle.std.specs.Prelude.{ℕ, ◌+◌, Bool, true, if◌then◌else◌, List, [], ◌∷◌, ◌++◌, Option, Some, None, slice_get, slice_set}
use Rattle.un_base.specs.declared.ids.NameId.{NameId}
use Rattle.un_isa.specs.declared.reg.Reg.{Reg}
use Rattle.un_isa.specs.declared.table.Table.{Table}
use Rattle.un_ir.specs.declared.function.Block.{Block}
use Rattle.un_ir.specs.Extended.{at_register}
use Rattle.un_ir.specs.LinearOf.{live_at, name_of, past_block}

-- ---- names that are live where a block ends

-- names are marked, by their numbers
abbrev pub marked_with : List Bool → List NameId → List Bool
marked_with marks [] = marks
marked_with marks (name ∷ names) = marked_with (slice_set marks name.0 true) names

-- those that are live at the start of some blocks
abbrev pub marked_at : List (List NameId) → List Bool → List ℕ → List Bool
marked_at lists marks [] = marks
marked_at lists marks (c ∷ cs) = marked_at lists (marked_with marks (live_at lists c)) cs

-- the names that are marked, from number n on
abbrev pub names_of_marks : ℕ → List Bool → List NameId
names_of_marks n [] = []
names_of_marks n (mark ∷ marks) = (if mark then name_of n ∷ [] else []) ++ names_of_marks (n + 1) marks

-- ---- arguments

abbrev pub home_by : Option ℕ → Option Reg
home_by None = None
home_by (Some r) = at_register r

-- the register of the argument at place j
abbrev pub home_at : List ℕ → ℕ → Option Reg
home_at registers j = home_by (slice_get registers j)

-- ---- numbers of temporaries

-- the first temporary that blocks from block b on do not define
abbrev pub past_blocks : Table → List (List NameId) → ℕ → ℕ → List Block → ℕ
past_blocks t lists b n [] = n
past_blocks t lists b n (block ∷ blocks) = past_blocks t lists (b + 1) (past_block t lists b n block) blocks
