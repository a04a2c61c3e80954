-- The names of a function as its text has them, from left to right and from top to bottom.
use Rattle.std.specs.Prelude.{ℕ, ◌≡◌, nat_eq, List, [], ◌∷◌, ◌++◌, Option, slice_get, if◌then◌else◌}
use Rattle.std.specs.List.{flat_map, fold, list_any, range_with_len}
use Rattle.std.specs.Option.{option_map, option_to_list}
use Rattle.un_base.specs.declared.ids.NameId.{NameId}
use Rattle.un_ir.specs.declared.function.Kind.{Kind}
use Rattle.un_ir.specs.declared.function.SrcOp.{SrcOp}
use Rattle.un_ir.specs.declared.function.Block.{Block}
use Rattle.un_ir.specs.Live.{read_by_term}

-- the names on the line of an operation: its result, then its operands
abbrev pub names_on_op : SrcOp → List NameId
names_on_op o = option_to_list o.dst ++ o.srcs

abbrev pub names_in_block : Block → List NameId
names_in_block block = flat_map names_on_op block.ops ++ read_by_term block.term

-- each name as often as it stands in the text: the parameters, then the names of the blocks
abbrev pub appearances : List NameId → List Block → List NameId
appearances params blocks = params ++ flat_map names_in_block blocks

-- a number goes to the end of those that have been seen, where it is new
abbrev pub see : List ℕ → NameId → List ℕ
see seen name = if list_any (nat_eq name.0) seen then seen else seen ++ name.0 ∷ []

-- the numbers of the names, each at its first appearance
abbrev pub first_appearances : List NameId → List ℕ
first_appearances names = fold see [] names

-- the first name that appears has the number 0, the next new one 1, and so on up to the last of `count` names
abbrev pub AreNumbered : ℕ → List NameId → List Block → Type 0
AreNumbered count params blocks = first_appearances (appearances params blocks) ≡ range_with_len 0 count

-- the kind of a name
abbrev pub kind_of : List (List ℕ × Kind) → NameId → Option Kind
kind_of names name = option_map (λ (n : List ℕ × Kind). n.1) (slice_get names name.0)
