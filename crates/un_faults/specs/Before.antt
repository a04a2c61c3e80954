-- What stands before a line: the name on the `func` line, where there is one, the labels, the names in the order of their first
-- appearance, how many operations there are, and whether the last block has ended.
use Rattle.std.specs.Prelude.{ℕ, ◌&&◌, Bool, true, false, List, [], ◌∷◌, ◌++◌, Option, Some, None, if◌then◌else◌}
use Rattle.std.specs.List.{list_any, filter_map, flat_map, count_by, fold}
use Rattle.std.specs.Option.{option_or}
use Rattle.std.specs.Str.{bytes_eq}
use Rattle.un_faults.specs.Vocabulary.{Kind, General, Pred, Line, Func, Block, Operation, Terminator, Spelled}
use Rattle.un_faults.specs.declared.before.Before.{Before}
use Rattle.un_words.specs.LineNames.{names_on}

-- ---- names

abbrev pub same_kind : Kind → Kind → Bool
same_kind General General = true
same_kind Pred Pred = true
same_kind _ _ = false

-- the two kinds have a space of names each
abbrev pub same_name : Spelled → Spelled → Bool
same_name a b = bytes_eq a.0 b.0 && same_kind a.1 b.1

-- the name has its place already, or takes the next
abbrev pub add_name : List Spelled → Spelled → List Spelled
add_name names name = if list_any (same_name name) names then names else names ++ name ∷ []

-- names, and then those of a list that are new, each at its first appearance
abbrev pub numbered : List Spelled → List Spelled → List Spelled
numbered names more = fold add_name names more

-- the names of lines, each at its first appearance
abbrev pub names_of : List Line → List Spelled
names_of lines = numbered [] (flat_map names_on lines)

-- ---- what else stands on a line

abbrev pub label_on : Line → Option (List ℕ)
label_on (Block label freq) = Some label
label_on _ = None

abbrev pub labels_of : List Line → List (List ℕ)
labels_of lines = filter_map label_on lines

abbrev pub name_on : Line → Option (List ℕ)
name_on (Func name params) = Some name
name_on _ = None

-- the name on the first `func` line
abbrev pub name_of : List Line → Option (List ℕ)
name_of [] = None
name_of (line ∷ lines) = option_or (name_on line) (name_of lines)

abbrev pub is_operation : Line → Bool
is_operation (Operation o) = true
is_operation _ = false

-- a terminator ends the block, a block line begins the next
abbrev pub ended_after : Bool → Line → Bool
ended_after ended (Terminator term) = true
ended_after ended (Block label freq) = false
ended_after ended _ = ended

-- what stands before a line that these lines stand before
abbrev pub before_of : List Line → Before
before_of lines = record {
  name = name_of lines;
  labels = labels_of lines;
  names = names_of lines;
  ops = count_by is_operation lines;
  ended = fold ended_after false lines;
}
