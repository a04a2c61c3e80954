-- Places of operations in a list of them.
use Rattle.std.specs.Prelude.{ℕ, ◌<◌, List, map, slice_index}
use Rattle.un_length.specs.declared.block.Task.{Task}
use Rattle.un_length.specs.declared.block.Precedence.{Precedence}

-- both places of a precedence are among the first n
pub record Leads (n : ℕ) (a : Precedence) : Type 0 where
  pub of_from : a.from < n
  pub of_to : a.to < n

-- a number of the operation at a place; 0 past the end
abbrev pub at_place : (Task → ℕ) → List Task → ℕ → ℕ
at_place f ops i = slice_index (map f ops) i
