-- The whole list of what is posted for a model, under a limit on the cost or none.
use Rattle.std.specs.Prelude.{ℕ, ◌-◌, ◌^◌, nat_lt, if◌then◌else◌, List, [], ◌∷◌, ◌++◌, Option, Some, None, length}
use Rattle.un_model.specs.declared.model.Model.{Model}
use Rattle.un_kinds.specs.Constraints.{Constraint, Counted}
use Rattle.un_sites.specs.Befores.{befores_of, lengths_of}
use Rattle.un_sites.specs.Postings.{postings_of}
use Rattle.un_sites.specs.Pressures.{pressures_of}
use Rattle.un_sites.specs.Rooms.{rooms_of}
use Rattle.un_counted.specs.declared.counted.LeastEnd.{LeastEnd}
use Rattle.un_rows.specs.Rows.{rows_of}

-- a row that no values meet, of the frame's flag
abbrev pub unmet : Model → List LeastEnd
unmet m = record { end = m.flag; freq = 0; least = 2 ^ 32 - 1 } ∷ []

-- The rows of a model, and one that is never met: as long as the flag has both values no end is the last open variable of these rows, so that
-- they raise none. What rounds raise no branch of a tree can say, and its bound would lose it.
abbrev pub posted_rows : Model → List (List LeastEnd)
posted_rows m = rows_of m ++ unmet m ∷ []

-- the rows of a function of several blocks, under a limit
abbrev pub counts_of : Model → Option ℕ → List Constraint
counts_of m None = []
counts_of m (Some limit) = if nat_lt 1 (length m.ext.blocks) then Counted (posted_rows m) limit ∷ [] else []

-- All that is posted for a model, under a limit on the cost or none: of single operations, congruences, the frame and the limit; of the
-- counts of saved values under the limit, which the rest implies; of arcs; of registers, calls, packets and two operands; and of the
-- lengths of blocks and of pressure, which the rest implies too.
abbrev pub all_postings_of : Model → Option ℕ → List Constraint
all_postings_of m limit = postings_of m limit ++ (counts_of m limit ++ (befores_of m ++ (rooms_of m ++ (lengths_of m ++ pressures_of m))))
