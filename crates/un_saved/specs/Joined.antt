-- Which boundaries of blocks are joined to the end of the entry, by marks: edges carry them on and back, and so do blocks that hand their
-- saved values over where they take them.
use Rattle.std.specs.Prelude.{ℕ, zero, suc, ◌≡◌, ◌*◌, nat_lt, Bool, true, false, ◌||◌, if◌then◌else◌, List, [], ◌∷◌, ◌++◌, length, map, fold}
use Rattle.std.specs.Prelude.{replicate, slice_index_or, slice_set}
use Rattle.un_ir.specs.Live.{targets_of}
use Rattle.un_ir.specs.declared.extended.ExtBlock.{ExtBlock}
use Rattle.un_model.specs.Congruences.{term_of}
use Rattle.un_model.specs.Pairs.{joined, places_from}
use Rattle.un_saved.specs.Saved.{keeps_places}
use Rattle.un_saved.specs.Standing.{IsJoined}
use Rattle.un_saved.specs.declared.boundary.Boundary.{Boundary}
use Rattle.un_saved.specs.declared.boundary.Boundary.TheVariants.{StartOf, EndOf}
use Rattle.un_saved.specs.declared.boundary.Link.{Link}
use Rattle.un_saved.specs.declared.boundary.Marks.{Marks}

-- ---- links

-- the edge from block k to block l, where there is such a block of so many
abbrev pub edge_to : ℕ → ℕ → ℕ → List Link
edge_to count k l = if nat_lt l count then record { from = EndOf k; to = StartOf l } ∷ [] else []

-- those that leave block k, which is this one
abbrev pub edges_of : ℕ → ℕ → ExtBlock → List Link
edges_of count k b = joined (map (edge_to count k) (targets_of k (term_of b.ops)))

-- the way through it, where it hands its saved values over where it takes them
abbrev pub through_of : ℕ → ExtBlock → List Link
through_of k b = if keeps_places b then record { from = StartOf k; to = EndOf k } ∷ [] else []

abbrev pub links_of : ℕ → ℕ → ExtBlock → List Link
links_of count k b = edges_of count k b ++ through_of k b

-- those of all blocks
abbrev pub links_between : List ExtBlock → List Link
links_between blocks = joined (places_from (links_of (length blocks)) 0 blocks)

-- ---- marks

abbrev pub is_marked : List Bool → ℕ → Bool
is_marked marks k = slice_index_or marks k false

abbrev pub is_at : Marks → Boundary → Bool
is_at m (StartOf k) = is_marked m.starts k
is_at m (EndOf k) = is_marked m.ends k

abbrev pub marked : Marks → Boundary → Marks
marked m (StartOf k) = record { starts = slice_set m.starts k true; ends = m.ends }
marked m (EndOf k) = record { starts = m.starts; ends = slice_set m.ends k true }

-- a link marks both of its boundaries where one is marked
abbrev pub marked_by : Marks → Link → Marks
marked_by m e = if is_at m e.from || is_at m e.to then marked (marked m e.from) e.to else m

-- so do all links, again and again
abbrev pub marked_after : ℕ → List Link → Marks → Marks
marked_after zero links m = m
marked_after (suc n) links m = marked_after n links (fold marked_by m links)

-- the end of the entry alone
abbrev pub entry_alone : ℕ → Marks
entry_alone count = record { starts = replicate count false; ends = slice_set (replicate count false) 0 true }

-- Each round marks one more boundary, until it marks none.
abbrev pub joined_in : List ExtBlock → Marks
joined_in blocks = marked_after (2 * length blocks) (links_between blocks) (entry_alone (length blocks))

-- what is marked is joined to the end of the entry
abbrev pub AreJoined : List ExtBlock → Marks → Type 0
AreJoined blocks m = (c : Boundary) → is_at m c ≡ true → IsJoined blocks c
