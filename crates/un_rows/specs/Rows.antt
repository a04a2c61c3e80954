-- The rows of a model: for each number of saved values in slots the end that each block has at least.
use Rattle.std.specs.Prelude.{ℕ, ◌+◌, ◌==◌, Bool, true, if◌then◌else◌, List, [], ◌∷◌, length, map, fold, max, Option, Some, None, nat_lt, slice_get}
use Rattle.std.specs.List.{list_any, range_with_len}
use Rattle.std.specs.Option.{option_to_list, option_map}
use Rattle.un_base.specs.declared.ids.TempId.{TempId}
use Rattle.un_isa.specs.Registers.{callee_saved, saved_registers}
use Rattle.un_isa.specs.declared.table.Table.{Table}
use Rattle.un_ir.specs.Kinds.{is_call_kind}
use Rattle.un_ir.specs.declared.extended.ExtBlock.{ExtBlock}
use Rattle.un_model.specs.Pairs.{joined, over_blocks}
use Rattle.un_model.specs.declared.model.Arc.{Arc}
use Rattle.un_model.specs.declared.model.BlockVars.{BlockVars}
use Rattle.un_model.specs.declared.model.Model.{Model}
use Rattle.un_length.specs.declared.block.Precedence.{Precedence}
use Rattle.un_length.specs.declared.block.Task.{Task}
use Rattle.un_least.specs.Least.{least_end_of}
use Rattle.un_counted.specs.declared.counted.LeastEnd.{LeastEnd}
use Rattle.un_saved.specs.Joined.{joined_in}
use Rattle.un_saved.specs.Saved.{saved_in}
use Rattle.un_saved.specs.declared.boundary.Marks.{Marks}
use Rattle.un_sites.specs.Befores.{known_befores}
use Rattle.un_sites.specs.Crossings.{crossing}
use Rattle.un_sites.specs.Lengths.{tasks_in, precedences_by, task_place, var_in}
use Rattle.un_sites.specs.Places.{Place, block_places, definers_of, time_of}
use Rattle.un_sites.specs.Postings.{with_kind}
use Rattle.un_sites.specs.Pressures.{block_room, registers_among}
use Rattle.un_sites.specs.Rooms.{arcs_or}
use Rattle.un_sites.specs.Shares.{has_leave}
use Rattle.un_sites.specs.Saved.{crowded_of, edges_between, owed_by}
use Rattle.un_rows.specs.Drafts.{drafts_of, drafted_arcs, drafted_ops}
use Rattle.un_rows.specs.Roles.{role_of}
use Rattle.un_rows.specs.declared.draft.Draft.{Draft}
use Rattle.un_rows.specs.declared.known.Basis.{Basis}
use Rattle.un_rows.specs.declared.known.Crossed.{Crossed}
use Rattle.un_rows.specs.declared.known.Known.{Known}

-- ---- the end of a block

-- the least end that a block's operations leave with those of a draft, looked for from its own least end on
abbrev pub draft_end : Table → Known → Draft → ℕ
draft_end t k d = let ops : List Task = drafted_ops t k.ops d in
    least_end_of ops (drafted_arcs (length ops) k.arcs d) k.horizon k.own

-- the greatest of those that several leave, and of its own
abbrev pub ends_of : Table → Known → List Draft → ℕ
ends_of t k ds = fold max k.own (map (draft_end t k) ds)

-- what it is at least where s saved values have slots: nothing where that cannot be
abbrev pub least_by_count : Table → Basis → ℕ → Known → Option ℕ
least_by_count t basis s k = option_map (ends_of t k) (drafts_of t basis s k)

-- ---- rows

abbrev pub end_at : Known → ℕ → LeastEnd
end_at k least = record { end = k.end; freq = k.freq; least = least }

abbrev pub end_by_count : Table → Basis → ℕ → Known → Option LeastEnd
end_by_count t basis s k = option_map (end_at k) (least_by_count t basis s k)

-- all of several, where each is there
abbrev pub all_there : {A : Type 0} → List (Option A) → Option (List A)
all_there [] = Some []
all_there (None ∷ xs) = None
all_there (Some x ∷ xs) = option_map (λ ys. x ∷ ys) (all_there xs)

-- the row for s saved values in slots
abbrev pub row_by : Table → Basis → List Known → ℕ → Option (List LeastEnd)
row_by t basis ks s = all_there (map (end_by_count t basis s) ks)

-- those for none of them up to all
abbrev pub rows_by : Table → Basis → List Known → List (List LeastEnd)
rows_by t basis ks = joined (map (λ (s : ℕ). option_to_list (row_by t basis ks s)) (range_with_len 0 (basis.saved + 1)))

-- ---- what is known of the blocks of a model

-- the operations that each solution issues, and a block's end, as Length has them
abbrev pub own_ops : Model → ℕ → ExtBlock → List Place → List Task
own_ops m b block ps = tasks_in m.ext.table (length (registers_among (block_room m.domains (definers_of m) ps))) (b == 0)
    (owed_by (crowded_of m) (edges_between m.ext.blocks) b block ps) (arcs_or (slice_get m.arcs b)) ps

abbrev pub own_arcs : Model → ℕ → List Task → List Place → List Precedence
own_arcs m b ops ps = precedences_by ops (known_befores m b ps)

-- a temporary is among these
abbrev pub is_among : List TempId → TempId → Bool
is_among ts t = list_any (λ (u : TempId). u.0 == t.0) ts

-- the names that cross a call and are read in registers behind it: none are counted where a saved value is among them
abbrev pub names_of : List Arc → ExtBlock → List Place → Place → List TempId
names_of arcs block ps call =
    let ts : List TempId = crossing true arcs ps call in if list_any (is_among (saved_in block)) ts then [] else ts

abbrev pub crossed_by : List Arc → ExtBlock → List Task → List Place → Place → Crossed
crossed_by arcs block ops ps call =
    record { place = task_place ops (var_in (time_of call)); names = length (names_of arcs block ps call) }

abbrev pub crossed_in : List Arc → ExtBlock → List Task → List Place → List Crossed
crossed_in arcs block ops ps = map (crossed_by arcs block ops ps) (with_kind is_call_kind ps)

-- block b, of which the first operation has the number n
abbrev pub known_by : Model → Marks → ℕ → ExtBlock → BlockVars → List Place → List Task → List Precedence → Known
known_by m marks b block vars ps ops arcs = record {
  end = vars.end;
  freq = block.freq;
  horizon = block.horizon;
  ops = ops;
  arcs = arcs;
  own = least_end_of ops arcs block.horizon 0;
  leaves = has_leave ps;
  role = role_of marks b block;
  calls = crossed_in (arcs_or (slice_get m.arcs b)) block ops ps;
}

abbrev pub known_at : Model → Marks → ℕ → ExtBlock → BlockVars → List Place → Known
known_at m marks b block vars ps =
    let ops : List Task = own_ops m b block ps in known_by m marks b block vars ps ops (own_arcs m b ops ps)

abbrev pub known_in : Model → Marks → ℕ → ℕ → ExtBlock → BlockVars → List Known
known_in m marks b n block vars = known_at m marks b block vars (block_places b n block vars) ∷ []

abbrev pub knowns_of : Model → List Known
knowns_of m = over_blocks (known_in m (joined_in m.ext.blocks)) 0 0 m.ext.blocks m.blocks

abbrev pub basis_of : Model → Basis
basis_of m = record { kept = length (callee_saved m.ext.table); saved = length (saved_registers m.ext.table) }

-- the rows of a function of several blocks; a single one has none, since it hands no value over
abbrev pub rows_of : Model → List (List LeastEnd)
rows_of m = if nat_lt 1 (length m.ext.blocks) then rows_by m.ext.table (basis_of m) (knowns_of m) else []
