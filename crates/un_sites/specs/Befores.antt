-- What is posted of the arcs of a model and of the lengths of its blocks.
use Rattle.std.specs.Prelude.{ℕ, ◌==◌, List, [], ◌∷◌, ◌++◌, Option, Some, None, length, map, slice_get}
use Rattle.un_ir.specs.declared.extended.ExtBlock.{ExtBlock}
use Rattle.un_model.specs.declared.model.Arc.{Arc}
use Rattle.un_model.specs.declared.model.BlockVars.{BlockVars}
use Rattle.un_model.specs.declared.model.Model.{Model}
use Rattle.un_model.specs.Pairs.{joined, over_blocks}
use Rattle.un_prop.specs.declared.act.Act.TheVariants.{Always}
use Rattle.un_kinds.specs.Constraints.{Constraint, Before}
use Rattle.un_sites.specs.CallBefores.{call_befores_by}
use Rattle.un_sites.specs.Lengths.{length_by}
use Rattle.un_sites.specs.Places.{Place, no_place, time_of, block_places, places_of, definers_of}
use Rattle.un_sites.specs.Pressures.{block_room, registers_among}
use Rattle.un_sites.specs.Rooms.{arcs_or}
use Rattle.un_sites.specs.Saved.{crowded_of, edges_between, owed_by}
use Rattle.un_sites.specs.declared.edges.Accesses.{Accesses}

-- ---- arcs

abbrev pub place_or : Option Place → Place
place_or None = no_place
place_or (Some p) = p

-- the operation with a number
abbrev pub place_with : List Place → ℕ → Place
place_with ps n = place_or (slice_get ps n)

-- the operations of an arc are always active: the later one waits the arc's gap for the earlier one
abbrev pub arc_before : List Place → Arc → Constraint
arc_before ps a = Before (time_of (place_with ps a.from.0)) Always (time_of (place_with ps a.to.0)) Always a.gap

-- one arc of a block after another
abbrev pub befores_in : List Place → List Arc → List Constraint
befores_in ps arcs = map (arc_before ps) arcs

-- one block after another
abbrev pub befores_of : Model → List Constraint
befores_of m = joined (map (befores_in (places_of m)) m.arcs)

-- ---- lengths

-- what is known of the order of the operations of block b: its arcs, and what its calls separate
abbrev pub known_befores : Model → ℕ → List Place → List Constraint
known_befores m b ps = let arcs : List Arc = arcs_or (slice_get m.arcs b) in
    befores_in (places_of m) arcs ++ call_befores_by m.ext.table arcs ps

abbrev pub length_in : Model → ℕ → ℕ → ExtBlock → BlockVars → List Constraint
length_in m b n block vars =
    let ps : List Place = block_places b n block vars in
    let arcs : List Arc = arcs_or (slice_get m.arcs b) in
    let owed : Accesses = owed_by (crowded_of m) (edges_between m.ext.blocks) b block ps in
    let room : ℕ = length (registers_among (block_room m.domains (definers_of m) ps)) in
    length_by m.ext.table room (b == 0) owed arcs (known_befores m b ps) vars.end block.horizon ps ∷ []

-- one block after another
abbrev pub lengths_of : Model → List Constraint
lengths_of m = over_blocks (length_in m) 0 0 m.ext.blocks m.blocks
