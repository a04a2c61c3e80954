-- What is posted for the part of a block, under a limit on its cost or none.
use Rattle.std.specs.Prelude.{ℕ, ◌==◌, List, [], ◌∷◌, ◌++◌, Option, map, slice_get, if◌then◌else◌}
use Rattle.un_ir.specs.declared.extended.ExtBlock.{ExtBlock}
use Rattle.un_model.specs.declared.model.BlockVars.{BlockVars}
use Rattle.un_model.specs.declared.model.Model.{Model}
use Rattle.un_model.specs.Pairs.{joined, over_blocks}
use Rattle.un_kinds.specs.Constraints.{Constraint}
use Rattle.un_sites.specs.Befores.{befores_in}
use Rattle.un_sites.specs.Places.{Place, Definer, block_places, definers_of, places_of}
use Rattle.un_sites.specs.Postings.{of_place, edges_of, part_frame, part_limit}
use Rattle.un_sites.specs.Rooms.{apart_in, arcs_or, packets_in, spared_at, temps_in, twos_in}

-- of its cost, of its operations, of the edges from it and of the frame in it
abbrev pub part_single : Model → List Definer → Option ℕ → ℕ → ℕ → ExtBlock → BlockVars → List Constraint
part_single m ds limit b n block vars =
    let ps : List Place = block_places b n block vars in
    part_limit block vars limit ++ (joined (map (of_place m.ext.table m.options.slots ds) ps)
    ++ (edges_of m.ext.blocks ds b n block vars ++ part_frame m ds ps ∷ []))

-- its calls spare its temporaries; nothing is known beforehand of what arcs put before and behind a call
abbrev pub part_spared : Model → List Definer → List Place → List Constraint
part_spared m ds ps = map (spared_at m.ext.table.clobbered [] ds ps) (temps_in ps)

-- of its arcs, its registers, its calls and its packets
abbrev pub part_rooms : Model → List Definer → ℕ → ℕ → ExtBlock → BlockVars → List Constraint
part_rooms m ds b n block vars =
    befores_in (places_of m) (arcs_or (slice_get m.arcs b))
    ++ (apart_in ds b n block vars ++ (part_spared m ds (block_places b n block vars) ++ packets_in m.ext.table b n block vars))

-- of each two operands of its operations, which the rest implies
abbrev pub part_twos : Model → List Definer → List Place → List Constraint
part_twos m ds ps = joined (map (twos_in m.options.slots ds) ps)

-- All of it. Lengths and pressure, which the rest implies, are left out.
abbrev pub part_in : Model → List Definer → Option ℕ → ℕ → ℕ → ExtBlock → BlockVars → List Constraint
part_in m ds limit b n block vars = part_single m ds limit b n block vars
    ++ (part_rooms m ds b n block vars ++ part_twos m ds (block_places b n block vars))

-- what is made of block k, where it is this one
abbrev pub where_block : {A : Type 0} → ℕ → (ℕ → ℕ → ExtBlock → BlockVars → List A) → ℕ → ℕ → ExtBlock → BlockVars → List A
where_block k f b n block vars = if b == k then f b n block vars else []

-- what is posted for the part of block k of a model
abbrev pub part_postings : Model → ℕ → Option ℕ → List Constraint
part_postings m k limit = over_blocks (where_block k (part_in m (definers_of m) limit)) 0 0 m.ext.blocks m.blocks
