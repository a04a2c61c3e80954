-- All that is posted for one block reads its store's variables alone, holds where it reads none, and counts over no more cycles than the
-- largest horizon.
use Rattle.std.proofs.Common.{ℕ, ◌≡◌, ◌+◌, Bool, true, false, List, [], ◌∷◌, ◌++◌, map, refl, sym, ap, subst, arith}
use Rattle.std.specs.Prelude.{Option, Some, None, slice_get, ◌==◌, if◌then◌else◌}
use Rattle.un_ir.specs.declared.extended.Ext.{Ext}
use Rattle.un_ir.specs.Extended.{IsExtended}
use Rattle.un_model.specs.declared.model.Arc.{Arc}
use Rattle.un_model.specs.declared.model.Options.{Options}
use Rattle.un_model.specs.Pairs.{joined}
use Rattle.un_model.specs.Variables.{model_of, blocks_count, blocks_temps, arcs_of}
use Rattle.un_lists.proofs.Lists.{Each, Member, each_of, each_map, each_join, each_more}
use Rattle.un_model.proofs.Placed.{Region, region_placed}
use Rattle.un_kinds.specs.Constraints.{Constraint}
use Rattle.un_sites.specs.Befores.{befores_in}
use Rattle.un_sites.specs.Places.{Place, Definer}
use Rattle.un_sites.specs.Postings.{of_place, edges_of, part_frame, part_limit, weighted}
use Rattle.un_sites.specs.Rooms.{apart_in, arcs_or, packets_in, spared_at, temps_in, twos_in}
use Rattle.un_post.specs.PartPostings.{part_in, part_postings, part_single, part_rooms, part_spared, part_twos, where_block}
use Rattle.un_post.specs.Posts.{largest_horizon}
use Rattle.un_post.proofs.Blocks.{blocks, in_all, places_in, region_vars}
use Rattle.un_post.proofs.CallOrder.{arcs_here}
use Rattle.un_post.proofs.Meeting.{joined_each}
use Rattle.un_post.proofs.Placing.{place_of}
use Rattle.un_post.proofs.Reading.{IsSound, PlaceIn, place_are, apart_are, spared_are, twos_are, part_frame_are, below_are}
use Rattle.un_post.proofs.ReadingModel.{n, pos, most, the_places, the_definers, definers_known, operands_known, over_are}
use Rattle.un_post.proofs.ReadingModel.{places_at, block_known, end_known, edges_at, arcs_at, packets_at, IsOk}

module _ (e : Ext) (o : Options) (extended : IsExtended e) where
  abbrev Ok : Constraint → Type 0
  Ok c = IsOk e o extended c

  join : (cs ds : List Constraint) → Each Ok cs → Each Ok ds → Each Ok (cs ++ ds)
  join cs ds h k = each_join Ok cs ds h k

  module _ (r : Region) (mr : Member r (blocks e o [])) where
    abbrev ds : List Definer
    ds = the_definers e o extended

    abbrev ps : List Place
    ps = places_at e o extended r

    known : Each (PlaceIn (n e o extended) (pos e o extended)) ps
    known = block_known e o extended r mr

    limit_ok : (limit : Option ℕ) → Each Ok (part_limit r.owner (region_vars r) limit)
    limit_ok None = tt
    limit_ok (Some l) = (
      below_are (n e o extended) (pos e o extended) (most e o extended) (weighted r.owner (region_vars r) ∷ []) l
          (end_known e o extended r mr, tt) (λ e. cc e),
      tt,
    )

    operations_ok : Each Ok (joined (map (of_place e.table o.slots ds) ps))
    operations_ok =
        let P : Place → Type 0 = λ p. Each Ok (of_place e.table o.slots ds p) in
        joined_each Ok (of_place e.table o.slots ds) ps (subst (Each P) (sym (places_in r)) (each_map P place_of (region_placed r)
        (each_of (λ q. P (place_of q)) (region_placed r) (λ q mq.
        place_are (n e o extended) (pos e o extended) (most e o extended) ds (definers_known e o extended) e.table o.slots (place_of q)
        (operands_known e o extended q (in_all e o [] r q mr mq))))))

    frame_ok : Ok (part_frame (model_of e o) ds ps)
    frame_ok = part_frame_are (n e o extended) (pos e o extended) (most e o extended) ds (definers_known e o extended)
        (model_of e o).flag ps (omega arith) known

    single_ok : (limit : Option ℕ) → Each Ok (part_single (model_of e o) ds limit r.block r.number r.owner (region_vars r))
    single_ok limit =
        let a = part_limit r.owner (region_vars r) limit in
        let b = joined (map (of_place e.table o.slots ds) ps) in
        let c = edges_of e.blocks ds r.block r.number r.owner (region_vars r) in
        let d = part_frame (model_of e o) ds ps ∷ [] in
        join a (b ++ (c ++ d)) (limit_ok limit) (join b (c ++ d) operations_ok (join c d (edges_at e o extended r mr) (frame_ok, tt)))

    -- ---- arcs

    arcs_ok : Each Ok (befores_in (the_places e o extended) (arcs_or (slice_get (arcs_of e) r.block)))
    arcs_ok =
        let is = ap arcs_or (arcs_here e.table (blocks_temps 0 0 e.blocks) 0 0 0 r.block e.blocks r mr (omega arith)) in
        subst (λ (arcs : List Arc). Each Ok (befores_in (the_places e o extended) arcs)) (sym is) (arcs_at e o extended r mr)

    -- ---- registers, calls and packets

    spared_ok : Each Ok (part_spared (model_of e o) ds ps)
    spared_ok =
        let t = e.table in
        let temps = temps_in ps in
        each_map Ok (spared_at t.clobbered [] ds ps) temps (each_of (λ y. Ok (spared_at t.clobbered [] ds ps y)) temps (λ y my.
        spared_are (n e o extended) (pos e o extended) (most e o extended) ds (definers_known e o extended) t.clobbered [] ps y known))

    rooms_ok : Each Ok (part_rooms (model_of e o) ds r.block r.number r.owner (region_vars r))
    rooms_ok =
        let a = befores_in (the_places e o extended) (arcs_or (slice_get (arcs_of e) r.block)) in
        let b = apart_in ds r.block r.number r.owner (region_vars r) in
        let c = part_spared (model_of e o) ds ps in
        let d = packets_in e.table r.block r.number r.owner (region_vars r) in
        join a (b ++ (c ++ d)) arcs_ok (join b (c ++ d)
        (apart_are (n e o extended) (pos e o extended) (most e o extended) ds (definers_known e o extended) ps known, tt)
        (join c d spared_ok (packets_at e o extended r mr)))

    twos_ok : Each Ok (part_twos (model_of e o) ds ps)
    twos_ok = joined_each Ok (twos_in o.slots ds) ps
        (each_more (PlaceIn (n e o extended) (pos e o extended)) (λ p. Each Ok (twos_in o.slots ds p)) ps
        (λ p g. twos_are (n e o extended) (pos e o extended) (most e o extended) ds (definers_known e o extended) o.slots p g) known)

    part_ok : (limit : Option ℕ) → Each Ok (part_in (model_of e o) ds limit r.block r.number r.owner (region_vars r))
    part_ok limit =
        let a = part_rooms (model_of e o) ds r.block r.number r.owner (region_vars r) in
        let b = part_twos (model_of e o) ds ps in
        join (part_single (model_of e o) ds limit r.block r.number r.owner (region_vars r)) (a ++ b) (single_ok limit)
        (join a b rooms_ok twos_ok)

  -- all of it
  pub part_sound : (k : ℕ) (limit : Option ℕ) → Each (IsSound (blocks_count e.blocks + 1) (largest_horizon e.blocks))
      (part_postings (model_of e o) k limit)
  part_sound k limit = over_are e o extended Ok (where_block k (part_in (model_of e o) (the_definers e o extended) limit)) (λ r mr.
      by r mr (r.block == k) refl)
    where
      by : (r : Region) → Member r (blocks e o []) → (b : Bool) → (r.block == k) ≡ b
          → Each Ok (where_block k (part_in (model_of e o) (the_definers e o extended) limit) r.block r.number r.owner (region_vars r))
      by r mr b is =
          let made = part_in (model_of e o) (the_definers e o extended) limit r.block r.number r.owner (region_vars r) in
          subst (λ (b : Bool). Each Ok (if b then made else [])) (sym is) (go b)
        where
          go : (b : Bool) → Each Ok (if b then part_in (model_of e o) (the_definers e o extended) limit r.block r.number r.owner
              (region_vars r) else [])
          go true = part_ok r mr limit
          go false = tt
