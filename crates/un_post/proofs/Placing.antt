-- The operations of a model and the definers of its temporaries, as propagators name them, are those that its schedule has.
use Rattle.std.proofs.Common.{ℕ, ◌≡◌, ◌+◌, List, [], ◌∷◌, ◌++◌, length, map, refl, sym, ap, ◌∙◌, arith}
use Rattle.std.specs.Prelude.{Option, Some, slice_get}
use Rattle.std.specs.List.{range_with_len}
use Rattle.std.specs.Option.{option_map}
use Rattle.un_base.specs.declared.ids.TempId.{TempId}
use Rattle.un_base.specs.declared.ids.VarId.{VarId}
use Rattle.un_ir.specs.declared.extended.ExtOp.{ExtOp}
use Rattle.un_ir.specs.declared.extended.ExtBlock.{ExtBlock}
use Rattle.un_ir.specs.declared.extended.Ext.{Ext}
use Rattle.un_ir.specs.Extended.{all_results, temp}
use Rattle.un_model.specs.declared.model.Options.{Options}
use Rattle.un_model.specs.Pairs.{pairs_from, over_blocks}
use Rattle.un_model.specs.Variables.{model_of, op_vars, ops_vars, var_count, var_at, ops_count, block_count, blocks_vars, register_place}
use Rattle.un_lists.proofs.Lists.{Member, map-append, slice_get-map}
use Rattle.un_model.proofs.Placed.{Placed, placed, block_placed, blocks_placed, vars_of, all_count, at_number, Spot, temp_vars, temps_are}
use Rattle.un_model.proofs.PlacedSchedules.{all, spots, spot_here}
use Rattle.un_sites.specs.Places.{Place, Definer, place_at, block_places, places_of, definer_by, definer_of, definers_of, definer_or}
use Rattle.un_sites.specs.Places.{definers_at}

abbrev pub place_of : Placed → Place
place_of q = record { block = q.block; end = q.close; op = q.number; it = q.op; vars = vars_of q }

abbrev pub definer_at : Spot → Definer
definer_at s = record { place = place_of s.definer; reg = var_at (s.definer.first + register_place s.definer.op + s.place) }

-- ---- operations

pub placed_places : (b : ℕ) (owner : ExtBlock) (close : VarId) (n first : ℕ) (ops : List ExtOp)
    → pairs_from (place_at b close) n ops (ops_vars first ops) ≡ map place_of (placed b owner close n first ops)
placed_places b owner close n first [] = refl
placed_places b owner close n first (op ∷ ops) = ap (λ ps. place_at b close n op (op_vars first op) ∷ ps)
    (placed_places b owner close (n + 1) (first + var_count op) ops)

pub places_are : (b n first : ℕ) (blocks : List ExtBlock)
    → over_blocks block_places b n blocks (blocks_vars first blocks) ≡ map place_of (blocks_placed b n first blocks)
places_are b n first [] = refl
places_are b n first (block ∷ blocks) =
    let rest = blocks_placed (b + 1) (n + length block.ops) (first + block_count block) blocks in
    ap (λ ps. ps ++ over_blocks block_places (b + 1) (n + length block.ops) blocks (blocks_vars (first + block_count block) blocks))
    (placed_places b block (var_at (first + ops_count block.ops)) n first block.ops)
    ∙ ap (λ ps. map place_of (block_placed b n first block) ++ ps)
    (places_are (b + 1) (n + length block.ops) (first + block_count block) blocks)
    ∙ sym (map-append place_of (block_placed b n first block) rest)

module _ (e : Ext) (o : Options) (x : List ℕ) where
  pub place_here : (q : Placed) → Member q (all e o x) → slice_get (places_of (model_of e o)) q.number ≡ Some (place_of q)
  place_here q m =
      ap (λ ps. slice_get ps q.number) (places_are 0 0 0 e.blocks)
      ∙ slice_get-map place_of (all e o x) q.number ∙ ap (option_map place_of)
      (at_number 0 (all e o x) q q.number (all_count 0 0 0 e.blocks) m (omega arith))

  -- ---- definers

  module _ (numbered : all_results e.blocks ≡ map temp (range_with_len 0 (length (all_results e.blocks)))) where
    pub definer_here : (s : Spot) → Member s (spots e o x) → Member s.definer (all e o x)
        → slice_get (definers_of (model_of e o)) s.temp.0 ≡ Some (definer_at s)
    definer_here s m d =
        let vars : slice_get (model_of e o).temps s.temp.0 ≡ Some (temp_vars s) =
        ap (λ xs. slice_get xs s.temp.0) (temps_are 0 0 0 e.blocks) ∙ slice_get-map temp_vars (spots e o x) s.temp.0
        ∙ ap (option_map temp_vars) (spot_here e o x numbered s m) in
        slice_get-map (definer_of (places_of (model_of e o))) (model_of e o).temps s.temp.0
        ∙ ap (option_map (definer_of (places_of (model_of e o)))) vars
        ∙ ap (λ (p : Option Place). Some (definer_by (temp_vars s) p)) (place_here s.definer d)

    -- among the definers of several temporaries
    pub definer_among : (s : Spot) (ys : List TempId) (i : ℕ) → Member s (spots e o x) → Member s.definer (all e o x)
        → slice_get ys i ≡ Some s.temp
        → slice_get (definers_at (definers_of (model_of e o)) ys) i ≡ Some (definer_at s)
    definer_among s ys i m d at =
        let ds = definers_of (model_of e o) in
        slice_get-map (λ (y : TempId). definer_or (slice_get ds y.0)) ys i
        ∙ ap (option_map (λ (y : TempId). definer_or (slice_get ds y.0))) at
        ∙ ap (λ (y : Option Definer). Some (definer_or y)) (definer_here s m d)
