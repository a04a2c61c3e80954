-- Where a further block would be entered, the names that are live there stand in their places.
use Rattle.std.proofs.Common.{ℕ, zero, suc, ◌≡◌, ◌-◌, List, [], ◌∷◌, ◌++◌, length, map, replicate, refl, sym, ap, ◌∙◌, subst, arith}
use Rattle.std.proofs.Common.{Contains}
use Rattle.std.specs.Prelude.{Option, Some, None, slice_get, slice_index, unwrap_or, ◌==◌}
use Rattle.std.specs.Option.{option_map}
use Rattle.std.specs.List.{position_or_len}
use Rattle.un_base.specs.declared.ids.NameId.{NameId}
use Rattle.un_base.specs.declared.ids.TempId.{TempId}
use Rattle.un_isa.specs.declared.start.Start.{Start}
use Rattle.un_ir.specs.declared.function.Kind.{Kind}
use Rattle.un_ir.specs.declared.function.Kind.TheVariants.{General}
use Rattle.un_ir.specs.declared.function.Block.{Block}
use Rattle.un_ir.specs.declared.function.Function.{Function}
use Rattle.un_ir.specs.declared.extended.ExtBlock.{ExtBlock}
use Rattle.un_ir.specs.declared.extended.Ext.{Ext}
use Rattle.un_ir.specs.Extended.{name_kind}
use Rattle.un_ir.specs.Live.{IsLive, used, kept}
use Rattle.un_ir.specs.Linear.{in_temps, first_saved}
use Rattle.un_ir.specs.Runs.{values_at}
use Rattle.un_ir.specs.Source.{SourceState}
use Rattle.un_model.specs.declared.model.Options.{Options}
use Rattle.un_model.specs.Emission.{temp_register, temp_at_start, place_in}
use Rattle.un_model.specs.Variables.{model_of}
use Rattle.un_packet.specs.Step.{PacketState}
use Rattle.un_simulation.specs.Simulation.{LiveStand, held_at, as_held}
use Rattle.un_emit.specs.Emitted.{place_number, start_places}
use Rattle.un_emit.specs.OfSource.{IsOfSource}
use Rattle.un_lists.proofs.Lists.{get_below, length_get, member_map}
use Rattle.un_emit.proofs.OfSource.{lists_are, labels_at}
use Rattle.un_model.proofs.Operations.{contains_member}
use Rattle.un_model.proofs.Placed.{spot, spots_of}
use Rattle.un_model.proofs.PlacedSchedules.{all, range_at, member_joined, member_places}
use Rattle.un_model.proofs.TempKinds.{kind_at}
use Rattle.un_model.proofs.Readings.{Solved, numbered, fit_kinds, register_is}
use Rattle.un_emit.proofs.BlockEdges.{starts, live_in_is}
use Rattle.un_emit.proofs.BlockStarts.{parts}
use Rattle.un_emit.proofs.BlockValues.{of_all}
use Rattle.un_emit.proofs.InOps.{in_op, start_count, start_kind}
use Rattle.un_emit.proofs.Edges.{length-mapped, index_left, index_of_map, get_left, get_map, named_at}
use Rattle.un_emit.proofs.Runs.{region, StandAt}

block_of : (blocks : List Block) (name : NameId) (b k : ℕ) → IsLive blocks name b k → (block : Block) × (slice_get blocks b ≡ Some block)
block_of blocks name b k (used b2 k2 block q le m) = (block, q)
block_of blocks name b k (kept b2 k2 block c l q le n m rest) = (block, q)

map_get : {A B : Type 0} (f : A → B) (xs : List A) (k : ℕ) → slice_get (map f xs) k ≡ option_map f (slice_get xs k)
map_get f [] k = refl
map_get f (x ∷ xs) zero = refl
map_get f (x ∷ xs) (suc k) = map_get f xs k

module _ (e : Ext) (o : Options) (values : List ℕ) (h : Solved e o values) (f : Function) (lists : List (List NameId))
    (of : IsOfSource f lists e) where
  has_block : (b : ℕ) (block : Block) → slice_get f.blocks b ≡ Some block → (x : ExtBlock) × (slice_get e.blocks b ≡ Some x)
  has_block b block q = go (slice_get e.blocks b) refl
    where
      go : (x : Option ExtBlock) → slice_get e.blocks b ≡ x → (x : ExtBlock) × (slice_get e.blocks b ≡ Some x)
      go (Some x) s = (x, s)
      go None s =
          let z : Some block.label ≡ None = ap (option_map (λ (block : Block). block.label)) (sym q) ∙ labels_at f lists e of b
          ∙ ap (option_map (λ (block : ExtBlock). block.label)) s in
          absurd (cc z)

  pub live_stand : (start : Start) (b : ℕ) (s : SourceState) (p : PacketState)
      → StandAt e o values h b (values_at e.table start lists b s.values) p → LiveStand f (start_places (model_of e o) values) b s p
  live_stand start b s p stand name kind kd live = there (has_block b (block_of f.blocks name b 0 live).0
      (block_of f.blocks name b 0 live).1)
    where
      there : (x : ExtBlock) × (slice_get e.blocks b ≡ Some x) → held_at p (start_places (model_of e o) values b name.0) ≡ as_held kind
          (start_places (model_of e o) values b name.0) (slice_index s.values name.0)
      there (block, at) =
          let r = region e o values h b block at in
          let lv = of.live in
          let same = lists_are f lists e of b block at in
          let mem : Contains block.live_in name = subst (λ (ns : List NameId). Contains ns name) same ((lv.exact b name).1 live) in
          let nm = named_at block.live_in name (contains_member block.live_in name mem) in
          let j = position_or_len (λ (n : NameId). n.0 == name.0) block.live_in in
          let small = length_get block.live_in j nm.0 nm.1 in
          let count = start_count e o values h b block r at in
          let x = get_below (in_temps block.ops) j (omega (arith, small, count)) in
          let held = stand block at j x.0 x.1 in
          let i = in_op e o values h b block r at in
          let pl = i.placed in
          let m = (of_all e o values h b block r pl i.member).0 in
          let got : slice_get pl.op.results j ≡ Some x.0 = ap (λ xs. slice_get xs j) (sym i.results) ∙ x.1 in
          let mu = member_joined (map spots_of (all e o values)) (spots_of pl) (spot pl j x.0) (member_map spots_of (all e o values) pl m)
          (member_places (spot pl) pl.op.results 0 j j x.0 (omega arith) got) in
          let ps = parts e o values h b block r at in
          let temp : temp_at_start block name.0 ≡ Some x.0 = ap (λ xs. slice_get xs j)
          (live_in_is block.ops ps.0 ps.1 ∙ sym (starts block.ops ps.0 ps.1)) ∙ x.1 in
          let place : start_places (model_of e o) values b name.0 ≡ (range_at e o values (x.0).0).reg =
          ap (λ (z : Option ExtBlock). place_number (place_in (model_of e o) values z name.0)) at
          ∙ ap (λ (z : Option TempId). place_number (option_map (temp_register (model_of e o) values) z)) temp
          ∙ register_is e o values h (spot pl j x.0) mu in
          let kinds : kind_at e o values (numbered e o values h) (fit_kinds e o values h) (x.0).0 ≡ kind =
          start_kind e o values h b block r at j x.0 x.1
          ∙ ap (λ (z : Option Kind). unwrap_or z General) (get_left (map (name_kind e.names) block.live_in)
          (replicate (length (in_temps block.ops) - length block.live_in) General) j (name_kind e.names nm.0)
          (get_map (name_kind e.names) block.live_in j nm.0 nm.1))
          ∙ ap (λ n. unwrap_or (slice_get e.names n) General) nm.2
          ∙ ap (λ (ks : List Kind). unwrap_or (slice_get ks name.0) General) of.kinds
          ∙ ap (λ (z : Option Kind). unwrap_or z General) (map_get (λ (n : List ℕ × Kind). n.1) f.names name.0 ∙ kd) in
          let len = length-mapped (λ (name : NameId). slice_index s.values name.0) block.live_in in
          let value : slice_index (values_at e.table start lists b s.values) j ≡ slice_index s.values name.0 =
          ap (λ (ns : List NameId). slice_index (map (λ (name : NameId). slice_index s.values name.0) ns ++ first_saved e.table start) j)
          same
          ∙ index_left (map (λ (name : NameId). slice_index s.values name.0) block.live_in) (first_saved e.table start) j
          (omega (arith, small, len))
          ∙ index_of_map (λ (name : NameId). slice_index s.values name.0) block.live_in j nm.0 nm.1 ∙ ap (slice_index s.values) nm.2 in
          ap (held_at p) place ∙ held ∙ ap (λ (k : Kind). as_held k (range_at e o values (x.0).0).reg
          (slice_index (values_at e.table start lists b s.values) j)) kinds
          ∙ ap (as_held kind (range_at e o values (x.0).0).reg) value ∙ ap (λ n. as_held kind n (slice_index s.values name.0)) (sym place)
