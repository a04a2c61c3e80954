-- All that is posted for a model reads its store's variables alone, holds where it reads none, and counts over no more cycles than
-- the largest horizon.
use Rattle.std.proofs.Common.{ℕ, zero, suc, ◌≡◌, ◌+◌, ◌<◌, ◌≤◌, ◌^◌, Bool, true, false, List, [], ◌∷◌, ◌++◌, length, map, fold, max}
use Rattle.std.proofs.Common.{inl, inr, refl, sym, ap, ◌∙◌, subst, arith}
use Rattle.std.specs.Prelude.{Option, Some, None, slice_get, nat_lt, ◌==◌, if◌then◌else◌}
use Rattle.std.specs.List.{range_with_len, AllZip}
use Rattle.std.specs.Option.{option_to_list}
use Rattle.un_base.specs.declared.ids.TempId.{TempId}
use Rattle.un_base.specs.declared.ids.VarId.{VarId}
use Rattle.un_ir.specs.declared.extended.Ext.{Ext}
use Rattle.un_ir.specs.declared.extended.ExtBlock.{ExtBlock}
use Rattle.un_ir.specs.declared.extended.ExtKind.{ExtKind}
use Rattle.un_ir.specs.declared.extended.ExtKind.TheVariants.{In, Out, Body, End, Copy, Enter, Leave}
use Rattle.un_ir.specs.declared.extended.ExtOp.{ExtOp}
use Rattle.un_ir.specs.declared.extended.Operand.{Operand}
use Rattle.un_ir.specs.Extended.{IsExtended, IsGoodExtBlock, IsGoodOperand, IsMadeOf, Parts, AllAre, Want}
use Rattle.un_ir.specs.Extended.{wants_of, is_inner, is_end, is_copy}
use Rattle.un_ir.specs.Extended.{is_enter}
use Rattle.un_ir.specs.Linear.{is_in, is_out}
use Rattle.un_ir.specs.Live.{targets_of}
use Rattle.un_model.specs.declared.model.Arc.{Arc}
use Rattle.un_model.specs.declared.model.BlockVars.{BlockVars}
use Rattle.un_model.specs.declared.model.Model.{Model}
use Rattle.un_model.specs.declared.model.Options.{Options}
use Rattle.un_model.specs.declared.model.TempVars.{TempVars}
use Rattle.un_model.specs.ArcLaws.{arc_told}
use Rattle.un_model.specs.Arcs.{block_arcs, IsArcOf}
use Rattle.un_ir.specs.Linear.{place_over}
use Rattle.un_model.specs.Congruences.{term_of, live_in_temps}
use Rattle.un_model.specs.Pairs.{over_blocks}
use Rattle.un_model.specs.Variables.{model_of, var_at, var_if, var_count, ops_count, block_count, blocks_count, blocks_vars, blocks_temps}
use Rattle.un_ir.specs.Kinds.{is_optional}
use Rattle.un_model.specs.Variables.{count_if, has_cycle, cycle_place, choice_place}
use Rattle.un_model.specs.Variables.{chosen_operands, own_horizon}
use Rattle.un_lists.proofs.Lists.{Each, Member, each_of, each_member, each_more, each_map, each_join}
use Rattle.un_lists.proofs.Lists.{each_all, each_filter, member_at, member_map}
use Rattle.un_lists.proofs.Lists.{length_get, member_append_right}
use Rattle.un_lists.proofs.Lists.{place_of as position_of}
use Rattle.un_model.proofs.Operations.{GoodPlaced, all_good, placed_get}
use Rattle.un_model.proofs.Placed.{Placed, placed, block_placed, blocks_placed, Region, region_placed, Spot}
use Rattle.un_model.proofs.Placed.{spot, spots_of, all_spots, temp_vars}
use Rattle.un_model.proofs.Placed.{temps_are}
use Rattle.un_model.proofs.PlacedSchedules.{joined_member, places_member}
use Rattle.un_prop.specs.Acts.{at_vars}
use Rattle.un_alt.specs.declared.frame.FrameLeave.{FrameLeave}
use Rattle.un_prec.specs.declared.below.Weighted.{Weighted}
use Rattle.un_sites.specs.Befores.{place_or, place_with, arc_before, befores_in, befores_of, known_befores, length_in, lengths_of}
use Rattle.un_kinds.specs.Constraints.{Constraint, Counted}
use Rattle.un_sites.specs.Places.{Place, Definer, time_by, block_places, places_of, definer_by, definer_of, definers_of}
use Rattle.un_sites.specs.Postings.{over_places, of_place, last_place, congruence, over_edge, edges_of}
use Rattle.un_sites.specs.Postings.{with_kind, leaves_in, frame_by, frame_of}
use Rattle.un_sites.specs.Postings.{ends_by, limit_of, postings_of}
use Rattle.un_sites.specs.Pressures.{block_room, registers_among, pressure_in, pressures_of}
use Rattle.un_post.specs.Listed.{counts_of, all_postings_of, posted_rows}
use Rattle.un_post.specs.Posts.{largest_horizon}
use Rattle.un_sites.specs.Rooms.{apart_in, aparts_of, spared_in, spared_at, arcs_or, clobbers_of, packets_in, packets_of, twos_in, twos_of}
use Rattle.un_sites.specs.Rooms.{rooms_of, temps_in}
use Rattle.un_sites.specs.Saved.{crowded_of, edges_between, owed_by}
use Rattle.un_kinds.specs.Scopes.{leave_vars}
use Rattle.un_post.proofs.Blocks.{blocks, in_all, region_vars, places_in}
use Rattle.un_post.proofs.Congruences.{in_is}
use Rattle.un_root.proofs.Eaches.{zip_each}
use Rattle.un_post.proofs.Meeting.{joined_each}
use Rattle.un_post.proofs.Memory.{member_contains, arcs_by_regions}
use Rattle.un_post.proofs.Placing.{place_of, places_are, place_here}
use Rattle.un_post.proofs.Reading.{IsSound, PlaceIn, DefinerIn, MayBe, Within, OperandsIn, no_place_in, get_in, place_are, last_in}
use Rattle.un_post.proofs.Reading.{Timed, sound}
use Rattle.un_post.proofs.Counts.{counts_within, counts_some}
use Rattle.un_post.proofs.Reading.{same_are, apart_are, spared_are, twos_are, leaves_are, frame_are}
use Rattle.un_post.proofs.Reading.{arc_are, packet_are, length_are, below_are, joined_places}
use Rattle.un_post.proofs.ReadingPressures.{pressure_are}
use Rattle.un_root.proofs.RegisterBounds.{run_below}
use Rattle.un_model.proofs.Regions.{over_regions, region_is, ended, last_of, front_of, region_parts}

-- ---- what stands at a block's start stands nowhere else

not_start : (test : ExtKind → Bool) → test In ≡ false → (kind : ExtKind) → test kind ≡ true → is_in kind ≡ false
not_start test never kind h = by (is_in kind) refl
  where
    by : (b : Bool) → is_in kind ≡ b → is_in kind ≡ false
    by false e = e
    by true e = let z : true ≡ false = sym h ∙ ap test (in_is kind e) ∙ never in absurd (cc z)

abbrev NotStart : ExtOp → Type 0
NotStart op = is_in op.kind ≡ false

none_start : (test : ExtKind → Bool) → test In ≡ false → (ops : List ExtOp) → AllAre test ops → Each NotStart ops
none_start test never ops h = each_more (λ (op : ExtOp). test op.kind ≡ true) NotStart ops (λ op t. not_start test never op.kind t)
    (each_all (λ (op : ExtOp). test op.kind ≡ true) ops h)

later_not_start : (ops : List ExtOp) (p : Parts) (k : ℕ) (op : ExtOp) → IsMadeOf ops p → slice_get ops (suc k) ≡ Some op → NotStart op
later_not_start ops p k op made at =
    let ending = option_to_list p.ending in
    let last = p.out in
    let rest = p.inner ++ (ending ++ (p.late ++ p.out ∷ [])) in
    let none = each_join NotStart p.inner (ending ++ (p.late ++ p.out ∷ [])) (none_start is_inner refl p.inner made.inner)
    (each_join NotStart ending (p.late ++ p.out ∷ []) (none_start is_end refl ending made.ending)
    (each_join NotStart p.late (p.out ∷ []) (none_start is_copy refl p.late made.late) (not_start is_out refl last.kind made.out, tt))) in
    let there : slice_get rest k ≡ Some op = ap (λ os. slice_get os (suc k)) (sym made.whole) ∙ at in
    each_member NotStart rest op none (member_at rest k op there)

timed_by : (kind : ExtKind) (end : VarId) (v : ℕ) → is_in kind ≡ false → at_vars (time_by end kind (var_if (has_cycle kind) v)) ≡ [] → ⊥
timed_by In end v f e = cc f
timed_by Out end v f e = cc e
timed_by (Body so) end v f e = cc e
timed_by (End term) end v f e = cc e
timed_by (Copy node) end v f e = cc e
timed_by Enter end v f e = cc e
timed_by Leave end v f e = cc e

-- ---- the largest horizon

grows : (a : ℕ) (xs : List ℕ) → a ≤ fold max a xs
grows a [] = omega arith
grows a (x ∷ xs) = let r = grows (max a x) xs in omega arith

most_of : (a : ℕ) (xs : List ℕ) (y : ℕ) → Member y xs → y ≤ fold max a xs
most_of a [] y m = elim m [ ]
most_of a (x ∷ xs) y (inl e) = let r = grows (max a x) xs in omega arith
most_of a (x ∷ xs) y (inr m) = most_of (max a x) xs y m

-- ---- operations with their variables

abbrev InPlaced : ℕ → Placed → Type 0
InPlaced n q = (q.close.0 < n) × (q.first + var_count q.op ≤ n)

placed_in : (n b : ℕ) (owner : ExtBlock) (close : VarId) (k first : ℕ) (ops : List ExtOp) → close.0 < n → first + ops_count ops ≤ n
    → Each (InPlaced n) (placed b owner close k first ops)
placed_in n b owner close k first [] lt le = tt
placed_in n b owner close k first (op ∷ ops) lt le =
    ((lt, omega arith), placed_in n b owner close (k + 1) (first + var_count op) ops lt (omega arith))

all_in : (n b k first : ℕ) (blocks : List ExtBlock) → first + blocks_count blocks ≤ n → Each (InPlaced n) (blocks_placed b k first blocks)
all_in n b k first [] le = tt
all_in n b k first (block ∷ blocks) le =
    each_join (InPlaced n) (block_placed b k first block)
    (blocks_placed (b + 1) (k + length block.ops) (first + block_count block) blocks)
    (placed_in n b block (var_at (first + ops_count block.ops)) k first block.ops (omega arith) (omega arith))
    (all_in n (b + 1) (k + length block.ops) (first + block_count block) blocks (omega arith))

ends_in : (n first : ℕ) (blocks : List ExtBlock) → first + blocks_count blocks ≤ n
    → Each (λ (w : Weighted). w.end.0 < n) (ends_by blocks (blocks_vars first blocks))
ends_in n first [] le = tt
ends_in n first (block ∷ blocks) le = (omega arith, ends_in n (first + block_count block) blocks (omega arith))

ends_some : (blocks : List ExtBlock) → 0 < length blocks → ends_by blocks (blocks_vars 0 blocks) ≡ [] → ⊥
ends_some [] lt e = absurd (omega arith)
ends_some (block ∷ blocks) lt e = cc e

module _ (n : ℕ) (pos : 0 < n) where
  may_be : (b : Bool) (k : ℕ) → (b ≡ true → k < n) → MayBe n pos (var_if b k)
  may_be true k h = h refl
  may_be false k h = tt

  place_in : (q : Placed) → InPlaced n q → PlaceIn n pos (place_of q)
  place_in q h =
      let op = q.op in
      let le = h.1 in
      let a = q.first + choice_place op in
      let count = length (chosen_operands op) in
      record {
        end = h.0;
        instr = may_be (is_optional op.kind) q.first (λ t. let one : count_if (is_optional op.kind) ≡ 1 = ap count_if t in omega arith);
        cycle = may_be (has_cycle op.kind) (q.first + cycle_place op)
            (λ t. let one : count_if (has_cycle op.kind) ≡ 1 = ap count_if t in omega arith);
        choices = each_map (λ (v : VarId). v.0 < n) var_at (range_with_len a count)
            (each_of (λ k. k < n) (range_with_len a count) (λ k m. let lt = run_below a count k m in omega arith));
      }

  definer_is : (t : TempVars) (o : Option Place) (ps : List Place) (k : ℕ) → slice_get ps k ≡ o → t.reg.0 < n
      → Each (PlaceIn n pos) ps → DefinerIn n pos (definer_by t o)
  definer_is t None ps k e lt h = record { place = no_place_in n pos; reg = lt }
  definer_is t (Some p) ps k e lt h = record { place = each_member (PlaceIn n pos) ps p h (member_at ps k p e); reg = lt }

-- ---- a model

module _ (e : Ext) (o : Options) (extended : IsExtended e) where
  abbrev pub n : ℕ
  n = blocks_count e.blocks + 1

  pub pos : 0 < n
  pos = omega arith

  abbrev pub most : ℕ
  most = largest_horizon e.blocks

  abbrev m : Model
  m = model_of e o

  abbrev pub the_places : List Place
  the_places = places_of m

  abbrev pub the_definers : List Definer
  the_definers = definers_of m

  abbrev the_placed : List Placed
  the_placed = blocks_placed 0 0 0 e.blocks

  in_placed : Each (InPlaced n) the_placed
  in_placed = all_in n 0 0 0 e.blocks (omega arith)

  each_placed : (P : Place → Type 0) → ((q : Placed) → Member q the_placed → P (place_of q)) → Each P the_places
  each_placed P h = subst (Each P) (sym (places_are 0 0 0 e.blocks))
      (each_map P place_of the_placed (each_of (λ q. P (place_of q)) the_placed h))

  place_known : (q : Placed) → Member q the_placed → PlaceIn n pos (place_of q)
  place_known q mq = place_in n pos q (each_member (InPlaced n) the_placed q in_placed mq)

  pub places_known : Each (PlaceIn n pos) the_places
  places_known = each_placed (PlaceIn n pos) place_known

  pub spot_known : (s : Spot) → Member s (all_spots the_placed) → (temp_vars s).reg.0 < n
  spot_known s ms =
      let r = joined_member spots_of the_placed s ms in
      let q = r.0 in
      let u = places_member (spot q) 0 q.op.results s r.2 in
      let lt = length_get q.op.results u.0 u.1 u.2 in
      let le = (each_member (InPlaced n) the_placed q in_placed r.1).1 in
      subst (λ (t : Spot). (temp_vars t).reg.0 < n) u.3 (omega arith)

  pub definers_known : Each (DefinerIn n pos) the_definers
  definers_known =
      let P : TempVars → Type 0 = λ t. DefinerIn n pos (definer_of the_places t) in
      each_map (DefinerIn n pos) (definer_of the_places) m.temps
      (subst (Each P) (sym (temps_are 0 0 0 e.blocks)) (each_map P temp_vars (all_spots the_placed)
      (each_of (λ s. P (temp_vars s)) (all_spots the_placed) (λ s ms.
      let t = temp_vars s in
      definer_is n pos t (slice_get the_places t.op.0) the_places t.op.0 refl (spot_known s ms) places_known))))

  -- ---- operands

  abbrev OperandIn : Place → Operand → Type 0
  OperandIn p x = Timed n pos p × (x.alts ≡ [] → ⊥)

  none_read : (R : Operand → Want → Type 0) (P : Operand → Type 0) (xs : List Operand) → AllZip R xs [] → Each P xs
  none_read R P [] h = tt
  none_read R P (x ∷ xs) h = absurd h

  some_alternative : (before : List TempId) (x : Operand) (want : Want) → IsGoodOperand e.names e.blocks before x want → x.alts ≡ [] → ⊥
  some_alternative before x want fits empty =
      let lt = fits.chooses in let z : length x.alts ≡ 0 = ap length empty in absurd (omega arith)

  -- the operation at a block's start has no operands
  reads_known : (q : Placed) (before : List TempId) (b : Bool) → is_in q.op.kind ≡ b
      → AllZip (IsGoodOperand e.names e.blocks before) q.op.operands (wants_of e.table e.names e.blocks q.owner q.op.kind q.op)
      → Each (OperandIn (place_of q)) q.op.operands
  reads_known q before false f zipped =
      zip_each (IsGoodOperand e.names e.blocks before) (OperandIn (place_of q)) q.op.operands
      (wants_of e.table e.names e.blocks q.owner q.op.kind q.op)
      (λ x want fits. (timed_by q.op.kind q.close (q.first + cycle_place q.op) f, some_alternative before x want fits)) zipped
  reads_known q before true f zipped =
      none_read (IsGoodOperand e.names e.blocks before) (OperandIn (place_of q)) q.op.operands
      (subst (λ (c : ExtKind). AllZip (IsGoodOperand e.names e.blocks before) q.op.operands
      (wants_of e.table e.names e.blocks q.owner c q.op)) (in_is q.op.kind f) zipped)

  pub operands_known : (q : Placed) → Member q the_placed → OperandsIn n pos most the_definers definers_known (place_of q)
  operands_known q mq =
      let good = each_member (GoodPlaced e (2 ^ 24) extended.good) the_placed q (all_good e (2 ^ 24) extended.good) mq in
      let keeps = good.keeps in
      record { place = place_known q mq; timed = reads_known q good.before (is_in q.op.kind) refl keeps.operands }

  -- ---- block by block

  pub over_are : {A : Type 0} (P : A → Type 0) (f : ℕ → ℕ → ExtBlock → BlockVars → List A)
      → ((r : Region) → Member r (blocks e o []) → Each P (f r.block r.number r.owner (region_vars r)))
      → Each P (over_blocks f 0 0 e.blocks (blocks_vars 0 e.blocks))
  over_are P f h = subst (Each P) (sym (over_regions f 0 0 0 e.blocks))
      (joined_each P (λ (r : Region). f r.block r.number r.owner (region_vars r)) (blocks e o [])
      (each_of (λ (r : Region). Each P (f r.block r.number r.owner (region_vars r))) (blocks e o []) h))

  abbrev pub places_at : Region → List Place
  places_at r = block_places r.block r.number r.owner (region_vars r)

  pub block_known : (r : Region) → Member r (blocks e o []) → Each (PlaceIn n pos) (places_at r)
  block_known r mr = subst (Each (PlaceIn n pos)) (sym (places_in r)) (each_map (PlaceIn n pos) place_of (region_placed r)
      (each_of (λ q. PlaceIn n pos (place_of q)) (region_placed r) (λ q mq. place_known q (in_all e o [] r q mr mq))))

  owner_member : (r : Region) → Member r (blocks e o []) → Member r.owner e.blocks
  owner_member r mr =
      let k = position_of (blocks e o []) r mr in
      member_at e.blocks k.0 r.owner (region_is 0 0 0 e.blocks k.0 r k.2).0

  owner_good : (r : Region) → Member r (blocks e o []) → IsGoodExtBlock e.table e.names e.blocks r.owner
  owner_good r mr =
      let good = extended.good in
      each_member (IsGoodExtBlock e.table e.names e.blocks) e.blocks r.owner
      (each_all (IsGoodExtBlock e.table e.names e.blocks) e.blocks good.each) (owner_member r mr)

  -- ---- the parts of what is posted

  abbrev pub IsOk : Constraint → Type 0
  IsOk c = IsSound n most c

  of_places_ok : Each IsOk (over_places (of_place e.table o.slots the_definers) m)
  of_places_ok = joined_each IsOk (of_place e.table o.slots the_definers) the_places
      (each_placed (λ p. Each IsOk (of_place e.table o.slots the_definers p)) (λ q mq.
      place_are n pos most the_definers definers_known e.table o.slots (place_of q) (operands_known q mq)))

  pub edges_at : (r : Region) → Member r (blocks e o []) → Each IsOk (edges_of e.blocks the_definers r.block r.number r.owner (region_vars r))
  edges_at r mr =
      let a = r.owner in
      let out = last_place (places_at r) in
      joined_each IsOk (λ (l : ℕ). over_edge the_definers out a (slice_get e.blocks l)) (targets_of r.block (term_of a.ops))
      (each_of (λ (l : ℕ). Each IsOk (over_edge the_definers out a (slice_get e.blocks l))) (targets_of r.block (term_of a.ops))
      (λ l ml. edge a out (last_in n pos most the_definers definers_known (places_at r) (block_known r mr)) (slice_get e.blocks l)))
    where
      edge : (a : ExtBlock) (out : Place) → PlaceIn n pos out → (b : Option ExtBlock) → Each IsOk (over_edge the_definers out a b)
      edge a out g None = tt
      edge a out g (Some b) = joined_places IsOk (congruence the_definers out a b) 0 (live_in_temps b.ops) (λ j x.
          let it = out.it in
          let v = out.vars in
          let k = place_over a b j in
          same_are n pos most the_definers definers_known x (slice_get it.operands k) (slice_get v.choices k)
          (get_in n pos v.choices k g.choices))

  edges_ok : Each IsOk (over_blocks (edges_of e.blocks the_definers) 0 0 e.blocks (blocks_vars 0 e.blocks))
  edges_ok = over_are IsOk (edges_of e.blocks the_definers) edges_at

  frame_ok : Each IsOk (frame_of m the_definers the_places)
  frame_ok =
      let enters = with_kind is_enter the_places in
      let leaves = over_blocks leaves_in 0 0 e.blocks (blocks_vars 0 e.blocks) in
      let known = over_are (λ (l : FrameLeave). Within n pos (leave_vars l)) leaves_in (λ r mr.
      leaves_are n pos most the_definers definers_known (places_at r) (block_known r mr)) in
      each_map IsOk (frame_by m the_definers the_places) enters
      (each_more (PlaceIn n pos) (λ p. IsOk (frame_by m the_definers the_places p)) enters (λ p g.
      frame_are n pos most the_definers definers_known m.flag the_places p leaves (omega arith) places_known g known)
      (each_filter (PlaceIn n pos) (λ (p : Place). is_enter p.it.kind) the_places places_known))

  limit_ok : (limit : Option ℕ) → Each IsOk (limit_of m limit)
  limit_ok None = tt
  limit_ok (Some l) =
      let good = extended.good in
      let ends = ends_by e.blocks (blocks_vars 0 e.blocks) in
      (below_are n pos most ends l (ends_in n 0 e.blocks (omega arith)) (ends_some e.blocks good.entry), tt)

  counts_ok : (limit : Option ℕ) → Each IsOk (counts_of m limit)
  counts_ok None = tt
  counts_ok (Some l) = by (nat_lt 1 (length e.blocks)) refl
    where
      by : (b : Bool) → nat_lt 1 (length e.blocks) ≡ b → Each IsOk (if b then Counted (posted_rows m) l ∷ [] else [])
      by false is = tt
      by true is = (
        sound n pos most (Counted (posted_rows m) l) (counts_within e o n pos (omega arith)) (counts_some m) refl,
        tt,
      )

  pub arcs_at : (r : Region) → Member r (blocks e o []) → (let owner = r.owner in
      Each IsOk (befores_in the_places (block_arcs e.table (blocks_temps 0 0 e.blocks) r.number owner.ops)))
  arcs_at r mr =
      let owner = r.owner in
      let arcs = block_arcs e.table (blocks_temps 0 0 e.blocks) r.number owner.ops in
      each_map IsOk (arc_before the_places) arcs (each_of (λ a. IsOk (arc_before the_places a)) arcs (λ a ma.
      arc_are n pos most the_places a places_known (timed a (arc_told e.table (blocks_temps 0 0 e.blocks) r.number owner.ops a
      (member_contains arcs a ma)))))
    where
      later : (k : ℕ) (op : ExtOp) → 0 < k → (let owner = r.owner in slice_get owner.ops k ≡ Some op) → is_in op.kind ≡ false
      later zero op lt at = absurd (omega arith)
      later (suc k) op lt at =
          let owner = r.owner in
          let good = owner_good r mr in
          let parts = good.parts in
          later_not_start owner.ops parts.0 k op parts.1 at

      timed : (a : Arc) → (let owner = r.owner in
          IsArcOf e.table (blocks_temps 0 0 e.blocks) r.number owner.ops a) → Timed n pos (place_with the_places a.to.0)
      timed a told =
          let owner = r.owner in
          let p = placed_get r.block owner (var_at (r.first + ops_count owner.ops)) r.number r.first told.later owner.ops told.to told.to_at
          in
          let q = p.0 in
          let mq = in_all e o [] r q mr (member_at (region_placed r) told.later q p.1) in
          let order = told.order in
          let start = later told.later told.to (omega arith) told.to_at in
          let own = subst (λ (op : ExtOp). is_in op.kind ≡ false) (sym p.2) start in
          let at = ap (slice_get the_places) (told.numbers.1 ∙ sym p.3) ∙ place_here e o [] q mq in
          subst (λ (x : Option Place). Timed n pos (place_or x)) (sym at) (timed_by q.op.kind q.close (q.first + cycle_place q.op) own)

  befores_ok : Each IsOk (befores_of m)
  befores_ok =
      let P : List Arc → Type 0 = λ arcs. Each IsOk (befores_in the_places arcs) in
      joined_each IsOk (befores_in the_places) m.arcs
      (subst (Each P) (sym (arcs_by_regions e.table (blocks_temps 0 0 e.blocks) 0 0 0 e.blocks))
      (each_map P (λ (r : Region). let owner = r.owner in block_arcs e.table (blocks_temps 0 0 e.blocks) r.number owner.ops) (blocks e o [])
      (each_of _ (blocks e o []) arcs_at)))

  aparts_ok : Each IsOk (aparts_of m)
  aparts_ok = over_are IsOk (apart_in the_definers) (λ r mr.
      (apart_are n pos most the_definers definers_known (places_at r) (block_known r mr), tt))

  clobbers_ok : Each IsOk (clobbers_of m)
  clobbers_ok = over_are IsOk (spared_in e.table.clobbered m.arcs the_definers) (λ r mr.
      let arcs = arcs_or (slice_get m.arcs r.block) in
      let temps = temps_in (places_at r) in
      each_map IsOk (spared_at e.table.clobbered arcs the_definers (places_at r)) temps
      (each_of (λ t. IsOk (spared_at e.table.clobbered arcs the_definers (places_at r) t)) temps (λ t mt.
      spared_are n pos most the_definers definers_known e.table.clobbered arcs (places_at r) t (block_known r mr))))

  pub packets_at : (r : Region) → Member r (blocks e o []) → Each IsOk (packets_in e.table r.block r.number r.owner (region_vars r))
  packets_at r mr =
      let owner = r.owner in
      let le = most_of 0 (map own_horizon e.blocks) owner.horizon (member_map own_horizon e.blocks owner (owner_member r mr)) in
      (packet_are n pos most e.table (places_at r) owner.horizon le (block_known r mr), tt)

  packets_ok : Each IsOk (packets_of m)
  packets_ok = over_are IsOk (packets_in e.table) packets_at

  twos_ok : Each IsOk (twos_of m)
  twos_ok = joined_each IsOk (twos_in o.slots the_definers) the_places
      (each_more (PlaceIn n pos) (λ p. Each IsOk (twos_in o.slots the_definers p)) the_places
      (λ p g. twos_are n pos most the_definers definers_known o.slots p g) places_known)

  -- the end of a block is a variable of the model
  pub end_known : (r : Region) → Member r (blocks e o []) → (let vars = region_vars r in vars.end.0 < n)
  end_known r mr =
      let en = ended e.table e.names e.blocks r (owner_good r mr) in
      let last = last_of r en in
      let there : Member last (region_placed r) = subst (Member last) (sym (region_parts r en))
      (member_append_right (front_of r en) (last ∷ []) last (inl refl)) in
      (each_member (InPlaced n) the_placed last in_placed (in_all e o [] r last mr there)).0

  lengths_ok : Each IsOk (lengths_of m)
  lengths_ok = over_are IsOk (length_in m) (λ r mr.
      let owner = r.owner in
      let vars = region_vars r in
      let le = most_of 0 (map own_horizon e.blocks) owner.horizon (member_map own_horizon e.blocks owner (owner_member r mr)) in (
        length_are n pos most e.table (length (registers_among (block_room m.domains the_definers (places_at r)))) (r.block == 0)
            (owed_by (crowded_of m) (edges_between e.blocks) r.block r.owner (places_at r)) (arcs_or (slice_get m.arcs r.block))
            (known_befores m r.block (places_at r)) vars.end owner.horizon (places_at r) (end_known r mr) le (block_known r mr),
        tt,
      ))

  pressures_ok : Each IsOk (pressures_of m)
  pressures_ok = over_are IsOk (pressure_in m the_definers) (λ r mr.
      let owner = r.owner in
      pressure_are n pos most e.table.clobbered (arcs_or (slice_get m.arcs r.block)) (block_room m.domains the_definers (places_at r))
      owner.horizon (places_at r) (block_known r mr))

  join : (cs ds : List Constraint) → Each IsOk cs → Each IsOk ds → Each IsOk (cs ++ ds)
  join cs ds h k = each_join IsOk cs ds h k

  -- all of it
  pub all_sound : (limit : Option ℕ) → Each (IsSound (blocks_count e.blocks + 1) (largest_horizon e.blocks))
      (all_postings_of (model_of e o) limit)
  all_sound limit =
      let edges = over_blocks (edges_of e.blocks the_definers) 0 0 e.blocks (blocks_vars 0 e.blocks) in
      let frame = frame_of m the_definers the_places in
      join (postings_of m limit) (counts_of m limit ++ (befores_of m ++ (rooms_of m ++ (lengths_of m ++ pressures_of m))))
      (join (over_places (of_place e.table o.slots the_definers) m) (edges ++ (frame ++ limit_of m limit)) of_places_ok
      (join edges (frame ++ limit_of m limit) edges_ok (join frame (limit_of m limit) frame_ok (limit_ok limit))))
      (join (counts_of m limit) (befores_of m ++ (rooms_of m ++ (lengths_of m ++ pressures_of m))) (counts_ok limit)
      (join (befores_of m) (rooms_of m ++ (lengths_of m ++ pressures_of m)) befores_ok
      (join (rooms_of m) (lengths_of m ++ pressures_of m)
      (join (aparts_of m) (clobbers_of m ++ (packets_of m ++ twos_of m)) aparts_ok
      (join (clobbers_of m) (packets_of m ++ twos_of m) clobbers_ok
      (join (packets_of m) (twos_of m) packets_ok twos_ok))) (join (lengths_of m) (pressures_of m) lengths_ok pressures_ok))))
