-- A saved value in a slot goes on over edges: the blocks that are marked for it have one in every solution. The entry owes a Spill for it,
-- and a block that reads the saved values in registers a Reload.
use Rattle.std.proofs.Common.{ℕ, zero, suc, ◌≡◌, ◌⊎◌, ◌≤◌, ◌+◌, ◌-◌, Bool, true, false, List, [], ◌∷◌, length, map, inl, inr}
use Rattle.std.proofs.Common.{refl, sym, ap, ◌∙◌, subst, arith}
use Rattle.std.specs.Prelude.{Option, Some, fold, slice_get, slice_set, ◌&&◌, ◌==◌, nat_lt, if◌then◌else◌}
use Rattle.std.proofs.lemmas.Bool.{eqb-true}
use Rattle.std.proofs.lemmas.Option.{slice_get_past}
use Rattle.un_base.specs.declared.ids.NameId.{NameId}
use Rattle.un_base.specs.declared.ids.TempId.{TempId}
use Rattle.un_isa.specs.Registers.{callee_saved}
use Rattle.un_isa.specs.Tables.{latency_of}
use Rattle.un_isa.specs.declared.op.Op.TheVariants.{Spill, Reload}
use Rattle.un_ir.specs.declared.extended.ExtBlock.{ExtBlock}
use Rattle.un_ir.specs.declared.extended.Ext.{Ext}
use Rattle.un_ir.specs.Extended.{one_if}
use Rattle.un_ir.specs.Linear.{place_by, place_over}
use Rattle.un_ir.specs.Live.{targets_of}
use Rattle.un_model.specs.declared.model.Options.{Options}
use Rattle.un_model.specs.declared.schedule.LiveRange.{LiveRange}
use Rattle.un_model.specs.declared.schedule.Read.{Read}
use Rattle.un_model.specs.Congruences.{term_of, live_in_temps, live_out_reads, register_of, register_read, HandsOver, HandsOn}
use Rattle.un_model.specs.Schedules.{schedule_of, reads_of}
use Rattle.un_model.specs.Solutions.{IsSchedule, latency_gap}
use Rattle.un_model.specs.Variables.{model_of}
use Rattle.un_lists.proofs.Lists.{Each, Member, each_of}
use Rattle.un_lists.proofs.Lists.{any_of, get_below, length_get, place_of as position_of}
use Rattle.un_model.proofs.Placed.{Placed, Region, end_of}
use Rattle.un_model.proofs.PlacedSchedules.{the_ranges}
use Rattle.un_model.proofs.Readings.{Solved}
use Rattle.un_press.proofs.Descent.{cycle_at}
use Rattle.un_press.proofs.Spilling.{Several}
use Rattle.un_sites.specs.Saved.{edges_between, saved_in, keeps_places, has_call, is_crowded, crowded_of, is_marked}
use Rattle.un_sites.specs.Saved.{marked_from, marked_over, marked_after, leads_there, comes_from, reads_saved, owed_by}
use Rattle.un_sites.specs.declared.edges.Accesses.{Accesses}
use Rattle.un_sites.specs.declared.edges.Edge.{Edge}
use Rattle.un_post.proofs.Blocks.{blocks, region_places}
use Rattle.un_post.proofs.Congruences.{member_contains}
use Rattle.un_post.proofs.Crowded.{InSlot, Accesses_by, saved_count, stays, crowded_slot, end_spills, start_reloads}
use Rattle.un_model.proofs.RegionEnds.{all_regions}
use Rattle.un_post.proofs.Facts.{Given}
use Rattle.un_post.proofs.Filling.{none_of}
use Rattle.un_model.proofs.Regions.{region_is, region_of}
use Rattle.un_post.proofs.SavedLists.{drop_get, leaving, marked_passes}
use Rattle.un_post.proofs.Tests.{and_iff}

-- what is marked after a place is: that place, or what was marked before
set_marked : (marks : List Bool) (l n : ℕ) → is_marked (slice_set marks l true) n ≡ true → (n ≡ l) ⊎ (is_marked marks n ≡ true)
set_marked [] l n h = absurd (cc h)
set_marked (b ∷ bs) zero zero h = inl refl
set_marked (b ∷ bs) zero (suc n) h = inr h
set_marked (b ∷ bs) (suc l) zero h = inr h
set_marked (b ∷ bs) (suc l) (suc n) h = elim (set_marked bs l n h) [ inl same ↦ inl (ap suc same) | inr before ↦ inr before ]

module _ (e : Ext) (o : Options) (x : List ℕ) (given : Given e o x)
    (schedule : IsSchedule (latency_gap e.table) (model_of e o).domains (model_of e o) x (schedule_of (model_of e o) x)) where
  abbrev solved : Solved e o x
  solved = record { extended = given.extended; fit = given.fit; options = given.options; schedule = schedule }

  abbrev ranges : List LiveRange
  ranges = the_ranges e o x

  abbrev handed_by : ℕ → List Read
  handed_by k = live_out_reads k (reads_of (model_of e o) x)

  -- ---- over an edge

  module _ (k : ℕ) (r : Region) (at : slice_get (all_regions e o x given.extended) k ≡ Some r) (l : ℕ) (s : Region)
      (there : slice_get (all_regions e o x given.extended) l ≡ Some s)
      (leads : Member l (targets_of k (let a : ExtBlock = r.owner in term_of a.ops)))
    where
      abbrev a : ExtBlock
      a = r.owner

      abbrev b : ExtBlock
      b = s.owner

      place_is : (j : ℕ) → place_over a b (length b.live_in + j) ≡ length a.live_out + j
      place_is j =
          let i = length b.live_in + j in
          let rest : length a.live_out + (i - length b.live_in) ≡ length a.live_out + j = omega arith in
          ap (λ (n : Option NameId). place_by a b i n) (slice_get_past b.live_in i (omega arith)) ∙ rest

      -- a saved value has one place where it is handed over and where it is taken
      one_place : (j : ℕ) (z : TempId) → slice_get (saved_in b) j ≡ Some z
          → register_read ranges (slice_get (handed_by k) (length a.live_out + j)) ≡ register_of ranges z
      unfolding HandsOn HandsOver
      one_place j z here =
          let live = sym (drop_get (length b.live_in) j (live_in_temps b.ops)) ∙ here in
          subst (λ (i : ℕ). register_read ranges (slice_get (handed_by k) i) ≡ register_of ranges z) (place_is j)
          (schedule.congruences k a (region_is 0 0 0 e.blocks k r at).0 l b (member_contains (targets_of k (term_of a.ops)) l leads)
          (region_is 0 0 0 e.blocks l s there).0 (length b.live_in + j) z live)

      -- it is carried on
      pub carried_on : keeps_places r.owner ≡ true → InSlot e o x given schedule r → InSlot e o x given schedule s
      carried_on keeps i =
          let j = i.place in
          let lt = length_get (saved_in r.owner) j i.temp i.at in
          let here = saved_count e o x given schedule k r at in
          let next = saved_count e o x given schedule l s there in
          let z = get_below (saved_in s.owner) j (omega (arith, lt, here, next)) in
          record {
            place = j;
            temp = z.0;
            at = z.1;
            reg = i.reg;
            is = sym (one_place j z.0 z.1) ∙ stays e o x given schedule k r at keeps j i.temp i.at ∙ i.is;
            slot = i.slot;
          }

      -- and back
      pub carried_back : keeps_places r.owner ≡ true → InSlot e o x given schedule s → InSlot e o x given schedule r
      carried_back keeps i =
          let j = i.place in
          let lt = length_get (saved_in s.owner) j i.temp i.at in
          let here = saved_count e o x given schedule k r at in
          let next = saved_count e o x given schedule l s there in
          let v = get_below (saved_in r.owner) j (omega (arith, lt, here, next)) in
          record {
            place = j;
            temp = v.0;
            at = v.1;
            reg = i.reg;
            is = sym (stays e o x given schedule k r at keeps j v.0 v.1) ∙ one_place j i.temp i.at ∙ i.is;
            slot = i.slot;
          }

      -- the entry spills what it hands over in a slot
      pub spilled_before : r.block ≡ 0 → InSlot e o x given schedule s → (p : Placed) × Accesses_by e o x given schedule r Spill p
      spilled_before entry i =
          end_spills e o x given schedule k r at (length a.live_out + i.place) i.reg (one_place i.place i.temp i.at ∙ i.is) i.slot entry

  -- ---- marks

  -- a block that has a saved value in a slot, from its start to its end
  pub record Slotted (l : ℕ) : Type 0 where
    pub region : Region
    pub at : slice_get (all_regions e o x given.extended) l ≡ Some region
    pub keeps : keeps_places region.owner ≡ true
    pub in_slot : InSlot e o x given schedule region

  abbrev pub AreSlotted : List Bool → Type 0
  AreSlotted marks = (l : ℕ) → is_marked marks l ≡ true → Slotted l

  abbrev keeping : List Bool
  keeping = map keeps_places e.blocks

  -- an edge leads from one block to the other, or back
  abbrev Joins : ℕ → ℕ → Type 0
  Joins k l = (d : Edge) × (Member d (edges_between e.blocks)) × (((d.from ≡ k) × (d.to ≡ l)) ⊎ ((d.from ≡ l) × (d.to ≡ k)))

  kept_region : (l : ℕ) → is_marked keeping l ≡ true → (s : Region) × (slice_get (all_regions e o x given.extended) l ≡ Some s)
      × (keeps_places s.owner ≡ true)
  kept_region l kept =
      let found = marked_passes keeps_places e.blocks l kept in
      let s = region_of 0 0 0 e.blocks l found.0 found.1 in
      let both : Some s.0.owner ≡ Some found.0 = sym (region_is 0 0 0 e.blocks l s.0 s.1).0 ∙ found.1 in
      let same : s.0.owner ≡ found.0 = cc both in
      (s.0, s.1, ap keeps_places same ∙ found.2)

  -- where an edge leaves the block of a region, its end leads there
  leads_from : (d : Edge) → Member d (edges_between e.blocks) → (k l : ℕ) → d.from ≡ k → d.to ≡ l → (r : Region)
      → slice_get (all_regions e o x given.extended) k ≡ Some r → Member l (targets_of k (let a : ExtBlock = r.owner in term_of a.ops))
  leads_from d m k l from to r at =
      let f = leaving 0 e.blocks d m in
      let is = f.from in
      let place : f.place ≡ k = omega (arith, is, from) in
      let both : Some f.block ≡ Some r.owner = sym f.at ∙ ap (slice_get e.blocks) place ∙ (region_is 0 0 0 e.blocks k r at).0 in
      let same : f.block ≡ r.owner = cc both in
      subst (λ (n : ℕ). Member l (targets_of n (let a : ExtBlock = r.owner in term_of a.ops))) from
      (subst (λ (n : ℕ). Member n (targets_of d.from (let a : ExtBlock = r.owner in term_of a.ops))) to
      (subst (λ (a : ExtBlock). Member d.to (targets_of d.from (term_of a.ops))) same f.to))

  -- a mark goes from one block to the other
  slotted_from : (marks : List Bool) → AreSlotted marks → (k l : ℕ) → Joins k l → AreSlotted (marked_from keeping k l marks)
  slotted_from marks slotted k l joins = by (is_marked marks k && is_marked keeping l) refl
    where
      by : (b : Bool) → (is_marked marks k && is_marked keeping l) ≡ b → AreSlotted (if b then slice_set marks l true else marks)
      by false h n marked = slotted n marked
      by true h n marked = elim (set_marked marks l n marked) [
        | inl same ↦ subst (λ (n : ℕ). Slotted n) (sym same) (
            let two = (and_iff (is_marked marks k) (is_marked keeping l)).1 h in
            let i = slotted k two.0 in
            let s = kept_region l two.1 in
            let d = joins in
            record {
              region = s.0;
              at = s.1;
              keeps = s.2;
              in_slot = elim d.2 [
                | inl on ↦ carried_on k i.region i.at l s.0 s.1 (leads_from d.0 d.1 k l on.0 on.1 i.region i.at) i.keeps i.in_slot
                | inr back ↦ carried_back l s.0 s.1 k i.region i.at (leads_from d.0 d.1 l k back.0 back.1 s.0 s.1) s.2 i.in_slot
              ];
            })
        | inr before ↦ slotted n before
      ]

  slotted_over : (d : Edge) → Member d (edges_between e.blocks) → (marks : List Bool) → AreSlotted marks
      → AreSlotted (marked_over keeping marks d)
  slotted_over d m marks slotted =
      slotted_from (marked_from keeping d.from d.to marks)
      (slotted_from marks slotted d.from d.to (d, m, inl (refl, refl))) d.to d.from (d, m, inr (refl, refl))

  slotted_fold : (edges : List Edge) → Each (λ (d : Edge). Member d (edges_between e.blocks)) edges → (marks : List Bool)
      → AreSlotted marks → AreSlotted (fold (marked_over keeping) marks edges)
  slotted_fold [] each marks slotted = slotted
  slotted_fold (d ∷ edges) each marks slotted =
      slotted_fold edges each.1 (marked_over keeping marks d) (slotted_over d each.0 marks slotted)

  slotted_after : (n : ℕ) (marks : List Bool) → AreSlotted marks → AreSlotted (marked_after n keeping (edges_between e.blocks) marks)
  slotted_after zero marks slotted = slotted
  slotted_after (suc n) marks slotted =
      let edges = edges_between e.blocks in
      slotted_after n (fold (marked_over keeping) marks edges)
      (slotted_fold edges (each_of (λ (d : Edge). Member d edges) edges (λ d m. m)) marks slotted)

  own_slotted : AreSlotted (map (is_crowded (length (callee_saved e.table))) e.blocks)
  own_slotted l marked =
      let kept = length (callee_saved e.table) in
      let found = marked_passes (is_crowded kept) e.blocks l marked in
      let s = region_of 0 0 0 e.blocks l found.0 found.1 in
      let both : Some s.0.owner ≡ Some found.0 = sym (region_is 0 0 0 e.blocks l s.0 s.1).0 ∙ found.1 in
      let same : s.0.owner ≡ found.0 = cc both in
      let crowded : is_crowded kept s.0.owner ≡ true = ap (is_crowded kept) same ∙ found.2 in
      let own : ExtBlock = s.0.owner in
      let two = (and_iff (has_call own) (nat_lt kept (length (saved_in own)) && keeps_places own)).1 crowded in
      let more = (and_iff (nat_lt kept (length (saved_in own))) (keeps_places own)).1 two.1 in
      record { region = s.0; at = s.1; keeps = more.1; in_slot = crowded_slot e o x given schedule l s.0 s.1 crowded }

  pub crowded_slotted : AreSlotted (crowded_of (model_of e o))
  crowded_slotted =
      slotted_after (length e.blocks) (map (is_crowded (length (callee_saved e.table))) e.blocks) own_slotted

  -- ---- what a block owes

  -- a Reload of a block, which gives its value by the block's end
  abbrev pub ReloadsIn : Region → Placed → Type 0
  ReloadsIn r p = Accesses_by e o x given schedule r Reload p × (cycle_at e o x solved p + latency_of e.table Reload ≤ end_of x p)

  one_of : (P : Placed → Type 0) (p : Placed) → P p → Several e o x solved P 1
  one_of P p h = record { listed = p ∷ []; differ = (tt, tt); each = (h, tt); many = omega arith }

  module _ (marks : List Bool) (slotted : AreSlotted marks) (r : Region) (mr : Member r (blocks e o x)) where
    abbrev owed : Accesses
    owed = owed_by marks (edges_between e.blocks) r.block r.owner (region_places r)

    abbrev k : ℕ
    k = let i = position_of (blocks e o x) r mr in i.0

    at : slice_get (all_regions e o x given.extended) k ≡ Some r
    at = let i = position_of (blocks e o x) r mr in i.2

    number_is : r.block ≡ k
    number_is = let is = (region_is 0 0 0 e.blocks k r at).1 in omega (arith, is)

    pub owed_spills : Several e o x solved (λ p. Accesses_by e o x given schedule r Spill p × (r.block ≡ 0)) (let w = owed in w.spills)
    owed_spills = by (r.block == 0 && leads_there marks (edges_between e.blocks) r.block) refl
      where
        by : (b : Bool) → (r.block == 0 && leads_there marks (edges_between e.blocks) r.block) ≡ b
            → Several e o x solved (λ p. Accesses_by e o x given schedule r Spill p × (r.block ≡ 0)) (one_if b)
        by false h = none_of e o x solved (λ p. Accesses_by e o x given schedule r Spill p × (r.block ≡ 0))
        by true h =
            let two = (and_iff (r.block == 0) (leads_there marks (edges_between e.blocks) r.block)).1 h in
            let entry = eqb-true r.block 0 two.0 in
            let test = λ (d : Edge). d.from == r.block && is_marked marks d.to in
            let d = any_of test (edges_between e.blocks) two.1 in
            let both = (and_iff (d.0.from == r.block) (is_marked marks d.0.to)).1 d.2 in
            let from = eqb-true d.0.from r.block both.0 ∙ number_is in
            let s = slotted d.0.to both.1 in
            let p = spilled_before k r at d.0.to s.region s.at (leads_from d.0 d.1 k d.0.to from refl r at) entry s.in_slot in
            one_of (λ p. Accesses_by e o x given schedule r Spill p × (r.block ≡ 0)) p.0 (p.1, entry)

    pub owed_reloads : Several e o x solved (ReloadsIn r) (let w = owed in w.reloads)
    owed_reloads = by (comes_from marks (edges_between e.blocks) r.block && reads_saved r.owner (region_places r)) refl
      where
        by : (b : Bool) → (comes_from marks (edges_between e.blocks) r.block && reads_saved r.owner (region_places r)) ≡ b
            → Several e o x solved (ReloadsIn r) (one_if b)
        by false h = none_of e o x solved (ReloadsIn r)
        by true h =
            let two = (and_iff (comes_from marks (edges_between e.blocks) r.block) (reads_saved r.owner (region_places r))).1 h in
            let test = λ (d : Edge). d.to == r.block && is_marked marks d.from in
            let d = any_of test (edges_between e.blocks) two.0 in
            let both = (and_iff (d.0.to == r.block) (is_marked marks d.0.from)).1 d.2 in
            let to = eqb-true d.0.to r.block both.0 ∙ number_is in
            let s = slotted d.0.from both.1 in
            let leads = leads_from d.0 d.1 d.0.from k refl to s.region s.at in
            let i = carried_on d.0.from s.region s.at k r at leads s.keeps s.in_slot in
            let p = start_reloads e o x given schedule k r at i two.1 in
            one_of (ReloadsIn r) p.0 (p.1, p.2)
