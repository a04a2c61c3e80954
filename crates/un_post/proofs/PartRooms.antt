-- What is posted of the registers, the calls and the packets of one block is met exactly where the clauses of its part hold that speak
-- of them.
use Rattle.std.proofs.Common.{ℕ, ◌≡◌, ◌↔◌, ◌+◌, ◌≤◌, Bool, true, false, List, [], ◌∷◌, filter, refl, sym, ap}
use Rattle.std.proofs.Common.{◌∙◌, subst, arith, All, AllPairs, eq-eqb}
use Rattle.std.specs.Prelude.{Option, Some, None, slice_get, ◌==◌, ◌&&◌, ◌||◌, not, nat_eq, sum_by, if◌then◌else◌}
use Rattle.std.proofs.lemmas.Bool.Decides.{nat_tests}
use Rattle.un_isa.specs.declared.packet_counts.Resource.{Resource}
use Rattle.un_isa.specs.declared.packet_counts.Resource.TheVariants.{Control}
use Rattle.un_isa.specs.PacketCounts.{places_of}
use Rattle.un_domains.specs.Sets.{has}
use Rattle.un_ir.specs.declared.extended.Ext.{Ext}
use Rattle.un_ir.specs.Kinds.{is_call_kind, ends_block}
use Rattle.un_ir.specs.Linear.{is_in}
use Rattle.un_model.specs.declared.model.Options.{Options}
use Rattle.un_model.specs.declared.schedule.Issue.{Issue}
use Rattle.un_model.specs.declared.schedule.LiveRange.{LiveRange}
use Rattle.un_model.specs.declared.schedule.Schedule.{Schedule}
use Rattle.un_model.specs.Schedules.{schedule_of, issues_of}
use Rattle.un_model.specs.Solutions.{ShareNoCycle, SparesRange, IsSpared, IsPlaced, KeepsRegisters, KeepsPackets, Fits, taken}
use Rattle.un_model.specs.Variables.{model_of}
use Rattle.un_lists.proofs.Lists.{Each, Pairwise, Member, each_of, each_member, each_all, pairwise_all, pairwise_map, pairwise_of_map}
use Rattle.un_lists.proofs.Lists.{pairwise_more}
use Rattle.un_model.proofs.Placed.{Placed, Region, region_placed, vars_of, issue_at, Spot}
use Rattle.un_model.proofs.PlacedSchedules.{spots, spot_range, the_ranges, issue_here}
use Rattle.un_model.proofs.RegionEnds.{all_regions, filter_one}
use Rattle.un_model.proofs.Regions.{region_is}
use Rattle.un_sites.specs.Places.{definers_of}
use Rattle.un_sites.specs.Rooms.{reached, apart_in, spared_in, packets_in}
use Rattle.un_root.proofs.Eaches.{all_each}
use Rattle.un_post.specs.Parts.{absent, only_in, block_schedule}
use Rattle.un_post.proofs.BlockTemps.{region_spots, spots_by_blocks, spot_block}
use Rattle.un_post.proofs.Blocks.{blocks, region_vars}
use Rattle.un_post.proofs.CallEnds.{end_after}
use Rattle.un_post.proofs.CallOrder.{start_cycle}
use Rattle.un_post.proofs.Facts.{Given}
use Rattle.un_post.proofs.Meeting.{Met}
use Rattle.un_post.proofs.NoSharing.{Share, all_pairwise, of_block as apart_block}
use Rattle.un_post.proofs.Packets.{share, sum_map, no_room, elsewhere, of_block as packets_block}
use Rattle.un_post.proofs.PartItems.{here, own_in, own_issues, own_range, own_ranges, ranges_here, equal_of, unequal_of, each_kept}
use Rattle.un_post.proofs.PartItems.{all_pass, none_pass}
use Rattle.un_post.proofs.Spared.{Ordered, Spares, is_spared, block_met, met_block}
use Rattle.un_post.proofs.Tests.{iff_then}
use Rattle.un_post.proofs.Whole.{ranges_are}

-- ---- each two of what passes

each_where : {X : Type 0} (P : X → Type 0) (b : Bool) (t : X → Bool) (xs : List X) → b ≡ true
    → Each (λ y. b ≡ true → t y ≡ true → P y) xs → Each (λ y. t y ≡ true → P y) xs
each_where P b t xs is h = each_of (λ y. t y ≡ true → P y) xs (λ y m. each_member (λ y. b ≡ true → t y ≡ true → P y) xs y h m is)

pub pairwise_kept : {X : Type 0} (S : X → X → Type 0) (t : X → Bool) (xs : List X)
    → Pairwise S (filter t xs) ↔ Pairwise (λ a b. t a ≡ true → t b ≡ true → S a b) xs
pairwise_kept S t [] = (λ h. tt, λ h. tt)
pairwise_kept {X} S t (x ∷ xs) = by (t x) refl (pairwise_kept S t xs)
  where
    whole : Bool → List X
    whole b = if b then x ∷ filter t xs else filter t xs

    by : (b : Bool) → t x ≡ b → Pairwise S (filter t xs) ↔ Pairwise (λ a b. t a ≡ true → t b ≡ true → S a b) xs
        → Pairwise S (whole (t x)) ↔ Pairwise (λ a b. t a ≡ true → t b ≡ true → S a b) (x ∷ xs)
    by true is rest =
        let kept = each_kept (S x) t xs in (
          λ h. let k = subst (λ (b : Bool). Pairwise S (whole b)) is h in (
            each_of (λ y. t x ≡ true → t y ≡ true → S x y) xs (λ y m on there. each_member (λ y. t y ≡ true → S x y) xs y (kept.0 k.0) m
                there),
            rest.0 k.1,
          ),
          λ h. subst (λ (b : Bool). Pairwise S (whole b)) (sym is) (kept.1 (each_where (S x) (t x) t xs is h.0), rest.1 h.1),
        )
    by false is rest = (
      λ h. let k = subst (λ (b : Bool). Pairwise S (whole b)) is h in
          (each_of (λ y. t x ≡ true → t y ≡ true → S x y) xs (λ y m on there. let z : false ≡ true = sym is ∙ on in absurd (cc z)), rest.0 k),
      λ h. subst (λ (b : Bool). Pairwise S (whole b)) (sym is) (rest.1 h.1),
    )

-- ---- two live ranges of which one is not there

pub share_first : (h g : LiveRange) → ShareNoCycle (absent h) g
unfolding ShareNoCycle
share_first h g on other = absurd (cc on)

pub share_second : (h g : LiveRange) → ShareNoCycle h (absent g)
unfolding ShareNoCycle
share_second h g on other = absurd (cc other)

pub spares_absent : (clobbered : ℕ) (i : Issue) (h : LiveRange) → SparesRange clobbered i (absent h)
unfolding SparesRange
spares_absent clobbered i h call on = absurd (cc on)

spares_elsewhere : (clobbered : ℕ) (i : Issue) (h : LiveRange) → (let a = i.block in let b = h.block in a.0 ≡ b.0 → ⊥)
    → SparesRange clobbered i h
unfolding SparesRange
spares_elsewhere clobbered i h other call on same = absurd (other same)

module _ (e : Ext) (o : Options) (x : List ℕ) (given : Given e o x) (r : Region)
    (at : slice_get (all_regions e o x given.extended) r.block ≡ Some r) where
  abbrev part : Schedule
  part = block_schedule r.block (schedule_of (model_of e o) x)

  abbrev is_own : Spot → Bool
  is_own s = let q = s.definer in q.block == r.block

  -- ---- registers

  own_spots : filter is_own (spots e o x) ≡ region_spots r
  own_spots =
      ap (filter is_own) (spots_by_blocks e o x)
      ∙ filter_one is_own region_spots (blocks e o x) r.block r at (λ i s there other. none_pass is_own (region_spots s)
      (each_of (λ u. is_own u ≡ false) (region_spots s) (λ u m. unequal_of (let q = u.definer in q.block) r.block (λ same.
      let a = spot_block e o x s u m in
      let b = (region_is 0 0 0 e.blocks i s there).1 in
      other (omega (arith, a, b, same))))))
      ∙ all_pass is_own (region_spots r) (each_of (λ u. is_own u ≡ true) (region_spots r)
      (λ u m. let q = u.definer in eq-eqb q.block r.block (spot_block e o x r u m)))

  -- two temporaries as the block sees them
  abbrev Seen : Spot → Spot → Type 0
  Seen s u = ShareNoCycle (only_in r.block (spot_range e o x s)) (only_in r.block (spot_range e o x u))

  seen_share : (s u : Spot) → Seen s u → is_own s ≡ true → is_own u ≡ true → Share e o x given s u
  seen_share s u h ms mu =
      let p = s.definer in let q = u.definer in
      subst (λ (g : LiveRange). ShareNoCycle (spot_range e o x s) g) (own_range e o x given r at u (equal_of q.block r.block mu))
      (subst (λ (g : LiveRange). ShareNoCycle g (only_in r.block (spot_range e o x u)))
      (own_range e o x given r at s (equal_of p.block r.block ms)) h)

  -- as a temporary is seen, by whether it is of the block
  abbrev seen : Bool → Spot → LiveRange
  seen b s = if b then spot_range e o x s else absent (spot_range e o x s)

  share_seen : (s u : Spot) → (is_own s ≡ true → is_own u ≡ true → Share e o x given s u) → Seen s u
  share_seen s u h = by (is_own s) (is_own u) refl refl
    where
      by : (a b : Bool) → is_own s ≡ a → is_own u ≡ b → Seen s u
      by true true ms mu =
          subst (λ (b : Bool). ShareNoCycle (seen b s) (only_in r.block (spot_range e o x u))) (sym ms)
          (subst (λ (b : Bool). ShareNoCycle (spot_range e o x s) (seen b u)) (sym mu) (h ms mu))
      by false b ms mu = subst (λ (b : Bool). ShareNoCycle (seen b s) (only_in r.block (spot_range e o x u))) (sym ms)
          (share_first (spot_range e o x s) (only_in r.block (spot_range e o x u)))
      by true false ms mu = subst (λ (b : Bool). ShareNoCycle (only_in r.block (spot_range e o x s)) (seen b u)) (sym mu)
          (share_second (only_in r.block (spot_range e o x s)) (spot_range e o x u))

  pub shares : AllPairs ShareNoCycle (own_ranges e o x given r at) ↔ Pairwise (Share e o x given) (region_spots r)
  shares =
      let own = λ (g : LiveRange). only_in r.block g in
      let R = λ (g h : LiveRange). ShareNoCycle (own g) (own h) in
      let kept = pairwise_kept (Share e o x given) is_own (spots e o x) in (
        λ h.
            let a = pairwise_of_map ShareNoCycle own (the_ranges e o x) (pairwise_all ShareNoCycle (own_ranges e o x given r at) h) in
            let b = pairwise_of_map R (spot_range e o x) (spots e o x) (subst (Pairwise R) (ranges_are e o x given) a) in
            subst (Pairwise (Share e o x given)) own_spots (kept.1 (pairwise_more Seen
            (λ s u. is_own s ≡ true → is_own u ≡ true → Share e o x given s u) (spots e o x) (λ s u ms mu k. seen_share s u k) b)),
        λ h.
            let b = pairwise_more (λ s u. is_own s ≡ true → is_own u ≡ true → Share e o x given s u) Seen (spots e o x)
            (λ s u ms mu k. share_seen s u k) (kept.0 (subst (Pairwise (Share e o x given)) (sym own_spots) h)) in
            let a = subst (Pairwise R) (sym (ranges_are e o x given)) (pairwise_map R (spot_range e o x) (spots e o x) b) in
            all_pairwise ShareNoCycle (own_ranges e o x given r at) (pairwise_map ShareNoCycle own (the_ranges e o x) a),
      )

  aparts : AllPairs ShareNoCycle (own_ranges e o x given r at)
      ↔ Met x (apart_in (definers_of (model_of e o)) r.block r.number r.owner (region_vars r))
  aparts = iff_then shares (apart_block e o x given r (here e o x given r at))

  -- ---- packets

  sums : (resource : Resource) (b c : ℕ) → taken e.table resource part.issues b c ≡ sum_by (share e o x given resource b c) (region_placed r)
  sums resource b c =
      ap (λ (is : List Issue). taken e.table resource is b c) (own_issues e o x given r at) ∙ sum_map _ (issue_at x) (region_placed r)

  pub has_room : KeepsPackets e.table part → (resource : Resource) (c : ℕ)
      → sum_by (share e o x given resource r.block c) (region_placed r) ≤ places_of resource
  has_room h resource c =
      let le = (no_room e.table part.issues r.block c).1 (h r.block c) resource in
      let is = sums resource r.block c in
      omega (arith, le, is)

  packets : KeepsPackets e.table part ↔ Met x (packets_in e.table r.block r.number r.owner (region_vars r))
  packets =
      let block = packets_block e o x given r (here e o x given r at) in (
        λ h. block.0 (has_room h),
        λ h b c. (no_room e.table part.issues b c).0 (λ resource. by h b c resource (r.block == b) refl),
      )
    where
      by : Met x (packets_in e.table r.block r.number r.owner (region_vars r)) → (b c : ℕ) (resource : Resource) (t : Bool) → (r.block == b) ≡ t
          → Fits e.table part.issues b c resource
      by h b c resource true is =
          let same = equal_of r.block b is in
          let le = (packets_block e o x given r (here e o x given r at)).1 h resource c in
          let sum = sums resource b c in
          let here_le = subst (λ (n : ℕ). sum_by (share e o x given resource n c) (region_placed r) ≤ places_of resource) same le in
          omega (arith, here_le, sum)
      by h b c resource false is =
          let none = elsewhere e o x given resource b c r (λ same. let t : (r.block == b) ≡ true = eq-eqb r.block b same in
          let z : true ≡ false = sym t ∙ is in cc z) in
          let sum = sums resource b c in
          omega (arith, none, sum)

  -- ---- calls

  abbrev mask : ℕ
  mask = let t = e.table in t.clobbered

  -- where nothing is known of the order beforehand
  ordered : KeepsPackets e.table part → ((q : Placed) → Member q (region_placed r) → IsPlaced (issue_at x q)) → Ordered x r []
  ordered packets placed = record {
    before = λ d c md mc call h. first d c md mc (is_in d.op.kind) refl h;
    behind = λ c q mc mq call h. second c q mc mq call (ends_block q.op.kind) refl h;
  }
    where
      own_cycle : (d c : Placed) → Member d (region_placed r) → Member c (region_placed r) → d.number ≡ c.number
          → (issue_at x d).cycle ≡ (issue_at x c).cycle
      own_cycle d c md mc same =
          let is : Some (issue_at x d) ≡ Some (issue_at x c) =
          sym (issue_here e o x d (own_in e o x given r at d md)) ∙ ap (slice_get (issues_of (model_of e o) x)) same
          ∙ issue_here e o x c (own_in e o x given r at c mc) in
          ap cycle_or is
        where
          cycle_or : Option Issue → ℕ
          cycle_or None = 0
          cycle_or (Some i) = i.cycle

      alone : (a n : ℕ) → (nat_eq n a || false) ≡ true → a ≡ n
      alone a n h = by (nat_eq n a) refl h
        where
          by : (t : Bool) → nat_eq n a ≡ t → (t || false) ≡ true → a ≡ n
          by true e h = grind (arith, nat_tests, e)
          by false e h = absurd (cc h)

      first : (d c : Placed) → Member d (region_placed r) → Member c (region_placed r) → (t : Bool) → is_in d.op.kind ≡ t
          → (is_in d.op.kind || has (reached [] d.number) c.number) ≡ true → (issue_at x d).cycle ≤ (issue_at x c).cycle
      first d c md mc true k h = let z = start_cycle d.op.kind x (issue_at x d).end (vars_of d) k in omega (arith, z)
      first d c md mc false k h =
          let there = subst (λ (t : Bool). (t || has (reached [] d.number) c.number) ≡ true) k h in
          let same = own_cycle d c md mc (alone d.number c.number there) in
          omega (arith, same)

      second : (c q : Placed) → Member c (region_placed r) → Member q (region_placed r) → is_call_kind c.op.kind ≡ true → (t : Bool)
          → ends_block q.op.kind ≡ t
          → (ends_block q.op.kind || (not (q.number == c.number) && has (reached [] c.number) q.number)) ≡ true
          → (issue_at x c).cycle + 1 ≤ (issue_at x q).cycle
      second c q mc mq call true k h = end_after e o x given r placed (has_room packets Control) c q mc mq call k
      second c q mc mq call false k h =
          absurd (none q.number c.number (subst (λ (t : Bool). (t || (not (q.number == c.number) && has (reached [] c.number) q.number))
          ≡ true) k h))
        where
          none : (a b : ℕ) → (not (a == b) && (nat_eq a b || false)) ≡ true → ⊥
          none a b h = by (nat_eq a b) h
            where
              by : (t : Bool) → (not t && (t || false)) ≡ true → ⊥
              by true h = cc h
              by false h = cc h

  -- calls of other blocks spare the temporaries of this one
  spared_own : (s : Spot) → Member s (region_spots r) → IsSpared mask part.issues (spot_range e o x s) ↔ Spares e o x given mask s
  spared_own s m =
      let h = spot_range e o x s in
      let is : List Issue = issues_of (model_of e o) x in
      let t = λ (i : Issue). i.block.0 == r.block in
      let P = λ (i : Issue). SparesRange mask i h in
      let own = is_spared mask part.issues h in
      let whole = is_spared mask is h in
      let kept = each_kept P t is in (
        λ k.
            let each = kept.0 (each_all P part.issues (own.1 k)) in
            whole.0 (all_each P is (each_of P is (λ i mi. by i (t i) refl (each_member (λ i. t i ≡ true → P i) is i each mi)))),
        λ k.
            let each = each_all P is (whole.1 k) in
            own.0 (all_each P part.issues (kept.1 (each_of (λ i. t i ≡ true → P i) is (λ i mi on. each_member P is i each mi)))),
      )
    where
      by : (i : Issue) (b : Bool) → (let a = i.block in (a.0 == r.block) ≡ b) → (let a = i.block in (a.0 == r.block) ≡ true
          → SparesRange mask i (spot_range e o x s)) → SparesRange mask i (spot_range e o x s)
      by i true on h = h on
      by i false off h = spares_elsewhere mask i (spot_range e o x s) (λ same.
          let a = i.block in
          let t : (a.0 == r.block) ≡ true = eq-eqb a.0 r.block (same ∙ spot_block e o x r s m) in
          let z : true ≡ false = sym t ∙ off in cc z)

  spared : All (IsSpared mask part.issues) (own_ranges e o x given r at) ↔ Each (Spares e o x given mask) (region_spots r)
  spared =
      let ranges = ranges_here e o x given r at (IsSpared mask part.issues) (λ h. (is_spared mask part.issues (absent h)).0
      (all_each (λ i. SparesRange mask i (absent h)) part.issues (each_of (λ i. SparesRange mask i (absent h)) part.issues
      (λ i m. spares_absent mask i h)))) in
      iff_then ranges (
        λ k. each_of (Spares e o x given mask) (region_spots r) (λ s m. (spared_own s m).0
            (each_member (λ s. IsSpared mask part.issues (spot_range e o x s)) (region_spots r) s k m)),
        λ k. each_of (λ s. IsSpared mask part.issues (spot_range e o x s)) (region_spots r) (λ s m. (spared_own s m).1
            (each_member (Spares e o x given mask) (region_spots r) s k m)),
      )

  -- what is posted of the registers, the calls and the packets of the block
  abbrev MetRooms : Type 0
  MetRooms = Met x (apart_in (definers_of (model_of e o)) r.block r.number r.owner (region_vars r))
      × Met x (spared_in mask [] (definers_of (model_of e o)) r.block r.number r.owner (region_vars r))
      × Met x (packets_in e.table r.block r.number r.owner (region_vars r))

  pub rooms : ((q : Placed) → Member q (region_placed r) → IsPlaced (issue_at x q))
      → (KeepsRegisters mask part × KeepsPackets e.table part) ↔ MetRooms
  rooms placed =
      let mr = here e o x given r at in (
        λ h. (
          aparts.0 h.0.0,
          block_met e o x given mask [] r mr (ordered h.1 placed) (spared.0 h.0.1),
          packets.0 h.1,
        ),
        λ h. ((aparts.1 h.0, spared.1 (met_block e o x given mask [] r mr h.1)), packets.1 h.2),
      )
