-- A solution is of the part of each block, and its cost is the sum of what it costs in each.
use Rattle.std.proofs.Common.{ℕ, zero, suc, ◌≡◌, ◌+◌, ◌<◌, ◌≤◌, Bool, true, false, List, [], ◌∷◌, length, filter, refl, sym, ap}
use Rattle.std.proofs.Common.{◌∙◌, subst, arith, All, AllPairs, inr}
use Rattle.std.specs.Prelude.{Option, Some, None, slice_get, sum_by, ◌==◌, ◌||◌, if◌then◌else◌}
use Rattle.std.specs.List.{range_with_len, list_any}
use Rattle.std.proofs.lemmas.List.Sums.{sum_by-cons}
use Rattle.un_isa.specs.Fit.{IsFit}
use Rattle.un_isa.specs.declared.table.Table.{Table}
use Rattle.un_ir.specs.Extended.{IsExtended}
use Rattle.un_ir.specs.declared.extended.Ext.{Ext}
use Rattle.un_ir.specs.declared.extended.ExtBlock.{ExtBlock}
use Rattle.un_model.specs.declared.model.BlockVars.{BlockVars}
use Rattle.un_model.specs.declared.model.Model.{Model}
use Rattle.un_model.specs.declared.model.Options.{Options}
use Rattle.un_model.specs.declared.model.Solution.{Solution}
use Rattle.un_model.specs.declared.schedule.Issue.{Issue}
use Rattle.un_model.specs.declared.schedule.LiveRange.{LiveRange}
use Rattle.un_model.specs.declared.schedule.Read.{Read}
use Rattle.un_model.specs.declared.schedule.Schedule.{Schedule}
use Rattle.un_model.specs.Cost.{blocks_cost}
use Rattle.un_model.specs.Options.{AreOptions}
use Rattle.un_model.specs.Schedules.{schedule_of, reads_of}
use Rattle.un_model.specs.Solutions.{IsSchedule, IsSolution, KeepsFrame, KeepsPackets, IsIdleAtZero, IsZeroRange, IsLive}
use Rattle.un_model.specs.Solutions.{ReadsInSpace, IsGivenInSpace, IsPlaced, LeavesGap, ReadsHome, Precedes, ShareNoCycle, SparesRange}
use Rattle.un_model.specs.Solutions.{IsSpared, HasFrame, share_of, issues_at, uses_frame, is_frame_access, starts_in_slot}
use Rattle.un_model.specs.Solutions.{memory_distance, frame_distance, latency_gap}
use Rattle.un_model.specs.Variables.{IsModel, model_of}
use Rattle.un_lists.proofs.Lists.{each_of, each_member, each_all, each_map, each_filter, pairwise_all, pairwise_filter}
use Rattle.un_lists.proofs.Lists.{pairwise_map, pairwise_more, any_of, member_of_filter, member_map_of, get_below}
use Rattle.un_model.proofs.Placed.{Region}
use Rattle.un_model.proofs.PlacedSchedules.{the_ranges}
use Rattle.un_model.proofs.RegionEnds.{all_regions}
use Rattle.un_model.proofs.Regions.{regions, region_is, region_of}
use Rattle.un_root.proofs.Eaches.{all_each}
use Rattle.un_post.specs.Parts.{absent, only_in, block_schedule, KeepsPartFrame, IsPartOf, cost_or}
use Rattle.un_post.specs.PartPosts.{IsInParts}
use Rattle.un_post.proofs.Facts.{Given}
use Rattle.un_post.proofs.Frames.{any_true}
use Rattle.un_post.proofs.NoSharing.{all_pairwise}
use Rattle.un_post.proofs.Packets.{no_room}
use Rattle.un_post.proofs.PartItems.{own_in, own_ranges, reads_here, read_here}
use Rattle.un_post.proofs.PartRooms.{share_first, share_second, spares_absent}
use Rattle.un_post.proofs.Spared.{is_spared}
use Rattle.un_post.proofs.Whole.{read_each}

-- ---- what a schedule says of one block

module _ (k : ℕ) (t : Schedule) where
  abbrev own_issue : Issue → Bool
  own_issue i = i.block.0 == k

  abbrev part : Schedule
  part = block_schedule k t

  issues_in : (P : Issue → Type 0) → All P t.issues → All P part.issues
  issues_in P h = all_each P part.issues (each_filter P own_issue t.issues (each_all P t.issues h))

  ranges_in : (P : LiveRange → Type 0) → ((h : LiveRange) → P h → P (absent h)) → All P t.ranges → All P part.ranges
  ranges_in P none h = all_each P part.ranges (each_map P (only_in k) t.ranges (each_of (λ g. P (only_in k g)) t.ranges (λ g m.
      by g (let b = g.block in b.0 == k) (each_member P t.ranges g (each_all P t.ranges h) m))))
    where
      by : (g : LiveRange) (b : Bool) → P g → P (if b then g else absent g)
      by g true p = p
      by g false p = none g p

  pairs_in : (R : Issue → Issue → Type 0) → AllPairs R t.issues → AllPairs R part.issues
  pairs_in R h = all_pairwise R part.issues (pairwise_filter R own_issue t.issues (pairwise_all R t.issues h))

  -- ---- registers

  shares_in : AllPairs ShareNoCycle t.ranges → AllPairs ShareNoCycle part.ranges
  shares_in h = all_pairwise ShareNoCycle part.ranges (pairwise_map ShareNoCycle (only_in k) t.ranges
      (pairwise_more ShareNoCycle (λ a b. ShareNoCycle (only_in k a) (only_in k b)) t.ranges
      (λ a b ma mb s. by a b (let c = a.block in c.0 == k) (let c = b.block in c.0 == k) s) (pairwise_all ShareNoCycle t.ranges h)))
    where
      by : (a b : LiveRange) (p q : Bool) → ShareNoCycle a b → ShareNoCycle (if p then a else absent a) (if q then b else absent b)
      by a b true true s = s
      by a b false q s = share_first a (if q then b else absent b)
      by a b true false s = share_second a b

  spared_in : (mask : ℕ) → All (IsSpared mask t.issues) t.ranges → All (IsSpared mask part.issues) part.ranges
  spared_in mask h =
      ranges_in (IsSpared mask part.issues) (λ g s. (is_spared mask part.issues (absent g)).0 (all_each (λ i. SparesRange mask i (absent g))
      part.issues (each_of (λ i. SparesRange mask i (absent g)) part.issues (λ i m. spares_absent mask i g))))
      (all_each (IsSpared mask part.issues) t.ranges (each_of (IsSpared mask part.issues) t.ranges (λ g m.
      (is_spared mask part.issues g).0 (issues_in (λ i. SparesRange mask i g) ((is_spared mask t.issues g).1
      (each_member (IsSpared mask t.issues) t.ranges g (each_all (IsSpared mask t.issues) t.ranges h) m))))))

  -- ---- packets

  packets_in : (table : Table) → KeepsPackets table t → KeepsPackets table part
  packets_in table h b c = (no_room table part.issues b c).0 (λ resource.
      let le = (no_room table t.issues b c).1 (h b c) resource in
      let less = sum_kept own_issue (λ (i : Issue). if issues_at b c i then share_of table resource i.instr else 0) t.issues in
      omega (arith, le, less))
    where
      sum_kept : {X : Type 0} (t : X → Bool) (f : X → ℕ) (xs : List X) → sum_by f (filter t xs) ≤ sum_by f xs
      sum_kept t f [] = omega arith
      sum_kept {X} t f (x ∷ xs) = by (t x) (sum_kept t f xs)
        where
          by : (b : Bool) → sum_by f (filter t xs) ≤ sum_by f xs → sum_by f (if b then x ∷ filter t xs else filter t xs) ≤ sum_by f (x ∷ xs)
          by true le = let a = sum_by-cons f x (filter t xs) in let b = sum_by-cons f x xs in omega (arith, a, b, le)
          by false le = let b = sum_by-cons f x xs in omega (arith, b, le)

  -- ---- the frame

  abbrev accesses : Issue → Bool
  accesses i = is_frame_access i.instr

  uses_in : uses_frame part ≡ true → uses_frame t ≡ true
  uses_in h = either (list_any accesses part.issues) (list_any starts_in_slot part.ranges) (list_any accesses t.issues)
      (list_any starts_in_slot t.ranges) issues ranges h
    where
      either : (a b c d : Bool) → (a ≡ true → c ≡ true) → (b ≡ true → d ≡ true) → (a || b) ≡ true → (c || d) ≡ true
      either true b true d f g h = refl
      either true b false d f g h = absurd (cc (f refl))
      either false b true d f g h = refl
      either false b false d f g h = g h

      issues : list_any accesses part.issues ≡ true → list_any accesses t.issues ≡ true
      issues h =
          let a = any_of accesses part.issues h in
          any_true accesses t.issues a.0 (member_of_filter own_issue t.issues a.0 a.1).0 a.2

      there : (g : LiveRange) (b : Bool) → starts_in_slot (if b then g else absent g) ≡ true → starts_in_slot g ≡ true
      there g true h = h
      there g false h = absurd (cc h)

      ranges : list_any starts_in_slot part.ranges ≡ true → list_any starts_in_slot t.ranges ≡ true
      ranges h =
          let a = any_of starts_in_slot part.ranges h in
          let b = member_map_of (only_in k) t.ranges a.0 a.1 in
          any_true starts_in_slot t.ranges b.0 b.1
          (there b.0 (let c = b.0.block in c.0 == k) (ap starts_in_slot b.2 ∙ a.2))

  frame_in : (flag : ℕ) → KeepsFrame flag t → KeepsPartFrame flag part
  frame_in flag h = record {
    used = λ u. h.used (uses_in u);
    without = λ z. issues_in (HasFrame false) (h.without z);
    with_frame = λ z. issues_in (HasFrame true) (h.with_frame z);
    ordered = λ z. issues_in (λ (i : Issue). All (Precedes frame_distance i) part.issues) (all_each _ t.issues
        (each_of (λ (i : Issue). All (Precedes frame_distance i) part.issues) t.issues (λ i m. issues_in (Precedes frame_distance i)
        (each_member (λ (i : Issue). All (Precedes frame_distance i) t.issues) t.issues i
        (each_all (λ (i : Issue). All (Precedes frame_distance i) t.issues) t.issues (h.ordered z)) m))));
  }

-- ---- a block of a model

module _ (e : Ext) (o : Options) (x : List ℕ) (given : Given e o x) (r : Region)
    (at : slice_get (all_regions e o x given.extended) r.block ≡ Some r)
    (h : IsSchedule (latency_gap e.table) (model_of e o).domains (model_of e o) x (schedule_of (model_of e o) x)) where
  abbrev whole : Schedule
  whole = schedule_of (model_of e o) x

  -- a clause on what is read
  reads_in : (P : Read → Option LiveRange → Type 0) → All (λ (v : Read). P v (slice_get (the_ranges e o x) v.temp.0)) (reads_of (model_of e o) x)
      → All (λ (v : Read). P v (slice_get (own_ranges e o x given r at) v.temp.0)) (block_schedule r.block (schedule_of (model_of e o) x)).reads
  reads_in P all = (reads_here e o x given r at (λ (v : Read). P v (slice_get (own_ranges e o x given r at) v.temp.0))).1
      (λ q j operand m there act. subst (P _) (sym (read_here e o x given r at q j operand m there))
      (read_each e o x given (λ (v : Read). P v (slice_get (the_ranges e o x) v.temp.0)) all q j operand (own_in e o x given r at q m) there
      act))

  in_region : IsPartOf (model_of e o) r.block x
  in_region =
      let zeros = h.zeros in
      let spaces = h.spaces in
      let latencies = h.latencies in
      let registers = h.registers in
      let table = e.table in
      record {
        in_domains = h.in_domains;
        zeros = (issues_in r.block whole IsIdleAtZero zeros.0, ranges_in r.block whole IsZeroRange (λ g z. inr refl) zeros.1);
        choices = reads_in (λ v g. IsLive g) h.choices;
        spaces = (reads_in ReadsInSpace spaces.0, ranges_in r.block whole IsGivenInSpace (λ g s. tt) spaces.1);
        latencies = (issues_in r.block whole IsPlaced latencies.0, reads_in (LeavesGap (latency_gap e.table)) latencies.1);
        memory = pairs_in r.block whole (Precedes memory_distance) h.memory;
        registers = (shares_in r.block whole registers.0, spared_in r.block whole table.clobbered registers.1);
        packets = packets_in r.block whole e.table h.packets;
        homes = reads_in ReadsHome h.homes;
        congruences = h.congruences r.block;
        frame = frame_in r.block whole _ h.frame;
      }

in_block : (e : Ext) (o : Options) (x : List ℕ) → Given e o x
    → IsSchedule (latency_gap e.table) (model_of e o).domains (model_of e o) x (schedule_of (model_of e o) x) → (k : ℕ) → k < length e.blocks
    → IsPartOf (model_of e o) k x
in_block e o x given h k lt =
    let block = get_below e.blocks k lt in
    let found = region_of 0 0 0 e.blocks k block.0 block.1 in
    let r = found.0 in
    let number = (region_is 0 0 0 e.blocks k r found.1).1 in
    let is : r.block ≡ k = omega (arith, number) in
    let at = subst (λ (n : ℕ). slice_get (regions 0 0 0 e.blocks) n ≡ Some r) (sym is) found.1 in
    subst (λ (n : ℕ). IsPartOf (model_of e o) n x) is (in_region e o x given r at h)

-- ---- the cost

sum_shift : (f : ℕ → ℕ) (a n : ℕ) → sum_by f (range_with_len (suc a) n) ≡ sum_by (λ k. f (suc k)) (range_with_len a n)
sum_shift f a zero = refl
sum_shift f a (suc n) =
    let one = sum_by-cons f (suc a) (range_with_len (suc a + 1) n) in
    let two = sum_by-cons (λ k. f (suc k)) a (range_with_len (a + 1) n) in
    let next : suc (a + 1) ≡ suc a + 1 = omega arith in
    let rest : sum_by f (range_with_len (suc a + 1) n) ≡ sum_by (λ (k : ℕ). f (suc k)) (range_with_len (a + 1) n) =
    subst (λ (b : ℕ). sum_by f (range_with_len b n) ≡ sum_by (λ (k : ℕ). f (suc k)) (range_with_len (a + 1) n)) next
    (sum_shift f (a + 1) n) in
    omega (arith, one, two, rest)

-- the variables of no block
abbrev nothing : List BlockVars
nothing = []

none_cost : (x : List ℕ) (blocks : List ExtBlock) (n a : ℕ)
    → sum_by (λ k. cost_or x (slice_get blocks k) (slice_get nothing k)) (range_with_len a n) ≡ 0
none_cost x blocks zero a = refl
none_cost x blocks (suc n) a =
    let f = λ (k : ℕ). cost_or x (slice_get blocks k) (slice_get nothing k) in
    let cons = sum_by-cons f a (range_with_len (a + 1) n) in
    let here = by (slice_get blocks a) in
    let rest = none_cost x blocks n (a + 1) in
    omega (arith, cons, here, rest)
  where
    by : (b : Option ExtBlock) → cost_or x b None ≡ 0
    by None = refl
    by (Some block) = refl

costs : (x : List ℕ) (blocks : List ExtBlock) (vars : List BlockVars)
    → blocks_cost x blocks vars ≡ sum_by (λ k. cost_or x (slice_get blocks k) (slice_get vars k)) (range_with_len 0 (length blocks))
costs x [] vars = refl
costs x (block ∷ blocks) [] = sym (none_cost x (block ∷ blocks) (length (block ∷ blocks)) 0)
costs x (block ∷ blocks) (v ∷ vars) =
    let f = λ (k : ℕ). cost_or x (slice_get (block ∷ blocks) k) (slice_get (v ∷ vars) k) in
    let cons = sum_by-cons f 0 (range_with_len 1 (length blocks)) in
    let shift = sum_shift f 0 (length blocks) in
    let rest : blocks_cost x blocks vars ≡ sum_by (λ (k : ℕ). f (suc k)) (range_with_len 0 (length blocks)) = costs x blocks vars in
    omega (arith, cons, shift, rest)

-- ---- a solution

pub in_parts : (m : Model) (s : Solution) → IsModel m → IsExtended m.ext → IsFit m.ext.table → AreOptions m.options → IsSolution m s
    → IsInParts m s
in_parts m s model extended fit options solution =
    let own = subst (λ (w : Model). IsSchedule (latency_gap m.ext.table) w.domains w s.values (schedule_of w s.values)) model solution in
    let given : Given m.ext m.options s.values =
    record { extended = extended; fit = fit; options = options; domains = own.in_domains } in
    record {
      parts = λ k lt. subst (λ (w : Model). IsPartOf w k s.values) (sym model) (in_block m.ext m.options s.values given own k lt);
      cost = costs s.values m.ext.blocks m.blocks;
    }
