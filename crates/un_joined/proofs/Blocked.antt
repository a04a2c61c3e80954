-- What holds of the issues, the reads and the live ranges of each block of a schedule holds of the whole schedule, where it asks nothing
-- of two blocks together.
use Rattle.std.proofs.Common.{ℕ, ◌≡◌, ◌+◌, ◌<◌, ◌≤◌, Bool, true, false, List, [], ◌∷◌, map, filter, refl, sym, ap, ◌∙◌, subst, arith, All}
use Rattle.std.proofs.Common.{AllPairs, ◌⊎◌, inl, inr, eq-eqb}
use Rattle.std.specs.Prelude.{Option, slice_get, sum_by, ◌==◌, ◌||◌, ◌&&◌, if◌then◌else◌}
use Rattle.std.specs.List.{list_any}
use Rattle.std.proofs.lemmas.List.Sums.{sum_by-cons}
use Rattle.un_isa.specs.declared.packet_counts.Resource.{Resource}
use Rattle.un_isa.specs.PacketCounts.{places_of}
use Rattle.un_isa.specs.declared.table.Table.{Table}
use Rattle.un_model.specs.declared.schedule.Issue.{Issue}
use Rattle.un_model.specs.declared.schedule.LiveRange.{LiveRange}
use Rattle.un_model.specs.declared.schedule.Read.{Read}
use Rattle.un_model.specs.declared.schedule.Schedule.{Schedule}
use Rattle.un_model.specs.Solutions.{KeepsFrame, KeepsFrameOrder, KeepsPackets, Distance, Precedes, ShareNoCycle, SparesRange, IsSpared}
use Rattle.un_model.specs.Solutions.{HasFrame, taken, share_of, issues_at, uses_frame, is_frame_access, starts_in_slot, frame_distance}
use Rattle.un_lists.proofs.Lists.{Each, Pairwise, Member, each_of, each_member, each_all, each_of_map, pairwise_all, pairwise_of_map}
use Rattle.un_lists.proofs.Lists.{any_of, member_filter, member_of_filter, member_map}
use Rattle.un_root.proofs.Eaches.{all_each}
use Rattle.un_post.specs.Parts.{absent, only_in, block_schedule, KeepsPartFrame}
use Rattle.un_post.proofs.Frames.{any_true}
use Rattle.un_post.proofs.NoSharing.{all_pairwise}
use Rattle.un_post.proofs.Packets.{no_room}
use Rattle.un_post.proofs.PartItems.{equal_of}
use Rattle.un_post.proofs.PartRooms.{pairwise_kept}
use Rattle.un_post.proofs.Spared.{is_spared}

-- ---- lists

-- each two elements, by what holds of all pairs for the number of the first
pairs_by : {X : Type 0} (S : ℕ → X → X → Type 0) (R : X → X → Type 0) (number : X → ℕ) (n : ℕ) (xs : List X)
    → ((a b : X) → S (number a) a b → R a b) → Each (λ a. number a < n) xs → ((k : ℕ) → k < n → Pairwise (S k) xs) → Pairwise R xs
pairs_by S R number n [] local below h = tt
pairs_by S R number n (x ∷ xs) local below h = (
  each_of (R x) xs (λ y m. local x y (each_member (S (number x) x) xs y (h (number x) below.0).0 m)),
  pairs_by S R number n xs local below.1 (λ k lt. (h k lt).1),
)

-- what is left out of a sum that adds nothing
sum_kept : {X : Type 0} (t : X → Bool) (f : X → ℕ) (xs : List X) → ((x : X) → t x ≡ false → f x ≡ 0)
    → sum_by f xs ≡ sum_by f (filter t xs)
sum_kept t f [] none = refl
sum_kept {X} t f (x ∷ xs) none = by (t x) refl (sum_kept t f xs none)
  where
    by : (b : Bool) → t x ≡ b → sum_by f xs ≡ sum_by f (filter t xs)
        → sum_by f (x ∷ xs) ≡ sum_by f (if b then x ∷ filter t xs else filter t xs)
    by true is rest = sum_by-cons f x xs ∙ ap (λ n. f x + n) rest ∙ sym (sum_by-cons f x (filter t xs))
    by false is rest = let cons = sum_by-cons f x xs in let here = none x is in omega (arith, cons, here, rest)

either : (a b : Bool) → (a || b) ≡ true → (a ≡ true) ⊎ (b ≡ true)
either true b h = inl refl
either false b h = inr h

or_first : (a b : Bool) → a ≡ true → (a || b) ≡ true
or_first true b h = refl
or_first false b h = absurd (cc h)

or_second : (a b : Bool) → b ≡ true → (a || b) ≡ true
or_second true b h = refl
or_second false b h = h

-- ---- blocks

abbrev pub issue_block : Issue → ℕ
issue_block i = i.block.0

abbrev pub range_block : LiveRange → ℕ
range_block h = h.block.0

abbrev pub read_block : Read → ℕ
read_block v = v.block.0

abbrev own_issue : ℕ → Issue → Bool
own_issue k i = i.block.0 == k

abbrev own_read : ℕ → Read → Bool
own_read k v = v.block.0 == k

-- what is read stands among the temporaries of the block that reads it
abbrev pub SeesRead : List LiveRange → Read → Type 0
SeesRead ranges v = slice_get (map (only_in (read_block v)) ranges) v.temp.0 ≡ slice_get ranges v.temp.0

-- all that a schedule has is of its n blocks, and each block reads what it has itself
pub record IsBlocked (n : ℕ) (t : Schedule) : Type 0 where
  pub issues : Each (λ (i : Issue). issue_block i < n) t.issues
  pub ranges : Each (λ (h : LiveRange). range_block h < n) t.ranges
  pub reads : Each (λ (v : Read). read_block v < n) t.reads
  pub there : Each (SeesRead t.ranges) t.reads

-- a temporary is there in its own block
seen : (h : LiveRange) (k : ℕ) → range_block h ≡ k → only_in k h ≡ h
seen h k same = ap (λ (b : Bool). if b then h else absent h) (eq-eqb (range_block h) k same)

-- ---- clauses that ask nothing of two blocks

precedes_where : (distance : Distance) (i j : Issue) → (issue_block i ≡ issue_block j → Precedes distance i j) → Precedes distance i j
unfolding Precedes
precedes_where distance i j h same = h same same

precedes_own : (distance : Distance) (i j : Issue)
    → (own_issue (issue_block i) i ≡ true → own_issue (issue_block i) j ≡ true → Precedes distance i j) → Precedes distance i j
precedes_own distance i j h = precedes_where distance i j
    (λ same. h (eq-eqb (issue_block i) (issue_block i) refl) (eq-eqb (issue_block j) (issue_block i) (sym same)))

share_where : (a b : LiveRange) → (range_block a ≡ range_block b → ShareNoCycle a b) → ShareNoCycle a b
unfolding ShareNoCycle
share_where a b h on other same = h same on other same

share_own : (a b : LiveRange) → ShareNoCycle (only_in (range_block a) a) (only_in (range_block a) b) → ShareNoCycle a b
share_own a b h = share_where a b (λ same. subst (λ (g : LiveRange). ShareNoCycle a g) (seen b (range_block a) (sym same))
    (subst (λ (g : LiveRange). ShareNoCycle g (only_in (range_block a) b)) (seen a (range_block a) refl) h))

spares_where : (mask : ℕ) (i : Issue) (h : LiveRange) → (issue_block i ≡ range_block h → SparesRange mask i h) → SparesRange mask i h
unfolding SparesRange
spares_where mask i h f call on same = f same call on same

-- ---- a schedule of n blocks

module _ (n : ℕ) (t : Schedule) (own : IsBlocked n t) where
  abbrev InEach : (Schedule → Type 0) → Type 0
  InEach P = (k : ℕ) → k < n → P (block_schedule k t)

  issue_below : (i : Issue) → Member i t.issues → issue_block i < n
  issue_below i m = each_member (λ (i : Issue). issue_block i < n) t.issues i own.issues m

  range_below : (h : LiveRange) → Member h t.ranges → range_block h < n
  range_below h m = each_member (λ (h : LiveRange). range_block h < n) t.ranges h own.ranges m

  issue_in : (i : Issue) (k : ℕ) → Member i t.issues → issue_block i ≡ k → Member i (filter (own_issue k) t.issues)
  issue_in i k m same = member_filter (own_issue k) t.issues i m (eq-eqb (issue_block i) k same)

  pub issues_whole : (P : Issue → Type 0) → InEach (λ (u : Schedule). All P u.issues) → All P t.issues
  issues_whole P h = all_each P t.issues (each_of P t.issues (λ i m. each_member P (filter (own_issue (issue_block i)) t.issues) i
      (each_all P (filter (own_issue (issue_block i)) t.issues) (h (issue_block i) (issue_below i m))) (issue_in i (issue_block i) m refl)))

  -- of a temporary as its own block has it
  range_own : (P : LiveRange → Type 0) (h : LiveRange) → Member h t.ranges → All P (map (only_in (range_block h)) t.ranges) → P h
  range_own P h m all =
      let k = range_block h in
      subst P (seen h k refl) (each_member (λ (g : LiveRange). P (only_in k g)) t.ranges h
      (each_of_map P (only_in k) t.ranges (each_all P (map (only_in k) t.ranges) all)) m)

  pub ranges_whole : (P : LiveRange → Type 0) → InEach (λ (u : Schedule). All P u.ranges) → All P t.ranges
  ranges_whole P h = all_each P t.ranges (each_of P t.ranges (λ g m. range_own P g m (h (range_block g) (range_below g m))))

  pub reads_whole : (P : Read → Option LiveRange → Type 0)
      → InEach (λ (u : Schedule). All (λ (v : Read). P v (slice_get u.ranges v.temp.0)) u.reads)
      → All (λ (v : Read). P v (slice_get t.ranges v.temp.0)) t.reads
  reads_whole P h = all_each (λ (v : Read). P v (slice_get t.ranges v.temp.0)) t.reads
      (each_of (λ (v : Read). P v (slice_get t.ranges v.temp.0)) t.reads (λ v m.
      let k = read_block v in
      let part = filter (own_read k) t.reads in
      let lt = each_member (λ (v : Read). read_block v < n) t.reads v own.reads m in
      let Q : Read → Type 0 = λ w. P w (slice_get (map (only_in k) t.ranges) w.temp.0) in
      subst (P v) (each_member (SeesRead t.ranges) t.reads v own.there m)
      (each_member Q part v (each_all Q part (h k lt)) (member_filter (own_read k) t.reads v m (eq-eqb k k refl)))))

  pub pairs_whole : (distance : Distance) → InEach (λ (u : Schedule). AllPairs (Precedes distance) u.issues)
      → AllPairs (Precedes distance) t.issues
  pairs_whole distance h = all_pairwise (Precedes distance) t.issues (pairs_by
      (λ (k : ℕ) (i j : Issue). own_issue k i ≡ true → own_issue k j ≡ true → Precedes distance i j) (Precedes distance) issue_block n
      t.issues (precedes_own distance) own.issues (λ k lt. (pairwise_kept (Precedes distance) (own_issue k) t.issues).0
      (pairwise_all (Precedes distance) (filter (own_issue k) t.issues) (h k lt))))

  -- ---- registers

  pub shares_whole : InEach (λ (u : Schedule). AllPairs ShareNoCycle u.ranges) → AllPairs ShareNoCycle t.ranges
  shares_whole h = all_pairwise ShareNoCycle t.ranges (pairs_by
      (λ (k : ℕ) (a b : LiveRange). ShareNoCycle (only_in k a) (only_in k b)) ShareNoCycle range_block n t.ranges share_own own.ranges
      (λ k lt. pairwise_of_map ShareNoCycle (only_in k) t.ranges (pairwise_all ShareNoCycle (map (only_in k) t.ranges) (h k lt))))

  pub spared_whole : (mask : ℕ) → InEach (λ (u : Schedule). All (IsSpared mask u.issues) u.ranges) → All (IsSpared mask t.issues) t.ranges
  spared_whole mask h = all_each (IsSpared mask t.issues) t.ranges (each_of (IsSpared mask t.issues) t.ranges (λ g m.
      let k = range_block g in
      let part = filter (own_issue k) t.issues in
      let spared : IsSpared mask part g = range_own (IsSpared mask part) g m (h k (range_below g m)) in
      let P : Issue → Type 0 = λ i. SparesRange mask i g in
      let each = each_all P part ((is_spared mask part g).1 spared) in
      (is_spared mask t.issues g).0 (all_each P t.issues (each_of P t.issues (λ i mi. spares_where mask i g (λ same.
      each_member P part i each (issue_in i k mi same)))))))

  -- ---- packets

  pub packets_whole : (table : Table) → InEach (KeepsPackets table) → KeepsPackets table t
  packets_whole table h b c = (no_room table t.issues b c).0 (λ resource.
      let same = sum_kept (own_issue b) (λ (i : Issue). if issues_at b c i then share_of table resource i.instr else 0) t.issues
      (λ i other. ap (λ (a : Bool). if a && i.cycle == c then share_of table resource i.instr else 0) other) in
      let le = by resource (filter (own_issue b) t.issues) refl in
      omega (arith, same, le))
    where
      by : (resource : Resource) (part : List Issue) → filter (own_issue b) t.issues ≡ part → taken table resource part b c ≤ places_of resource
      by resource [] is = omega arith
      by resource (i ∷ more) is =
          let part = filter (own_issue b) t.issues in
          let m = member_of_filter (own_issue b) t.issues i (subst (Member i) (sym is) (inl refl)) in
          let same = equal_of (issue_block i) b m.1 in
          let below = issue_below i m.0 in
          let lt : b < n = omega (arith, same, below) in
          subst (λ (xs : List Issue). taken table resource xs b c ≤ places_of resource) is
          ((no_room table part b c).1 (h b lt b c) resource)

  -- ---- the frame

  abbrev accesses : Issue → Bool
  accesses i = is_frame_access i.instr

  -- some block uses the frame
  pub uses_whole : uses_frame t ≡ true → (k : ℕ) × (k < n) × (uses_frame (block_schedule k t) ≡ true)
  uses_whole h = elim (either (list_any accesses t.issues) (list_any starts_in_slot t.ranges) h) [ inl u ↦ issues u | inr u ↦ ranges u ]
    where
      issues : list_any accesses t.issues ≡ true → (k : ℕ) × (k < n) × (uses_frame (block_schedule k t) ≡ true)
      issues u =
          let a = any_of accesses t.issues u in
          let k = issue_block a.0 in
          let part = filter (own_issue k) t.issues in (
            k,
            issue_below a.0 a.1,
            or_first (list_any accesses part) (list_any starts_in_slot (map (only_in k) t.ranges))
                (any_true accesses part a.0 (issue_in a.0 k a.1 refl) a.2),
          )

      ranges : list_any starts_in_slot t.ranges ≡ true → (k : ℕ) × (k < n) × (uses_frame (block_schedule k t) ≡ true)
      ranges u =
          let a = any_of starts_in_slot t.ranges u in
          let k = range_block a.0 in
          let own_ranges = map (only_in k) t.ranges in (
            k,
            range_below a.0 a.1,
            or_second (list_any accesses (filter (own_issue k) t.issues)) (list_any starts_in_slot own_ranges)
                (any_true starts_in_slot own_ranges (only_in k a.0) (member_map (only_in k) t.ranges a.0 a.1)
                (ap starts_in_slot (seen a.0 k refl) ∙ a.2)),
          )

  order_whole : InEach (λ (u : Schedule). KeepsFrameOrder u.issues) → KeepsFrameOrder t.issues
  order_whole h = all_each (λ (i : Issue). All (Precedes frame_distance i) t.issues) t.issues
      (each_of (λ (i : Issue). All (Precedes frame_distance i) t.issues) t.issues (λ i mi.
      let k = issue_block i in
      let part = filter (own_issue k) t.issues in
      let P : Issue → Type 0 = λ i. All (Precedes frame_distance i) part in
      let here = each_member P part i (each_all P part (h k (issue_below i mi))) (issue_in i k mi refl) in
      all_each (Precedes frame_distance i) t.issues (each_of (Precedes frame_distance i) t.issues (λ j mj.
      precedes_where frame_distance i j (λ same. each_member (Precedes frame_distance i) part j
      (each_all (Precedes frame_distance i) part here) (issue_in j k mj (sym same)))))))

  pub frame_whole : (flag : ℕ) → InEach (KeepsPartFrame flag) → (flag ≡ 1 → uses_frame t ≡ true) → KeepsFrame flag t
  frame_whole flag h needed = record {
    used = λ u. let r = uses_whole u in let f = h r.0 r.1 in f.used r.2;
    needed = needed;
    without = λ z. issues_whole (HasFrame false) (λ k lt. let f = h k lt in f.without z);
    with_frame = λ z. issues_whole (HasFrame true) (λ k lt. let f = h k lt in f.with_frame z);
    ordered = λ z. order_whole (λ k lt. let f = h k lt in f.ordered z);
  }
