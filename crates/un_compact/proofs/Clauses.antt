-- The clauses of a schedule whose cycles come closer, each on lists of operations, reads and live ranges.
use Rattle.std.proofs.Common.{ℕ, ◌≡◌, ◌+◌, ◌-◌, ◌<◌, ◌≤◌, Bool, true, false, cond, eqb, List, [], ◌∷◌, map, max}
use Rattle.std.proofs.Common.{Option, Some, None, ◌⊎◌, inl, inr, ⊎_elim, refl, sym, ap, ◌∙◌, subst, arith, All, AllPairs}
use Rattle.std.specs.Prelude.{◌&&◌, ◌||◌, IfSome, slice_get, sum_by, if◌then◌else◌}
use Rattle.std.specs.List.{list_any}
use Rattle.std.specs.Option.{option_map}
use Rattle.std.proofs.lemmas.Bool.{cases_lt, eqb-true, eqb-false, eq-eqb}
use Rattle.std.proofs.lemmas.List.Elements.{All-cons, All-nil}
use Rattle.std.proofs.lemmas.List.Kept.{AllPairs-cons}
use Rattle.std.proofs.lemmas.List.Sums.{sum_by-cons}
use Rattle.un_base.specs.declared.ids.TempId.{TempId}
use Rattle.un_isa.specs.declared.op.Op.{Op}
use Rattle.un_isa.specs.declared.op.Op.TheVariants.{Load, Store, Call, Spill, Reload, Enter, Leave}
use Rattle.un_isa.specs.declared.packet_counts.Resource.{Resource}
use Rattle.un_isa.specs.declared.table.Table.{Table}
use Rattle.un_isa.specs.Does.{is_transfer}
use Rattle.un_isa.specs.PacketCounts.{places_of}
use Rattle.un_ir.specs.Linear.{place_over}
use Rattle.un_ir.specs.declared.extended.ExtBlock.{ExtBlock}
use Rattle.un_model.specs.declared.schedule.Issue.{Issue}
use Rattle.un_model.specs.declared.schedule.Read.{Read}
use Rattle.un_model.specs.declared.schedule.LiveRange.{LiveRange}
use Rattle.un_model.specs.declared.schedule.Schedule.{Schedule}
use Rattle.un_model.specs.Congruences.{is_live_out, live_out_reads, register_of, register_read, HandsOver, HandsOn, KeepsCongruences}
use Rattle.un_model.specs.Solutions.{Distance, Precedes, Gap, IsIdleAtZero, IsZeroRange, KeepsZeros, IsLive, KeepsChoices, ReadsInSpace}
use Rattle.un_model.specs.Solutions.{IsGivenInSpace, KeepsSpaces, IsPlacedAs, IsPlaced, IsLast, LeavesGap, KeepsLatencies, after_write}
use Rattle.un_model.specs.Solutions.{after_load}
use Rattle.un_model.specs.Solutions.{memory_distance, KeepsMemory, ShareNoCycle, SparesRange, IsSpared, KeepsRegisters}
use Rattle.un_model.specs.Solutions.{issues_at, share_of, Fits, HasRoom, KeepsPackets, ReadsHome, KeepsHomes, uses_frame}
use Rattle.un_model.specs.Solutions.{is_frame_access, starts_in_slot, after_enter, before_leave, frame_distance, HasFrame, KeepsFrame}
use Rattle.un_lists.proofs.Lists.{Each, Pairwise, Member, each_member, each_all, each_of, each_map, pairwise_all, pairwise_map}
use Rattle.un_lists.proofs.Lists.{pairwise_more}
use Rattle.un_lists.proofs.Lists.{slice_get-map, member_at}
use Rattle.un_compact.specs.Squeezes.{squeezed}
use Rattle.un_compact.proofs.Squeezing.{rises, no_more, before_later, enough}

-- ---- lists

pub all_of : {X : Type 0} (P : X → Type 0) (xs : List X) → Each P xs → All P xs
all_of P [] h = All-nil P
all_of P (x ∷ xs) h = All-cons P x xs h.0 (all_of P xs h.1)

pub pairs_of : {X : Type 0} (R : X → X → Type 0) (xs : List X) → Pairwise R xs → AllPairs R xs
pairs_of R [] h = λ i j d before below. absurd (omega (arith, below))
pairs_of R (x ∷ xs) h = AllPairs-cons R x xs (all_of (R x) xs h.0) (pairs_of R xs h.1)

pub all_at : {X : Type 0} (P : X → Type 0) (xs : List X) (x : X) → All P xs → Member x xs → P x
all_at P xs x h m = each_member P xs x (each_all P xs h) m

mapped : {X Y : Type 0} (P : X → Type 0) (Q : Y → Type 0) (f : X → Y) (xs : List X) → ((x : X) → Member x xs → P x → Q (f x)) → All P xs
    → All Q (map f xs)
mapped P Q f xs g h = all_of Q (map f xs) (each_map Q f xs (each_of (λ x. Q (f x)) xs (λ x m. g x m (all_at P xs x h m))))

mapped_pairs : {X Y : Type 0} (R : X → X → Type 0) (S : Y → Y → Type 0) (f : X → Y) (xs : List X)
    → ((x y : X) → Member x xs → Member y xs → R x y → S (f x) (f y)) → AllPairs R xs → AllPairs S (map f xs)
mapped_pairs R S f xs g h = pairs_of S (map f xs) (pairwise_map S f xs (pairwise_more R (λ x y. S (f x) (f y)) xs g (pairwise_all R xs h)))

any_map : {X Y : Type 0} (p : Y → Bool) (f : X → Y) (xs : List X) → list_any p (map f xs) ≡ list_any (λ x. p (f x)) xs
any_map p f [] = refl
any_map p f (x ∷ xs) = ap (λ b. p (f x) || b) (any_map p f xs)

-- ---- distances are of two cycles at most

abbrev Short : Distance → Type 0
Short distance = (a b : Option Op) → IfSome (distance a b) (λ (n : ℕ). n ≤ 2)

short_load : (b : Option Op) → IfSome (after_load b) (λ (n : ℕ). n ≤ 2)
short_load None = tt
short_load (Some Store) = omega arith
short_load (Some Call) = omega arith
short_load (Some _) = tt

short_write : (b : Option Op) → IfSome (after_write b) (λ (n : ℕ). n ≤ 2)
short_write None = tt
short_write (Some Load) = omega arith
short_write (Some Store) = omega arith
short_write (Some Call) = omega arith
short_write (Some _) = tt

short_memory : Short memory_distance
short_memory None b = tt
short_memory (Some Load) b = short_load b
short_memory (Some Store) b = short_write b
short_memory (Some Call) b = short_write b
short_memory (Some _) b = tt

short_enter : (b : Option Op) → IfSome (after_enter b) (λ (n : ℕ). n ≤ 2)
short_enter None = tt
short_enter (Some Spill) = omega arith
short_enter (Some Reload) = omega arith
short_enter (Some Call) = omega arith
short_enter (Some Leave) = omega arith
short_enter (Some _) = tt

short_leave : (k : ℕ) → k ≤ 2 → (b : Option Op) → IfSome (before_leave k b) (λ (n : ℕ). n ≤ 2)
short_leave k le None = tt
short_leave k le (Some Leave) = le
short_leave k le (Some _) = tt

short_frame : Short frame_distance
short_frame None b = tt
short_frame (Some Enter) b = short_enter b
short_frame (Some Spill) b = short_leave 0 (omega arith) b
short_frame (Some Reload) b = short_leave 0 (omega arith) b
short_frame (Some Call) b = short_leave 1 (omega arith) b
short_frame (Some _) b = tt

-- ---- what moves

module _ (used : ℕ → ℕ → Bool) (start : (b : ℕ) → used b 0 ≡ true) where
  -- where cycle c of block b comes
  abbrev pub place : ℕ → ℕ → ℕ
  place b c = squeezed (used b) c

  abbrev pub move_issue : Issue → Issue
  move_issue i = record i { cycle = place i.block.0 i.cycle; end = place i.block.0 i.end }

  abbrev pub move_read : Read → Read
  move_read r = record r { cycle = place r.block.0 r.cycle }

  -- the last cycle is the one before the last read, or the first one
  abbrev pub move_range : LiveRange → LiveRange
  move_range h = record h { from = place h.block.0 h.from; last = max (place h.block.0 h.from) (place h.block.0 (h.last + 1) - 1) }

  abbrev pub move : Schedule → Schedule
  move t = record { issues = map move_issue t.issues; reads = map move_read t.reads; ranges = map move_range t.ranges }

  -- what is known of a schedule: its cycles are in use, and what is read is of the reader's block
  pub record Facts (t : Schedule) : Type 0 where
    pub issues : (i : Issue) → Member i t.issues → (used i.block.0 i.cycle ≡ true) × (used i.block.0 i.end ≡ true)
    pub reads : (r : Read) → Member r t.reads → used r.block.0 r.cycle ≡ true
    pub ranges : (h : LiveRange) → Member h t.ranges → (used h.block.0 h.from ≡ true) × (h.from ≤ h.last)
    pub local : (r : Read) (h : LiveRange) → Member r t.reads → slice_get t.ranges r.temp.0 ≡ Some h → h.block.0 ≡ r.block.0

  module _ (t : Schedule) (known : Facts t) where
    at_range : (P : Option LiveRange → Type 0) (k : ℕ) → P (option_map move_range (slice_get t.ranges k))
        → P (slice_get (map move_range t.ranges) k)
    at_range P k h = subst P (sym (slice_get-map move_range t.ranges k)) h

    -- ---- 2 to 4

    pub zeros : KeepsZeros t → KeepsZeros (move t)
    zeros h = (
      mapped IsIdleAtZero IsIdleAtZero move_issue t.issues (λ i m k. k) h.0,
      mapped IsZeroRange IsZeroRange move_range t.ranges (λ i m k. k) h.1,
    )

    live : (o : Option LiveRange) → IsLive o → IsLive (option_map move_range o)
    live None h = h
    live (Some x) h = h

    pub choices : KeepsChoices t → KeepsChoices (move t)
    choices h = mapped (λ (r : Read). IsLive (slice_get t.ranges r.temp.0))
        (λ (r : Read). IsLive (slice_get (map move_range t.ranges) r.temp.0))
        move_read t.reads (λ r m k. at_range IsLive r.temp.0 (live (slice_get t.ranges r.temp.0) k)) h

    in_space : (r : Read) (o : Option LiveRange) → ReadsInSpace r o → ReadsInSpace (move_read r) (option_map move_range o)
    in_space r None h = h
    in_space r (Some x) h = h

    pub spaces : KeepsSpaces t → KeepsSpaces (move t)
    spaces h = (
      mapped (λ (r : Read). ReadsInSpace r (slice_get t.ranges r.temp.0))
          (λ (r : Read). ReadsInSpace r (slice_get (map move_range t.ranges) r.temp.0))
          move_read t.reads (λ r m k. at_range (ReadsInSpace (move_read r)) r.temp.0 (in_space r (slice_get t.ranges r.temp.0) k)) h.0,
      mapped IsGivenInSpace IsGivenInSpace move_range t.ranges (λ i m k. k) h.1,
    )

    -- ---- 5

    last_by : (u : ℕ → Bool) (c e : ℕ) (b : Bool) → u c ≡ true → c < e → IsLast c e b → IsLast (squeezed u c) (squeezed u e) b
    last_by u c e true a lt h =
        let x = before_later u c e a lt in
        let y = no_more u c e (omega (arith, lt)) in omega (arith, x, y, h)
    last_by u c e false a lt h = tt

    placed_by : (b c e : ℕ) (x : Option Op) → used b c ≡ true → IfSome x (IsPlacedAs c e) → IfSome x (IsPlacedAs (place b c) (place b e))
    placed_by b c e None a h = tt
    placed_by b c e (Some op) a h =
        let w = h.0 in
        let lo = before_later (used b) 0 c (start b) w.0 in
        let hi = before_later (used b) c e a w.1 in
        ((lo, hi), last_by (used b) c e (is_transfer op) a w.1 h.1)

    ready : (gap : Gap) → ((a b : Option Op) → gap a b ≤ 2) → (r : Read) → Member r t.reads → (o : Option LiveRange)
        → slice_get t.ranges r.temp.0 ≡ o → LeavesGap gap r o → LeavesGap gap (move_read r) (option_map move_range o)
    ready gap short r m None q h = h
    ready gap short r m (Some x) q h = λ a.
        let b = known.local r x m q in
        let ux = known.ranges x (member_at t.ranges r.temp.0 x q) in
        let ur = subst (λ k. used k r.cycle ≡ true) (sym b) (known.reads r m) in
        subst (λ k. place x.block.0 x.from + gap x.instr r.instr ≤ place k r.cycle) b
        (enough (used x.block.0) x.from r.cycle (gap x.instr r.instr) ux.0 ur (short x.instr r.instr) (h a))

    pub latencies : (gap : Gap) → ((a b : Option Op) → gap a b ≤ 2) → KeepsLatencies gap t → KeepsLatencies gap (move t)
    latencies gap short h = (
      mapped IsPlaced IsPlaced move_issue t.issues
          (λ i m k. let u = known.issues i m in placed_by i.block.0 i.cycle i.end i.instr u.0 k) h.0,
      mapped (λ (r : Read). LeavesGap gap r (slice_get t.ranges r.temp.0))
          (λ (r : Read). LeavesGap gap r (slice_get (map move_range t.ranges) r.temp.0))
          move_read t.reads
          (λ r m k. at_range (LeavesGap gap (move_read r)) r.temp.0 (ready gap short r m (slice_get t.ranges r.temp.0) refl k)) h.1,
    )

    -- ---- 6

    apart : (b c d : ℕ) (x : Option ℕ) → used b c ≡ true → used b d ≡ true → IfSome x (λ (n : ℕ). n ≤ 2) → IfSome x (λ (n : ℕ). c + n ≤ d)
        → IfSome x (λ (n : ℕ). place b c + n ≤ place b d)
    apart b c d None a e few h = tt
    apart b c d (Some n) a e few h = enough (used b) c d n a e few h

    precedes : (distance : Distance) → Short distance → (i j : Issue) → Member i t.issues → Member j t.issues → Precedes distance i j
        → Precedes distance (move_issue i) (move_issue j)
    unfolding Precedes
    precedes distance short i j m n h = λ same.
        let ui = known.issues i m in
        let uj = known.issues j n in
        let vj = subst (λ k. used k j.cycle ≡ true) (sym same) uj.0 in
        subst (λ k. IfSome (distance i.instr j.instr) (λ (n : ℕ). place i.block.0 i.cycle + n ≤ place k j.cycle)) same
        (apart i.block.0 i.cycle j.cycle (distance i.instr j.instr) ui.0 vj (short i.instr j.instr) (h same))

    pub memory : KeepsMemory t → KeepsMemory (move t)
    memory h = mapped_pairs (Precedes memory_distance) (Precedes memory_distance) move_issue t.issues
        (λ i j m n k. precedes memory_distance short_memory i j m n k) h

    -- ---- 7

    earlier : (u : ℕ → Bool) (from last next : ℕ) → u from ≡ true → from ≤ last → last < next
        → max (squeezed u from) (squeezed u (last + 1) - 1) < squeezed u next
    earlier u from last next a le lt =
        let x = before_later u from next a (omega (arith, le, lt)) in
        let y = rises u (last + 1) next (omega (arith, lt)) in
        omega (arith, x, y)

    shares_none : (a b : LiveRange) → Member a t.ranges → Member b t.ranges → ShareNoCycle a b → ShareNoCycle (move_range a) (move_range b)
    unfolding ShareNoCycle
    shares_none a b m n h = λ x y same reg c oa ob.
        let ua = known.ranges a m in
        let ub = known.ranges b n in
        let vb = subst (λ k. used k b.from ≡ true) (sym same) ub.0 in
        let apart = h x y same reg in
        let fb : place a.block.0 b.from ≡ place b.block.0 b.from = ap (λ k. place k b.from) same in
        let lb : place a.block.0 (b.last + 1) ≡ place b.block.0 (b.last + 1) = ap (λ k. place k (b.last + 1)) same in
        let oa0 = oa.0 in let oa1 = oa.1 in let ob0 = ob.0 in let ob1 = ob.1 in
        ⊎_elim
        (λ (lt : a.last < b.from). let e = earlier (used a.block.0) a.from a.last b.from ua.0 ua.1 lt in omega (arith, e, oa1, ob0, fb))
        (λ (le : b.from ≤ a.last). ⊎_elim
        (λ (lt : b.last < a.from). let e = earlier (used a.block.0) b.from b.last a.from vb ub.1 lt in omega (arith, e, oa0, ob1, fb, lb))
        (λ (le2 : a.from ≤ b.last). let al = ua.1 in let bl = ub.1 in
        apart (max a.from b.from) (omega (arith, le, al), omega (arith, le, al)) (omega (arith, le2, bl), omega (arith, le2, bl)))
        (cases_lt b.last a.from))
        (cases_lt a.last b.from)

    spares : (clobbered : ℕ) (i : Issue) (h : LiveRange) → Member i t.issues → Member h t.ranges → SparesRange clobbered i h
        → SparesRange clobbered (move_issue i) (move_range h)
    unfolding SparesRange
    spares clobbered i h m n s = λ call act same mask occ.
        let ui = known.issues i m in
        let uh = known.ranges h n in
        let vi = subst (λ k. used k i.cycle ≡ true) same ui.0 in
        let fi : place i.block.0 i.cycle ≡ place h.block.0 i.cycle = ap (λ k. place k i.cycle) same in
        let o0 = occ.0 in let o1 = occ.1 in
        s call act same mask (
          ⊎_elim (λ (lt : i.cycle < h.from). let e = before_later (used h.block.0) i.cycle h.from vi lt in
              absurd (omega (arith, e, o0, fi)))
              (λ (le : h.from ≤ i.cycle). le) (cases_lt i.cycle h.from),
          ⊎_elim (λ (lt : h.last < i.cycle). let e = earlier (used h.block.0) h.from h.last i.cycle uh.0 uh.1 lt in
              absurd (omega (arith, e, o1, fi))) (λ (le : i.cycle ≤ h.last). le) (cases_lt h.last i.cycle),
        )

    spared : (clobbered : ℕ) (h : LiveRange) → Member h t.ranges → IsSpared clobbered t.issues h
        → IsSpared clobbered (map move_issue t.issues) (move_range h)
    unfolding IsSpared
    spared clobbered h n s = mapped (λ (i : Issue). SparesRange clobbered i h) (λ (i : Issue). SparesRange clobbered i (move_range h))
        move_issue t.issues (λ i m k. spares clobbered i h m n k) s

    pub registers : (clobbered : ℕ) → KeepsRegisters clobbered t → KeepsRegisters clobbered (move t)
    registers clobbered h = (
      mapped_pairs ShareNoCycle ShareNoCycle move_range t.ranges (λ a b m n k. shares_none a b m n k) h.0,
      mapped (IsSpared clobbered t.issues) (IsSpared clobbered (map move_issue t.issues)) move_range t.ranges
          (λ a m k. spared clobbered a m k) h.1,
    )

    -- ---- 8

    -- cycles in use of one block that come to one cycle are one
    one_place : (u : ℕ → Bool) (c d : ℕ) → u c ≡ true → u d ≡ true → squeezed u c ≡ squeezed u d → c ≡ d
    one_place u c d a e same = ⊎_elim
        (λ (lt : c < d). let x = before_later u c d a lt in absurd (omega (arith, x, same)))
        (λ (le : d ≤ c). ⊎_elim
        (λ (lt : d < c). let x = before_later u d c e lt in absurd (omega (arith, x, same)))
        (λ (le2 : c ≤ d). let q : c ≡ d = omega (arith, le, le2) in q) (cases_lt d c)) (cases_lt c d)

    same_test : (u : ℕ → Bool) (c d x : ℕ) → u c ≡ true → u d ≡ true → squeezed u d ≡ x → eqb (squeezed u c) x ≡ eqb c d
    same_test u c d x a e at = ⊎_elim
        (λ (q : c ≡ d). eq-eqb (squeezed u c) x (ap (squeezed u) q ∙ at) ∙ sym (eq-eqb c d q))
        (λ (n : c ≡ d → ⊥). other (eqb (squeezed u c) x) (eqb c d) refl refl n)
        (cases c d)
      where
        cases : (c d : ℕ) → (c ≡ d) ⊎ (c ≡ d → ⊥)
        cases c d = by (eqb c d) refl
          where
            by : (b : Bool) → eqb c d ≡ b → (c ≡ d) ⊎ (c ≡ d → ⊥)
            by true e = inl (eqb-true c d e)
            by false e = inr (eqb-false c d e)

        other : (b k : Bool) → eqb (squeezed u c) x ≡ b → eqb c d ≡ k → (c ≡ d → ⊥) → b ≡ k
        other true k f g n = absurd (n (one_place u c d a e (eqb-true (squeezed u c) x f ∙ sym at)))
        other false true f g n = absurd (n (eqb-true c d g))
        other false false f g n = refl

    module _ (table : Table) (resource : Resource) where
      abbrev load : ℕ → ℕ → Issue → ℕ
      load b c i = if issues_at b c i then share_of table resource i.instr else 0

      -- what issues in the place of a cycle in use is what issued in that cycle
      load_same : (b c x : ℕ) → used b c ≡ true → place b c ≡ x → (i : Issue) → used i.block.0 i.cycle ≡ true
          → load b x (move_issue i) ≡ load b c i
      load_same b c x a at i u = by (eqb i.block.0 b) refl
        where
          by : (k : Bool) → eqb i.block.0 b ≡ k → load b x (move_issue i) ≡ load b c i
          by true e =
              let q = eqb-true i.block.0 b e in
              let v = subst (λ k. used k c ≡ true) (sym q) a in
              let w = ap (λ k. place k c) q ∙ at in
              ap (λ k. if (eqb i.block.0 b && k) then share_of table resource i.instr else 0) (same_test (used i.block.0) i.cycle c x u v w)
          by false e =
              ap (λ k. if (k && eqb (place i.block.0 i.cycle) x) then share_of table resource i.instr else 0) e
              ∙ sym (ap (λ k. if (k && eqb i.cycle c) then share_of table resource i.instr else 0) e)

      sum_same : (b c x : ℕ) → used b c ≡ true → place b c ≡ x → (is : List Issue) → Each (λ (i : Issue). used i.block.0 i.cycle ≡ true) is
          → sum_by (load b x) (map move_issue is) ≡ sum_by (load b c) is
      sum_same b c x a at [] h = refl
      sum_same b c x a at (i ∷ is) h =
          sum_by-cons (load b x) (move_issue i) (map move_issue is)
          ∙ ap (λ n. n + sum_by (load b x) (map move_issue is)) (load_same b c x a at i h.0)
          ∙ ap (λ n. load b c i + n) (sum_same b c x a at is h.1)
          ∙ sym (sum_by-cons (load b c) i is)

      -- nothing issues in a cycle, or it is the place of a cycle in use
      none_or : (b x : ℕ) (is : List Issue) → Each (λ (i : Issue). used i.block.0 i.cycle ≡ true) is
          → (sum_by (load b x) (map move_issue is) ≡ 0) ⊎ ((c : ℕ) × (used b c ≡ true) × (place b c ≡ x))
      none_or b x [] h = inl refl
      none_or b x (i ∷ is) h = by (eqb i.block.0 b) (eqb (place i.block.0 i.cycle) x) refl refl (none_or b x is h.1)
        where
          by : (k l : Bool) → eqb i.block.0 b ≡ k → eqb (place i.block.0 i.cycle) x ≡ l
              → (sum_by (load b x) (map move_issue is) ≡ 0) ⊎ ((c : ℕ) × (used b c ≡ true) × (place b c ≡ x))
              → (sum_by (load b x) (map move_issue (i ∷ is)) ≡ 0) ⊎ ((c : ℕ) × (used b c ≡ true) × (place b c ≡ x))
          by true true e f r =
              let q = eqb-true i.block.0 b e in
              inr (
                i.cycle,
                subst (λ k. used k i.cycle ≡ true) q h.0,
                ap (λ k. place k i.cycle) (sym q)
                    ∙ eqb-true (place i.block.0 i.cycle) x f,
              )
          by k l e f (inr r) = inr r
          by false l e f (inl r) = inl (sum_by-cons (load b x) (move_issue i) (map move_issue is) ∙ ap (λ n. load b x (move_issue i) + n) r
              ∙ ap (λ z. (if (z && eqb (place i.block.0 i.cycle) x) then share_of table resource i.instr else 0) + 0) e)
          by true false e f (inl r) =
              inl (sum_by-cons (load b x) (move_issue i) (map move_issue is) ∙ ap (λ n. load b x (move_issue i) + n) r
              ∙ ap (λ z. (if (z && eqb (place i.block.0 i.cycle) x) then share_of table resource i.instr else 0) + 0) e
              ∙ ap (λ z. (if (true && z) then share_of table resource i.instr else 0) + 0) f)

      fits : (b x : ℕ) → ((c : ℕ) → Fits table t.issues b c resource) → Fits table (map move_issue t.issues) b x resource
      fits b x h =
          let all = each_of (λ (i : Issue). used i.block.0 i.cycle ≡ true) t.issues (λ i m. let u = known.issues i m in u.0) in
          ⊎_elim
          (λ (z : sum_by (load b x) (map move_issue t.issues) ≡ 0). subst (λ n. n ≤ places_of resource) (sym z) (omega arith))
          (λ (r : (c : ℕ) × (used b c ≡ true) × (place b c ≡ x)).
          subst (λ n. n ≤ places_of resource) (sym (sum_same b r.0 x r.1 r.2 t.issues all)) (h r.0))
          (none_or b x t.issues all)

    pub packets : (table : Table) → KeepsPackets table t → KeepsPackets table (move t)
    unfolding HasRoom
    packets table h = λ b x resource. fits table resource b x (λ c. h b c resource)

    -- ---- 9

    at_home : (r : Read) (o : Option LiveRange) → ReadsHome r o → ReadsHome (move_read r) (option_map move_range o)
    at_home r None h = h
    at_home r (Some x) h = h

    pub homes : KeepsHomes t → KeepsHomes (move t)
    homes h = mapped (λ (r : Read). ReadsHome r (slice_get t.ranges r.temp.0))
        (λ (r : Read). ReadsHome r (slice_get (map move_range t.ranges) r.temp.0))
        move_read t.reads (λ r m k. at_range (ReadsHome (move_read r)) r.temp.0 (at_home r (slice_get t.ranges r.temp.0) k)) h

    reg_map : (o : Option LiveRange) → option_map (λ (h : LiveRange). h.reg) (option_map move_range o)
        ≡ option_map (λ (h : LiveRange). h.reg) o
    reg_map None = refl
    reg_map (Some h) = refl

    reg_same : (x : TempId) → register_of (map move_range t.ranges) x ≡ register_of t.ranges x
    reg_same x = ap (option_map (λ (h : LiveRange). h.reg)) (slice_get-map move_range t.ranges x.0) ∙ reg_map (slice_get t.ranges x.0)

    read_map : (o : Option Read) → register_read (map move_range t.ranges) (option_map move_read o) ≡ register_read t.ranges o
    read_map None = refl
    read_map (Some r) = reg_same r.temp

    outs : (k : ℕ) (rs : List Read) → live_out_reads k (map move_read rs) ≡ map move_read (live_out_reads k rs)
    outs k [] = refl
    outs k (r ∷ rs) = by (is_live_out k r) refl (outs k rs)
      where
        by : (b : Bool) → is_live_out k r ≡ b → live_out_reads k (map move_read rs) ≡ map move_read (live_out_reads k rs)
            → live_out_reads k (map move_read (r ∷ rs)) ≡ map move_read (live_out_reads k (r ∷ rs))
        by true e q = ap (λ b. cond b (move_read r ∷ live_out_reads k (map move_read rs)) (live_out_reads k (map move_read rs))) e
            ∙ ap (λ xs. move_read r ∷ xs) q ∙ ap (map move_read) (sym (ap (λ b. cond b (r ∷ live_out_reads k rs) (live_out_reads k rs)) e))
        by false e q = ap (λ b. cond b (move_read r ∷ live_out_reads k (map move_read rs)) (live_out_reads k (map move_read rs))) e
            ∙ q ∙ ap (map move_read) (sym (ap (λ b. cond b (r ∷ live_out_reads k rs) (live_out_reads k rs)) e))

    out_same : (k n : ℕ) → register_read (map move_range t.ranges) (slice_get (live_out_reads k (map move_read t.reads)) n)
        ≡ register_read t.ranges (slice_get (live_out_reads k t.reads) n)
    out_same k n = ap (λ rs. register_read (map move_range t.ranges) (slice_get rs n)) (outs k t.reads)
        ∙ ap (register_read (map move_range t.ranges)) (slice_get-map move_read (live_out_reads k t.reads) n)
        ∙ read_map (slice_get (live_out_reads k t.reads) n)

    hands_over : (k : ℕ) (a b : ExtBlock) → HandsOver t k a b → HandsOver (move t) k a b
    unfolding HandsOver
    hands_over k a b h = λ j x e. out_same k (place_over a b j) ∙ h j x e ∙ sym (reg_same x)

    hands_on : (blocks : List ExtBlock) (k : ℕ) (a : ExtBlock) → HandsOn blocks t k a → HandsOn blocks (move t) k a
    unfolding HandsOn
    hands_on blocks k a h = λ l b there at. hands_over k a b (h l b there at)

    pub congruences : (blocks : List ExtBlock) → KeepsCongruences blocks t → KeepsCongruences blocks (move t)
    congruences blocks h = λ k a at. hands_on blocks k a (h k a at)

    -- ---- 10

    frame_same : uses_frame (move t) ≡ uses_frame t
    frame_same =
        ap (λ b. b || list_any starts_in_slot (map move_range t.ranges))
        (any_map (λ (i : Issue). is_frame_access i.instr) move_issue t.issues)
        ∙ ap (λ b. list_any (λ (i : Issue). is_frame_access i.instr) t.issues || b) (any_map starts_in_slot move_range t.ranges)

    pub frame : (flag : ℕ) → KeepsFrame flag t → KeepsFrame flag (move t)
    frame flag h = record {
      used = λ e. h.used (sym frame_same ∙ e);
      needed = λ e. frame_same ∙ h.needed e;
      without = λ e. mapped (HasFrame false) (HasFrame false) move_issue t.issues (λ i m k. k) (h.without e);
      with_frame = λ e. mapped (HasFrame true) (HasFrame true) move_issue t.issues (λ i m k. k) (h.with_frame e);
      ordered = λ e. mapped (λ (i : Issue). All (Precedes frame_distance i) t.issues)
          (λ (i : Issue). All (Precedes frame_distance i) (map move_issue t.issues)) move_issue t.issues
          (λ i m k. mapped (Precedes frame_distance i) (Precedes frame_distance (move_issue i)) move_issue t.issues
          (λ j n q. precedes frame_distance short_frame i j m n q) k) (h.ordered e);
    }
