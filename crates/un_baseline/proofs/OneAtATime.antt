-- What a schedule keeps where no two instructions of a block issue closer together than the latency of the first: memory's
-- order, the counts of a packet, and registers that are each read only until they are written again.
use Rattle.std.proofs.Common.{◌≡◌, ◌≢◌, ℕ, zero, suc, ◌+◌, ◌-◌, ◌<◌, ◌≤◌, ◌⊎◌, ⊎_elim, max, Bool, true, false, List, [], ◌∷◌, length}
use Rattle.std.proofs.Common.{get_or, Option, Some, None, refl, sym, ap, ◌∙◌, arith}
use Rattle.std.specs.Prelude.{◌==◌, ◌&&◌, if◌then◌else◌, All, AllPairs, Contains, IfSome, IsSomeAnd, unwrap_or, fold, slice_get}
use Rattle.std.proofs.lemmas.Bool.{cases_lt}
use Rattle.std.proofs.lemmas.Bool.Decides.{nat_tests}
use Rattle.std.proofs.lemmas.List.Sums.{sum_by-cons}
use Rattle.std.proofs.lemmas.List.Elements.{All-head, All-tail, Contains-get_or}
use Rattle.un_isa.specs.declared.op.Op.{Op}
use Rattle.un_isa.specs.declared.op.Op.TheVariants.{Load, Store, Call}
use Rattle.un_isa.specs.declared.table.Table.{Table}
use Rattle.un_isa.specs.Fit.{IsFit, AreFitNeeds}
use Rattle.un_isa.specs.Hexagon.{needs_by as needs_of}
use Rattle.un_isa.specs.Facts.{class_of}
use Rattle.un_isa.specs.declared.table.Needs.{Needs}
use Rattle.un_isa.specs.Tables.{number_of, latency_of, in_mask}
use Rattle.un_model.specs.declared.schedule.Issue.{Issue}
use Rattle.un_model.specs.declared.schedule.Read.{Read}
use Rattle.un_model.specs.declared.schedule.LiveRange.{LiveRange}
use Rattle.un_model.specs.declared.schedule.Schedule.{Schedule}
use Rattle.un_isa.specs.declared.packet_counts.Resource.{Resource}
use Rattle.un_isa.specs.declared.packet_counts.Resource.TheVariants.{Instructions, Memory, Stores, MultiplyOrControl, Control}
use Rattle.un_model.specs.Instructions.{needs_by, no_needs}
use Rattle.un_model.specs.Schedules.{cycle_for, last_read}
use Rattle.un_model.specs.Solutions.{share_of, issues_at, taken, HasRoom, KeepsPackets, ShareNoCycle, SparesRange, IsSpared}
use Rattle.un_isa.specs.PacketCounts.{places_of}
use Rattle.un_model.specs.Solutions.{KeepsRegisters, after_write, after_load, memory_distance, Precedes, KeepsMemory}

-- ---- packets

-- one of two instructions of a block issues at least its latency after the other
abbrev pub AreSeparated : Table → Issue → Issue → Type 0
AreSeparated t i j =
    (o q : Op) → i.block.0 ≡ j.block.0 → i.instr ≡ Some o → j.instr ≡ Some q
    → (i.cycle + latency_of t o ≤ j.cycle) ⊎ (j.cycle + latency_of t q ≤ i.cycle)

-- at most one place of each resource
pub record AreFew (needs : Needs) : Type 0 where
  pub mem : needs.mem ≤ 1
  pub store : needs.store ≤ 1
  pub xc : needs.xc ≤ 1
  pub control : needs.control ≤ 1

few_by : (least : Needs) (x : Option Needs) → IsSomeAnd x (AreFitNeeds least) → AreFew (unwrap_or x no_needs)
few_by least None h = absurd h
few_by least (Some x) h = record { mem = h.mem.1; store = h.store.1; xc = h.xc.1; control = h.control.1 }

few : (t : Table) → IsFit t → (o : Op) → AreFew (needs_by t (Some o))
few t fit o = few_by (needs_of (class_of o)) (slice_get t.uses (number_of o)) (fit.needs o)

share_few : (t : Table) → IsFit t → (resource : Resource) (o : Op) → share_of t resource (Some o) ≤ 1
share_few t fit Instructions o = omega arith
share_few t fit Memory o = (few t fit o).mem
share_few t fit Stores o = (few t fit o).store
share_few t fit MultiplyOrControl o = (few t fit o).xc
share_few t fit Control o = (few t fit o).control

share_none : (t : Table) (resource : Resource) → share_of t resource None ≡ 0
share_none t Instructions = refl
share_none t Memory = refl
share_none t Stores = refl
share_none t MultiplyOrControl = refl
share_none t Control = refl

places_enough : (resource : Resource) → 1 ≤ places_of resource
places_enough Instructions = omega arith
places_enough Memory = omega arith
places_enough Stores = omega arith
places_enough MultiplyOrControl = omega arith
places_enough Control = omega arith

both_true : (a b : Bool) → (a && b) ≡ true → (a ≡ true) × (b ≡ true)
both_true true b h = (refl, h)
both_true false b h = absurd (cc h)

same_number : (a b : ℕ) → (a == b) ≡ true → a ≡ b
same_number a b h = grind (arith, nat_tests)

-- what an issue takes of a resource in cycle c of block b
abbrev part_at : Table → Resource → ℕ → ℕ → Issue → ℕ
part_at t resource b c i = if issues_at b c i then share_of t resource i.instr else 0

nothing_by : (t : Table) (resource : Resource) (at : Bool) (instr : Option Op) → (at ≡ true → instr ≡ None)
    → (if at then share_of t resource instr else 0) ≡ 0
nothing_by t resource true instr h = ap (share_of t resource) (h refl) ∙ share_none t resource
nothing_by t resource false instr h = refl

nothing_taken : (t : Table) (resource : Resource) (b c : ℕ) (xs : List Issue) → All (λ (j : Issue). issues_at b c j ≡ true
    → j.instr ≡ None) xs → taken t resource xs b c ≡ 0
nothing_taken t resource b c [] h = refl
nothing_taken t resource b c (x ∷ xs) h =
    let here = nothing_by t resource (issues_at b c x) x.instr (All-head (λ (j : Issue). issues_at b c j ≡ true → j.instr ≡ None) x xs h) in
    let rest = nothing_taken t resource b c xs (All-tail (λ (j : Issue). issues_at b c j ≡ true → j.instr ≡ None) x xs h) in
    let split = sum_by-cons (part_at t resource b c) x xs in
    omega arith

-- an instruction is alone in its cycle
alone_by : (t : Table) → IsFit t → (b c : ℕ) (i j : Issue) (o : Op) (instr : Option Op) → issues_at b c i ≡ true → i.instr ≡ Some o
    → issues_at b c j ≡ true → j.instr ≡ instr → AreSeparated t i j → instr ≡ None
alone_by t fit b c i j o None hi io hj jo sep = refl
alone_by t fit b c i j o (Some q) hi io hj jo sep =
    let x = both_true (i.block.0 == b) (i.cycle == c) hi in
    let y = both_true (j.block.0 == b) (j.cycle == c) hj in
    let ib = same_number i.block.0 b x.0 in
    let ic = same_number i.cycle c x.1 in
    let jb = same_number j.block.0 b y.0 in
    let jc = same_number j.cycle c y.1 in
    let lo = (fit.latencies o).0 in
    let lq = (fit.latencies q).0 in
    absurd (⊎_elim (λ (h : i.cycle + latency_of t o ≤ j.cycle). let e : ⊥ = omega arith in e) (λ
    (h : j.cycle + latency_of t q ≤ i.cycle). let e : ⊥ = omega arith in e) (sep o q (ib ∙ sym jb) io jo))

pairs_head : {A : Type 0} (R : A → A → Type 0) (x : A) (xs : List A) → AllPairs R (x ∷ xs) → All (R x) xs
pairs_head R x xs h k d lt = h 0 (suc k) d (omega arith) (omega arith)

pairs_tail : {A : Type 0} (R : A → A → Type 0) (x : A) (xs : List A) → AllPairs R (x ∷ xs) → AllPairs R xs
pairs_tail R x xs h i j d lt within = h (suc i) (suc j) d (omega arith) (omega arith)

part_by : (t : Table) → IsFit t → (resource : Resource) (b c : ℕ) (x : Issue) (xs : List Issue) (at : Bool) (instr : Option Op)
    → issues_at b c x ≡ at → x.instr ≡ instr
    → All (AreSeparated t x) xs → taken t resource xs b c ≤ 1 → (if at then share_of t resource instr else 0) + taken t resource xs b c ≤ 1
part_by t fit resource b c x xs false instr at is sep rest = omega arith
part_by t fit resource b c x xs true None at is sep rest = let z = share_none t resource in omega arith
part_by t fit resource b c x xs true (Some o) at is sep rest =
    let few = share_few t fit resource o in
    let none = nothing_taken t resource b c xs
    (λ k d lt here. let j = get_or xs k d in alone_by t fit b c x j o j.instr at is here refl (sep k d lt)) in
    omega arith

alone_taken : (t : Table) → IsFit t → (resource : Resource) (b c : ℕ) (xs : List Issue) → AllPairs (AreSeparated t) xs
    → taken t resource xs b c ≤ 1
alone_taken t fit resource b c [] h = omega arith
alone_taken t fit resource b c (x ∷ xs) h =
    let split = sum_by-cons (part_at t resource b c) x xs in
    rw split (part_by t fit resource b c x xs (issues_at b c x) x.instr refl refl (pairs_head (AreSeparated t) x xs h)
    (alone_taken t fit resource b c xs (pairs_tail (AreSeparated t) x xs h)))

-- separated instructions have room in their packets
pub separated_keep_packets : (t : Table) → IsFit t → (s : Schedule) → AllPairs (AreSeparated t) s.issues → KeepsPackets t s
unfolding HasRoom
separated_keep_packets t fit s h b c resource =
    let one = alone_taken t fit resource b c s.issues h in
    let room = places_enough resource in
    omega arith

-- ---- registers

-- each temporary is read only until its register is written again, and no two of a register begin in one cycle
pub record AreFresh (s : Schedule) : Type 0 where
  pub latest : All (λ (r : Read). (l : ℕ) (a b : LiveRange) → slice_get s.ranges r.temp.0 ≡ Some a → slice_get s.ranges l ≡ Some b
      → b.active ≡ true → a.block.0 ≡ b.block.0 → a.reg ≡ b.reg → a.from < b.from → r.cycle ≤ b.from) s.reads
  pub distinct : (k l : ℕ) (a b : LiveRange) → k ≢ l → slice_get s.ranges k ≡ Some a → slice_get s.ranges l ≡ Some b
      → a.active ≡ true → b.active ≡ true → a.block.0 ≡ b.block.0 → a.reg ≡ b.reg → a.from ≢ b.from
  -- a live range goes to the cycle before the last read of its temporary
  pub lasts : (k : ℕ) (a : LiveRange) → slice_get s.ranges k ≡ Some a → a.active ≡ true → a.last ≡ max a.from (last_read s.reads k - 1)

cycle_bound : (k m : ℕ) (r : Read) → (r.temp.0 ≡ k → r.cycle ≤ m) → cycle_for k r ≤ m
cycle_bound k m r h = by (r.temp.0 == k) refl
  where
    by : (b : Bool) → (r.temp.0 == k) ≡ b → (if b then r.cycle else 0) ≤ m
    by true e = h (same_number r.temp.0 k e)
    by false e = omega arith

fold_bound : (k m a : ℕ) (reads : List Read) → a ≤ m → All (λ (r : Read). r.temp.0 ≡ k → r.cycle ≤ m) reads
    → fold (λ (x : ℕ) (r : Read). max x (cycle_for k r)) a reads ≤ m
fold_bound k m a [] le h = le
fold_bound k m a (r ∷ rs) le h =
    let c = cycle_bound k m r (All-head (λ (q : Read). q.temp.0 ≡ k → q.cycle ≤ m) r rs h) in
    fold_bound k m (max a (cycle_for k r)) rs (omega arith) (All-tail (λ (q : Read). q.temp.0 ≡ k → q.cycle ≤ m) r rs h)

pub last_read_bound : (k m : ℕ) (reads : List Read) → All (λ (r : Read). r.temp.0 ≡ k → r.cycle ≤ m) reads → last_read reads k ≤ m
last_read_bound k m reads h = fold_bound k m 0 reads (omega arith) h

-- a temporary is gone when its register is written again
gone : (s : Schedule) → AreFresh s → (k l : ℕ) (a b : LiveRange) → slice_get s.ranges k ≡ Some a → slice_get s.ranges l ≡ Some b
    → a.active ≡ true → b.active ≡ true → a.block.0 ≡ b.block.0 → a.reg ≡ b.reg → a.from < b.from → a.last < b.from
gone s fresh k l a b at bt aa ba block reg lt =
    let bound = last_read_bound k b.from s.reads (λ n d within same. fresh.latest n d within l a b (ap (slice_get s.ranges) same
    ∙ at) bt ba block reg lt) in
    let last = fresh.lasts k a at aa in
    omega arith

apart_by : (s : Schedule) → AreFresh s → (k l : ℕ) (a b : LiveRange) → k ≢ l → slice_get s.ranges k ≡ Some a
    → slice_get s.ranges l ≡ Some b → ShareNoCycle a b
unfolding ShareNoCycle
apart_by s fresh k l a b ne at bt aa ba block reg c ina inb =
    let differ = fresh.distinct k l a b ne at bt aa ba block reg in
    let a0 = ina.0 in
    let a1 = ina.1 in
    let b0 = inb.0 in
    let b1 = inb.1 in
    ⊎_elim (λ (lt : a.from < b.from). let g = gone s fresh k l a b at bt aa ba block reg lt in let e : ⊥ = omega arith in e)
    (λ (le : b.from ≤ a.from).
    let lt : b.from < a.from = omega arith in
    let g = gone s fresh l k b a bt at ba aa (sym block) (sym reg) lt in
    let e : ⊥ = omega arith in e)
    (cases_lt a.from b.from)

get_there : {A : Type 0} (xs : List A) (k : ℕ) (d : A) → k < length xs → slice_get xs k ≡ Some (get_or xs k d)
get_there [] k d lt = absurd (omega arith)
get_there (x ∷ xs) zero d lt = refl
get_there (x ∷ xs) (suc k) d lt = get_there xs k d (omega arith)

-- fresh registers are shared at different times
pub fresh_apart : (s : Schedule) → AreFresh s → AllPairs ShareNoCycle s.ranges
fresh_apart s fresh i j d lt within =
    let ne : i ≢ j = λ e. omega arith in
    apart_by s fresh i j (get_or s.ranges i d) (get_or s.ranges j d) ne (get_there s.ranges i d (omega arith))
    (get_there s.ranges j d within)

-- ---- calls

-- when a call issues, what has a clobbered register is read no more, but for the call's own result
pub record AreSpared (clobbered : ℕ) (s : Schedule) : Type 0 where
  pub done : (k : ℕ) (h : LiveRange) (i : Issue) → slice_get s.ranges k ≡ Some h → Contains s.issues i → i.instr ≡ Some Call
      → h.active ≡ true
      → i.block.0 ≡ h.block.0 → in_mask clobbered h.reg ≡ true → h.from ≤ i.cycle
      → (h.op.0 ≡ i.op.0) ⊎ ((h.from < i.cycle) × All (λ (r : Read). r.temp.0 ≡ k → r.cycle ≤ i.cycle) s.reads)

spared_by : (clobbered : ℕ) (s : Schedule) → AreFresh s → AreSpared clobbered s → (k : ℕ) (h : LiveRange) (i : Issue)
    → slice_get s.ranges k ≡ Some h → Contains s.issues i → SparesRange clobbered i h
unfolding SparesRange
spared_by clobbered s fresh spared k h i at among call active block mask occupied =
    let f = occupied.0 in
    let l = occupied.1 in
    ⊎_elim (λ (own : h.op.0 ≡ i.op.0). sym own)
    (λ (free : (h.from < i.cycle) × All (λ (r : Read). r.temp.0 ≡ k → r.cycle ≤ i.cycle) s.reads).
    let before = free.0 in
    let bound = last_read_bound k i.cycle s.reads free.1 in
    let last = fresh.lasts k h at active in
    absurd (omega arith))
    (spared.done k h i at among call active block mask f)

pub spared_all : (clobbered : ℕ) (s : Schedule) → AreFresh s → AreSpared clobbered s → All (IsSpared clobbered s.issues) s.ranges
unfolding IsSpared
spared_all clobbered s fresh spared k d lt n i within =
    spared_by clobbered s fresh spared k (get_or s.ranges k d) (get_or s.issues n i) (get_there s.ranges k d lt)
    (Contains-get_or s.issues n i within)

pub fresh_keep_registers : (clobbered : ℕ) (s : Schedule) → AreFresh s → AreSpared clobbered s → KeepsRegisters clobbered s
fresh_keep_registers clobbered s fresh spared = (fresh_apart s fresh, spared_all clobbered s fresh spared)

-- ---- memory

-- loads, stores and calls issue in the order of the source
abbrev pub AreInOrder : Issue → Issue → Type 0
AreInOrder i j = (n : ℕ) → i.block.0 ≡ j.block.0 → memory_distance i.instr j.instr ≡ Some n → i.cycle < j.cycle

small_write : (later : Option Op) → IfSome (after_write later) (λ (n : ℕ). n ≤ 1)
small_write (Some Load) = omega arith
small_write (Some Store) = omega arith
small_write (Some Call) = omega arith
small_write _ = tt

small_load : (later : Option Op) → IfSome (after_load later) (λ (n : ℕ). n ≤ 1)
small_load (Some Store) = omega arith
small_load (Some Call) = omega arith
small_load _ = tt

small_distance : (instr later : Option Op) → IfSome (memory_distance instr later) (λ (n : ℕ). n ≤ 1)
small_distance (Some Load) later = small_load later
small_distance (Some Store) later = small_write later
small_distance (Some Call) later = small_write later
small_distance _ later = tt

distance_kept : (c d : ℕ) (x : Option ℕ) → IfSome x (λ (n : ℕ). n ≤ 1) → ((n : ℕ) → x ≡ Some n → c < d) → IfSome x (λ (n : ℕ). c + n ≤ d)
distance_kept c d None small h = tt
distance_kept c d (Some n) small h = let lt = h n refl in omega arith

pub ordered_keep_memory : (s : Schedule) → AllPairs AreInOrder s.issues → KeepsMemory s
unfolding Precedes
ordered_keep_memory s h i j d lt within block =
    let a = get_or s.issues i d in
    let b = get_or s.issues j d in
    distance_kept a.cycle b.cycle (memory_distance a.instr b.instr) (small_distance a.instr b.instr) (λ n e. h i j d lt within n block e)
