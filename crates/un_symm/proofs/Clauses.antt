-- The clauses of a schedule in whose live ranges two registers are exchanged, each on lists of operations, reads and live ranges.
use Rattle.std.proofs.Common.{ℕ, ◌≡◌, ◌≢◌, ◌<◌, Bool, List, [], ◌∷◌, map, inl, inr, refl, sym, ap, ◌∙◌, subst, arith}
use Rattle.std.proofs.Common.{All, AllPairs}
use Rattle.std.specs.Prelude.{Option, Some, None, ◌&&◌, ◌||◌, IfSome, is_none, nat_le, slice_get}
use Rattle.std.specs.List.{list_any}
use Rattle.std.specs.Option.{option_map}
use Rattle.std.proofs.lemmas.List.Elements.{All-cons, All-nil}
use Rattle.std.proofs.lemmas.List.Kept.{AllPairs-cons}
use Rattle.un_base.specs.declared.ids.TempId.{TempId}
use Rattle.un_isa.specs.declared.reg.Reg.{Reg}
use Rattle.un_isa.specs.declared.reg.Space.{Space}
use Rattle.un_isa.specs.declared.reg.TheConstants.{FIRST_SLOT}
use Rattle.un_isa.specs.Registers.{space_of}
use Rattle.un_isa.specs.Tables.{in_mask}
use Rattle.un_ir.specs.Linear.{place_over}
use Rattle.un_ir.specs.declared.extended.ExtBlock.{ExtBlock}
use Rattle.un_model.specs.declared.schedule.Issue.{Issue}
use Rattle.un_model.specs.declared.schedule.Read.{Read}
use Rattle.un_model.specs.declared.schedule.LiveRange.{LiveRange}
use Rattle.un_model.specs.declared.schedule.Schedule.{Schedule}
use Rattle.un_model.specs.Congruences.{live_out_reads, register_of, register_read, HandsOver, HandsOn, KeepsCongruences}
use Rattle.un_model.specs.Solutions.{Gap, IsZeroRange, KeepsZeros, IsLive, KeepsChoices, InSpace, ReadsInSpace, IsGivenInSpace, KeepsSpaces}
use Rattle.un_model.specs.Solutions.{LeavesGap, KeepsLatencies, ShareNoCycle, SparesRange, IsSpared, KeepsRegisters, HasHome, ReadsHome}
use Rattle.un_model.specs.Solutions.{KeepsHomes, uses_frame, is_frame_access, starts_in_slot, KeepsFrame}
use Rattle.un_lists.proofs.Lists.{Each, Pairwise, Member, each_member, each_all, each_of, each_map, pairwise_all, pairwise_map}
use Rattle.un_lists.proofs.Lists.{pairwise_more, slice_get-map}
use Rattle.un_symm.specs.Exchanges.{exchanged}
use Rattle.un_symm.proofs.SlotTests.{slot_alike}
use Rattle.un_symm.proofs.Values.{stays_by, exchanged_other, exchanged_back, exchanged_zero}

-- ---- lists

pub all_of : {X : Type 0} (P : X → Type 0) (xs : List X) → Each P xs → All P xs
all_of P [] h = All-nil P
all_of P (x ∷ xs) h = All-cons P x xs h.0 (all_of P xs h.1)

pairs_of : {X : Type 0} (R : X → X → Type 0) (xs : List X) → Pairwise R xs → AllPairs R xs
pairs_of R [] h = λ i j d before below. absurd (omega (arith, below))
pairs_of R (x ∷ xs) h = AllPairs-cons R x xs (all_of (R x) xs h.0) (pairs_of R xs h.1)

pub all_at : {X : Type 0} (P : X → Type 0) (xs : List X) (x : X) → All P xs → Member x xs → P x
all_at P xs x h m = each_member P xs x (each_all P xs h) m

more : {X : Type 0} (P Q : X → Type 0) (xs : List X) → ((x : X) → Member x xs → P x → Q x) → All P xs → All Q xs
more P Q xs g h = all_of Q xs (each_of Q xs (λ x m. g x m (all_at P xs x h m)))

mapped : {X Y : Type 0} (P : X → Type 0) (Q : Y → Type 0) (f : X → Y) (xs : List X) → ((x : X) → P x → Q (f x)) → All P xs
    → All Q (map f xs)
mapped P Q f xs g h = all_of Q (map f xs) (each_map Q f xs (each_of (λ x. Q (f x)) xs (λ x m. g x (all_at P xs x h m))))

mapped_pairs : {X Y : Type 0} (R : X → X → Type 0) (S : Y → Y → Type 0) (f : X → Y) (xs : List X)
    → ((x y : X) → R x y → S (f x) (f y)) → AllPairs R xs → AllPairs S (map f xs)
mapped_pairs R S f xs g h = pairs_of S (map f xs) (pairwise_map S f xs (pairwise_more R (λ x y. S (f x) (f y)) xs
    (λ x y m n r. g x y r) (pairwise_all R xs h)))

any_map : {X : Type 0} (p : X → Bool) (f : X → X) (xs : List X) → ((x : X) → p (f x) ≡ p x) → list_any p (map f xs) ≡ list_any p xs
any_map p f [] e = refl
any_map p f (x ∷ xs) e = ap (λ b. b || list_any p (map f xs)) (e x) ∙ ap (λ b. p x || b) (any_map p f xs e)

-- ---- what is exchanged

module _ (a b : ℕ) where
  abbrev pub swap_range : LiveRange → LiveRange
  swap_range h = record h { reg = exchanged a b h.reg }

  abbrev pub swap : Schedule → Schedule
  swap t = record { issues = t.issues; reads = t.reads; ranges = map swap_range t.ranges }

  -- what the clauses ask of two registers and of a schedule
  pub record AreAlike (clobbered : ℕ) (t : Schedule) : Type 0 where
    pub first : 0 < a
    pub second : 0 < b
    pub kind : space_of a ≡ space_of b
    pub calls : in_mask clobbered a ≡ in_mask clobbered b
    pub homes : (r : Read) → Member r t.reads → IfSome r.home (λ (q : Reg). (q.0 ≢ a) × (q.0 ≢ b))

  module _ (clobbered : ℕ) (t : Schedule) (alike : AreAlike clobbered t) where
    at_range : (P : Option LiveRange → Type 0) (k : ℕ) → P (option_map swap_range (slice_get t.ranges k))
        → P (slice_get (map swap_range t.ranges) k)
    at_range P k h = subst P (sym (slice_get-map swap_range t.ranges k)) h

    -- ---- 2 and 3

    zero_range : (h : LiveRange) → IsZeroRange h → IsZeroRange (swap_range h)
    zero_range h (inl e) = inl e
    zero_range h (inr e) = inr (ap (exchanged a b) e ∙ exchanged_zero a b alike.first alike.second)

    pub zeros : KeepsZeros t → KeepsZeros (swap t)
    zeros h = (h.0, mapped IsZeroRange IsZeroRange swap_range t.ranges zero_range h.1)

    live : (o : Option LiveRange) → IsLive o → IsLive (option_map swap_range o)
    live None h = h
    live (Some x) h = h

    pub choices : KeepsChoices t → KeepsChoices (swap t)
    choices h = more (λ (r : Read). IsLive (slice_get t.ranges r.temp.0))
        (λ (r : Read). IsLive (slice_get (map swap_range t.ranges) r.temp.0))
        t.reads (λ r m k. at_range IsLive r.temp.0 (live (slice_get t.ranges r.temp.0) k)) h

    -- ---- 4

    in_space : (r : ℕ) (s : Option Space) → InSpace r s → InSpace (exchanged a b r) s
    in_space r None h = h
    in_space r (Some s) h = stays_by space_of a b r alike.kind ∙ h

    reads_in : (r : Read) (o : Option LiveRange) → ReadsInSpace r o → ReadsInSpace r (option_map swap_range o)
    reads_in r None h = h
    reads_in r (Some x) h = in_space x.reg _ h

    pub spaces : KeepsSpaces t → KeepsSpaces (swap t)
    spaces h = (
      more (λ (r : Read). ReadsInSpace r (slice_get t.ranges r.temp.0))
          (λ (r : Read). ReadsInSpace r (slice_get (map swap_range t.ranges) r.temp.0))
          t.reads (λ r m k. at_range (ReadsInSpace r) r.temp.0 (reads_in r (slice_get t.ranges r.temp.0) k)) h.0,
      mapped IsGivenInSpace IsGivenInSpace swap_range t.ranges (λ x k. in_space x.reg _ k) h.1,
    )

    -- ---- 5

    ready : (gap : Gap) (r : Read) (o : Option LiveRange) → LeavesGap gap r o → LeavesGap gap r (option_map swap_range o)
    ready gap r None h = h
    ready gap r (Some x) h = h

    pub latencies : (gap : Gap) → KeepsLatencies gap t → KeepsLatencies gap (swap t)
    latencies gap h = (
      h.0,
      more (λ (r : Read). LeavesGap gap r (slice_get t.ranges r.temp.0))
          (λ (r : Read). LeavesGap gap r (slice_get (map swap_range t.ranges) r.temp.0))
          t.reads (λ r m k. at_range (LeavesGap gap r) r.temp.0 (ready gap r (slice_get t.ranges r.temp.0) k)) h.1,
    )

    -- ---- 7

    one_to_one : (r q : ℕ) → exchanged a b r ≡ exchanged a b q → r ≡ q
    one_to_one r q e = sym (exchanged_back a b r) ∙ ap (exchanged a b) e ∙ exchanged_back a b q

    shares_none : (h k : LiveRange) → ShareNoCycle h k → ShareNoCycle (swap_range h) (swap_range k)
    unfolding ShareNoCycle
    shares_none h k apart = λ x y same reg. apart x y same (one_to_one h.reg k.reg reg)

    spares : (i : Issue) (h : LiveRange) → SparesRange clobbered i h → SparesRange clobbered i (swap_range h)
    unfolding SparesRange
    spares i h s = λ call act same mask. s call act same (sym (stays_by (in_mask clobbered) a b h.reg alike.calls) ∙ mask)

    spared : (h : LiveRange) → IsSpared clobbered t.issues h → IsSpared clobbered t.issues (swap_range h)
    unfolding IsSpared
    spared h s = more (λ (i : Issue). SparesRange clobbered i h) (λ (i : Issue). SparesRange clobbered i (swap_range h)) t.issues
        (λ i m k. spares i h k) s

    pub registers : KeepsRegisters clobbered t → KeepsRegisters clobbered (swap t)
    registers h = (
      mapped_pairs ShareNoCycle ShareNoCycle swap_range t.ranges shares_none h.0,
      mapped (IsSpared clobbered t.issues) (IsSpared clobbered t.issues) swap_range t.ranges spared h.1,
    )

    -- ---- 9

    has_home : (home : Option Reg) (h : LiveRange) → IfSome home (λ (q : Reg). (q.0 ≢ a) × (q.0 ≢ b)) → HasHome home h
        → HasHome home (swap_range h)
    has_home None h free k = k
    has_home (Some q) h free k = ap (exchanged a b) k ∙ exchanged_other a b q.0 free.0 free.1

    at_home : (r : Read) (o : Option LiveRange) → IfSome r.home (λ (q : Reg). (q.0 ≢ a) × (q.0 ≢ b)) → ReadsHome r o
        → ReadsHome r (option_map swap_range o)
    at_home r None free h = h
    at_home r (Some x) free h = has_home r.home x free h

    pub homes : KeepsHomes t → KeepsHomes (swap t)
    homes h = more (λ (r : Read). ReadsHome r (slice_get t.ranges r.temp.0))
        (λ (r : Read). ReadsHome r (slice_get (map swap_range t.ranges) r.temp.0))
        t.reads (λ r m k. at_range (ReadsHome r) r.temp.0 (at_home r (slice_get t.ranges r.temp.0) (alike.homes r m) k)) h

    reg_map : (o : Option LiveRange) → option_map (λ (h : LiveRange). h.reg) (option_map swap_range o)
        ≡ option_map (exchanged a b) (option_map (λ (h : LiveRange). h.reg) o)
    reg_map None = refl
    reg_map (Some h) = refl

    reg_swaps : (x : TempId) → register_of (map swap_range t.ranges) x ≡ option_map (exchanged a b) (register_of t.ranges x)
    reg_swaps x = ap (option_map (λ (h : LiveRange). h.reg)) (slice_get-map swap_range t.ranges x.0) ∙ reg_map (slice_get t.ranges x.0)

    read_swaps : (o : Option Read) → register_read (map swap_range t.ranges) o ≡ option_map (exchanged a b) (register_read t.ranges o)
    read_swaps None = refl
    read_swaps (Some r) = reg_swaps r.temp

    hands_over : (k : ℕ) (c d : ExtBlock) → HandsOver t k c d → HandsOver (swap t) k c d
    unfolding HandsOver
    hands_over k c d h = λ j x e.
        read_swaps (slice_get (live_out_reads k t.reads) (place_over c d j)) ∙ ap (option_map (exchanged a b)) (h j x e) ∙ sym (reg_swaps x)

    hands_on : (blocks : List ExtBlock) (k : ℕ) (c : ExtBlock) → HandsOn blocks t k c → HandsOn blocks (swap t) k c
    unfolding HandsOn
    hands_on blocks k c h = λ l d there at. hands_over k c d (h l d there at)

    pub congruences : (blocks : List ExtBlock) → KeepsCongruences blocks t → KeepsCongruences blocks (swap t)
    congruences blocks h = λ k c at. hands_on blocks k c (h k c at)

    -- ---- 10

    slot_same : (h : LiveRange) → starts_in_slot (swap_range h) ≡ starts_in_slot h
    slot_same h = ap (λ k. (h.active && is_none h.instr) && k) (stays_by (nat_le FIRST_SLOT) a b h.reg (slot_alike a b alike.kind))

    frame_same : uses_frame (swap t) ≡ uses_frame t
    frame_same = ap (λ k. list_any (λ (i : Issue). is_frame_access i.instr) t.issues || k)
        (any_map starts_in_slot swap_range t.ranges slot_same)

    pub frame : (flag : ℕ) → KeepsFrame flag t → KeepsFrame flag (swap t)
    frame flag h = record {
      used = λ e. h.used (sym frame_same ∙ e);
      needed = λ e. frame_same ∙ h.needed e;
      without = h.without;
      with_frame = h.with_frame;
      ordered = h.ordered;
    }
