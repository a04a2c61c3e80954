-- What the temporaries that operations make, and their reads, keep, as one operation comes after another; and that clauses of
-- a solution follow.
use Rattle.std.proofs.Common.{◌≡◌, ◌≢◌, ℕ, suc, ◌+◌, ◌-◌, ◌<◌, ◌≤◌, ◌⊎◌, ⊎_elim, inl, inr, max, nat_eq, Bool, true, false, List, [], ◌∷◌}
use Rattle.std.proofs.Common.{◌++◌, get_or, Option, Some, None, refl, sym, ap, subst, ◌∙◌, arith}
use Rattle.std.specs.Prelude.{slice_get, All, AllPairs, Contains}
use Rattle.std.proofs.lemmas.Bool.{cases_lt, eqb-true}
use Rattle.std.proofs.lemmas.Option.{get_or_from_slice_get, slice_get_within}
use Rattle.std.proofs.lemmas.List.Elements.{All-append, All-nil, All-cons, All-contains}
use Rattle.un_isa.specs.declared.op.Op.TheVariants.{Call}
use Rattle.un_isa.specs.declared.reg.Reg.{Reg}
use Rattle.un_isa.specs.Tables.{in_mask}
use Rattle.un_ir.proofs.NameBounds.{at_all}
use Rattle.un_model.specs.declared.schedule.Issue.{Issue}
use Rattle.un_model.specs.declared.schedule.Read.{Read}
use Rattle.un_model.specs.declared.schedule.LiveRange.{LiveRange}
use Rattle.un_model.specs.declared.schedule.Schedule.{Schedule}
use Rattle.un_model.specs.Instructions.{space_read}
use Rattle.un_model.specs.Pairs.{places_from}
use Rattle.un_model.specs.Schedules.{last_read}
use Rattle.un_model.specs.Solutions.{IsLive, KeepsChoices, InSpace, ReadsInSpace, IsGivenInSpace, KeepsSpaces, HasHome, ReadsHome}
use Rattle.un_model.specs.Solutions.{KeepsHomes, KeepsRegisters}
use Rattle.un_baseline.proofs.Made.{lasting, lasting_at, place_there, place_back}
use Rattle.un_baseline.proofs.OneAtATime.{AreFresh, AreSpared, fresh_keep_registers}
use Rattle.un_baseline.proofs.Timing.{pairs_append}
use Rattle.un_baseline.proofs.Items.{get_left, all_one}

-- what operations have issued, read and made so far
pub record Seen : Type 0 where
  pub issues : List Issue
  pub reads : List Read
  pub made : List LiveRange

-- the same behind one more operation
abbrev pub after : Seen → Issue → List Read → List LiveRange → Seen
after seen i rs ms = record { issues = seen.issues ++ i ∷ []; reads = seen.reads ++ rs; made = seen.made ++ ms }

-- ---- what is kept

-- a read of `a` comes before another temporary is written to its register
abbrev pub IsOver : Read → LiveRange → LiveRange → Type 0
IsOver q a d = d.active ≡ true → a.block.0 ≡ d.block.0 → a.reg ≡ d.reg → a.from < d.from → q.cycle ≤ d.from

-- two temporaries of a register begin at different times
abbrev pub Differ : LiveRange → LiveRange → Type 0
Differ a d = a.active ≡ true → d.active ≡ true → a.block.0 ≡ d.block.0 → a.reg ≡ d.reg → a.from ≢ d.from

-- a read of `a`, where a call clobbers its register, comes before the call, but for a read of the call's own result
abbrev pub IsSparedBy : ℕ → Read → LiveRange → Issue → Type 0
IsSparedBy c q a i =
    i.instr ≡ Some Call → i.block.0 ≡ a.block.0 → in_mask c a.reg ≡ true → a.from ≤ i.cycle → (a.op.0 ≡ i.op.0) ⊎ (q.cycle ≤ i.cycle)

-- a temporary other than a call's result does not begin when the call issues
abbrev pub Avoids : LiveRange → Issue → Type 0
Avoids m i = m.active ≡ true → i.instr ≡ Some Call → i.block.0 ≡ m.block.0 → (m.op.0 ≡ i.op.0) ⊎ (m.from ≢ i.cycle)

module _ (c : ℕ) where
  -- a read of an active temporary of its block that is not yet overwritten
  pub record GoodRead (seen : Seen) (q : Read) : Type 0 where
    pub temp : LiveRange
    pub there : slice_get seen.made q.temp.0 ≡ Some temp
    pub active : temp.active ≡ true
    pub block : temp.block.0 ≡ q.block.0
    pub space : InSpace temp.reg (space_read q.instr q.operand)
    pub home : HasHome q.home temp
    pub over : All (IsOver q temp) seen.made
    pub spared : All (IsSparedBy c q temp) seen.issues

  pub record Sound (seen : Seen) : Type 0 where
    pub reads : All (GoodRead seen) seen.reads
    pub given : All IsGivenInSpace seen.made
    pub differ : AllPairs Differ seen.made
    pub avoid : All (λ (m : LiveRange). All (Avoids m) seen.issues) seen.made

  -- ---- one operation

  -- what it makes
  pub record NewOk (seen : Seen) (i : Issue) (rs : List Read) (m : LiveRange) : Type 0 where
    pub given : IsGivenInSpace m
    pub over_old : All (λ (q : Read). (a : LiveRange) → slice_get seen.made q.temp.0 ≡ Some a → IsOver q a m) seen.reads
    pub over_own : All (λ (q : Read). (a : LiveRange) → slice_get seen.made q.temp.0 ≡ Some a → IsOver q a m) rs
    pub differ : All (λ (d : LiveRange). Differ d m) seen.made
    pub avoid : All (Avoids m) (seen.issues ++ i ∷ [])

  pub record StepOk (seen : Seen) (i : Issue) (rs : List Read) (ms : List LiveRange) : Type 0 where
    pub reads : All (GoodRead seen) rs
    pub new : All (NewOk seen i rs) ms
    pub pairs : AllPairs Differ ms
    pub calls_old : i.instr ≡ Some Call → All (λ (q : Read). (a : LiveRange) → slice_get seen.made q.temp.0 ≡ Some a → i.block.0
        ≡ a.block.0 → q.cycle ≤ i.cycle) seen.reads
    pub calls_own : i.instr ≡ Some Call → All (λ (q : Read). (a : LiveRange) → slice_get seen.made q.temp.0 ≡ Some a → i.block.0
        ≡ a.block.0 → q.cycle ≤ i.cycle) rs
    pub calls_made : All (λ (m : LiveRange). Avoids m i) seen.made

  good_later : (seen : Seen) (i : Issue) (rs : List Read) (ms : List LiveRange) (q : Read) (g : GoodRead seen q)
      → All (IsOver q g.temp) ms → IsSparedBy c q g.temp i → GoodRead (after seen i rs ms) q
  good_later seen i rs ms q g over spared = record {
    temp = g.temp;
    there = get_left seen.made ms q.temp.0 g.temp g.there;
    active = g.active;
    block = g.block;
    space = g.space;
    home = g.home;
    over = All-append (IsOver q g.temp) seen.made ms g.over over;
    spared = All-append (IsSparedBy c q g.temp) seen.issues (i ∷ []) g.spared (all_one (IsSparedBy c q g.temp) i spared);
  }

  pub sound_step : (seen : Seen) (i : Issue) (rs : List Read) (ms : List LiveRange) → Sound seen → StepOk seen i rs ms
      → Sound (after seen i rs ms)
  sound_step seen i rs ms sound ok = record {
    reads = All-append (GoodRead (after seen i rs ms)) seen.reads rs
        (λ k d lt. let g = sound.reads k d lt in good_later seen i rs ms (get_or seen.reads k d) g
        (λ m e lt'. (ok.new m e lt').over_old k d lt g.temp g.there) (λ call block mask from. inr
        (ok.calls_old call k d lt g.temp g.there block)))
        (λ k d lt. let g = ok.reads k d lt in good_later seen i rs ms (get_or rs k d) g
        (λ m e lt'. (ok.new m e lt').over_own k d lt g.temp g.there) (λ call block mask from. inr
        (ok.calls_own call k d lt g.temp g.there block)));
    given = All-append IsGivenInSpace seen.made ms sound.given (λ m e lt. (ok.new m e lt).given);
    differ = pairs_append Differ seen.made ms sound.differ ok.pairs (λ k d lt m e lt'. (ok.new m e lt').differ k d lt);
    avoid = All-append (λ (m : LiveRange). All (Avoids m) (seen.issues ++ i ∷ [])) seen.made ms
        (λ k d lt. All-append (Avoids (get_or seen.made k d)) seen.issues (i ∷ []) (sound.avoid k d lt)
        (all_one (Avoids (get_or seen.made k d)) i (ok.calls_made k d lt)))
        (λ m e lt. (ok.new m e lt).avoid);
  }

  -- ---- clauses of a solution

  module _ (t : Schedule) (seen : Seen) (sound : Sound seen) (issues : t.issues ≡ seen.issues) (reads : t.reads ≡ seen.reads)
      (ranges : t.ranges ≡ places_from (lasting_at seen.reads) 0 seen.made) where
    -- what a read reads
    range_read : (q : Read) (g : GoodRead seen q) → slice_get t.ranges q.temp.0 ≡ Some (lasting (last_read seen.reads q.temp.0) g.temp)
    range_read q g =
        let place : 0 + q.temp.0 ≡ q.temp.0 = omega arith in
        ap (λ (rs : List LiveRange). slice_get rs q.temp.0) ranges ∙ place_there (lasting_at seen.reads) 0 q.temp.0 seen.made g.temp g.there
        ∙ ap (λ (k : ℕ). Some (lasting (last_read seen.reads k) g.temp)) place

    each_read : (P : Read → Type 0) → ((q : Read) → GoodRead seen q → P q) → All P t.reads
    each_read P f = subst (All P) (sym reads) (λ k d lt. f (get_or seen.reads k d) (sound.reads k d lt))

    pub choices_kept : KeepsChoices t
    choices_kept = each_read (λ (r : Read). IsLive (slice_get t.ranges r.temp.0)) (λ q g. subst IsLive (sym (range_read q g)) g.active)

    given_at : (k : ℕ) (ms : List LiveRange) → All IsGivenInSpace ms → All IsGivenInSpace (places_from (lasting_at seen.reads) k ms)
    given_at k [] h = All-nil IsGivenInSpace
    given_at k (m ∷ ms) h =
        All-cons IsGivenInSpace (lasting_at seen.reads k m) (places_from (lasting_at seen.reads) (k + 1) ms) (h 0 m (omega arith))
        (given_at (k + 1) ms (λ j d lt. h (suc j) d (omega arith)))

    pub spaces_kept : KeepsSpaces t
    spaces_kept = (
      each_read (λ (r : Read). ReadsInSpace r (slice_get t.ranges r.temp.0)) (λ q g. subst (ReadsInSpace q) (sym (range_read q g)) g.space),
      subst (All IsGivenInSpace) (sym ranges) (given_at 0 seen.made sound.given),
    )

    home_same : (home : Option Reg) (m : LiveRange) (last : ℕ) → HasHome home m → HasHome home (lasting last m)
    home_same None m last h = tt
    home_same (Some r) m last h = h

    pub homes_kept : KeepsHomes t
    homes_kept = each_read (λ (r : Read). ReadsHome r (slice_get t.ranges r.temp.0))
        (λ q g. subst (ReadsHome q) (sym (range_read q g)) (home_same q.home g.temp (last_read seen.reads q.temp.0) g.home))

    -- a live range is that of a temporary that was made
    pub record Of (k : ℕ) (h : LiveRange) : Type 0 where
      pub temp : LiveRange
      pub there : slice_get seen.made k ≡ Some temp
      pub same : h ≡ lasting (last_read seen.reads k) temp

    of : (k : ℕ) (h : LiveRange) → slice_get t.ranges k ≡ Some h → Of k h
    of k h at =
        let back = place_back (lasting_at seen.reads) 0 k seen.made h (ap (λ (rs : List LiveRange). slice_get rs k) (sym ranges) ∙ at) in
        let place : 0 + k ≡ k = omega arith in
        record { temp = back.0; there = back.1; same = back.2 ∙ ap (λ (n : ℕ). lasting (last_read seen.reads n) back.0) place }

    latest : (q : Read) → GoodRead seen q → (l : ℕ) (a b : LiveRange) → slice_get t.ranges q.temp.0 ≡ Some a → slice_get t.ranges l ≡ Some b
        → b.active ≡ true → a.block.0 ≡ b.block.0 → a.reg ≡ b.reg → a.from < b.from → q.cycle ≤ b.from
    latest q g l a b at bt =
        let same : lasting (last_read seen.reads q.temp.0) g.temp ≡ a = (let e = sym (range_read q g) ∙ at in cc e) in
        let o = of l b bt in
        let over = at_all (IsOver q g.temp) seen.made l o.temp g.over o.there in
        subst (λ (x : LiveRange). x.active ≡ true → a.block.0 ≡ x.block.0 → a.reg ≡ x.reg → a.from < x.from → q.cycle ≤ x.from) (sym o.same)
        (subst (λ (y : LiveRange). o.temp.active ≡ true → y.block.0 ≡ o.temp.block.0 → y.reg ≡ o.temp.reg → y.from < o.temp.from
        → q.cycle ≤ o.temp.from) same over)

    differ_by : (k l : ℕ) (x y : LiveRange) → k < l → slice_get seen.made k ≡ Some x → slice_get seen.made l ≡ Some y → Differ x y
    differ_by k l x y lt xt yt =
        subst (λ (z : LiveRange). Differ z y) (get_or_from_slice_get seen.made k x x xt)
        (subst (λ (z : LiveRange). Differ (get_or seen.made k x) z) (get_or_from_slice_get seen.made l y x yt)
        (sound.differ k l x lt (slice_get_within seen.made l y yt)))

    distinct_in : (k l : ℕ) (a b : LiveRange) → k < l → slice_get t.ranges k ≡ Some a → slice_get t.ranges l ≡ Some b
        → a.active ≡ true → b.active ≡ true → a.block.0 ≡ b.block.0 → a.reg ≡ b.reg → a.from ≢ b.from
    distinct_in k l a b lt at bt =
        let x = of k a at in
        let y = of l b bt in
        subst (λ (z : LiveRange). Differ z b) (sym x.same) (subst (λ (z : LiveRange). Differ (lasting (last_read seen.reads k) x.temp) z)
        (sym y.same)
        (differ_by k l x.temp y.temp lt x.there y.there))

    distinct : (k l : ℕ) (a b : LiveRange) → k ≢ l → slice_get t.ranges k ≡ Some a → slice_get t.ranges l ≡ Some b
        → a.active ≡ true → b.active ≡ true → a.block.0 ≡ b.block.0 → a.reg ≡ b.reg → a.from ≢ b.from
    distinct k l a b ne at bt aa ba block reg =
        ⊎_elim (λ (lt : k < l). distinct_in k l a b lt at bt aa ba block reg)
        (λ (le : l ≤ k). let lt : l < k = omega arith in λ e. distinct_in l k b a lt bt at ba aa (sym block) (sym reg) (sym e))
        (cases_lt k l)

    lasts : (k : ℕ) (a : LiveRange) → slice_get t.ranges k ≡ Some a → a.active ≡ true → a.last ≡ max a.from (last_read t.reads k - 1)
    lasts k a at active =
        let o = of k a at in
        subst (λ (x : LiveRange). x.last ≡ max x.from (last_read t.reads k - 1)) (sym o.same)
        (ap (λ (rs : List Read). max o.temp.from (last_read rs k - 1)) (sym reads))

    fresh : AreFresh t
    fresh = record {
      latest = each_read (λ (q : Read). (l : ℕ) (a b : LiveRange) → slice_get t.ranges q.temp.0 ≡ Some a → slice_get t.ranges l ≡ Some b
          → b.active ≡ true → a.block.0 ≡ b.block.0 → a.reg ≡ b.reg → a.from < b.from → q.cycle ≤ b.from) latest;
      distinct = distinct;
      lasts = lasts;
    }

    -- the reads of a temporary come before a call that clobbers its register
    spared_reads : (k : ℕ) (m : LiveRange) (i : Issue) → slice_get seen.made k ≡ Some m → Contains seen.issues i → i.instr ≡ Some Call
        → i.block.0 ≡ m.block.0 → in_mask c m.reg ≡ true → m.from ≤ i.cycle → m.op.0 ≢ i.op.0
        → All (λ (q : Read). q.temp.0 ≡ k → q.cycle ≤ i.cycle) seen.reads
    spared_reads k m i there among call block mask from ne n d lt same =
        let q = get_or seen.reads n d in
        let g = sound.reads n d lt in
        let e : g.temp ≡ m = (let f = sym g.there ∙ ap (slice_get seen.made) same ∙ there in cc f) in
        let s = All-contains (IsSparedBy c q g.temp) seen.issues i g.spared among in
        ⊎_elim (λ (own : m.op.0 ≡ i.op.0). absurd (ne own)) (λ (le : q.cycle ≤ i.cycle). le)
        (subst (λ (z : LiveRange). IsSparedBy c q z i) e s call block mask from)

    done : (k : ℕ) (m : LiveRange) (i : Issue) → slice_get seen.made k ≡ Some m → Contains seen.issues i → i.instr ≡ Some Call
        → m.active ≡ true → i.block.0 ≡ m.block.0 → in_mask c m.reg ≡ true → m.from ≤ i.cycle
        → (m.op.0 ≡ i.op.0) ⊎ ((m.from < i.cycle) × All (λ (q : Read). q.temp.0 ≡ k → q.cycle ≤ i.cycle) seen.reads)
    done k m i there among call active block mask from = by (nat_eq m.op.0 i.op.0) refl
      where
        avoids : Avoids m i
        avoids = All-contains (Avoids m) seen.issues i (at_all (λ (x : LiveRange). All (Avoids x) seen.issues) seen.made k m sound.avoid
            there) among

        by : (v : Bool) → nat_eq m.op.0 i.op.0 ≡ v
            → (m.op.0 ≡ i.op.0) ⊎ ((m.from < i.cycle) × All (λ (q : Read). q.temp.0 ≡ k → q.cycle ≤ i.cycle) seen.reads)
        by true e = inl (eqb-true m.op.0 i.op.0 e)
        by false e =
            let ne : m.op.0 ≢ i.op.0 = λ same. (let yes : nat_eq m.op.0 i.op.0 ≡ true = rw same (grind arith) in cc (sym e ∙ yes)) in
            let other : m.from ≢ i.cycle = ⊎_elim (λ (own : m.op.0 ≡ i.op.0). absurd (ne own)) (λ (d : m.from ≢ i.cycle). d)
            (avoids active call block) in
            inr (grind arith, spared_reads k m i there among call block mask from ne)

    spared : AreSpared c t
    spared = record {
      done = λ k h i at among call active block mask from.
          let o = of k h at in
          let is : Contains seen.issues i = subst (λ (xs : List Issue). Contains xs i) issues among in
          subst (λ (x : LiveRange). x.active ≡ true → i.block.0 ≡ x.block.0 → in_mask c x.reg ≡ true → x.from ≤ i.cycle
          → (x.op.0 ≡ i.op.0) ⊎ ((x.from < i.cycle) × All (λ (r : Read). r.temp.0 ≡ k → r.cycle ≤ i.cycle) t.reads)) (sym o.same)
          (λ a b x y. subst (λ (rs : List Read). (o.temp.op.0 ≡ i.op.0) ⊎ ((o.temp.from < i.cycle) × All
          (λ (r : Read). r.temp.0 ≡ k → r.cycle ≤ i.cycle) rs)) (sym reads)
          (done k o.temp i o.there is call a b x y)) active block mask from;
    }

    pub registers_kept : KeepsRegisters c t
    registers_kept = fresh_keep_registers c t fresh spared
