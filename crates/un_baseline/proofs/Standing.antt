-- Temporaries that stand in their registers, and what operations in the order of their cycles leave of them.
use Rattle.std.proofs.Common.{◌≡◌, ◌≢◌, ℕ, suc, ◌<◌, ◌≤◌, ◌⊎◌, ⊎_elim, inl, inr, true, false, List, [], ◌∷◌, ◌++◌, length, map, get_or}
use Rattle.std.proofs.Common.{Option, Some, None, refl, sym, ap, subst, ◌∙◌, arith}
use Rattle.std.specs.Prelude.{slice_get, IfSome, All, AllPairs}
use Rattle.std.proofs.lemmas.Option.{slice_get_within}
use Rattle.std.proofs.lemmas.List.{length-append}
use Rattle.std.proofs.lemmas.List.Elements.{All-append, All-nil, All-cons, All-weaker}
use Rattle.std.proofs.lemmas.List.Kept.{AllPairs-cons}
use Rattle.un_isa.specs.declared.op.Op.{Op}
use Rattle.un_isa.specs.declared.op.Op.TheVariants.{Call}
use Rattle.un_isa.specs.declared.reg.Reg.{Reg}
use Rattle.un_isa.specs.Tables.{in_mask}
use Rattle.un_model.specs.declared.schedule.Issue.{Issue}
use Rattle.un_model.specs.declared.schedule.Read.{Read}
use Rattle.un_model.specs.declared.schedule.LiveRange.{LiveRange}
use Rattle.un_model.specs.Instructions.{space_read, space_given}
use Rattle.un_model.specs.Solutions.{InSpace, IsGivenInSpace, HasHome}
use Rattle.un_baseline.proofs.Made.{made_at}
use Rattle.un_baseline.proofs.Sound.{Seen, after, IsOver, Differ, Avoids, GoodRead, NewOk, StepOk}
use Rattle.un_baseline.proofs.Timing.{pairs_nil}
use Rattle.un_baseline.proofs.Items.{get_left, there_last, there_left, all_map, all_one}

-- ---- lists

pairs_one : {A : Type 0} (R : A → A → Type 0) (x : A) → AllPairs R (x ∷ [])
pairs_one R x i j d lt within = absurd (omega arith)

-- at most one item
pub data IsFew : List ℕ → Type 0 where
  no_item : IsFew []
  one_item : (r : ℕ) → IsFew (r ∷ [])

module _ (c b : ℕ) where
  -- temporary k of block b stands in register r: none was written to it later, and no call has clobbered it since
  pub record Stands (k r : ℕ) (seen : Seen) : Type 0 where
    pub temp : LiveRange
    pub there : slice_get seen.made k ≡ Some temp
    pub active : temp.active ≡ true
    pub block : temp.block.0 ≡ b
    pub reg : temp.reg ≡ r
    pub latest : All (λ (d : LiveRange). d.active ≡ true → d.block.0 ≡ b → d.reg ≡ r → d.from ≤ temp.from) seen.made
    pub called : in_mask c r ≡ true → All (λ (i : Issue). i.instr ≡ Some Call → i.block.0 ≡ b
        → (temp.op.0 ≡ i.op.0) ⊎ (i.cycle < temp.from)) seen.issues

  -- what stands in register r of block b is read by cycle `now`, and was written before it
  pub record Timely (now r : ℕ) (seen : Seen) : Type 0 where
    pub reads : All (λ (q : Read). (a : LiveRange) → slice_get seen.made q.temp.0 ≡ Some a → a.block.0 ≡ b → a.reg ≡ r → q.cycle ≤ now)
        seen.reads
    pub made : All (λ (d : LiveRange). d.active ≡ true → d.block.0 ≡ b → d.reg ≡ r → d.from < now) seen.made

  abbrev pub IsCalled : ℕ → Issue → Type 0
  IsCalled now i = i.instr ≡ Some Call → i.block.0 ≡ b → i.cycle < now

  pub record Known (seen : Seen) : Type 0 where
    pub reads : All (λ (q : Read). q.temp.0 < length seen.made) seen.reads

  -- all that block b has done so far is done before cycle `now`
  pub record Front (now : ℕ) (seen : Seen) : Type 0 where
    pub timely : (r : ℕ) → Timely now r seen
    pub calls : All (IsCalled now) seen.issues
    pub known : Known seen

  -- ---- reads

  home_read : (home : Option Reg) (m : LiveRange) (r : ℕ) → m.reg ≡ r → IfSome home (λ (h : Reg). r ≡ h.0) → HasHome home m
  home_read None m r e h = tt
  home_read (Some x) m r e h = e ∙ h

  pub good_read : (k r : ℕ) (seen : Seen) → Stands k r seen → (q : Read) → q.temp.0 ≡ k → q.block.0 ≡ b
      → InSpace r (space_read q.instr q.operand) → IfSome q.home (λ (h : Reg). r ≡ h.0) → GoodRead c seen q
  good_read k r seen s q temp block space home = record {
    temp = s.temp;
    there = ap (slice_get seen.made) temp ∙ s.there;
    active = s.active;
    block = s.block ∙ sym block;
    space = subst (λ (x : ℕ). InSpace x (space_read q.instr q.operand)) (sym s.reg) space;
    home = home_read q.home s.temp r s.reg home;
    over = All-weaker (λ (d : LiveRange). d.active ≡ true → d.block.0 ≡ b → d.reg ≡ r → d.from ≤ s.temp.from) (IsOver q s.temp)
        (λ d h active same reg lt. absurd (let le = h active (sym same ∙ s.block) (sym reg ∙ s.reg) in omega arith)) seen.made s.latest;
    spared = λ n i lt call same mask from.
        let x = get_or seen.issues n i in
        let in_r : in_mask c r ≡ true = ap (in_mask c) (sym s.reg) ∙ mask in
        ⊎_elim (λ (own : s.temp.op.0 ≡ x.op.0). inl own) (λ (lt' : x.cycle < s.temp.from). absurd (omega arith))
        (s.called in_r n i lt call (same ∙ s.block));
  }

  -- ---- what stands, behind one more operation

  pub stands_later : (k r : ℕ) (seen : Seen) (i : Issue) (rs : List Read) (ms : List LiveRange) → Stands k r seen
      → All (λ (m : LiveRange). m.active ≡ true → m.reg ≢ r) ms → (i.instr ≡ Some Call → in_mask c r ≡ false)
      → Stands k r (after seen i rs ms)
  stands_later k r seen i rs ms s others call = record {
    temp = s.temp;
    there = get_left seen.made ms k s.temp s.there;
    active = s.active;
    block = s.block;
    reg = s.reg;
    latest = All-append (λ (d : LiveRange). d.active ≡ true → d.block.0 ≡ b → d.reg ≡ r → d.from ≤ s.temp.from) seen.made ms s.latest
        (All-weaker (λ (m : LiveRange). m.active ≡ true → m.reg ≢ r) (λ (d : LiveRange). d.active ≡ true → d.block.0 ≡ b → d.reg ≡ r
        → d.from ≤ s.temp.from)
        (λ d h active same reg. absurd (h active reg)) ms others);
    called = λ mask. All-append (λ (j : Issue). j.instr ≡ Some Call → j.block.0 ≡ b → (s.temp.op.0 ≡ j.op.0) ⊎ (j.cycle < s.temp.from))
        seen.issues (i ∷ []) (s.called mask)
        (all_one (λ (j : Issue). j.instr ≡ Some Call → j.block.0 ≡ b → (s.temp.op.0 ≡ j.op.0) ⊎ (j.cycle < s.temp.from)) i
        (λ is same. absurd (let e = sym mask ∙ call is in cc e)));
  }

  pub stands_new : (r : ℕ) (seen : Seen) (i : Issue) (rs : List Read) → i.active ≡ true → i.block.0 ≡ b → Timely i.cycle r seen
      → All (IsCalled i.cycle) seen.issues → Stands (length seen.made) r (after seen i rs (made_at i r ∷ []))
  stands_new r seen i rs active block timely calls = record {
    temp = made_at i r;
    there = there_last seen.made (made_at i r);
    active = active;
    block = block;
    reg = refl;
    latest = All-append (λ (d : LiveRange). d.active ≡ true → d.block.0 ≡ b → d.reg ≡ r → d.from ≤ i.cycle) seen.made (made_at i r ∷ [])
        (All-weaker (λ (d : LiveRange). d.active ≡ true → d.block.0 ≡ b → d.reg ≡ r → d.from < i.cycle)
        (λ (d : LiveRange). d.active ≡ true → d.block.0 ≡ b → d.reg ≡ r → d.from ≤ i.cycle)
        (λ d h x y z. let lt = h x y z in omega arith) seen.made timely.made)
        (all_one (λ (d : LiveRange). d.active ≡ true → d.block.0 ≡ b → d.reg ≡ r → d.from ≤ i.cycle) (made_at i r) (λ x y z. omega arith));
    called = λ mask. All-append (λ (j : Issue). j.instr ≡ Some Call → j.block.0 ≡ b → (i.op.0 ≡ j.op.0) ⊎ (j.cycle < i.cycle)) seen.issues
        (i ∷ [])
        (All-weaker (IsCalled i.cycle) (λ (j : Issue). j.instr ≡ Some Call → j.block.0 ≡ b → (i.op.0 ≡ j.op.0) ⊎ (j.cycle < i.cycle))
        (λ j h x y. inr (h x y)) seen.issues calls)
        (all_one (λ (j : Issue). j.instr ≡ Some Call → j.block.0 ≡ b → (i.op.0 ≡ j.op.0) ⊎ (j.cycle < i.cycle)) i (λ x y. inl refl));
  }

  -- ---- time

  pub timely_later : (now next r : ℕ) (seen : Seen) (i : Issue) (rs : List Read) (ms : List LiveRange) → now ≤ next → Known seen
      → Timely now r seen
      → All (λ (q : Read). q.temp.0 < length seen.made) rs
      → All (λ (q : Read). (a : LiveRange) → slice_get seen.made q.temp.0 ≡ Some a → a.block.0 ≡ b → a.reg ≡ r → q.cycle ≤ next) rs
      → All (λ (d : LiveRange). d.active ≡ true → d.block.0 ≡ b → d.reg ≡ r → d.from < next) ms
      → Timely next r (after seen i rs ms)
  timely_later now next r seen i rs ms le known h inside rs_ok ms_ok = record {
    reads = All-append (λ (q : Read). (a : LiveRange) → slice_get (seen.made ++ ms) q.temp.0 ≡ Some a → a.block.0 ≡ b → a.reg ≡ r
        → q.cycle ≤ next) seen.reads rs
        (λ k d lt a there block reg.
        let q = get_or seen.reads k d in
        let bound = h.reads k d lt a (sym (there_left seen.made ms q.temp.0 (known.reads k d lt)) ∙ there) block reg in omega arith)
        (λ k d lt a there block reg.
        let q = get_or rs k d in rs_ok k d lt a (sym (there_left seen.made ms q.temp.0 (inside k d lt)) ∙ there) block reg);
    made = All-append (λ (d : LiveRange). d.active ≡ true → d.block.0 ≡ b → d.reg ≡ r → d.from < next) seen.made ms
        (All-weaker (λ (d : LiveRange). d.active ≡ true → d.block.0 ≡ b → d.reg ≡ r → d.from < now)
        (λ (d : LiveRange). d.active ≡ true → d.block.0 ≡ b → d.reg ≡ r → d.from < next)
        (λ d f x y z. let lt = f x y z in omega arith) seen.made h.made)
        ms_ok;
  }

  pub known_later : (seen : Seen) (i : Issue) (rs : List Read) (ms : List LiveRange) → Known seen
      → All (λ (q : Read). q.temp.0 < length seen.made) rs → Known (after seen i rs ms)
  known_later seen i rs ms known inside = record {
    reads = All-append (λ (q : Read). q.temp.0 < length (seen.made ++ ms)) seen.reads rs (wide seen.reads known.reads) (wide rs inside);
  }
    where
      wide : (qs : List Read) → All (λ (q : Read). q.temp.0 < length seen.made) qs
          → All (λ (q : Read). q.temp.0 < length (seen.made ++ ms)) qs
      wide qs h = All-weaker (λ (q : Read). q.temp.0 < length seen.made) (λ (q : Read). q.temp.0 < length (seen.made ++ ms))
          (λ q lt. let e = length-append seen.made ms in omega arith) qs h

  pub calls_later : (now next : ℕ) (issues : List Issue) (i : Issue) → now ≤ next → All (IsCalled now) issues → IsCalled next i
      → All (IsCalled next) (issues ++ i ∷ [])
  calls_later now next issues i le h here =
      All-append (IsCalled next) issues (i ∷ []) (All-weaker (IsCalled now) (IsCalled next)
      (λ j f x y. let lt = f x y in omega arith) issues h)
      (all_one (IsCalled next) i here)

  -- ---- an operation that does nothing

  module _ (seen : Seen) (i : Issue) (registers : List ℕ) (free : i.instr ≡ None) (idle : i.active ≡ false) where
    not_active : i.active ≡ true → ⊥
    not_active h = let e = sym idle ∙ h in cc e

    no_call : i.instr ≡ Some Call → ⊥
    no_call h = let e = sym free ∙ h in cc e

    pub idle_stands : (k r : ℕ) → Stands k r seen → Stands k r (after seen i [] (map (made_at i) registers))
    idle_stands k r s = stands_later k r seen i [] (map (made_at i) registers) s
        (all_map (λ (m : LiveRange). m.active ≡ true → m.reg ≢ r) (made_at i) registers (λ x active. absurd (not_active active)))
        (λ call. absurd (no_call call))

    pub idle_timely : (now r : ℕ) → Known seen → Timely now r seen → Timely now r (after seen i [] (map (made_at i) registers))
    idle_timely now r known h = timely_later now now r seen i [] (map (made_at i) registers) (omega arith) known h
        (All-nil (λ (q : Read). q.temp.0 < length seen.made))
        (All-nil (λ (q : Read). (a : LiveRange) → slice_get seen.made q.temp.0 ≡ Some a → a.block.0 ≡ b → a.reg ≡ r → q.cycle ≤ now))
        (all_map (λ (d : LiveRange). d.active ≡ true → d.block.0 ≡ b → d.reg ≡ r → d.from < now) (made_at i) registers
        (λ x active. absurd (not_active active)))

    pub idle_known : Known seen → Known (after seen i [] (map (made_at i) registers))
    idle_known known = known_later seen i [] (map (made_at i) registers) known (All-nil (λ (q : Read). q.temp.0 < length seen.made))

    pub idle_calls : (now : ℕ) → All (IsCalled now) seen.issues → All (IsCalled now) (seen.issues ++ i ∷ [])
    idle_calls now h = calls_later now now seen.issues i (omega arith) h (λ call block. absurd (no_call call))

    pub idle_front : (now : ℕ) → Front now seen → Front now (after seen i [] (map (made_at i) registers))
    idle_front now f = record {
      timely = λ r. idle_timely now r f.known (f.timely r);
      calls = idle_calls now f.calls;
      known = idle_known f.known;
    }

    pub idle_ok : StepOk c seen i [] (map (made_at i) registers)
    idle_ok = record {
      reads = All-nil (GoodRead c seen);
      new = all_map (NewOk c seen i []) (made_at i) registers (λ r. record {
        given = subst (λ (x : Option Op). InSpace r (space_given x)) (sym free) tt;
        over_old = λ k d lt a there active. absurd (not_active active);
        over_own = All-nil (λ (q : Read). (a : LiveRange) → slice_get seen.made q.temp.0 ≡ Some a → IsOver q a (made_at i r));
        differ = λ k d lt one two. absurd (not_active two);
        avoid = λ k d lt active. absurd (not_active active);
      });
      pairs = idle_pairs registers;
      calls_old = λ call. absurd (no_call call);
      calls_own = λ call. absurd (no_call call);
      calls_made = λ k d lt active call. absurd (no_call call);
    }
      where
        idle_pairs : (xs : List ℕ) → AllPairs Differ (map (made_at i) xs)
        idle_pairs [] = pairs_nil Differ
        idle_pairs (r ∷ rs) = AllPairs-cons Differ (made_at i r) (map (made_at i) rs) (λ k d lt one. absurd (not_active one))
            (idle_pairs rs)

  -- ---- an operation that issues when all before it are done

  module _ (seen : Seen) (i : Issue) (rs : List Read) (registers : List ℕ) (now : ℕ) (few : IsFew registers) (block : i.block.0 ≡ b)
      (front : Front now seen) (le : now ≤ i.cycle) (in_time : All (λ (q : Read). q.cycle ≡ i.cycle) rs)
      (good : All (GoodRead c seen) rs) where
    goes_inside : All (λ (q : Read). q.temp.0 < length seen.made) rs
    goes_inside k d lt = let g = good k d lt in slice_get_within seen.made (get_or rs k d).temp.0 g.temp g.there

    pub goes_front : (next : ℕ) → i.cycle < next → Front next (after seen i rs (map (made_at i) registers))
    goes_front next lt = record {
      timely = λ r. timely_later now next r seen i rs (map (made_at i) registers) (omega arith) front.known (front.timely r) goes_inside
          (λ k d in' a there same reg. let e = in_time k d in' in omega arith)
          (all_map (λ (d : LiveRange). d.active ≡ true → d.block.0 ≡ b → d.reg ≡ r → d.from < next) (made_at i) registers
          (λ x active same reg. omega arith));
      calls = calls_later now next seen.issues i (omega arith) front.calls (λ call same. omega arith);
      known = known_later seen i rs (map (made_at i) registers) front.known goes_inside;
    }

    goes_new : (r : ℕ) → IsGivenInSpace (made_at i r) → NewOk c seen i rs (made_at i r)
    goes_new r given = record {
      given = given;
      over_old = λ k d lt a there active same reg from.
          let le' = (front.timely r).reads k d lt a there (same ∙ block) reg in omega arith;
      over_own = λ k d lt a there active same reg from. let e = in_time k d lt in omega arith;
      differ = λ k d lt one two same reg e. let m = (front.timely r).made k d lt one (same ∙ block) reg in omega arith;
      avoid = All-append (Avoids (made_at i r)) seen.issues (i ∷ [])
          (λ k d lt active call same. inr (λ e. let m = front.calls k d lt call (same ∙ block) in omega arith))
          (all_one (Avoids (made_at i r)) i (λ active call same. inl refl));
    }

    few_new : (xs : List ℕ) → IsFew xs → All (λ (r : ℕ). InSpace r (space_given i.instr)) xs → All (NewOk c seen i rs) (map (made_at i) xs)
    few_new [] no_item given = All-nil (NewOk c seen i rs)
    few_new (r ∷ []) (one_item s) given = all_one (NewOk c seen i rs) (made_at i r) (goes_new r (given 0 r (omega arith)))
    few_new (r ∷ (q ∷ more)) h given = elim h [ ]

    few_pairs : (xs : List ℕ) → IsFew xs → AllPairs Differ (map (made_at i) xs)
    few_pairs [] no_item = pairs_nil Differ
    few_pairs (r ∷ []) (one_item s) = pairs_one Differ (made_at i r)
    few_pairs (r ∷ (q ∷ more)) h = elim h [ ]

    pub goes_ok : All (λ (r : ℕ). InSpace r (space_given i.instr)) registers → StepOk c seen i rs (map (made_at i) registers)
    goes_ok given = record {
      reads = good;
      new = few_new registers few given;
      pairs = few_pairs registers few;
      calls_old = λ call k d lt a there same. let le' = (front.timely a.reg).reads k d lt a there (sym same ∙ block) refl in omega arith;
      calls_own = λ call k d lt a there same. let e = in_time k d lt in omega arith;
      calls_made = λ k d lt active call same.
          let m = get_or seen.made k d in
          inr (λ e. let from = (front.timely m.reg).made k d lt active (sym same ∙ block) refl in omega arith);
    }

    pub goes_stands : (k r : ℕ) → Stands k r seen → All (λ (x : ℕ). x ≢ r) registers → (i.instr ≡ Some Call → in_mask c r ≡ false)
        → Stands k r (after seen i rs (map (made_at i) registers))
    goes_stands k r s others call = stands_later k r seen i rs (map (made_at i) registers) s (others_made registers others) call
      where
        others_made : (xs : List ℕ) → All (λ (x : ℕ). x ≢ r) xs → All (λ (m : LiveRange). m.active ≡ true → m.reg ≢ r) (map (made_at i) xs)
        others_made [] h = All-nil (λ (m : LiveRange). m.active ≡ true → m.reg ≢ r)
        others_made (x ∷ xs) h = All-cons (λ (m : LiveRange). m.active ≡ true → m.reg ≢ r) (made_at i x) (map (made_at i) xs)
            (λ active. h 0 x (omega arith))
            (others_made xs (λ k d lt. h (suc k) d (omega arith)))

    pub goes_new_stands : (r : ℕ) → i.active ≡ true → Stands (length seen.made) r (after seen i rs (made_at i r ∷ []))
    goes_new_stands r active = stands_new r seen i rs active block
        (record {
          reads = λ k d lt a there same reg. let le' = (front.timely r).reads k d lt a there same reg in omega arith;
          made = λ k d lt one same reg. let m = (front.timely r).made k d lt one same reg in omega arith;
        })
        (λ k d lt call same. let m = front.calls k d lt call same in omega arith)
