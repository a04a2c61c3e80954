-- The saved values that the entry hands over in slots are spilled in it: each by a copy of its own, from cycle 2 on.
use Rattle.std.proofs.Common.{ℕ, zero, suc, ◌≡◌, ◌<◌, ◌≤◌, ◌+◌, Bool, true, false, List, [], ◌∷◌, length, map, filter, refl, sym}
use Rattle.std.proofs.Common.{ap, ◌∙◌, subst, arith, cond}
use Rattle.std.specs.Prelude.{Option, Some, None, slice_get, ◌==◌, IfSome, count_by}
use Rattle.std.specs.List.{range_with_len}
use Rattle.std.proofs.lemmas.Bool.{eqb-true}
use Rattle.std.proofs.lemmas.List.Sums.{sum_by-cons}
use Rattle.un_base.specs.declared.ids.TempId.{TempId}
use Rattle.un_isa.specs.declared.op.Op.{Op}
use Rattle.un_isa.specs.declared.op.Op.TheVariants.{Spill}
use Rattle.un_isa.specs.declared.reg.TheConstants.{FIRST_SLOT}
use Rattle.un_ir.specs.declared.extended.ExtKind.{ExtKind}
use Rattle.un_ir.specs.declared.extended.Operand.{Operand}
use Rattle.un_ir.specs.declared.extended.ExtBlock.{ExtBlock}
use Rattle.un_ir.specs.declared.extended.Ext.{Ext}
use Rattle.un_ir.specs.Extended.{temp, is_copy}
use Rattle.un_ir.specs.Linear.{first_of, is_in}
use Rattle.un_model.specs.declared.model.Options.{Options}
use Rattle.un_model.specs.Schedules.{schedule_of, cycle_by}
use Rattle.un_model.specs.Solutions.{IsPlacedAs}
use Rattle.un_model.specs.Variables.{model_of}
use Rattle.un_lists.proofs.Lists.{Each, Pairwise, Member, each_member, each_more, each_of, each_map}
use Rattle.un_lists.proofs.Lists.{member_of_filter, pairwise_map, pairwise_more, pairwise_of_map, pairwise_filter}
use Rattle.un_model.proofs.Placed.{Placed, Region, vars_of, end_of, issue_at, Spot, spot}
use Rattle.un_model.proofs.PlacedSchedules.{all, spots, one_spot, definer_in}
use Rattle.un_model.proofs.Readings.{Solved, numbered}
use Rattle.un_model.proofs.TempKinds.{spot_carried}
use Rattle.un_press.proofs.Counting.{Differ, length_mapped}
use Rattle.un_press.proofs.Crossings.{reg_of}
use Rattle.un_press.proofs.Descent.{cycle_at}
use Rattle.un_press.proofs.Entering.{entry_late}
use Rattle.un_press.proofs.Kept.{entry_starts}
use Rattle.un_press.proofs.Spilling.{Several, placed_issue, same_end, slot_spilled, true_le}
use Rattle.un_saved.specs.Saved.{saved_in, saved_out, end_operands, hands_own, reads_own}
use Rattle.un_saved.specs.Standing.{place_at, handed_at, is_slot, in_slots}
use Rattle.un_saved.specs.declared.boundary.Boundary.TheVariants.{EndOf}
use Rattle.un_model.proofs.RegionEnds.{all_regions, region_end}
use Rattle.un_saved.proofs.OnePlace.{and_both, drop_get, saved_at, saved_number}
use Rattle.un_saved.proofs.Bounds.{last, all_last, block_is, number_is, end_reads_out, handed, saved_apart, one_result}

-- ---- lists

-- the items of a range are different
range_above : (a b n : ℕ) → a < b → Each (λ (y : ℕ). a ≡ y → ⊥) (range_with_len b n)
range_above a b zero lt = tt
range_above a b (suc n) lt = (λ same. absurd (omega (arith, lt, same)), range_above a (b + 1) n (omega (arith, lt)))

pub range_differ : (a n : ℕ) → Differ (range_with_len a n)
range_differ a zero = tt
range_differ a (suc n) = (range_above a (a + 1) n (omega arith), range_differ (a + 1) n)

pub range_below : (a n : ℕ) → Each (λ (j : ℕ). j < a + n) (range_with_len a n)
range_below a zero = tt
range_below a (suc n) =
    let rest = range_below (a + 1) n in (
      omega arith,
      each_more (λ (j : ℕ). j < a + 1 + n) (λ (j : ℕ). j < a + suc n) (range_with_len (a + 1) n)
          (λ j lt. omega (arith, lt)) rest,
    )

pub count_filter : (p : ℕ → Bool) (xs : List ℕ) → count_by p xs ≡ length (filter p xs)
count_filter p [] = refl
count_filter p (x ∷ xs) =
    let cons = sum_by-cons (λ (y : ℕ). cond (p y) 1 0) x xs in
    let rest = count_filter p xs in
    by (p x) refl cons rest
  where
    by : (b : Bool) → p x ≡ b → count_by p (x ∷ xs) ≡ cond (p x) 1 0 + count_by p xs → count_by p xs ≡ length (filter p xs)
        → count_by p (x ∷ xs) ≡ length (cond (p x) (x ∷ filter p xs) (filter p xs))
    by true e cons rest =
        let one : cond (p x) 1 0 ≡ 1 = (let number : Bool → ℕ = λ b. cond b 1 0 in ap number e) in
        let long : length (cond (p x) (x ∷ filter p xs) (filter p xs)) ≡ suc (length (filter p xs)) =
        ap (λ (b : Bool). length (cond b (x ∷ filter p xs) (filter p xs))) e in
        omega (arith, cons, rest, one, long)
    by false e cons rest =
        let none : cond (p x) 1 0 ≡ 0 = (let number : Bool → ℕ = λ b. cond b 1 0 in ap number e) in
        let long : length (cond (p x) (x ∷ filter p xs) (filter p xs)) ≡ length (filter p xs) =
        ap (λ (b : Bool). length (cond b (x ∷ filter p xs) (filter p xs))) e in
        omega (arith, cons, rest, none, long)

-- an operand that reads a value by its place among those that are read so
own_at : (ts : List TempId) (xs : List Operand) (j : ℕ) (t : TempId) → reads_own ts xs ≡ true → slice_get ts j ≡ Some t
    → (x : Operand) × (slice_get xs j ≡ Some x) × (first_of x.alts ≡ t.0)
own_at [] xs j t h at = absurd (cc at)
own_at (u ∷ us) [] j t h at = absurd (cc h)
own_at (u ∷ us) (x ∷ xs) zero t h at =
    let two = and_both (first_of x.alts == u.0) (reads_own us xs) h in
    let same : u ≡ t = cc at in
    (x, refl, eqb-true (first_of x.alts) u.0 two.0 ∙ ap (λ (v : TempId). v.0) same)
own_at (u ∷ us) (x ∷ xs) (suc j) t h at = own_at us xs j t (and_both (first_of x.alts == u.0) (reads_own us xs) h).1 at

-- a slot is a register with such a number
pub slot_register : (p : Option ℕ) → is_slot p ≡ true → (reg : ℕ) × (p ≡ Some reg) × (FIRST_SLOT ≤ reg)
slot_register None h = absurd (cc h)
slot_register (Some reg) h = (reg, refl, true_le FIRST_SLOT reg h)

-- ---- the entry

module _ (e : Ext) (o : Options) (values : List ℕ) (solved : Solved e o values) where
  abbrev cycle : Placed → ℕ
  cycle p = cycle_at e o values solved p

  -- a copy of the entry that spills
  pub record SpillsAtEntry (p : Placed) : Type 0 where
    pub member : Member p (all e o values)
    pub block : p.block ≡ 0
    pub copy : is_copy p.op.kind ≡ true
    pub instr : (issue_at values p).instr ≡ Some Spill
    pub late : 1 < cycle p
    pub before : cycle p < end_of values p

  module _ (r : Region) (at : slice_get (all_regions e o values solved.extended) 0 ≡ Some r) (own : hands_own r.owner ≡ true) where
    entry_block : r.block ≡ 0
    entry_block = number_is e o values solved 0 r at

    last_block : (let q = last e o values solved 0 r at in q.block ≡ 0)
    last_block = entry_block

    -- a saved value that stands in a slot at the end of the entry, with what spills it
    record Slotted : Type 0 where
      place : ℕ
      value : TempId
      here : slice_get (saved_in r.owner) place ≡ Some value
      spot : Spot
      member : Member spot (spots e o values)
      block : spot.definer.block ≡ 0
      carries : spot_carried spot ≡ value
      spilled : ((issue_at values spot.definer).instr ≡ Some Spill) × (is_copy spot.definer.op.kind ≡ true)

    abbrev IsSlotted : ℕ → Type 0
    IsSlotted j = (j < saved_number e o values solved) × (is_slot (place_at (schedule_of (model_of e o) values) e.blocks (EndOf 0) j) ≡ true)

    slotted : (j : ℕ) → IsSlotted j → Slotted
    slotted j h =
        let b : ExtBlock = r.owner in
        let found = saved_at e o values solved 0 b (block_is e o values solved 0 r at) j h.0 in
        let reg = slot_register (place_at (schedule_of (model_of e o) values) e.blocks (EndOf 0) j) h.1 in
        let is = sym (ap (λ (c : Option ExtBlock). handed_at (schedule_of (model_of e o) values) 0 c j) (block_is e o values solved 0 r at)) ∙ reg.1 in
        let d = handed e o values solved 0 r at (length b.live_out + j) reg.0 is in
        let got = own_at (saved_in b) (saved_out b) j found.0 own found.1 in
        let there : (let q = last e o values solved 0 r at in slice_get q.op.operands (length b.live_out + j)) ≡ Some got.0 =
        ap (λ (ys : List Operand). slice_get ys (length b.live_out + j)) (sym (end_reads_out e o values solved 0 r at))
        ∙ sym (drop_get (length b.live_out) j (end_operands b.ops)) ∙ got.1 in
        let both : Some d.operand ≡ Some got.0 = sym d.at_end ∙ there in
        let same : d.operand ≡ got.0 = cc both in
        let first : first_of (let y : Operand = d.operand in y.alts) ≡ found.0.0 = ap (λ (y : Operand). first_of y.alts) same ∙ got.2 in
        let register = d.register in
        let slot = reg.2 in
        let high : FIRST_SLOT ≤ reg_of e o values solved d.spot = omega (arith, register, slot) in
        record {
          place = j;
          value = found.0;
          here = found.1;
          spot = d.spot;
          member = d.member;
          block = d.block ∙ entry_block;
          carries = d.value ∙ ap temp first;
          spilled = slot_spilled e o values solved d.spot d.member d.active high
              (not_start d.spot d.member (d.block ∙ entry_block) high (let s = d.spot in is_in s.definer.op.kind) refl);
        }
      where
        not_start : (s : Spot) → Member s (spots e o values) → s.definer.block ≡ 0 → FIRST_SLOT ≤ reg_of e o values solved s → (b : Bool)
            → is_in s.definer.op.kind ≡ b → is_in s.definer.op.kind ≡ false
        not_start s m block high false q = q
        not_start s m block high true q = let low = entry_starts e o values solved s m block q in absurd (omega (arith, low, high))

    all_slotted : (js : List ℕ) → Each IsSlotted js → List Slotted
    all_slotted [] each = []
    all_slotted (j ∷ js) each = slotted j each.0 ∷ all_slotted js each.1

    slotted_places : (js : List ℕ) (each : Each IsSlotted js) → map (λ (x : Slotted). x.place) (all_slotted js each) ≡ js
    unfolding all_slotted slotted
    slotted_places [] each = refl
    slotted_places (j ∷ js) each = ap (λ (ks : List ℕ). j ∷ ks) (slotted_places js each.1)

    abbrev spiller : Slotted → Placed
    spiller x = let s = x.spot in s.definer

    spillers_differ : (x y : Slotted) → (x.place ≡ y.place → ⊥) → spiller x ≡ spiller y → ⊥
    spillers_differ x y ne same =
        let temps = one_result e o values solved x.spot y.spot x.member y.member x.spilled.1 same in
        let one = one_spot e o values (numbered e o values solved) x.spot y.spot x.member y.member (ap (λ (t : TempId). t.0) temps) in
        let value : x.value ≡ y.value = sym x.carries ∙ ap spot_carried one ∙ y.carries in
        ne (saved_apart e o values solved 0 r at x.place y.place x.value x.here (y.here ∙ ap Some (sym value)))

    spills : (x : Slotted) → SpillsAtEntry (spiller x)
    spills x =
        let s = x.spot in
        let p = s.definer in
        let m = definer_in e o values (numbered e o values solved) s x.member in
        let placed = subst (λ (j : Option Op). IfSome j (IsPlacedAs (cycle p) (end_of values p))) x.spilled.0 (placed_issue e o values solved p m) in
        let within = placed.0 in
        let q = last e o values solved 0 r at in
        let mq = all_last e o values solved 0 r at in
        let en = region_end e o values solved.extended 0 r at in
        let w = vars_of q in
        let end : cycle q ≡ end_of values q = ap (λ (kind : ExtKind). cycle_by values (end_of values q) kind w) en.is_end in
        let same = same_end e o values solved p q m mq (x.block ∙ sym last_block) in
        let before = within.1 in
        record {
          member = m;
          block = x.block;
          copy = x.spilled.1;
          instr = x.spilled.0;
          late = entry_late e o values solved q p (record {
            member = m;
            block = x.block ∙ sym last_block;
            copy = x.spilled.1;
            instr = x.spilled.0;
            first = within.0;
            last = omega (arith, before, end, same);
          }) last_block;
          before = before;
        }

    -- Each saved value that stands in a slot at the end of the entry is spilled there.
    pub entry_spills : Several e o values solved SpillsAtEntry
        (in_slots (schedule_of (model_of e o) values) e.blocks (EndOf 0) (saved_number e o values solved))
    entry_spills =
        let t = schedule_of (model_of e o) values in
        let test = λ (j : ℕ). is_slot (place_at t e.blocks (EndOf 0) j) in
        let n = saved_number e o values solved in
        let js = filter test (range_with_len 0 n) in
        let each = each_of IsSlotted js (λ j m.
        let found = member_of_filter test (range_with_len 0 n) j m in
        let low = each_member (λ (i : ℕ). i < 0 + n) (range_with_len 0 n) j (range_below 0 n) found.0 in
        (omega (arith, low), found.1)) in
        let xs = all_slotted js each in
        let long = ap length (slotted_places js each) in
        let mapped = length_mapped (λ (x : Slotted). x.place) xs in
        let made = length_mapped spiller xs in
        let count : in_slots t e.blocks (EndOf 0) n ≡ length (filter test (range_with_len 0 n)) = count_filter test (range_with_len 0 n) in
        let apart : Pairwise (λ (x y : Slotted). x.place ≡ y.place → ⊥) xs = pairwise_of_map (λ (i j : ℕ). i ≡ j → ⊥)
        (λ (x : Slotted). x.place) xs
        (subst (λ (ks : List ℕ). Differ ks) (sym (slotted_places js each))
        (pairwise_filter (λ (i j : ℕ). i ≡ j → ⊥) test (range_with_len 0 n) (range_differ 0 n))) in
        record {
          listed = map spiller xs;
          differ = pairwise_map (λ x y. x ≡ y → ⊥) spiller xs (pairwise_more (λ (x y : Slotted). x.place ≡ y.place → ⊥)
              (λ (x y : Slotted). spiller x ≡ spiller y → ⊥) xs (λ x y mx my ne. spillers_differ x y ne) apart);
          each = each_map SpillsAtEntry spiller xs (each_of (λ (x : Slotted). SpillsAtEntry (spiller x)) xs (λ x m. spills x));
          many = omega (arith, long, mapped, made, count);
        }
