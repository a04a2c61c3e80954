-- Names that cross a call of a block which hands its saved values over where it takes them. The saved values cross the call too, each in one
-- place. So of the names that are read in registers behind the call those have to be reloaded that are more than the registers which the
-- call keeps beside the saved values that stand in registers.
use Rattle.std.proofs.Common.{ℕ, zero, suc, ◌≡◌, ◌<◌, ◌≤◌, ◌+◌, Bool, true, false, List, [], ◌∷◌, ◌++◌, length, map, filter, ◌⊎◌, inl, inr}
use Rattle.std.proofs.Common.{refl, sym, ap, ◌∙◌, subst, arith, cond}
use Rattle.std.specs.Prelude.{Option, Some, slice_get, IfSome, option_and_then}
use Rattle.std.specs.List.{range_with_len}
use Rattle.std.proofs.lemmas.List.{length-append}
use Rattle.un_base.specs.declared.ids.TempId.{TempId}
use Rattle.un_isa.specs.Registers.{callee_saved}
use Rattle.un_isa.specs.Tables.{latency_of}
use Rattle.un_isa.specs.declared.op.Op.{Op}
use Rattle.un_isa.specs.declared.op.Op.TheVariants.{Call, Reload}
use Rattle.un_isa.specs.declared.reg.TheConstants.{FIRST_SLOT}
use Rattle.un_isa.proofs.DoesLaws.{call_is}
use Rattle.un_ir.specs.declared.extended.ExtKind.{ExtKind}
use Rattle.un_ir.specs.declared.extended.ExtKind.TheVariants.{In, Out, Body, End, Copy, Enter, Leave}
use Rattle.un_ir.specs.declared.extended.Operand.{Operand}
use Rattle.un_ir.specs.declared.extended.ExtBlock.{ExtBlock}
use Rattle.un_ir.specs.declared.extended.Ext.{Ext}
use Rattle.un_ir.specs.Extended.{temp, is_copy, wants_of, Want}
use Rattle.un_ir.specs.Kinds.{is_call_kind, is_mandatory}
use Rattle.un_ir.specs.Linear.{first_of}
use Rattle.un_model.specs.declared.model.Options.{Options}
use Rattle.un_model.specs.Congruences.{register_of}
use Rattle.un_model.specs.Instructions.{instruction_of, latency_by}
use Rattle.un_model.specs.Schedules.{schedule_of, choice_of, cycle_by, value_by}
use Rattle.un_model.specs.Solutions.{IsPlacedAs}
use Rattle.un_model.specs.Variables.{model_of}
use Rattle.un_lists.proofs.Lists.{Each, Pairwise, Member, each_member, each_of, each_map, member_of_filter, pairwise_map, pairwise_more}
use Rattle.un_lists.proofs.Lists.{pairwise_of_map, pairwise_filter}
use Rattle.un_model.proofs.Placed.{Placed, Region, region_placed, vars_of, end_of, issue_at, Spot}
use Rattle.un_model.proofs.PlacedSchedules.{all, the_ranges, one_spot, definer_in}
use Rattle.un_model.proofs.Readings.{Solved, numbered, reading}
use Rattle.un_model.proofs.TempKinds.{spot_carried}
use Rattle.un_press.proofs.Counting.{Differ, length_mapped}
use Rattle.un_press.proofs.Crossings.{reg_of, Carried, carried_all, carried_values, spot_in, spot_member, spot_value, in_slot}
use Rattle.un_press.proofs.Crossings.{Differs, call_keeps, many_in_slots, values_differ}
use Rattle.un_press.proofs.Descent.{cycle_at, Reader, IsOnTheWay}
use Rattle.un_press.proofs.Kept.{saved_cover}
use Rattle.un_press.proofs.Premises.{reads_active}
use Rattle.un_press.proofs.Reloading.{NeedsRegister, Wanted, crossings, no_reader, reloads}
use Rattle.un_press.proofs.Spilling.{Several, one_placed, placed_issue, same_end, true_le}
use Rattle.un_saved.specs.Saved.{saved_in, saved_out, end_operands, keeps_places}
use Rattle.un_saved.specs.Standing.{place_at, taken_at, is_slot, in_slots}
use Rattle.un_saved.specs.declared.boundary.Boundary.TheVariants.{StartOf}
use Rattle.un_model.proofs.Regions.{of_region}
use Rattle.un_model.proofs.RegionEnds.{all_regions, region_end, region_member, filter_append}
use Rattle.un_saved.proofs.Bounds.{last, all_last, block_is, end_reads_out, starts, saved_apart, register_is}
use Rattle.un_saved.proofs.EntrySpills.{range_differ, range_below, count_filter}
use Rattle.un_saved.proofs.OnePlace.{drop_get, alone_at, chosen, saved_at, saved_number}

-- ---- lists

pairwise_join : {X : Type 0} (R : X → X → Type 0) (xs ys : List X) → Pairwise R xs → Pairwise R ys → Each (λ x. Each (R x) ys) xs
    → Pairwise R (xs ++ ys)
pairwise_join R [] ys a b c = b
pairwise_join R (x ∷ xs) ys a b c = (each_both R x xs ys a.0 c.0, pairwise_join R xs ys a.1 b c.1)
  where
    each_both : {X : Type 0} (R : X → X → Type 0) (x : X) (xs ys : List X) → Each (R x) xs → Each (R x) ys → Each (R x) (xs ++ ys)
    each_both R x [] ys a b = b
    each_both R x (z ∷ zs) ys a b = (a.0, each_both R x zs ys a.1 b)

-- ---- calls

call_instr : (kind : ExtKind) (n : ℕ) → is_call_kind kind ≡ true → instruction_of kind n ≡ Some Call
call_instr (Body so) n h = ap (λ (op : Op). Some op) (call_is so.op h)
call_instr In n h = absurd (cc h)
call_instr Out n h = absurd (cc h)
call_instr (End term) n h = absurd (cc h)
call_instr (Copy node) n h = absurd (cc h)
call_instr Enter n h = absurd (cc h)
call_instr Leave n h = absurd (cc h)

no_call : (kind : ExtKind) → kind ≡ In → is_call_kind kind ≡ true → ⊥
no_call kind k call = let z : false ≡ true = sym (ap is_call_kind k) ∙ call in cc z

module _ (e : Ext) (o : Options) (values : List ℕ) (solved : Solved e o values) (k : ℕ) (r : Region)
    (at : slice_get (all_regions e o values solved.extended) k ≡ Some r) (keeps : keeps_places r.owner ≡ true) (c : Placed)
    (mc : Member c (region_placed r)) (call : is_call_kind c.op.kind ≡ true) where
  abbrev cycle : Placed → ℕ
  cycle p = cycle_at e o values solved p

  all_c : Member c (all e o values)
  all_c = region_member e o values solved.extended k r c at mc

  one_block : (let q = last e o values solved k r at in q.block ≡ c.block)
  one_block = sym (of_region r c mc)

  -- the call issues before the block's end
  ahead : (let q = last e o values solved k r at in cycle c < cycle q)
  ahead =
      let q = last e o values solved k r at in
      let v = vars_of c in
      let w = vars_of q in
      let en = region_end e o values solved.extended k r at in
      let placed = subst (λ (i : Option Op). IfSome i (IsPlacedAs (cycle c) (end_of values c))) (call_instr c.op.kind
      (value_by values v.instr) call) (placed_issue e o values solved c all_c) in
      let within = placed.0 in
      let before = within.1 in
      let end : cycle q ≡ end_of values q = ap (λ (kind : ExtKind). cycle_by values (end_of values q) kind w) en.is_end in
      let same = same_end e o values solved q c (all_last e o values solved k r at) all_c one_block in
      omega (arith, before, end, same)

  -- ---- a saved value crosses the call as the temporary that the block takes

  record SavedCross : Type 0 where
    place : ℕ
    low : place < saved_number e o values solved
    value : TempId
    here : slice_get (saved_in r.owner) place ≡ Some value
    carried : Carried e o values solved c
    is : carried.value ≡ value
    itself : (let s = spot_in e o values solved c carried in s.temp ≡ value)

  crosses : (j : ℕ) → j < saved_number e o values solved → SavedCross
  crosses j lt =
      let b : ExtBlock = r.owner in
      let q = last e o values solved k r at in
      let mq = all_last e o values solved k r at in
      let en = region_end e o values solved.extended k r at in
      let found = saved_at e o values solved k b (block_is e o values solved k r at) j lt in
      let v = found.0 in
      let got = alone_at (saved_in b) (saved_out b) j v keeps found.1 in
      let i = length b.live_out + j in
      let at_end : slice_get q.op.operands i ≡ Some got.0 = ap (λ (ys : List Operand). slice_get ys i)
      (sym (end_reads_out e o values solved k r at)) ∙ sym (drop_get (length b.live_out) j (end_operands b.ops)) ∙ got.1 in
      let s = starts e o values solved k r at j v found.1 in
      let active = reads_active e o values solved q i got.0 mq (ap is_mandatory en.is_end) at_end in
      let reader : Reader e o values solved v (cycle c) = record {
        user = q;
        member = mq;
        active = active;
        place = i;
        operand = got.0;
        at = at_end;
        value = ap (λ (ts : List TempId). temp (first_of ts)) got.2;
        after = ahead;
      } in
      let read = reading e o values solved q i got.0 mq active at_end in
      let d = read.2 in
      let same : d.spot.temp ≡ v = d.is ∙ chosen e o values solved q i got.0 v mq at_end got.2 en.is_end in
      let one : d.spot ≡ s.spot = one_spot e o values (numbered e o values solved) d.spot s.spot d.member s.member
      (ap (λ (t : TempId). t.0) (same ∙ sym s.is)) in
      let own = s.spot in
      let w = vars_of own.definer in
      let begins : cycle own.definer ≡ 0 = ap (λ (kind : ExtKind). cycle_by values (end_of values own.definer) kind w) s.kind in
      let from : cycle d.spot.definer ≤ cycle c = subst (λ (u : Spot). cycle u.definer ≤ cycle c) (sym one) (omega (arith, begins)) in
      record {
        place = j;
        low = lt;
        value = v;
        here = found.1;
        carried = record {
          value = v;
          crossing = record {
            own = s.spot;
            member = s.member;
            is = s.is;
            early = omega (arith, begins);
            other = λ called number. no_call own.definer.op.kind s.kind (ap (λ (p : Placed). is_call_kind p.op.kind)
                (one_placed e o values solved own.definer c (definer_in e o values (numbered e o values solved) own s.member) all_c number)
                ∙ call);
            reader = reader;
            block = one_block;
          };
          held = record {
            reader = reader;
            want = read.0;
            wants = read.1;
            reading = d;
            from = from;
            block = refl;
            way = inl refl;
          };
        };
        is = refl;
        itself = same;
      }

  -- it is in a slot then where it is at the start of the block
  slot_is : (x : SavedCross) → in_slot e o values solved c x.carried
      ≡ is_slot (place_at (schedule_of (model_of e o) values) e.blocks (StartOf k) x.place)
  slot_is x =
      let s = spot_in e o values solved c x.carried in
      let m = spot_member e o values solved c x.carried in
      let register : register_of (the_ranges e o values) x.value ≡ Some (reg_of e o values solved s) =
      ap (register_of (the_ranges e o values)) (sym x.itself) ∙ register_is e o values solved s m in
      let place = ap (λ (d : Option ExtBlock). taken_at (schedule_of (model_of e o) values) d x.place) (block_is e o values solved k r at)
      ∙ ap (λ (u : Option TempId). option_and_then (register_of (the_ranges e o values)) u) x.here ∙ register in
      sym (ap is_slot place)

  all_cross : (js : List ℕ) → Each (λ (j : ℕ). j < 0 + saved_number e o values solved) js → List SavedCross
  all_cross [] each = []
  all_cross (j ∷ js) each = crosses j (let lt = each.0 in omega (arith, lt)) ∷ all_cross js each.1

  cross_places : (js : List ℕ) (each : Each (λ (j : ℕ). j < 0 + saved_number e o values solved) js)
      → map (λ (x : SavedCross). x.place) (all_cross js each) ≡ js
  unfolding all_cross crosses
  cross_places [] each = refl
  cross_places (j ∷ js) each = ap (λ (ks : List ℕ). j ∷ ks) (cross_places js each.1)

  abbrev test : ℕ → Bool
  test j = is_slot (place_at (schedule_of (model_of e o) values) e.blocks (StartOf k) j)

  -- as many of them are
  cross_slots : (xs : List SavedCross) → length (filter (in_slot e o values solved c) (map (λ (x : SavedCross). x.carried) xs))
      ≡ length (filter test (map (λ (x : SavedCross). x.place) xs))
  cross_slots [] = refl
  cross_slots (x ∷ xs) =
      let rest = cross_slots xs in
      let ks = filter (in_slot e o values solved c) (map (λ (y : SavedCross). y.carried) xs) in
      let js = filter test (map (λ (y : SavedCross). y.place) xs) in
      ap (λ (b : Bool). length (cond b (x.carried ∷ ks) ks)) (slot_is x)
      ∙ by (test x.place) ks js rest
    where
      by : (b : Bool) (ks : List (Carried e o values solved c)) (js : List ℕ) → length ks ≡ length js
          → length (cond b (x.carried ∷ ks) ks) ≡ length (cond b (x.place ∷ js) js)
      by true ks js e = ap suc e
      by false ks js e = e

  cross_differ : (x y : SavedCross) → (x.place ≡ y.place → ⊥) → Differs e o values solved c x.carried y.carried
  cross_differ x y ne same = ne (saved_apart e o values solved k r at x.place y.place x.value x.here
      (y.here ∙ ap Some (sym y.is ∙ sym same ∙ x.is)))

  -- ---- names

  module _ (vs : List TempId) (each : Each (Wanted e o values solved c) vs) (differ : Differ vs)
      (others : Each (λ (v : TempId). (j : ℕ) → slice_get (saved_in r.owner) j ≡ Some v → ⊥) vs) where
    abbrev names : List (Carried e o values solved c)
    names = carried_all e o values solved c vs (crossings e o values solved c vs each)

    range_all : Each (λ (j : ℕ). j < 0 + saved_number e o values solved) (range_with_len 0 (saved_number e o values solved))
    range_all = range_below 0 (saved_number e o values solved)

    abbrev saved : List SavedCross
    saved = all_cross (range_with_len 0 (saved_number e o values solved)) range_all

    abbrev carried_saved : List (Carried e o values solved c)
    carried_saved = map (λ (x : SavedCross). x.carried) saved

    saved_apart_all : Pairwise (Differs e o values solved c) carried_saved
    saved_apart_all = pairwise_map (Differs e o values solved c) (λ (x : SavedCross). x.carried) saved
        (pairwise_more (λ (x y : SavedCross). x.place ≡ y.place → ⊥) (λ (x y : SavedCross). Differs e o values solved c x.carried y.carried)
        saved (λ x y mx my ne. cross_differ x y ne)
        (pairwise_of_map (λ (i j : ℕ). i ≡ j → ⊥) (λ (x : SavedCross). x.place) saved
        (subst (λ (ks : List ℕ). Differ ks) (sym (cross_places (range_with_len 0 (saved_number e o values solved)) range_all))
        (range_differ 0 (saved_number e o values solved)))))

    name_value : (u : Carried e o values solved c) → Member u names → Member u.value vs
    name_value u m = subst (λ (us : List TempId). Member u.value us) (carried_values e o values solved c vs (crossings e o values solved c vs each))
        (member_mapped (λ (x : Carried e o values solved c). x.value) names u m)
      where
        member_mapped : {X Y : Type 0} (f : X → Y) (xs : List X) (x : X) → Member x xs → Member (f x) (map f xs)
        member_mapped f [] x m = elim m [ ]
        member_mapped f (y ∷ ys) x (inl e) = inl (ap f e)
        member_mapped f (y ∷ ys) x (inr m) = inr (member_mapped f ys x m)

    cross_apart : Each (λ (u : Carried e o values solved c). Each (Differs e o values solved c u) carried_saved) names
    cross_apart = each_of (λ (u : Carried e o values solved c). Each (Differs e o values solved c u) carried_saved) names (λ u mu.
        each_map (Differs e o values solved c u) (λ (x : SavedCross). x.carried) saved
        (each_of (λ (x : SavedCross). Differs e o values solved c u x.carried) saved (λ x mx same.
        each_member (λ (v : TempId). (j : ℕ) → slice_get (saved_in r.owner) j ≡ Some v → ⊥) vs u.value others (name_value u mu)
        x.place (x.here ∙ ap Some (sym (same ∙ x.is))))))

    -- So many names are in slots: with the registers that the call keeps and the saved values that are in slots there is no room for more
    -- than so many.
    pub names_in_slots : length vs + saved_number e o values solved
        ≤ length (callee_saved e.table) + (length (filter (in_slot e o values solved c) names)
        + in_slots (schedule_of (model_of e o) values) e.blocks (StartOf k) (saved_number e o values solved))
    names_in_slots =
        let n = saved_number e o values solved in
        let slot = in_slot e o values solved c in
        let apart = pairwise_join (Differs e o values solved c) names carried_saved
        (values_differ e o values solved c vs (crossings e o values solved c vs each) differ) saved_apart_all cross_apart in
        let keeps_them = call_keeps e o values solved c all_c call (callee_saved e.table) (saved_cover e o values solved c) in
        let many = many_in_slots e o values solved c (callee_saved e.table) keeps_them (names ++ carried_saved) apart in
        let whole = length-append names carried_saved in
        let parts = ap length (filter_append slot names carried_saved) in
        let both = length-append (filter slot names) (filter slot carried_saved) in
        let named = ap length (carried_values e o values solved c vs (crossings e o values solved c vs each)) in
        let mapped = length_mapped (λ (x : Carried e o values solved c). x.value) names in
        let places = cross_places (range_with_len 0 n) range_all in
        let placed = ap length places in
        let lp = length_mapped (λ (x : SavedCross). x.place) saved in
        let lc = length_mapped (λ (x : SavedCross). x.carried) saved in
        let ranged = range_length 0 n in
        let slots = cross_slots saved in
        let same = ap (λ (js : List ℕ). length (filter test js)) places in
        let count : in_slots (schedule_of (model_of e o) values) e.blocks (StartOf k) n ≡ length (filter test (range_with_len 0 n)) =
        count_filter test (range_with_len 0 n) in
        omega (arith, many, whole, parts, both, named, mapped, placed, lp, lc, ranged, slots, same, count)
      where
        range_length : (a n : ℕ) → length (range_with_len a n) ≡ n
        range_length a zero = refl
        range_length a (suc n) = ap suc (range_length (a + 1) n)

    -- ---- a name in a slot is reloaded behind the call, in time for its reader

    abbrev IsWanted : Carried e o values solved c → Type 0
    IsWanted u = let x = u.crossing in NeedsRegister e o values solved u.value (cycle c) x.reader

    pub record ReloadedFor (u : Carried e o values solved c) : Type 0 where
      pub reader : Placed
      pub member : Member reader (all e o values)
      pub copy : is_copy reader.op.kind ≡ true
      pub instr : (issue_at values reader).instr ≡ Some Reload
      pub block : reader.block ≡ c.block
      pub first : cycle c < cycle reader
      pub ready : (let x = u.crossing in let q = x.reader in cycle reader + latency_of e.table Reload ≤ cycle q.user)

    pub reloaded_for : (u : Carried e o values solved c) → IsWanted u → in_slot e o values solved c u ≡ true → ReloadedFor u
    reloaded_for u needs t =
        let w = u.held in
        let q = w.reader in
        let x = u.crossing in
        let high : FIRST_SLOT ≤ reg_of e o values solved (spot_in e o values solved c u) =
        true_le FIRST_SLOT (reg_of e o values solved (spot_in e o values solved c u)) t in
        let on = on_the_way high w.way in
        let reloaded = reloads e o values solved u.value (cycle c) w.reader w.want w.wants w.reading on.copy high in
        let late : latency_by e.table (issue_at values q.user).instr ≡ latency_of e.table Reload = ap (latency_by e.table) reloaded in
        let ready = on.ready in
        record {
          reader = q.user;
          member = q.member;
          copy = on.copy;
          instr = reloaded;
          block = w.block ∙ x.block;
          first = q.after;
          ready = omega (arith, late, ready);
        }
      where
        on_the_way : FIRST_SLOT ≤ reg_of e o values solved (spot_in e o values solved c u)
            → (let w = u.held in let x = u.crossing in let q = w.reader in let l = x.reader in (w.reader ≡ x.reader)
            ⊎ IsOnTheWay e o values solved q.user l.user)
            → (let w = u.held in let x = u.crossing in let q = w.reader in let l = x.reader in IsOnTheWay e o values solved q.user l.user)
        on_the_way high (inr on) = on
        on_the_way high (inl same) =
            let w = u.held in
            let x = u.crossing in
            absurd (no_reader e o values solved u.value (cycle c) w.reader w.want w.wants w.reading
            (subst (λ (z : Reader e o values solved u.value (cycle c)). NeedsRegister e o values solved u.value (cycle c) z) (sym same) needs)
            high)

    -- ---- each by a copy of its own

    all_wanted : (us : List TempId) (each : Each (Wanted e o values solved c) us)
        → Each IsWanted (carried_all e o values solved c us (crossings e o values solved c us each))
    all_wanted [] each = tt
    all_wanted (u ∷ us) each = ((let w = each.0 in w.needs), all_wanted us each.1)

    abbrev slotted : List (Carried e o values solved c)
    slotted = filter (in_slot e o values solved c) names

    need : (u : Carried e o values solved c) → Member u slotted → IsWanted u
    need u m = each_member IsWanted names u (all_wanted vs each) (member_of_filter (in_slot e o values solved c) names u m).0

    -- a copy that reloads a name for its reader
    pub record ReloadsName (p : Placed) : Type 0 where
      pub name : Carried e o values solved c
      pub listed : Member name names
      pub made : ReloadedFor name
      pub is : made.reader ≡ p

    abbrev reader_of : Carried e o values solved c → Placed
    reader_of u = let w = u.held in let q = w.reader in q.user

    -- a copy reads its one operand
    first_place : (kind : ExtKind) (n : ℕ) (want : Want) (p : Placed) → is_copy kind ≡ true
        → slice_get (wants_of e.table e.names e.blocks p.owner kind p.op) n ≡ Some want → n ≡ 0
    first_place (Copy node) zero want p c h = refl
    first_place (Copy node) (suc n) want p c h = absurd (cc h)
    first_place In n want p c h = absurd (cc c)
    first_place Out n want p c h = absurd (cc c)
    first_place (Body so) n want p c h = absurd (cc c)
    first_place (End term) n want p c h = absurd (cc c)
    first_place Enter n want p c h = absurd (cc c)
    first_place Leave n want p c h = absurd (cc c)

    readers_differ : (x y : Carried e o values solved c) → (let p = reader_of x in is_copy p.op.kind ≡ true)
        → (let p = reader_of y in is_copy p.op.kind ≡ true) → Differs e o values solved c x y → reader_of x ≡ reader_of y → ⊥
    readers_differ x y cx cy ne one =
        let a = x.held in
        let b = y.held in
        let p = a.reader in
        let q = b.reader in
        let px : p.place ≡ 0 = first_place p.user.op.kind p.place a.want p.user cx a.wants in
        let py : q.place ≡ 0 = first_place q.user.op.kind q.place b.want q.user cy b.wants in
        let place : p.place ≡ q.place = px ∙ sym py in
        let both : Some p.operand ≡ Some q.operand = sym p.at ∙ ap (λ (z : Placed). slice_get z.op.operands p.place) one
        ∙ ap (slice_get q.user.op.operands) place ∙ q.at in
        let operand : p.operand ≡ q.operand = cc both in
        let da = a.reading in
        let db = b.reading in
        let temps : da.spot.temp ≡ db.spot.temp =
        da.is ∙ ap (λ (z : Placed). choice_of values (vars_of z) p.place p.operand) one
        ∙ ap (λ (n : ℕ). choice_of values (vars_of q.user) n p.operand) place
        ∙ ap (λ (z : Operand). choice_of values (vars_of q.user) q.place z) operand ∙ sym db.is in
        let spot_same = one_spot e o values (numbered e o values solved) da.spot db.spot da.member db.member
        (ap (λ (z : TempId). z.0) temps) in
        ne (sym (spot_value e o values solved c x) ∙ ap spot_carried spot_same ∙ spot_value e o values solved c y)

    by_copy : (u : Carried e o values solved c) → Member u slotted → (let p = reader_of u in is_copy p.op.kind ≡ true)
    unfolding reloaded_for
    by_copy u m =
        let t = (member_of_filter (in_slot e o values solved c) names u m).1 in
        let made = reloaded_for u (need u m) t in
        made.copy

    -- Each name that is in a slot in the call's cycle is reloaded behind the call.
    pub names_reload : Several e o values solved ReloadsName (length slotted)
    unfolding reloaded_for
    names_reload =
        let long = length_mapped reader_of slotted in
        record {
          listed = map reader_of slotted;
          differ = pairwise_map (λ x y. x ≡ y → ⊥) reader_of slotted (pairwise_more (Differs e o values solved c)
              (λ (x y : Carried e o values solved c). reader_of x ≡ reader_of y → ⊥) slotted
              (λ x y mx my ne. readers_differ x y (by_copy x mx) (by_copy y my) ne)
              (pairwise_filter (Differs e o values solved c) (in_slot e o values solved c) names
              (values_differ e o values solved c vs (crossings e o values solved c vs each) differ)));
          each = each_map ReloadsName reader_of slotted (each_of (λ (u : Carried e o values solved c). ReloadsName (reader_of u)) slotted
              (λ u m. let found = member_of_filter (in_slot e o values solved c) names u m in record {
                name = u;
                listed = found.0;
                made = reloaded_for u (need u m) found.1;
                is = refl;
              }));
          many = omega (arith, long);
        }

  -- a call keeps fewer registers than there are saved values, so one of them at least is in a slot
  pub call_crowds : saved_number e o values solved ≤ length (callee_saved e.table)
      + in_slots (schedule_of (model_of e o) values) e.blocks (StartOf k) (saved_number e o values solved)
  call_crowds =
      let all : 0 + saved_number e o values solved ≤ length (callee_saved e.table)
      + (0 + in_slots (schedule_of (model_of e o) values) e.blocks (StartOf k) (saved_number e o values solved)) =
      names_in_slots [] tt tt tt in
      omega (arith, all)
