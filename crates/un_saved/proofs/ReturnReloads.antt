-- The saved values that a block takes in slots and reads in registers are reloaded in it: each by a copy of its own, in time for the end.
use Rattle.std.proofs.Common.{ℕ, zero, suc, ◌≡◌, ◌<◌, ◌≤◌, ◌+◌, Bool, true, false, List, [], ◌∷◌, length, map, filter, inl, inr, refl, sym}
use Rattle.std.proofs.Common.{ap, ◌∙◌, subst, arith}
use Rattle.std.specs.Prelude.{Option, Some, None, slice_get, ◌&&◌, ◌||◌, ◌==◌, is_some, IfSome, option_and_then}
use Rattle.std.specs.List.{range_with_len, list_all, list_any}
use Rattle.std.proofs.lemmas.Bool.{eqb-true}
use Rattle.un_base.specs.declared.ids.TempId.{TempId}
use Rattle.un_isa.specs.Tables.{latency_of}
use Rattle.un_isa.specs.declared.op.Op.{Op}
use Rattle.un_isa.specs.declared.op.Op.TheVariants.{Reload}
use Rattle.un_isa.specs.declared.reg.TheConstants.{FIRST_SLOT}
use Rattle.un_ir.specs.declared.extended.ExtKind.{ExtKind}
use Rattle.un_ir.specs.declared.extended.ExtKind.TheVariants.{In, Out, Body, End, Copy, Enter, Leave}
use Rattle.un_ir.specs.declared.extended.Operand.{Operand}
use Rattle.un_ir.specs.declared.extended.ExtBlock.{ExtBlock}
use Rattle.un_ir.specs.declared.extended.Ext.{Ext}
use Rattle.un_ir.specs.Extended.{temp, is_copy, wants_of, Want}
use Rattle.un_ir.specs.Kinds.{is_delimiter, is_mandatory}
use Rattle.un_ir.specs.Linear.{first_of}
use Rattle.un_model.specs.declared.model.Options.{Options}
use Rattle.un_model.specs.Congruences.{register_of}
use Rattle.un_model.specs.Instructions.{instruction_of, latency_by}
use Rattle.un_model.specs.Schedules.{schedule_of, choice_of, cycle_by, value_by}
use Rattle.un_model.specs.Solutions.{IsPlacedAs}
use Rattle.un_model.specs.Variables.{model_of, var_at, ops_count}
use Rattle.un_lists.proofs.Lists.{Each, Pairwise, Member, any_of, each_member, each_of, each_map, member_at, member_of_filter, pairwise_map}
use Rattle.un_lists.proofs.Lists.{pairwise_more, pairwise_of_map, pairwise_filter, place_of as position_of}
use Rattle.un_model.proofs.Operations.{placed_get}
use Rattle.un_model.proofs.Placed.{Placed, Region, region_placed, vars_of, end_of, issue_at}
use Rattle.un_model.proofs.PlacedSchedules.{all, the_ranges, one_spot, definer_in}
use Rattle.un_model.proofs.Readings.{Solved, numbered, placed_domains, reading}
use Rattle.un_model.proofs.TempKinds.{carried_at, spot_carried}
use Rattle.un_press.specs.Accesses.{takes_register}
use Rattle.un_press.proofs.Counting.{Differ, length_mapped}
use Rattle.un_press.proofs.Crossings.{reg_of, held_spot, held_member, held_active, held_value}
use Rattle.un_press.proofs.Descent.{cycle_at, Reader, Held, IsOnTheWay, held}
use Rattle.un_press.proofs.Premises.{reads_active, takes_needs}
use Rattle.un_press.proofs.Reloading.{NeedsRegister, no_reader, reloads}
use Rattle.un_press.proofs.Spilling.{Several, by_end, placed_issue, same_end}
use Rattle.un_saved.specs.Reads.{reads_low, reads_saved}
use Rattle.un_saved.specs.Saved.{saved_in}
use Rattle.un_saved.specs.Standing.{place_at, taken_at, is_slot, in_slots}
use Rattle.un_saved.specs.declared.boundary.Boundary.TheVariants.{StartOf}
use Rattle.un_model.proofs.Regions.{of_region}
use Rattle.un_model.proofs.RegionEnds.{all_regions, region_member}
use Rattle.un_saved.proofs.Bounds.{block_is, Starts, starts, saved_apart, register_is}
use Rattle.un_saved.proofs.EntrySpills.{range_differ, range_below, count_filter, slot_register}
use Rattle.un_saved.proofs.OnePlace.{and_both, saved_at, saved_number}

-- ---- lists

all_pass : {A : Type 0} (p : A → Bool) (xs : List A) → list_all p xs ≡ true → Each (λ (x : A). p x ≡ true) xs
all_pass p [] h = tt
all_pass p (x ∷ xs) h = let two = and_both (p x) (list_all p xs) h in (two.0, all_pass p xs two.1)

is_there : (i : Option Op) → is_some i ≡ true → (op : Op) × (i ≡ Some op)
is_there None h = absurd (cc h)
is_there (Some op) h = (op, refl)

module _ (e : Ext) (o : Options) (values : List ℕ) (solved : Solved e o values) (k : ℕ) (r : Region)
    (at : slice_get (all_regions e o values solved.extended) k ≡ Some r) (read : reads_saved r.owner ≡ true) where
  abbrev cycle : Placed → ℕ
  cycle p = cycle_at e o values solved p

  -- a copy of the block that reloads, in time for its end
  pub record ReloadsByEnd (p : Placed) : Type 0 where
    pub member : Member p (all e o values)
    pub block : p.block ≡ r.block
    pub copy : is_copy p.op.kind ≡ true
    pub instr : (issue_at values p).instr ≡ Some Reload
    pub first : 0 < cycle p
    pub last : cycle p + latency_of e.table Reload ≤ end_of values p

  -- ---- what reads a saved value

  record User (v : TempId) : Type 0 where
    user : Placed
    member : Member user (all e o values)
    block : user.block ≡ r.block
    mandatory : is_mandatory user.op.kind ≡ true
    place : ℕ
    operand : Operand
    at_user : slice_get user.op.operands place ≡ Some operand
    reads : first_of operand.alts ≡ v.0
    takes : takes_register user.op.kind operand ≡ true

  used : (j : ℕ) (v : TempId) → slice_get (saved_in r.owner) j ≡ Some v → User v
  used j v here =
      let own : ExtBlock = r.owner in
      let vs = saved_in own in
      let told = each_member (λ (t : TempId). list_any (reads_low t.0) own.ops ≡ true) vs v
      (all_pass (λ (t : TempId). list_any (reads_low t.0) own.ops) vs read) (member_at vs j v here) in
      let found = any_of (reads_low v.0) own.ops told in
      let i = position_of own.ops found.0 found.1 in
      let got = placed_get r.block own (var_at (r.first + ops_count own.ops)) r.number r.first i.0 own.ops found.0 i.2 in
      let q = got.0 in
      let by : reads_low v.0 q.op ≡ true = ap (reads_low v.0) got.2 ∙ found.2 in
      let test = λ (y : Operand). first_of y.alts == v.0 && takes_register q.op.kind y in
      let two = and_both (is_mandatory q.op.kind) (list_any test q.op.operands) by in
      let y = any_of test q.op.operands two.1 in
      let both = and_both (first_of y.0.alts == v.0) (takes_register q.op.kind y.0) y.2 in
      let n = position_of q.op.operands y.0 y.1 in
      let m = member_at (region_placed r) i.0 q got.1 in
      record {
        user = q;
        member = region_member e o values solved.extended k r q at m;
        block = of_region r q m;
        mandatory = two.0;
        place = n.0;
        operand = y.0;
        at_user = n.2;
        reads = eqb-true (first_of y.0.alts) v.0 both.0;
        takes = both.1;
      }

  -- what issues an instruction is not at the block's start
  issues_late : (q : Placed) → Member q (all e o values) → (issue_at values q).active ≡ true → is_delimiter q.op.kind ≡ false → 0 < cycle q
  issues_late q m active inner =
      let v = vars_of q in
      let instr = instruction_of q.op.kind (value_by values v.instr) in
      let some : is_some instr ≡ true = sym (ap (λ (b : Bool). b || is_some instr) inner) ∙ active in
      let op = is_there instr some in
      let placed = subst (λ (i : Option Op). IfSome i (IsPlacedAs (cycle q) (end_of values q))) op.1 (placed_issue e o values solved q m) in
      let within = placed.0 in
      within.0

  module _ (j : ℕ) (v : TempId) (here : slice_get (saved_in r.owner) j ≡ Some v) where
    u_active : (let u = used j v here in (issue_at values u.user).active ≡ true)
    u_active = let u = used j v here in reads_active e o values solved u.user u.place u.operand u.member u.mandatory u.at_user

    user_late : (let u = used j v here in 0 < cycle u.user)
    user_late = let u = used j v here in by u.user.op.kind refl u.takes
      where
        by : (kind : ExtKind) → (let u = used j v here in u.user.op.kind ≡ kind)
            → (let u = used j v here in takes_register kind u.operand ≡ true) → (let u = used j v here in 0 < cycle u.user)
        by Out f t =
            let u = used j v here in
            let w = vars_of u.user in
            let d = placed_domains e o values solved u.user u.member in
            let some = d.close in
            let end : cycle u.user ≡ end_of values u.user = ap (λ (kind : ExtKind). cycle_by values (end_of values u.user) kind w) f in
            omega (arith, some, end)
        by (Body so) f t = let u = used j v here in issues_late u.user u.member u_active (ap is_delimiter f)
        by (End term) f t = let u = used j v here in issues_late u.user u.member u_active (ap is_delimiter f)
        by In f t = absurd (cc t)
        by (Copy node) f t = absurd (cc t)
        by Enter f t = absurd (cc t)
        by Leave f t = absurd (cc t)

    abbrev reader : Reader e o values solved v 0
    reader = let u = used j v here in record {
      user = u.user;
      member = u.member;
      active = u_active;
      place = u.place;
      operand = u.operand;
      at = u.at_user;
      value = ap temp u.reads;
      after = user_late;
    }

    needs : NeedsRegister e o values solved v 0 reader
    needs = let u = used j v here in takes_needs e o values solved v 0 reader u.takes

    abbrev began : Starts e o values solved k r at j v
    began = starts e o values solved k r at j v here

    start_cycle : (let b = began in let s = b.spot in cycle s.definer ≡ 0)
    start_cycle = let b = began in let s = b.spot in let w = vars_of s.definer in
        ap (λ (kind : ExtKind). cycle_by values (end_of values s.definer) kind w) b.kind

    carrying : Held e o values solved v 0 reader
    carrying =
        let b = began in
        let begins = start_cycle in
        held e o values solved v 0 b.spot b.member b.is (omega (arith, begins)) reader

    -- what is there in cycle 0 is the value itself
    itself : (let s = held_spot e o values solved v 0 reader carrying in s.temp ≡ v)
    itself = let s = held_spot e o values solved v 0 reader carrying in by s.definer.op.kind refl
      where
        own : (let s = held_spot e o values solved v 0 reader carrying in spot_carried s ≡ s.temp)
            → (let s = held_spot e o values solved v 0 reader carrying in s.temp ≡ v)
        own same = sym same ∙ held_value e o values solved v 0 reader carrying

        by : (kind : ExtKind) → (let s = held_spot e o values solved v 0 reader carrying in s.definer.op.kind ≡ kind)
            → (let s = held_spot e o values solved v 0 reader carrying in s.temp ≡ v)
        by (Copy node) f =
            let s = held_spot e o values solved v 0 reader carrying in
            let w = carrying in
            let none = w.from in
            let some = issues_late s.definer (definer_in e o values (numbered e o values solved) s
            (held_member e o values solved v 0 reader carrying))
            (held_active e o values solved v 0 reader carrying) (ap is_delimiter f) in
            absurd (omega (arith, none, some))
        by In f = let s = held_spot e o values solved v 0 reader carrying in own (ap (λ (z : ExtKind). carried_at z s) f)
        by Out f = let s = held_spot e o values solved v 0 reader carrying in own (ap (λ (z : ExtKind). carried_at z s) f)
        by (Body so) f = let s = held_spot e o values solved v 0 reader carrying in own (ap (λ (z : ExtKind). carried_at z s) f)
        by (End term) f = let s = held_spot e o values solved v 0 reader carrying in own (ap (λ (z : ExtKind). carried_at z s) f)
        by Enter f = let s = held_spot e o values solved v 0 reader carrying in own (ap (λ (z : ExtKind). carried_at z s) f)
        by Leave f = let s = held_spot e o values solved v 0 reader carrying in own (ap (λ (z : ExtKind). carried_at z s) f)

    module _ (reg : ℕ) (is : register_of (the_ranges e o values) v ≡ Some reg) (slot : FIRST_SLOT ≤ reg) where
      high : (let s = held_spot e o values solved v 0 reader carrying in FIRST_SLOT ≤ reg_of e o values solved s)
      high =
          let s = held_spot e o values solved v 0 reader carrying in
          let both : Some (reg_of e o values solved s) ≡ Some reg =
          sym (register_is e o values solved s (held_member e o values solved v 0 reader carrying))
          ∙ ap (register_of (the_ranges e o values)) itself ∙ is in
          let same : reg_of e o values solved s ≡ reg = cc both in
          omega (arith, same, slot)

      on_the_way : (let w = carrying in let u = used j v here in let q = w.reader in IsOnTheWay e o values solved q.user u.user)
      on_the_way = let w = carrying in elim w.way [
        | inl same ↦ absurd (direct same)
        | inr on ↦ on
      ]
        where
          direct : (let w = carrying in w.reader ≡ reader) → ⊥
          direct same =
              let w = carrying in
              no_reader e o values solved v 0 w.reader w.want w.wants w.reading
              (subst (λ (q : Reader e o values solved v 0). NeedsRegister e o values solved v 0 q) (sym same) needs) high

      -- it is reloaded, by the block's end
      start_reloads : (let w = carrying in let q = w.reader in ReloadsByEnd q.user)
      start_reloads =
          let w = carrying in
          let u = used j v here in
          let q = w.reader in
          let on = on_the_way in
          let reloaded = reloads e o values solved v 0 w.reader w.want w.wants w.reading on.copy high in
          let done = by_end e o values solved u.user u.member u_active in
          let end = same_end e o values solved q.user u.user q.member u.member w.block in
          let late : latency_by e.table (issue_at values q.user).instr ≡ latency_of e.table Reload = ap (latency_by e.table) reloaded in
          let ready = on.ready in
          record {
            member = q.member;
            block = w.block ∙ u.block;
            copy = on.copy;
            instr = reloaded;
            first = q.after;
            last = omega (arith, done, end, late, ready);
          }

  -- ---- all of them

  abbrev IsSlotted : ℕ → Type 0
  IsSlotted j = (j < saved_number e o values solved)
      × (is_slot (place_at (schedule_of (model_of e o) values) e.blocks (StartOf k) j) ≡ true)

  -- a saved value that stands in a slot at the start of the block, with what reloads it
  record Slotted : Type 0 where
    place : ℕ
    value : TempId
    here : slice_get (saved_in r.owner) place ≡ Some value
    reloader : (let w = carrying place value here in let q = w.reader in ReloadsByEnd q.user)

  slotted : (j : ℕ) → IsSlotted j → Slotted
  slotted j h =
      let b : ExtBlock = r.owner in
      let is_block = block_is e o values solved k r at in
      let found = saved_at e o values solved k b is_block j h.0 in
      let place = slot_register (place_at (schedule_of (model_of e o) values) e.blocks (StartOf k) j) h.1 in
      let is = sym (ap (λ (u : Option TempId). option_and_then (register_of (the_ranges e o values)) u) found.1)
      ∙ sym (ap (λ (c : Option ExtBlock). taken_at (schedule_of (model_of e o) values) c j) is_block) ∙ place.1 in
      record {
        place = j;
        value = found.0;
        here = found.1;
        reloader = start_reloads j found.0 found.1 place.0 is place.2;
      }

  abbrev reader_of : Slotted → Placed
  reader_of x = let w = carrying x.place x.value x.here in let q = w.reader in q.user

  -- a copy reads its one operand
  first_place : (kind : ExtKind) (n : ℕ) (want : Want) (p : Placed) → is_copy kind ≡ true
      → slice_get (wants_of e.table e.names e.blocks p.owner kind p.op) n ≡ Some want → n ≡ 0
  first_place (Copy node) zero want p c h = refl
  first_place (Copy node) (suc n) want p c h = absurd (cc h)
  first_place In n want p c h = absurd (cc c)
  first_place Out n want p c h = absurd (cc c)
  first_place (Body so) n want p c h = absurd (cc c)
  first_place (End term) n want p c h = absurd (cc c)
  first_place Enter n want p c h = absurd (cc c)
  first_place Leave n want p c h = absurd (cc c)

  readers_differ : (x y : Slotted) → (x.place ≡ y.place → ⊥) → reader_of x ≡ reader_of y → ⊥
  readers_differ x y ne one =
      let a = carrying x.place x.value x.here in
      let b = carrying y.place y.value y.here in
      let p = a.reader in
      let q = b.reader in
      let cx = x.reloader in
      let cy = y.reloader in
      let px : p.place ≡ 0 = first_place p.user.op.kind p.place a.want p.user cx.copy a.wants in
      let py : q.place ≡ 0 = first_place q.user.op.kind q.place b.want q.user cy.copy b.wants in
      let place : p.place ≡ q.place = px ∙ sym py in
      let both : Some p.operand ≡ Some q.operand = sym p.at ∙ ap (λ (z : Placed). slice_get z.op.operands p.place) one
      ∙ ap (slice_get q.user.op.operands) place ∙ q.at in
      let operand : p.operand ≡ q.operand = cc both in
      let da = a.reading in
      let db = b.reading in
      let temps : da.spot.temp ≡ db.spot.temp =
      da.is ∙ ap (λ (z : Placed). choice_of values (vars_of z) p.place p.operand) one
      ∙ ap (λ (n : ℕ). choice_of values (vars_of q.user) n p.operand) place
      ∙ ap (λ (z : Operand). choice_of values (vars_of q.user) q.place z) operand ∙ sym db.is in
      let spot_same = one_spot e o values (numbered e o values solved) da.spot db.spot da.member db.member (ap (λ (z : TempId). z.0) temps) in
      let value : x.value ≡ y.value =
      sym (held_value e o values solved x.value 0 (reader x.place x.value x.here) a) ∙ ap spot_carried spot_same
      ∙ held_value e o values solved y.value 0 (reader y.place y.value y.here) b in
      ne (saved_apart e o values solved k r at x.place y.place x.value x.here (y.here ∙ ap Some (sym value)))

  all_slotted : (js : List ℕ) → Each IsSlotted js → List Slotted
  all_slotted [] each = []
  all_slotted (j ∷ js) each = slotted j each.0 ∷ all_slotted js each.1

  slotted_places : (js : List ℕ) (each : Each IsSlotted js) → map (λ (x : Slotted). x.place) (all_slotted js each) ≡ js
  unfolding all_slotted slotted
  slotted_places [] each = refl
  slotted_places (j ∷ js) each = ap (λ (ks : List ℕ). j ∷ ks) (slotted_places js each.1)

  -- Each saved value that stands in a slot at the start of the block is reloaded in it.
  pub start_all_reloads : Several e o values solved ReloadsByEnd
      (in_slots (schedule_of (model_of e o) values) e.blocks (StartOf k) (saved_number e o values solved))
  start_all_reloads =
      let t = schedule_of (model_of e o) values in
      let test = λ (j : ℕ). is_slot (place_at t e.blocks (StartOf k) j) in
      let n = saved_number e o values solved in
      let js = filter test (range_with_len 0 n) in
      let each = each_of IsSlotted js (λ j m.
      let found = member_of_filter test (range_with_len 0 n) j m in
      let low = each_member (λ (i : ℕ). i < 0 + n) (range_with_len 0 n) j (range_below 0 n) found.0 in
      (omega (arith, low), found.1)) in
      let xs = all_slotted js each in
      let long = ap length (slotted_places js each) in
      let mapped = length_mapped (λ (x : Slotted). x.place) xs in
      let made = length_mapped reader_of xs in
      let count : in_slots t e.blocks (StartOf k) n ≡ length (filter test (range_with_len 0 n)) = count_filter test (range_with_len 0 n) in
      let apart : Pairwise (λ (x y : Slotted). x.place ≡ y.place → ⊥) xs = pairwise_of_map (λ (i j : ℕ). i ≡ j → ⊥)
      (λ (x : Slotted). x.place) xs
      (subst (λ (ks : List ℕ). Differ ks) (sym (slotted_places js each))
      (pairwise_filter (λ (i j : ℕ). i ≡ j → ⊥) test (range_with_len 0 n) (range_differ 0 n))) in
      record {
        listed = map reader_of xs;
        differ = pairwise_map (λ x y. x ≡ y → ⊥) reader_of xs (pairwise_more (λ (x y : Slotted). x.place ≡ y.place → ⊥)
            (λ (x y : Slotted). reader_of x ≡ reader_of y → ⊥) xs (λ x y mx my ne. readers_differ x y ne) apart);
        each = each_map ReloadsByEnd reader_of xs (each_of (λ (x : Slotted). ReloadsByEnd (reader_of x)) xs (λ x m. let c = x.reloader in c));
        many = omega (arith, long, mapped, made, count);
      }
