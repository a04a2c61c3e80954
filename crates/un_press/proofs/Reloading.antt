-- The Reloads that values which cross a call owe after it, where what reads them then needs a register.
use Rattle.std.proofs.Common.{ℕ, zero, suc, ◌≡◌, ◌<◌, ◌≤◌, ◌+◌, true, List, [], ◌∷◌, length, map, filter, inl, inr, refl, sym}
use Rattle.std.proofs.Common.{ap, ◌∙◌, subst, arith, eq-eqb}
use Rattle.std.specs.Prelude.{Option, Some, slice_get, ◌||◌, ◌==◌, nat_le, nat_lt, is_some, IfSome}
use Rattle.un_base.specs.declared.ids.TempId.{TempId}
use Rattle.un_isa.specs.Tables.{latency_of}
use Rattle.un_isa.specs.declared.op.Op.TheVariants.{Reload}
use Rattle.un_isa.specs.declared.reg.Reg.{Reg}
use Rattle.un_isa.specs.declared.reg.TheConstants.{FIRST_SLOT, REGISTERS}
use Rattle.un_ir.specs.Extended.{IsGoodOperand, Want, wants_of, is_copy}
use Rattle.un_ir.specs.Kinds.{is_delimiter}
use Rattle.un_ir.specs.declared.extended.ExtKind.{ExtKind}
use Rattle.un_ir.specs.declared.extended.ExtKind.TheVariants.{In, Out, Body, End, Copy, Enter, Leave}
use Rattle.un_ir.specs.declared.extended.Operand.{Operand}
use Rattle.un_ir.specs.declared.extended.Ext.{Ext}
use Rattle.un_model.specs.declared.model.Options.{Options}
use Rattle.un_model.specs.declared.schedule.LiveRange.{LiveRange}
use Rattle.un_model.specs.Instructions.{instruction_of, latency_by, space_read, copy_of}
use Rattle.un_model.specs.Schedules.{value_by, choice_of}
use Rattle.un_model.specs.Solutions.{InSpace, HasHome}
use Rattle.un_model.specs.Variables.{model_of}
use Rattle.un_lists.proofs.Lists.{Each, Pairwise, Member, each_member, each_of, each_map, pairwise_more, pairwise_map, pairwise_filter}
use Rattle.un_lists.proofs.Lists.{member_of_filter}
use Rattle.un_model.proofs.Placed.{Placed, vars_of, end_of, issue_at}
use Rattle.un_model.proofs.PlacedSchedules.{all, range_at, range_here, spot_range, one_spot}
use Rattle.un_model.proofs.Readings.{Solved, numbered, placed_good, Reading, zip_get}
use Rattle.un_model.proofs.TempKinds.{spot_carried}
use Rattle.un_press.specs.Accesses.{is_reload, reloads_after, Reloads}
use Rattle.un_press.proofs.Counting.{Differ, length_mapped}
use Rattle.un_press.proofs.Crossings.{reg_of, Crossing, Carried, carried_all, carried_values, spot_in, spot_member}
use Rattle.un_press.proofs.Crossings.{spot_value, HasRegister, in_slot, Differs, many_in_slots, values_differ}
use Rattle.un_press.proofs.Descent.{cycle_at, Reader, IsOnTheWay}
use Rattle.un_press.proofs.Needs.{reads_slot}
use Rattle.un_press.proofs.Spilling.{Several, counted, fewer, three, lt_true, le_true, true_le, same_end, by_end}

module _ (e : Ext) (o : Options) (values : List ℕ) (h : Solved e o values) where
  abbrev cycle : Placed → ℕ
  cycle p = cycle_at e o values h p

  -- a reader takes no slot: by the space that its instruction asks for, or by the home of its operand
  abbrev pub NeedsRegister : (v : TempId) (t : ℕ) → Reader e o values h v t → Type 0
  NeedsRegister v t r = (reg : ℕ) → InSpace reg (space_read (issue_at values r.user).instr r.place)
      → IfSome r.operand.home (λ (x : Reg). reg ≡ x.0) → reg < REGISTERS

  -- value v is there in the cycle of operation c, and a reader after it needs a register
  pub record Wanted (c : Placed) (v : TempId) : Type 0 where
    pub crossing : Crossing e o values h c v
    pub needs : NeedsRegister v (cycle c) crossing.reader

  abbrev pub crossings : (c : Placed) (vs : List TempId) → Each (Wanted c) vs → Each (Crossing e o values h c) vs
  crossings c [] each = tt
  crossings c (v ∷ vs) each = (each.0.crossing, crossings c vs each.1)

  abbrev IsWanted : (c : Placed) → Carried e o values h c → Type 0
  IsWanted c k = let x = k.crossing in NeedsRegister k.value (cycle c) x.reader

  all_wanted : (c : Placed) (vs : List TempId) (each : Each (Wanted c) vs)
      → Each (IsWanted c) (carried_all e o values h c vs (crossings c vs each))
  all_wanted c [] each = tt
  all_wanted c (v ∷ vs) each = (each.0.needs, all_wanted c vs each.1)

  -- ---- what reads a slot

  module _ (v : TempId) (t : ℕ) (r : Reader e o values h v t) (want : Want)
      (wants : (let p = r.user in slice_get (wants_of e.table e.names e.blocks p.owner p.op.kind p.op) r.place ≡ Some want))
      (d : Reading e o values h r.user r.place r.operand want) where
    range : range_at e o values d.spot.temp.0 ≡ spot_range e o values d.spot
    range = range_here e o values (numbered e o values h) d.spot d.member

    read_space : InSpace (reg_of e o values h d.spot) (space_read (issue_at values r.user).instr r.place)
    read_space = subst (λ (w : LiveRange). InSpace w.reg (space_read (issue_at values r.user).instr r.place)) range d.space

    read_home : IfSome r.operand.home (λ (x : Reg). reg_of e o values h d.spot ≡ x.0)
    read_home =
        let p = r.user in
        let g = placed_good e o values h p r.member in
        let keeps = g.keeps in
        let z = zip_get (IsGoodOperand e.names e.blocks g.before) p.op.operands (wants_of e.table e.names e.blocks p.owner p.op.kind p.op)
        r.place r.operand keeps.operands r.at in
        let both : Some z.0 ≡ Some want = sym z.1 ∙ wants in
        let one : z.0 ≡ want = cc both in
        let ok = z.2 in
        let home : r.operand.home ≡ want.home = ok.home ∙ ap (λ (w : Want). w.home) one in
        subst (λ (x : Option Reg). IfSome x (λ (y : Reg). reg_of e o values h d.spot ≡ y.0)) (sym home)
        (subst (λ (w : LiveRange). HasHome want.home w) range d.home)

    -- not what needs a register
    pub no_reader : NeedsRegister v t r → FIRST_SLOT ≤ reg_of e o values h d.spot → ⊥
    no_reader needs slot =
        let lt = needs (reg_of e o values h d.spot) read_space read_home in
        omega (arith, lt, slot)

    -- a copy reads its one operand
    first_place : (kind : ExtKind) → (let p = r.user in p.op.kind ≡ kind) → is_copy kind ≡ true → r.place ≡ 0
    first_place (Copy node) k c = only r.place
        (subst (λ (z : ExtKind). let p = r.user in slice_get (wants_of e.table e.names e.blocks p.owner z p.op) r.place ≡ Some want) k
        wants)
      where
        only : (n : ℕ) → (let p = r.user in slice_get (wants_of e.table e.names e.blocks p.owner (Copy node) p.op) n ≡ Some want) → n ≡ 0
        only zero e = refl
        only (suc n) e = absurd (cc e)
    first_place In k c = absurd (cc c)
    first_place Out k c = absurd (cc c)
    first_place (Body so) k c = absurd (cc c)
    first_place (End term) k c = absurd (cc c)
    first_place Enter k c = absurd (cc c)
    first_place Leave k c = absurd (cc c)

    -- a copy that reads a slot reloads
    pub reloads : (let p = r.user in is_copy p.op.kind ≡ true) → FIRST_SLOT ≤ reg_of e o values h d.spot
        → (issue_at values r.user).instr ≡ Some Reload
    reloads copy slot = let p = r.user in by p.op.kind refl copy
      where
        by : (kind : ExtKind) → (let p = r.user in p.op.kind ≡ kind) → is_copy kind ≡ true → (issue_at values r.user).instr ≡ Some Reload
        by (Copy node) k c =
            let p = r.user in
            let vars = vars_of p in
            let n = value_by values vars.instr in
            let goes : is_some (copy_of n) ≡ true = sym (ap (λ (z : ExtKind). is_delimiter z || is_some (instruction_of z n)) k)
            ∙ r.active in
            let here : InSpace (reg_of e o values h d.spot) (space_read (issue_at values r.user).instr 0) =
            subst (λ (j : ℕ). InSpace (reg_of e o values h d.spot) (space_read (issue_at values r.user).instr j))
            (first_place (Copy node) k refl) read_space in
            let there = subst (λ (z : ExtKind). InSpace (reg_of e o values h d.spot) (space_read (instruction_of z n) 0)) k here in
            ap (λ (z : ExtKind). instruction_of z n) k ∙ reads_slot n (reg_of e o values h d.spot) goes there slot
        by In k c = absurd (cc c)
        by Out k c = absurd (cc c)
        by (Body so) k c = absurd (cc c)
        by (End term) k c = absurd (cc c)
        by Enter k c = absurd (cc c)
        by Leave k c = absurd (cc c)

  -- ---- Reloads

  abbrev reader_of : (c : Placed) → Carried e o values h c → Placed
  reader_of c k = let w = k.held in let r = w.reader in r.user

  -- a copy in the block of operation c reloads after its cycle, and what it gives is there by the end of the block
  pub record ReloadedAfter (c p : Placed) : Type 0 where
    pub member : Member p (all e o values)
    pub block : p.block ≡ c.block
    pub copy : is_copy p.op.kind ≡ true
    pub instr : (issue_at values p).instr ≡ Some Reload
    pub first : cycle c < cycle p
    pub last : cycle p + latency_of e.table Reload ≤ end_of values p

  module _ (c : Placed) (k : Carried e o values h c) (needs : IsWanted c k) (t : in_slot e o values h c k ≡ true) where
    slot : FIRST_SLOT ≤ reg_of e o values h (spot_in e o values h c k)
    slot = true_le FIRST_SLOT (reg_of e o values h (spot_in e o values h c k)) t

    -- what reads the slot is a copy on the way to the reader
    way : (let x = k.crossing in let r = x.reader in IsOnTheWay e o values h (reader_of c k) r.user)
    way = let w = k.held in elim w.way [
      | inl same ↦ absurd (here same)
      | inr on ↦ on
    ]
      where
        here : (let w = k.held in let x = k.crossing in w.reader ≡ x.reader) → ⊥
        here same =
            let w = k.held in
            let x = k.crossing in
            no_reader k.value (cycle c) w.reader w.want w.wants w.reading
            (subst (λ (r : Reader e o values h k.value (cycle c)). NeedsRegister k.value (cycle c) r) (sym same) needs) slot

    pub reloaded : (issue_at values (reader_of c k)).instr ≡ Some Reload
    reloaded = let w = k.held in let on = way in reloads k.value (cycle c) w.reader w.want w.wants w.reading on.copy slot

    pub by_copy : (let p = reader_of c k in is_copy p.op.kind ≡ true)
    by_copy = let on = way in on.copy

    pub one_operand : (let w = k.held in let r = w.reader in r.place ≡ 0)
    one_operand = let w = k.held in let p = reader_of c k in first_place k.value (cycle c) w.reader w.want w.wants w.reading p.op.kind refl
        by_copy

    pub reload_is : ReloadedAfter c (reader_of c k)
    reload_is =
        let w = k.held in
        let r = w.reader in
        let x = k.crossing in
        let last = x.reader in
        let on = way in
        let done = by_end e o values h last.user last.member last.active in
        let end = same_end e o values h r.user last.user r.member last.member w.block in
        let late : latency_by e.table (issue_at values r.user).instr ≡ latency_of e.table Reload = ap (latency_by e.table) reloaded in
        let ready = on.ready in
        record {
          member = r.member;
          block = w.block ∙ x.block;
          copy = on.copy;
          instr = reloaded;
          first = r.after;
          last = omega (arith, done, end, late, ready);
        }

  reloaders_differ : (c : Placed) (k l : Carried e o values h c) → IsWanted c k → IsWanted c l → in_slot e o values h c k ≡ true
      → in_slot e o values h c l ≡ true → Differs e o values h c k l → reader_of c k ≡ reader_of c l → ⊥
  reloaders_differ c k l nk nl tk tl ne one =
      let a = k.held in
      let b = l.held in
      let r = a.reader in
      let q = b.reader in
      let x : r.place ≡ 0 = one_operand c k nk tk in
      let y : q.place ≡ 0 = one_operand c l nl tl in
      let place : r.place ≡ q.place = x ∙ sym y in
      let both : Some r.operand ≡ Some q.operand = sym r.at ∙ ap (λ (p : Placed). slice_get p.op.operands r.place) one
      ∙ ap (slice_get q.user.op.operands) place ∙ q.at in
      let operand : r.operand ≡ q.operand = cc both in
      let da = a.reading in
      let db = b.reading in
      let temp : da.spot.temp ≡ db.spot.temp =
      da.is ∙ ap (λ (p : Placed). choice_of values (vars_of p) r.place r.operand) one
      ∙ ap (λ (j : ℕ). choice_of values (vars_of q.user) j r.operand) place
      ∙ ap (λ (z : Operand). choice_of values (vars_of q.user) q.place z) operand ∙ sym db.is in
      let spot_same = one_spot e o values (numbered e o values h) (spot_in e o values h c k) (spot_in e o values h c l)
      (spot_member e o values h c k) (spot_member e o values h c l) (ap (λ (z : TempId). z.0) temp) in
      ne (sym (spot_value e o values h c k) ∙ ap spot_carried spot_same ∙ spot_value e o values h c l)

  many_reload : (c : Placed) (ks : List (Carried e o values h c)) → Each (IsWanted c) ks → Pairwise (Differs e o values h c) ks
      → Several e o values h (ReloadedAfter c) (length (filter (in_slot e o values h c) ks))
  many_reload c ks wanted differ =
      let slot = in_slot e o values h c in
      let high = filter slot ks in
      let need : (k : Carried e o values h c) → Member k high → IsWanted c k =
      λ k m. each_member (IsWanted c) ks k wanted (member_of_filter slot ks k m).0 in
      let len = length_mapped (reader_of c) high in
      record {
        listed = map (reader_of c) high;
        differ = pairwise_map (λ x y. x ≡ y → ⊥) (reader_of c) high
            (pairwise_more (Differs e o values h c) (λ k l. reader_of c k ≡ reader_of c l → ⊥) high
            (λ k l mk ml ne. reloaders_differ c k l (need k mk) (need l ml) (member_of_filter slot ks k mk).1
            (member_of_filter slot ks l ml).1 ne)
            (pairwise_filter (Differs e o values h c) slot ks differ));
        each = each_map (ReloadedAfter c) (reader_of c) high (each_of (λ k. ReloadedAfter c (reader_of c k)) high
            (λ k m. reload_is c k (need k m) (member_of_filter slot ks k m).1));
        many = omega (arith, len);
      }

  -- The values that are there in an operation's cycle and are read after it by what needs a register are reloaded after it, but for as
  -- many as there are registers for them.
  pub reload_copies : (c : Placed) → (kept : List ℕ) → HasRegister e o values h c kept → (vs : List TempId) → Each (Wanted c) vs → Differ vs
      → (n : ℕ) → n + length kept ≤ length vs → Several e o values h (ReloadedAfter c) n
  reload_copies c kept has vs each differ n few =
      let cross = crossings c vs each in
      let ks = carried_all e o values h c vs cross in
      let apart = values_differ e o values h c vs cross differ in
      let some = many_in_slots e o values h c kept has ks apart in
      let a = ap length (carried_values e o values h c vs cross) in
      let b = length_mapped (λ (k : Carried e o values h c). k.value) ks in
      fewer e o values h (ReloadedAfter c) n (length (filter (in_slot e o values h c) ks)) (omega (arith, few, some, a, b))
      (many_reload c ks (all_wanted c vs each) apart)

  pub must_reload : (c : Placed) → (kept : List ℕ) → HasRegister e o values h c kept → (vs : List TempId) → Each (Wanted c) vs → Differ vs
      → (n : ℕ) → n + length kept ≤ length vs
      → Reloads (model_of e o) (record { values = values }) c.block (cycle_at e o values h c) n
  must_reload c kept has vs each differ n few =
      counted e o values h (ReloadedAfter c) (reloads_after e.table c.block (cycle c)) n (λ p s. s.member) (λ p s.
      three (p.block == c.block) (is_reload (issue_at values p).instr) (nat_lt (cycle c) (cycle p))
      (nat_le (cycle p + latency_of e.table Reload) (end_of values p)) (eq-eqb p.block c.block s.block) (ap is_reload s.instr)
      (lt_true (cycle c) (cycle p) s.first) (le_true (cycle p + latency_of e.table Reload) (end_of values p) s.last))
      (reload_copies c kept has vs each differ n few)
