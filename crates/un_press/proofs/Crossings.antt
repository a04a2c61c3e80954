-- Values that are there in the cycle of an operation and are read after it: what carries them then has different registers, none of
-- which it clobbers, where it is a call. So what they are more than the registers that there are for them are in slots.
use Rattle.std.proofs.Common.{ℕ, ◌≡◌, ◌<◌, ◌≤◌, ◌+◌, Bool, true, false, List, [], ◌∷◌, length, map, filter, inl, inr, refl, sym}
use Rattle.std.proofs.Common.{ap, ◌∙◌, subst, arith}
use Rattle.std.specs.Prelude.{Some, slice_index_or, not, nat_le}
use Rattle.std.proofs.lemmas.Bool.{cases_lt}
use Rattle.std.proofs.lemmas.Bool.Decides.{nat_tests}
use Rattle.un_base.specs.declared.ids.TempId.{TempId}
use Rattle.un_isa.specs.Tables.{in_mask}
use Rattle.un_isa.specs.declared.op.Op.{Op}
use Rattle.un_isa.specs.declared.op.Op.TheVariants.{Call}
use Rattle.un_isa.specs.declared.reg.TheConstants.{FIRST_SLOT, REGISTERS}
use Rattle.un_isa.proofs.DoesLaws.{call_is}
use Rattle.un_ir.specs.Kinds.{is_call_kind}
use Rattle.un_ir.specs.declared.extended.ExtKind.{ExtKind}
use Rattle.un_ir.specs.declared.extended.ExtKind.TheVariants.{In, Out, Body, End, Copy, Enter, Leave}
use Rattle.un_ir.specs.declared.extended.Ext.{Ext}
use Rattle.un_model.specs.declared.model.Options.{Options}
use Rattle.un_model.specs.declared.schedule.Issue.{Issue}
use Rattle.un_model.specs.declared.schedule.LiveRange.{LiveRange}
use Rattle.un_model.specs.Instructions.{instruction_of}
use Rattle.un_model.specs.Schedules.{issues_of, value_by}
use Rattle.un_model.specs.Solutions.{Occupies, ShareNoCycle, SparesRange, IsSpared}
use Rattle.un_model.specs.Variables.{model_of}
use Rattle.un_lists.proofs.Lists.{Each, Pairwise, Member, each_member, each_all, each_of, each_map, pairwise_more, pairwise_map}
use Rattle.un_lists.proofs.Lists.{pairwise_filter}
use Rattle.un_lists.proofs.Lists.{pairwise_of_map, member_at, member_of_filter, index_get, length_get}
use Rattle.un_model.proofs.Placed.{Placed, vars_of, issue_at, Spot, all_count, at_number}
use Rattle.un_model.proofs.PlacedSchedules.{all, spots, definer_in, range_at, range_here, range_get, spot_range, one_spot, the_ranges}
use Rattle.un_model.proofs.PlacedSchedules.{issue_here}
use Rattle.un_model.proofs.Readings.{Solved, numbered, fit_kinds}
use Rattle.un_model.proofs.TempKinds.{carried_at, spot_carried, carried_is}
use Rattle.un_press.proofs.Counting.{Differ, pigeons, length_parts, length_mapped}
use Rattle.un_press.proofs.Descent.{cycle_at, Reader, Held, held}

-- ---- calls

call_instr : (kind : ExtKind) (n : ℕ) → is_call_kind kind ≡ true → instruction_of kind n ≡ Some Call
call_instr (Body so) n h = ap (λ (op : Op). Some op) (call_is so.op h)
call_instr In n h = absurd (cc h)
call_instr Out n h = absurd (cc h)
call_instr (End term) n h = absurd (cc h)
call_instr (Copy node) n h = absurd (cc h)
call_instr Enter n h = absurd (cc h)
call_instr Leave n h = absurd (cc h)

call_carries : (kind : ExtKind) (s : Spot) → is_call_kind kind ≡ true → carried_at kind s ≡ s.temp
call_carries (Body so) s h = refl
call_carries In s h = absurd (cc h)
call_carries Out s h = absurd (cc h)
call_carries (End term) s h = absurd (cc h)
call_carries (Copy node) s h = absurd (cc h)
call_carries Enter s h = absurd (cc h)
call_carries Leave s h = absurd (cc h)

module _ (e : Ext) (o : Options) (values : List ℕ) (h : Solved e o values) where
  abbrev pub reg_of : Spot → ℕ
  reg_of s = (spot_range e o values s).reg

  abbrev pub is_active : Spot → Bool
  is_active s = (spot_range e o values s).active

  -- it occupies its register in cycle t
  abbrev pub IsThere : Spot → ℕ → Type 0
  IsThere s t = Occupies (spot_range e o values s) t

  -- ---- clause 7

  shares : (s u : Spot) → Member s (spots e o values) → Member u (spots e o values) → s.temp.0 < u.temp.0
      → ShareNoCycle (spot_range e o values s) (spot_range e o values u)
  shares s u ms mu lt =
      let schedule = h.schedule in
      let registers = schedule.registers in
      let ranges = the_ranges e o values in
      let d = spot_range e o values s in
      let x = range_get e o values (numbered e o values h) s ms in
      let y = range_get e o values (numbered e o values h) u mu in
      subst (λ a. ShareNoCycle a (spot_range e o values u)) (index_get ranges s.temp.0 d (spot_range e o values s) x)
      (subst (λ b. ShareNoCycle (slice_index_or ranges s.temp.0 d) b) (index_get ranges u.temp.0 d (spot_range e o values u) y)
      (registers.0 s.temp.0 u.temp.0 d lt (length_get ranges u.temp.0 (spot_range e o values u) y)))

  not_both : (a b : LiveRange) (t : ℕ) → ShareNoCycle a b → a.active ≡ true → b.active ≡ true → a.block.0 ≡ b.block.0 → a.reg ≡ b.reg
      → Occupies a t → Occupies b t → ⊥
  unfolding ShareNoCycle
  not_both a b t s p q block reg x y = s p q block reg t x y

  -- two temporaries of a block that are there in one cycle have different registers
  pub other_register : (s u : Spot) (t : ℕ) → Member s (spots e o values) → Member u (spots e o values) → (s.temp.0 ≡ u.temp.0 → ⊥)
      → is_active s ≡ true → is_active u ≡ true → s.definer.block ≡ u.definer.block → IsThere s t → IsThere u t → reg_of s ≡ reg_of u → ⊥
  other_register s u t ms mu ne p q block x y reg = elim (cases_lt s.temp.0 u.temp.0) [
    | inl lt ↦ not_both (spot_range e o values s) (spot_range e o values u) t (shares s u ms mu lt) p q block reg x y
    | inr le ↦ elim (cases_lt u.temp.0 s.temp.0) [
      | inl lt ↦ not_both (spot_range e o values u) (spot_range e o values s) t (shares u s mu ms lt) q p (sym block) (sym reg) y x
      | inr ge ↦ ne (omega (arith, le, ge))
    ]
  ]

  one_spared : (clobbered : ℕ) (issues : List Issue) (i : Issue) (r : LiveRange) → IsSpared clobbered issues r → Member i issues
      → i.instr ≡ Some Call → r.active ≡ true → i.block.0 ≡ r.block.0 → Occupies r i.cycle → (i.op.0 ≡ r.op.0 → ⊥)
      → in_mask clobbered r.reg ≡ false
  unfolding IsSpared SparesRange
  one_spared clobbered issues i r all m call active block there other = by (in_mask clobbered r.reg) refl
    where
      by : (b : Bool) → in_mask clobbered r.reg ≡ b → in_mask clobbered r.reg ≡ false
      by false e = e
      by true e = absurd (other (each_member (λ (i : Issue). SparesRange clobbered i r) issues i
          (each_all (λ (i : Issue). SparesRange clobbered i r) issues all) m call active block e there))

  -- ---- what carries a value

  module _ (v : TempId) (t : ℕ) (last : Reader e o values h v t) (w : Held e o values h v t last) where
    abbrev pub held_spot : Spot
    held_spot = let d = w.reading in d.spot

    pub held_member : Member held_spot (spots e o values)
    held_member = let d = w.reading in d.member

    held_range : (let s = held_spot in range_at e o values s.temp.0 ≡ spot_range e o values s)
    held_range = range_here e o values (numbered e o values h) held_spot held_member

    pub held_active : is_active held_spot ≡ true
    held_active = let d = w.reading in subst (λ (r : LiveRange). r.active ≡ true) held_range d.active

    pub held_there : IsThere held_spot t
    held_there =
        let d = w.reading in
        let r = w.reader in
        let from = w.from in
        let after = r.after in
        let end : cycle_at e o values h r.user ≤ (spot_range e o values held_spot).last + 1 =
        subst (λ (v : LiveRange). cycle_at e o values h r.user ≤ v.last + 1) held_range d.last in
        (from, omega (arith, after, end))

    pub held_block : (let s = held_spot in s.definer.block ≡ last.user.block)
    held_block = let d = w.reading in d.block ∙ w.block

    pub held_value : spot_carried held_spot ≡ v
    held_value =
        let d = w.reading in
        let r = w.reader in
        sym (carried_is e o values (numbered e o values h) (fit_kinds e o values h) held_spot held_member) ∙ d.value ∙ r.value

  -- what carries two values of a block in one cycle has different registers
  pub held_differ : (v u : TempId) (t : ℕ) (p : Reader e o values h v t) (q : Reader e o values h u t) (a : Held e o values h v t p)
      (b : Held e o values h u t q) → p.user.block ≡ q.user.block → (v ≡ u → ⊥)
      → reg_of (held_spot v t p a) ≡ reg_of (held_spot u t q b) → ⊥
  held_differ v u t p q a b block ne =
      let s = held_spot v t p a in
      let z = held_spot u t q b in
      other_register s z t (held_member v t p a) (held_member u t q b)
      (λ same. ne (
      let one = one_spot e o values (numbered e o values h) s z (held_member v t p a) (held_member u t q b) same in
      sym (held_value v t p a) ∙ ap spot_carried one ∙ held_value u t q b))
      (held_active v t p a) (held_active u t q b) (held_block v t p a ∙ block ∙ sym (held_block u t q b)) (held_there v t p a)
      (held_there u t q b)

  -- ---- values that cross

  -- value v is defined by the cycle of operation c and is read after that; where c is a call, it is not its result
  pub record Crossing (c : Placed) (v : TempId) : Type 0 where
    pub own : Spot
    pub member : Member own (spots e o values)
    pub is : own.temp ≡ v
    pub early : cycle_at e o values h own.definer ≤ cycle_at e o values h c
    pub other : is_call_kind c.op.kind ≡ true → own.definer.number ≡ c.number → ⊥
    pub reader : Reader e o values h v (cycle_at e o values h c)
    pub block : reader.user.block ≡ c.block

  -- such a value with what carries it in the operation's cycle
  pub record Carried (c : Placed) : Type 0 where
    pub value : TempId
    pub crossing : Crossing c value
    pub held : Held e o values h value (cycle_at e o values h c) crossing.reader

  abbrev pub carry : (c : Placed) (v : TempId) → Crossing c v → Carried c
  carry c v x = record {
    value = v;
    crossing = x;
    held = held e o values h v (cycle_at e o values h c) x.own x.member x.is x.early x.reader;
  }

  abbrev pub carried_all : (c : Placed) (vs : List TempId) → Each (Crossing c) vs → List (Carried c)
  carried_all c [] each = []
  carried_all c (v ∷ vs) each = carry c v each.0 ∷ carried_all c vs each.1

  pub carried_values : (c : Placed) (vs : List TempId) (each : Each (Crossing c) vs) → map (λ k. k.value) (carried_all c vs each) ≡ vs
  carried_values c [] each = refl
  carried_values c (v ∷ vs) each = ap (λ us. v ∷ us) (carried_values c vs each.1)

  abbrev pub spot_in : (c : Placed) → Carried c → Spot
  spot_in c k = let w = k.held in let d = w.reading in d.spot

  module _ (c : Placed) (k : Carried c) where
    abbrev s : Spot
    s = spot_in c k

    pub spot_member : Member (spot_in c k) (spots e o values)
    spot_member = let x = k.crossing in held_member k.value (cycle_at e o values h c) x.reader k.held

    pub spot_active : is_active (spot_in c k) ≡ true
    spot_active = let x = k.crossing in held_active k.value (cycle_at e o values h c) x.reader k.held

    pub spot_there : IsThere (spot_in c k) (cycle_at e o values h c)
    spot_there = let x = k.crossing in held_there k.value (cycle_at e o values h c) x.reader k.held

    pub spot_block : (let q = spot_in c k in q.definer.block ≡ c.block)
    spot_block = let x = k.crossing in held_block k.value (cycle_at e o values h c) x.reader k.held ∙ x.block

    pub spot_value : spot_carried (spot_in c k) ≡ k.value
    spot_value = let x = k.crossing in held_value k.value (cycle_at e o values h c) x.reader k.held

    module _ (mc : Member c (all e o values)) (call : is_call_kind c.op.kind ≡ true) where
      -- the call does not give it
      spot_other : c.number ≡ s.definer.number → ⊥
      spot_other same =
          let x = k.crossing in
          let md = definer_in e o values (numbered e o values h) s spot_member in
          let a = at_number 0 (all e o values) s.definer c.number (all_count 0 0 0 e.blocks) md (sym same ∙ omega arith) in
          let b = at_number 0 (all e o values) c c.number (all_count 0 0 0 e.blocks) mc (omega arith) in
          let both : Some s.definer ≡ Some c = sym a ∙ b in
          let one : s.definer ≡ c = cc both in
          let kind : is_call_kind s.definer.op.kind ≡ true = ap (λ (p : Placed). is_call_kind p.op.kind) one ∙ call in
          let value : s.temp ≡ k.value = sym (call_carries s.definer.op.kind s kind) ∙ spot_value in
          let itself = one_spot e o values (numbered e o values h) s x.own spot_member x.member
          (ap (λ (t : TempId). t.0) (value ∙ sym x.is)) in
          x.other call (ap (λ (u : Spot). u.definer.number) (sym itself) ∙ sym same)

      -- nor does it clobber its register
      pub spot_kept : in_mask (e.table).clobbered (reg_of (spot_in c k)) ≡ false
      spot_kept =
          let schedule = h.schedule in
          let registers = schedule.registers in
          let issues = issues_of (model_of e o) values in
          let ranges = the_ranges e o values in
          let v = vars_of c in
          let mr = member_at ranges s.temp.0 (spot_range e o values s)
          (range_get e o values (numbered e o values h) s spot_member) in
          let spared = each_member (IsSpared (e.table).clobbered issues) ranges (spot_range e o values s)
          (each_all (IsSpared (e.table).clobbered issues) ranges registers.1) mr in
          one_spared (e.table).clobbered issues (issue_at values c) (spot_range e o values s) spared
          (member_at issues c.number (issue_at values c) (issue_here e o values c mc))
          (call_instr c.op.kind (value_by values v.instr) call) spot_active (sym spot_block) spot_there spot_other

  -- ---- registers

  -- what carries different values has different registers
  pub different : (c : Placed) (k l : Carried c) → (k.value ≡ l.value → ⊥) → reg_of (spot_in c k) ≡ reg_of (spot_in c l) → ⊥
  different c k l ne =
      let x = k.crossing in
      let y = l.crossing in
      held_differ k.value l.value (cycle_at e o values h c) x.reader y.reader k.held l.held (x.block ∙ sym y.block) ne

  -- the registers, but for slots, in which what is active in the block of call c may be, and which it does not clobber, are among these
  abbrev pub Covers : Placed → List ℕ → Type 0
  Covers c kept = (s : Spot) → Member s (spots e o values) → s.definer.block ≡ c.block → is_active s ≡ true → reg_of s < REGISTERS
      → in_mask (e.table).clobbered (reg_of s) ≡ false → Member (reg_of s) kept

  abbrev pub in_slot : (c : Placed) → Carried c → Bool
  in_slot c k = nat_le FIRST_SLOT (reg_of (spot_in c k))

  abbrev pub Differs : (c : Placed) → Carried c → Carried c → Type 0
  Differs c k l = k.value ≡ l.value → ⊥

  -- what carries a value in the cycle of operation c is in one of these registers, or in a slot
  abbrev pub HasRegister : Placed → List ℕ → Type 0
  HasRegister c kept = (k : Carried c) → reg_of (spot_in c k) < REGISTERS → Member (reg_of (spot_in c k)) kept

  -- that of a call is in one that the call keeps
  pub call_keeps : (c : Placed) → Member c (all e o values) → is_call_kind c.op.kind ≡ true → (kept : List ℕ) → Covers c kept
      → HasRegister c kept
  call_keeps c mc call kept covers k low =
      covers (spot_in c k) (spot_member c k) (spot_block c k) (spot_active c k) low (spot_kept c k mc call)

  -- of such values no more are in registers than there are for them
  pub many_in_slots : (c : Placed) → (kept : List ℕ) → HasRegister c kept
      → (ks : List (Carried c)) → Pairwise (Differs c) ks → length ks ≤ length kept + length (filter (in_slot c) ks)
  many_in_slots c kept has ks differ =
      let low = filter (λ k. not (in_slot c k)) ks in
      let parts = length_parts (in_slot c) ks in
      let regs = map (λ (k : Carried c). reg_of (spot_in c k)) low in
      let others : Differ regs = pairwise_map (λ x y. x ≡ y → ⊥) (λ (k : Carried c). reg_of (spot_in c k)) low
      (pairwise_more (Differs c) (λ k l. reg_of (spot_in c k) ≡ reg_of (spot_in c l) → ⊥) low (λ k l mk ml ne. different c k l ne)
      (pairwise_filter (Differs c) (λ k. not (in_slot c k)) ks differ)) in
      let there : Each (λ x. Member x kept) regs = each_map (λ x. Member x kept) (λ (k : Carried c). reg_of (spot_in c k)) low
      (each_of (λ k. Member (reg_of (spot_in c k)) kept) low
      (λ k m. has k (below (reg_of (spot_in c k)) (member_of_filter (λ k. not (in_slot c k)) ks k m).1))) in
      let le = pigeons regs kept others there in
      let long = length_mapped (λ (k : Carried c). reg_of (spot_in c k)) low in
      omega (arith, parts, le, long)
    where
      below : (reg : ℕ) → not (nat_le FIRST_SLOT reg) ≡ true → reg < REGISTERS
      below reg t = by (nat_le FIRST_SLOT reg) refl t
        where
          by : (b : Bool) → nat_le FIRST_SLOT reg ≡ b → not b ≡ true → reg < REGISTERS
          by true p n = absurd (cc n)
          by false p n = grind (arith, nat_tests, p)

  pub values_differ : (c : Placed) (vs : List TempId) (each : Each (Crossing c) vs) → Differ vs
      → Pairwise (Differs c) (carried_all c vs each)
  values_differ c vs each differ = pairwise_of_map (λ x y. x ≡ y → ⊥) (λ (k : Carried c). k.value) (carried_all c vs each)
      (subst (λ us. Differ us) (sym (carried_values c vs each)) differ)

  -- the registers and slots in which what is active in the block of call c may be, and which it does not clobber, are among these
  abbrev pub CoversAll : Placed → List ℕ → Type 0
  CoversAll c room = (s : Spot) → Member s (spots e o values) → s.definer.block ≡ c.block → is_active s ≡ true
      → in_mask (e.table).clobbered (reg_of s) ≡ false → Member (reg_of s) room

  -- no more values cross a call than there is room for
  pub across_fits : (c : Placed) → Member c (all e o values) → is_call_kind c.op.kind ≡ true → (room : List ℕ) → CoversAll c room
      → (vs : List TempId) → Each (Crossing c) vs → Differ vs → length vs ≤ length room
  across_fits c mc call room covers vs each differ =
      let ks = carried_all c vs each in
      let regs = map (λ (k : Carried c). reg_of (spot_in c k)) ks in
      let others : Differ regs = pairwise_map (λ x y. x ≡ y → ⊥) (λ (k : Carried c). reg_of (spot_in c k)) ks
      (pairwise_more (Differs c) (λ k l. reg_of (spot_in c k) ≡ reg_of (spot_in c l) → ⊥) ks (λ k l mk ml ne. different c k l ne)
      (values_differ c vs each differ)) in
      let there : Each (λ x. Member x room) regs = each_map (λ x. Member x room) (λ (k : Carried c). reg_of (spot_in c k)) ks
      (each_of (λ k. Member (reg_of (spot_in c k)) room) ks (λ k m. covers (spot_in c k) (spot_member c k) (spot_block c k)
      (spot_active c k)
      (spot_kept c k mc call))) in
      let le = pigeons regs room others there in
      let long = length_mapped (λ (k : Carried c). reg_of (spot_in c k)) ks in
      let a = ap length (carried_values c vs each) in
      let b = length_mapped (λ (k : Carried c). k.value) ks in
      omega (arith, le, long, a, b)
