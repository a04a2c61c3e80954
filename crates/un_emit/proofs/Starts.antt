-- The function's start: with a frame's room below the stack pointer, what the entry takes stands in its places.
use Rattle.std.proofs.Common.{ℕ, zero, suc, ◌≡◌, ◌<◌, ◌+◌, ◌-◌, ◌/◌, ◌%◌, ◌^◌, Bool, true, false, List, [], ◌∷◌, ◌++◌, length, map}
use Rattle.std.proofs.Common.{replicate, get_or, inl, inr, refl, sym, ap, ◌∙◌, subst, arith}
use Rattle.std.specs.Prelude.{Option, Some, None, slice_get, slice_index, unwrap_or, nat_eq, ◌==◌, if◌then◌else◌}
use Rattle.std.specs.Option.{option_map}
use Rattle.std.specs.List.{range_with_len}
use Rattle.std.proofs.lemmas.List.{length-append}
use Rattle.un_base.specs.declared.ids.NameId.{NameId}
use Rattle.un_base.specs.declared.ids.TempId.{TempId}
use Rattle.un_isa.specs.Fit.{IsFit}
use Rattle.un_isa.specs.Tables.{in_mask}
use Rattle.un_isa.specs.Registers.{saved_registers, callee_saved}
use Rattle.un_isa.specs.declared.reg.Reg.{Reg}
use Rattle.un_isa.specs.declared.reg.TheConstants.{STACK, LINK, GENERALS, REGISTERS, FIRST_SLOT}
use Rattle.un_isa.specs.declared.start.Start.{Start}
use Rattle.un_isa.specs.declared.table.Table.{Table}
use Rattle.un_ir.specs.declared.function.Kind.{Kind}
use Rattle.un_ir.specs.declared.function.Kind.TheVariants.{General, Pred}
use Rattle.un_ir.specs.declared.extended.ExtKind.{ExtKind}
use Rattle.un_ir.specs.declared.extended.ExtBlock.{ExtBlock}
use Rattle.un_ir.specs.declared.extended.Ext.{Ext}
use Rattle.un_ir.specs.Extended.{name_kind, in_kinds}
use Rattle.un_ir.specs.Linear.{in_temps, first_saved, first_values, first_world}
use Rattle.un_model.specs.Solutions.{InDomain}
use Rattle.un_model.specs.declared.model.Options.{Options}
use Rattle.un_model.specs.declared.schedule.LiveRange.{LiveRange}
use Rattle.un_model.specs.Emission.{frame_of, frame_bytes, largest_slot}
use Rattle.un_model.specs.Registers.{start_home, reg_at}
use Rattle.un_model.specs.Schedules.{schedule_of}
use Rattle.un_model.specs.Cost.{value_of}
use Rattle.un_model.specs.Variables.{model_of, register_domain, result_domain, home_domain, carried, start_domain}
use Rattle.un_packet.specs.Run.{first_state}
use Rattle.un_simulation.specs.Simulation.{CanStart, as_held, held_at}
use Rattle.un_lists.proofs.Lists.{Member, each_member, each_all, member_at, member_map, member_of_filter, get_below, length_get}
use Rattle.un_model.proofs.Operations.{contains_member}
use Rattle.un_model.proofs.Placed.{Placed, spot, spots_of}
use Rattle.un_model.proofs.PlacedSchedules.{all, spots, range_at, range_here, member_joined, member_places}
use Rattle.un_model.proofs.OpDomains.{in_entry, register_sits}
use Rattle.un_model.proofs.TempKinds.{kind_at, kind_or}
use Rattle.un_model.proofs.Readings.{Solved, numbered, fit_kinds, placed_domains}
use Rattle.un_emit.proofs.BlockJobs.{InRegion}
use Rattle.un_emit.proofs.BlockValues.{of_all}
use Rattle.un_emit.proofs.FramePlace.{held_reg}
use Rattle.un_emit.proofs.Stack.{stack_first}
use Rattle.un_emit.proofs.BlockStarts.{AtStart}
use Rattle.un_emit.proofs.BlockEnds.{owner_of}
use Rattle.un_emit.proofs.InOps.{InOp, in_op, start_count, start_kind}
use Rattle.un_emit.proofs.Edges.{length-mapped, none_past, index_left, index_right, index_of_map, get_left, get_right, get_map, get_repeat}

length-repeat : (n x : ℕ) → length (replicate n x) ≡ n
length-repeat zero x = refl
length-repeat (suc n) x = ap suc (length-repeat n x)

get_zeros : (n k : ℕ) → get_or (replicate n zero) k zero ≡ zero
get_zeros zero k = refl
get_zeros (suc n) zero = refl
get_zeros (suc n) (suc k) = get_zeros n k

index_some : (xs : List ℕ) (k x : ℕ) → slice_get xs k ≡ Some x → slice_index xs k ≡ x
index_some [] k x q = absurd (cc q)
index_some (y ∷ ys) zero x q = let z : y ≡ x = cc q in z
index_some (y ∷ ys) (suc k) x q = index_some ys k x q

home_is : (r v : ℕ) → InDomain v (home_domain (Some (reg_at r))) → v ≡ r
home_is r v d = go (contains_member (r ∷ []) v d)
  where
    go : Member v (r ∷ []) → v ≡ r
    go (inl e) = sym e
    go (inr m) = elim m [ ]

-- the registers of the arguments
arg_is : (t : Table) → IsFit t → (n : ℕ) → n < 6 → slice_index t.args n ≡ n
arg_is t fit n lt = ap (λ xs. slice_index xs n) fit.args ∙ go n lt
  where
    go : (n : ℕ) → n < 6 → slice_index (0 ∷ 1 ∷ 2 ∷ 3 ∷ 4 ∷ 5 ∷ []) n ≡ n
    go zero lt = refl
    go (suc zero) lt = refl
    go (suc (suc zero)) lt = refl
    go (suc (suc (suc zero))) lt = refl
    go (suc (suc (suc (suc zero)))) lt = refl
    go (suc (suc (suc (suc (suc zero))))) lt = refl
    go (suc (suc (suc (suc (suc (suc n)))))) lt = absurd (omega arith)

range_below : (a n r : ℕ) → Member r (range_with_len a n) → r < a + n
range_below a zero r m = elim m [ ]
range_below a (suc n) r (inl e) = omega arith
range_below a (suc n) r (inr m) = let z = range_below (a + 1) n r m in omega arith

callee_small : (t : Table) (r : ℕ) → Member r (callee_saved t) → r < GENERALS
unfolding callee_saved
callee_small t r m = range_below 0 GENERALS r (member_of_filter (in_mask t.saved) (range_with_len 0 GENERALS) r m).0

saved_small : (t : Table) (r : ℕ) → Member r (saved_registers t) → r < FIRST_SLOT
saved_small t r m = go (callee_saved t) (λ q n. callee_small t q n) m
  where
    go : (xs : List ℕ) → ((q : ℕ) → Member q xs → q < GENERALS) → Member r (xs ++ LINK ∷ []) → r < FIRST_SLOT
    go [] f (inl e) = omega arith
    go [] f (inr m) = elim m [ ]
    go (x ∷ xs) f (inl e) = let z = f r (inl e) in omega arith
    go (x ∷ xs) f (inr m) = go xs (λ q n. f q (inr n)) m

module _ (e : Ext) (o : Options) (values : List ℕ) (h : Solved e o values) (entry : ExtBlock) (at : slice_get e.blocks 0 ≡ Some entry)
    (r : InRegion (all e o values) 0 entry) (s : Start) (can : CanStart s (frame_of (model_of e o) values)) where
  abbrev pub base : ℕ
  base = slice_index s.regs STACK - frame_of (model_of e o) values

  -- a value at the start: its register, and what that has
  record Begins (j : ℕ) (x : TempId) : Type 0 where
    place : ℕ
    small : place < FIRST_SLOT
    register : (range_at e o values x.0).reg ≡ place
    value : slice_index (first_values e.table entry.live_in s) j ≡ slice_index s.regs place
    kind : kind_at e o values (numbered e o values h) (fit_kinds e o values h) x.0 ≡ General

  begins : (j : ℕ) (x : TempId) → slice_get (in_temps entry.ops) j ≡ Some x → Begins j x
  begins j x q = go (slice_get entry.live_in j) refl
    where
      i : InOp e o values h 0 entry r at
      i = in_op e o values h 0 entry r at

      p : Placed
      p = i.placed

      in_all : Member p (all e o values) × (p.block ≡ 0)
      in_all = of_all e o values h 0 entry r p i.member

      got : slice_get p.op.results j ≡ Some x
      got = ap (λ xs. slice_get xs j) (sym i.results) ∙ q

      mu : Member (spot p j x) (spots e o values)
      mu = member_joined (map spots_of (all e o values)) (spots_of p) (spot p j x) (member_map spots_of (all e o values) p in_all.0)
          (member_places (spot p) p.op.results 0 j j x (omega arith) got)

      lt : j < length entry.live_in + length (saved_registers e.table)
      lt = let z = length_get (in_temps entry.ops) j x q in let y = start_count e o values h 0 entry r at in omega (arith, z, y)

      -- its register is its home
      sits : InDomain (range_at e o values x.0).reg (home_domain (start_home e.table true entry.live_in j (slice_get entry.live_in j)))
      sits =
          let d = register_sits e o values (in_entry e o values p) p j x (placed_domains e o values h p in_all.0) got in
          let ie : in_entry e o values p ≡ true = ap (λ n. nat_eq n 0) in_all.1 in
          let reg = ap (λ (g : LiveRange). g.reg) (range_here e o values (numbered e o values h) (spot p j x) mu) in
          let d1 = subst (λ v. InDomain v (result_domain e o (in_entry e o values p) p.owner p.op j x)) (sym reg) d in
          let d2 = subst (λ b. InDomain (range_at e o values x.0).reg (result_domain e o b p.owner p.op j x)) ie d1 in
          let d3 = subst (λ (k : ExtKind). InDomain (range_at e o values x.0).reg (register_domain e o true p.owner k j x (carried p.op x)))
          i.kind d2 in
          subst (λ (b : ExtBlock). InDomain (range_at e o values x.0).reg (start_domain e o true b j x))
          (owner_of e o values h 0 entry r at p i.member) d3

      kind_is : kind_at e o values (numbered e o values h) (fit_kinds e o values h) x.0 ≡ kind_or
          (in_kinds e.names entry.live_in (length (in_temps entry.ops))) j
      kind_is = start_kind e o values h 0 entry r at j x q

      go : (n : Option NameId) → slice_get entry.live_in j ≡ n → Begins j x
      go (Some name) y =
          let ext = h.extended in
          let g = ext.good in
          let par = each_member (λ (name : NameId). (name.0 < 6) × (name_kind e.names name ≡ General)) entry.live_in name
          (each_all (λ (name : NameId). (name.0 < 6) × (name_kind e.names name ≡ General)) entry.live_in (g.params entry at))
          (member_at entry.live_in j name y) in
          let small = length_get entry.live_in j name y in
          let len = length-mapped (λ (name : NameId). slice_index s.regs name.0) entry.live_in in
          record {
            place = name.0;
            small = let z = par.0 in omega arith;
            register = home_is (slice_index (e.table).args name.0) (range_at e o values x.0).reg
                (subst (λ (n : Option NameId). InDomain (range_at e o values x.0).reg
                (home_domain (start_home e.table true entry.live_in j n))) y sits) ∙ arg_is e.table h.fit name.0 par.0;
            value = index_left (map (λ (name : NameId). slice_index s.regs name.0) entry.live_in) (first_saved e.table s) j
                (omega (arith, small, len)) ∙ index_of_map (λ (name : NameId). slice_index s.regs name.0) entry.live_in j name y;
            kind = kind_is ∙ ap (λ (z : Option Kind). unwrap_or z General)
                (get_left (map (name_kind e.names) entry.live_in) (replicate (length (in_temps entry.ops) - length entry.live_in) General) j
                (name_kind e.names name) (get_map (name_kind e.names) entry.live_in j name y)) ∙ par.1;
          }
      go None y =
          let le = none_past entry.live_in j y in
          let l = lt in
          let sv = get_below (saved_registers e.table) (j - length entry.live_in) (omega (arith, l, le)) in
          let len = length-mapped (λ (name : NameId). slice_index s.regs name.0) entry.live_in in
          let ln = length-mapped (name_kind e.names) entry.live_in in
          let sc = start_count e o values h 0 entry r at in
          record {
            place = sv.0;
            small = saved_small e.table sv.0 (member_at (saved_registers e.table) (j - length entry.live_in) sv.0 sv.1);
            register = home_is sv.0 (range_at e o values x.0).reg
                (subst (λ (z : Option Reg). InDomain (range_at e o values x.0).reg (home_domain z)) (ap (option_map reg_at) sv.1)
                (subst (λ (n : Option NameId). InDomain (range_at e o values x.0).reg
                (home_domain (start_home e.table true entry.live_in j n))) y sits));
            value = index_right (map (λ (name : NameId). slice_index s.regs name.0) entry.live_in) (first_saved e.table s) j
                (j - length entry.live_in) (omega (arith, len, le))
                ∙ index_of_map (slice_index s.regs) (saved_registers e.table) (j - length entry.live_in) sv.0 sv.1;
            kind = kind_is ∙ ap (λ (z : Option Kind). unwrap_or z General)
                (get_right (map (name_kind e.names) entry.live_in) (replicate (length (in_temps entry.ops) - length entry.live_in) General)
                j (j - length entry.live_in) (omega (arith, ln, le))
                ∙ get_repeat (length (in_temps entry.ops) - length entry.live_in) (j - length entry.live_in) General
                (omega (arith, sc, l, le)));
          }

  -- where the frame's bytes fit below the stack pointer, which is a word and a multiple of 8
  frame_eights : (u v : ℕ) → (if u == 0 then 0 else frame_bytes v) % 4 ≡ 0
  frame_eights u v = by (u == 0)
    where
      by : (b : Bool) → (if b then 0 else frame_bytes v) % 4 ≡ 0
      by true = refl
      by false = omega arith

  pub base_even : base % 4 ≡ 0
  base_even =
      let f = frame_eights (value_of values (let m = model_of e o in m.flag))
      (largest_slot (let m = schedule_of (model_of e o) values in m.ranges)) in
      let a = can.aligned in
      let l = can.room in
      omega (arith, f, a, l)

  pub base_top : base + frame_of (model_of e o) values ≡ slice_index s.regs STACK
  base_top = let l = can.room in omega (arith, l)

  pub base_room : base + frame_of (model_of e o) values < 2 ^ 32
  base_room =
      let n = get_below s.regs 29 (let l = can.regs_len in omega (arith, l)) in
      let w = each_member (λ v. v < 2 ^ 32) s.regs n.0 (each_all (λ v. v < 2 ^ 32) s.regs can.regs) (member_at s.regs 29 n.0 n.1) in
      subst (λ v. v < 2 ^ 32) (sym (base_top ∙ index_some s.regs 29 n.0 n.1)) w

  -- the entry's start
  pub at_first : AtStart e o values h 0 entry r at base (first_values e.table entry.live_in s) (first_world s)
      (first_state (frame_of (model_of e o) values) s)
  at_first = record {
    regs_long = can.regs_len;
    ready_long = length-repeat REGISTERS 0;
    frame_long = length-repeat (frame_of (model_of e o) values / 4) 0;
    frame_start = refl;
    world = refl;
    taken_long =
        let a = start_count e o values h 0 entry r at in
        let l1 = length-mapped (λ (name : NameId). slice_index s.regs name.0) entry.live_in in
        let l2 = length-mapped (slice_index s.regs) (saved_registers e.table) in
        length-append (map (λ (name : NameId). slice_index s.regs name.0) entry.live_in) (first_saved e.table s) ∙ omega (arith, a, l1, l2);
    places = λ j x q.
        let b = begins j x q in
        let n = (range_at e o values x.0).reg in
        let st = first_state (frame_of (model_of e o) values) s in
        ap (held_at st) b.register ∙ held_reg st b.place b.small ∙ sym b.value
        ∙ ap (λ (k : Kind). as_held k n (slice_index (first_values e.table entry.live_in s) j)) (sym b.kind);
    ready = λ j x q lt. let z = get_zeros REGISTERS (range_at e o values x.0).reg in omega (arith, z);
    truths = λ j x q k. let b = begins j x q in let z : General ≡ Pred = sym b.kind ∙ k in absurd (cc z);
    stack = sym base_top ∙ sym (stack_first e o values h 0 entry r at base base_room refl);
    stack_ready = let z = get_zeros REGISTERS 29 in omega (arith, z);
  }
