-- Each solution meets what is posted of two operands that read different values: both temporaries are there in the cycle before
-- the operation's, so that they have different registers.
use Rattle.std.proofs.Common.{ℕ, suc, ◌≡◌, ◌⊎◌, ◌+◌, ◌-◌, ◌<◌, ◌≤◌, Bool, true, false, List, [], ◌∷◌, inl, inr, refl, sym, ap}
use Rattle.std.proofs.Common.{◌∙◌, subst, arith, eq-eqb}
use Rattle.std.specs.Prelude.{Option, Some, not, is_some, ◌||◌, ◌&&◌, nat_eq, slice_get, slice_index, if◌then◌else◌}
use Rattle.std.specs.Option.{option_map}
use Rattle.std.proofs.lemmas.Bool.Decides.{nat_tests}
use Rattle.un_base.specs.declared.ids.TempId.{TempId}
use Rattle.un_base.specs.declared.ids.VarId.{VarId}
use Rattle.un_isa.specs.declared.op.Op.{Op}
use Rattle.un_ir.specs.Linear.{first_of}
use Rattle.un_ir.specs.Extended.{temp, carried, IsGoodKind, IsSourceOp}
use Rattle.un_ir.specs.declared.function.SrcOp.{SrcOp}
use Rattle.un_ir.specs.declared.extended.ExtKind.{ExtKind}
use Rattle.un_ir.specs.declared.extended.ExtKind.TheVariants.{In, Out, Body, End, Copy, Enter, Leave}
use Rattle.un_ir.specs.declared.extended.Operand.{Operand}
use Rattle.un_ir.specs.declared.extended.Ext.{Ext}
use Rattle.un_domains.specs.Sets.{has}
use Rattle.un_model.specs.declared.model.Options.{Options}
use Rattle.un_model.specs.declared.schedule.LiveRange.{LiveRange}
use Rattle.un_model.proofs.Gaps.{gap_source, latency_some}
use Rattle.un_model.specs.Instructions.{space_read, instruction_of}
use Rattle.un_model.specs.Pairs.{places_from, joined}
use Rattle.un_ir.specs.Kinds.{is_delimiter, has_choices}
use Rattle.un_model.specs.Schedules.{schedule_of, read_of, value_by}
use Rattle.un_model.specs.Solutions.{IsSchedule, InSpace, ShareNoCycle, latency_gap}
use Rattle.un_model.specs.Variables.{model_of, var_at, choice_place, register_place, carried as carried_here}
use Rattle.un_lists.proofs.Lists.{Each, Pairwise, Member, each_of, each_join, member_at, pairwise_all, pairwise_of_map, pairwise_two}
use Rattle.un_lists.proofs.Lists.{slice_get-map}
use Rattle.un_model.proofs.OpDomains.{in_entry, register_sits}
use Rattle.un_model.proofs.Placed.{Placed, vars_of, issue_at, Spot}
use Rattle.un_model.proofs.PlacedSchedules.{all, spots, spot_range, the_ranges, one_spot, has_read, good_read}
use Rattle.un_alt.specs.Registers.{place_of as chosen_place}
use Rattle.un_rect.specs.Operands.{side_passes}
use Rattle.un_kinds.specs.Constraints.{Constraint, meets, AllMet, Operands}
use Rattle.un_sites.specs.Places.{Definer, definers_of, definers_at}
use Rattle.un_sites.specs.Postings.{registers_in, registers_of}
use Rattle.un_sites.specs.Rooms.{each_two, operand_side, two_by, one_value, two_at, twos_in, twos_of}
use Rattle.un_post.proofs.Facts.{Given, Reading, numbered, good_op, all_member, in_domains, definer_is, choice_var, reading, read_temp, read_definer}
use Rattle.un_post.proofs.Meeting.{Met, passes_get}
use Rattle.un_post.proofs.Placing.{place_of, definer_at}
use Rattle.un_post.proofs.RegisterBounds.{register_below}
use Rattle.un_post.proofs.SpaceSets.{in_space}
use Rattle.un_post.proofs.Tests.{and_iff}
use Rattle.un_post.proofs.Whole.{posted_each, ranges_are}

-- ---- each two of a list

each_from : {X Y : Type 0} (P : Y → Type 0) (f : ℕ → X → List Y) (n : ℕ) (xs : List X)
    → ((j : ℕ) (b : X) → slice_get xs j ≡ Some b → Each P (f (n + j) b)) → Each P (joined (places_from f n xs))
each_from P f n [] h = tt
each_from P f n (x ∷ xs) h =
    let z : n + 0 ≡ n = omega arith in
    each_join P (f n x) (joined (places_from f (n + 1) xs)) (subst (λ k. Each P (f k x)) z (h 0 x refl))
    (each_from P f (n + 1) xs (λ j b at. let w : n + suc j ≡ n + 1 + j = omega arith in subst (λ k. Each P (f k b)) w (h (suc j) b at)))

two_each : {X Y : Type 0} (P : Y → Type 0) (f : ℕ → X → ℕ → X → List Y) (n : ℕ) (xs : List X)
    → ((i j : ℕ) (a b : X) → i < j → slice_get xs i ≡ Some a → slice_get xs j ≡ Some b → Each P (f (n + i) a (n + j) b))
    → Each P (each_two f n xs)
two_each P f n [] h = tt
two_each P f n (x ∷ xs) h =
    let z : n + 0 ≡ n = omega arith in
    each_join P (joined (places_from (f n x) (n + 1) xs)) (each_two f (n + 1) xs)
    (each_from P (f n x) (n + 1) xs (λ j b at.
    let w : n + suc j ≡ n + 1 + j = omega arith in
    subst (λ k. Each P (f n x k b)) w (subst (λ k. Each P (f k x (n + suc j) b)) z (h 0 (suc j) x b (omega arith) refl at))))
    (two_each P f (n + 1) xs (λ i j a b lt at bt.
    let w : n + suc j ≡ n + 1 + j = omega arith in
    let v : n + suc i ≡ n + 1 + i = omega arith in
    subst (λ k. Each P (f (n + 1 + i) a k b)) w (subst (λ k. Each P (f k a (n + suc j) b)) v (h (suc i) (suc j) a b (omega arith) at bt))))

-- ---- two spans

registers_differ : (a b : LiveRange) (c : ℕ) → ShareNoCycle a b → a.active ≡ true → b.active ≡ true
    → (let i = a.block in let j = b.block in i.0 ≡ j.0)
    → a.from ≤ c → c ≤ a.last → b.from ≤ c → c ≤ b.last → a.reg ≡ b.reg → ⊥
unfolding ShareNoCycle
registers_differ a b c share p q block lo hi low high same = share p q block same c (lo, hi) (low, high)

unequal : (a b : ℕ) → (a ≡ b → ⊥) → not (nat_eq a b) ≡ true
unequal a b h = by (nat_eq a b) refl
  where
    by : (t : Bool) → nat_eq a b ≡ t → not t ≡ true
    by false e = refl
    by true e = absurd (h (grind (arith, nat_tests, e)))

module _ (e : Ext) (o : Options) (x : List ℕ) (given : Given e o x) where
  abbrev ds : List Definer
  ds = definers_of (model_of e o)

  -- what an operation reads is there: active, in its space, ready, and not gone yet
  pub record IsThere (q : Placed) (j : ℕ) (s : Spot) : Type 0 where
    pub active : (spot_range e o x s).active ≡ true
    pub space : InSpace (spot_range e o x s).reg (space_read (issue_at x q).instr j)
    pub ready : (spot_range e o x s).from + latency_gap e.table (spot_range e o x s).instr (issue_at x q).instr ≤ (issue_at x q).cycle
    pub last : (issue_at x q).cycle ≤ (spot_range e o x s).last + 1

  -- so is all that it reads, and no two temporaries of its block share a register in a cycle
  pub record IsKept (q : Placed) : Type 0 where
    pub there : (j : ℕ) (operand : Operand) (rd : Reading e o x given q j operand) → slice_get q.op.operands j ≡ Some operand
        → (issue_at x q).active ≡ true → IsThere q j rd.spot
    pub shares : (s u : Spot) → Member s (spots e o x) → Member u (spots e o x) → s.definer.block ≡ q.block → u.definer.block ≡ q.block
        → (s ≡ u) ⊎ (ShareNoCycle (spot_range e o x s) (spot_range e o x u) ⊎ ShareNoCycle (spot_range e o x u) (spot_range e o x s))

  -- what an operand of an operation of the source holds in the cycle before
  record Held (q : Placed) (j : ℕ) (operand : Operand) : Type 0 where
    pub spot : Spot
    pub member : Member spot (spots e o x)
    pub block : spot.definer.block ≡ q.block
    pub value : carried e.blocks spot.temp ≡ temp (first_of operand.alts)
    pub register : slice_get (registers_of (definers_at ds operand.alts)) (slice_index x (q.first + choice_place q.op + j)) ≡ Some
        (definer_at spot).reg
    pub active : (spot_range e o x spot).active ≡ true
    pub allowed : has (registers_in o.slots (space_read (issue_at x q).instr j)) (spot_range e o x spot).reg ≡ true
    pub from : (spot_range e o x spot).from + 1 ≤ (issue_at x q).cycle
    pub last : (issue_at x q).cycle ≤ (spot_range e o x spot).last + 1

  -- an operation that waits for what it reads, whatever gives that
  abbrev WaitsForAll : Placed → Type 0
  WaitsForAll q = (d : Option Op) → 1 ≤ latency_gap e.table d (issue_at x q).instr

  held : (q : Placed) (j : ℕ) (operand : Operand) → IsKept q → Member q (all e o x) → (issue_at x q).active ≡ true
      → has_choices q.op.kind ≡ true → WaitsForAll q → slice_get q.op.operands j ≡ Some operand → Held q j operand
  held q j operand kept m act c waits at =
      let rd = reading e o x given q j operand m at in
      let fits = rd.fits in
      let good = kept.there j operand rd at act in
      let alts = definers_at ds operand.alts in
      let i = slice_index x (q.first + choice_place q.op + j) in
      let here : slice_get alts i ≡ Some (definer_at rd.spot) =
      ap (λ (w : Option VarId). slice_get alts (chosen_place w x)) (sym (choice_var e o x given q j operand at c))
      ∙ read_definer e o x given q j operand rd in
      let def = definer_is e o x given rd.spot rd.member in
      let p = rd.spot.definer in
      let bound = register_below e o (in_entry e o x p) p.owner p.op.kind rd.spot.place rd.spot.temp (carried_here p.op rd.spot.temp)
      (slice_index x (p.first + register_place p.op + rd.spot.place)) given.fit
      (register_sits e o x (in_entry e o x p) p rd.spot.place rd.spot.temp (in_domains e o x given p def.0) def.1) in
      let fast = waits (spot_range e o x rd.spot).instr in
      let ready = good.ready in
      record {
        spot = rd.spot;
        member = rd.member;
        block = rd.block;
        value = all_member (λ (y : TempId). carried e.blocks y ≡ temp (first_of operand.alts)) operand.alts rd.spot.temp fits.one_value
            (member_at operand.alts (value_by x (slice_get (vars_of q).choices j)) rd.spot.temp rd.at);
        register = slice_get-map (λ (d : Definer). d.reg) alts i ∙ ap (option_map (λ (d : Definer). d.reg)) here;
        active = good.active;
        allowed = (in_space (spot_range e o x rd.spot).reg o.slots (space_read (issue_at x q).instr j) bound).0 good.space;
        from = omega (arith, fast, ready);
        last = good.last;
      }

  -- two operands with different values have different registers
  apart : (q : Placed) (i j : ℕ) (a b : Operand) (h : Held q i a) (k : Held q j b) → IsKept q → one_value a b ≡ false
      → (spot_range e o x k.spot).reg ≡ (spot_range e o x h.spot).reg → ⊥
  apart q i j a b h k kept other same =
      let s = h.spot in
      let u = k.spot in
      let r = spot_range e o x h.spot in
      let t = spot_range e o x k.spot in
      let c = (issue_at x q).cycle - 1 in
      let h1 = h.from in let h2 = h.last in let k1 = k.from in let k2 = k.last in
      let ra = h.active in let ta = k.active in
      let block : s.definer.block ≡ u.definer.block = h.block ∙ sym k.block in
      let l1 : r.from ≤ c = omega arith in
      let l2 : c ≤ r.last = omega arith in
      let l3 : t.from ≤ c = omega arith in
      let l4 : c ≤ t.last = omega arith in
      elim (kept.shares s u h.member k.member h.block k.block) [
        | inl is ↦ distinct (ap (λ (s : Spot). carried e.blocks s.temp) is)
        | inr two ↦ elim two [
          | inl share ↦ registers_differ r t c share ra ta block l1 l2 l3 l4 (sym same)
          | inr share ↦ registers_differ t r c share ta ra (sym block) l3 l4 l1 l2 same
        ]
      ]
    where
      distinct : carried e.blocks h.spot.temp ≡ carried e.blocks k.spot.temp → ⊥
      distinct is =
          let firsts : temp (first_of a.alts) ≡ temp (first_of b.alts) = sym h.value ∙ is ∙ k.value in
          let t : one_value a b ≡ true = eq-eqb (first_of a.alts) (first_of b.alts) (ap (λ (t : TempId). t.0) firsts) in
          let z : true ≡ false = sym t ∙ other in
          cc z

  two_met : (q : Placed) (so : SrcOp) → IsKept q → q.op.kind ≡ Body so → Member q (all e o x) → (i j : ℕ) (a b : Operand)
      → slice_get q.op.operands i ≡ Some a
      → slice_get q.op.operands j ≡ Some b → one_value a b ≡ false
      → meets (Operands (operand_side o.slots ds so.op i (var_at (q.first + choice_place q.op + i)) a)
      (operand_side o.slots ds so.op j (var_at (q.first + choice_place q.op + j)) b)) x ≡ true
  two_met q so kept kind m i j a b at bt other =
      let v = vars_of q in
      let instr : (issue_at x q).instr ≡ Some so.op = ap (λ (c : ExtKind). instruction_of c (value_by x v.instr)) kind in
      let act : (issue_at x q).active ≡ true = active kind in
      let c : has_choices q.op.kind ≡ true = ap has_choices kind in
      let waits = waits_for_all kind instr in
      let h = held q i a kept m act c waits at in
      let k = held q j b kept m act c waits bt in
      let f = (spot_range e o x h.spot).reg in
      let g = (spot_range e o x k.spot).reg in
      let sa = operand_side o.slots ds so.op i (var_at (q.first + choice_place q.op + i)) a in
      let sb = operand_side o.slots ds so.op j (var_at (q.first + choice_place q.op + j)) b in
      let ha : has sa.allowed f ≡ true = subst (λ (s : Option Op). has (registers_in o.slots (space_read s i)) f ≡ true) instr h.allowed in
      let hb : has sb.allowed g ≡ true = subst (λ (s : Option Op). has (registers_in o.slots (space_read s j)) g ≡ true) instr k.allowed in
      let differ = unequal g f (apart q i j a b h k kept other) in
      let inner : side_passes (λ r. not (nat_eq r f)) sb x ≡ true =
      passes_get (λ (v : VarId). has sb.allowed (slice_index x v.0) && not (nat_eq (slice_index x v.0) f)) sb.regs
      (slice_index x (q.first + choice_place q.op + j)) _ k.register
      ∙ (and_iff (has sb.allowed g) (not (nat_eq g f))).0 (hb, differ) in
      passes_get (λ (v : VarId). has sa.allowed (slice_index x v.0) && side_passes (λ r. not (nat_eq r (slice_index x v.0))) sb x) sa.regs
      (slice_index x (q.first + choice_place q.op + i)) _ h.register
      ∙ (and_iff (has sa.allowed f) (side_passes (λ r. not (nat_eq r f)) sb x)).0 (ha, inner)
    where
      -- operations of the source are no jumps
      waits_for_all : q.op.kind ≡ Body so → (issue_at x q).instr ≡ Some so.op → WaitsForAll q
      waits_for_all k is d =
          let g = good_op e o x given q m in
          let keeps = g.keeps in
          let source : IsSourceOp so = subst (λ (c : ExtKind). IsGoodKind c q.op) k keeps.kind in
          let whole = gap_source e.table d so.op source.op in
          let some = latency_some e.table given.fit d in
          let own = ap (latency_gap e.table d) is in
          omega (arith, whole, some, own)

      active : q.op.kind ≡ Body so → (issue_at x q).active ≡ true
      active k = let v = vars_of q in ap (λ (c : ExtKind). is_delimiter c || is_some (instruction_of c (value_by x v.instr))) k

  two_posted : (q : Placed) → IsKept q → Member q (all e o x) → (i j : ℕ) (a b : Operand) → slice_get q.op.operands i ≡ Some a
      → slice_get q.op.operands j ≡ Some b
      → Met x (two_at o.slots ds (place_of q) i a j b)
  two_posted q kept m i j a b at bt = by (one_value a b) refl
    where
      posted : List Constraint
      posted = two_by o.slots ds q.op.kind i a (slice_get (vars_of q).choices i) j b (slice_get (vars_of q).choices j)

      none : (kind : ExtKind) → q.op.kind ≡ kind → two_by o.slots ds kind i a (slice_get (vars_of q).choices i) j b
          (slice_get (vars_of q).choices j) ≡ [] → Met x posted
      none kind k h = subst (Met x) (sym (ap (λ (c : ExtKind). two_by o.slots ds c i a (slice_get (vars_of q).choices i) j b
          (slice_get (vars_of q).choices j)) k ∙ h)) tt

      of_source : one_value a b ≡ false → (kind : ExtKind) → q.op.kind ≡ kind → Met x posted
      of_source other (Body so) k =
          let c : has_choices q.op.kind ≡ true = ap has_choices k in
          let va = choice_var e o x given q i a at c in
          let vb = choice_var e o x given q j b bt c in
          let is : posted ≡ Operands (operand_side o.slots ds so.op i (var_at (q.first + choice_place q.op + i)) a)
          (operand_side o.slots ds so.op j (var_at (q.first + choice_place q.op + j)) b) ∷ [] =
          ap (λ (c : ExtKind). two_by o.slots ds c i a (slice_get (vars_of q).choices i) j b (slice_get (vars_of q).choices j)) k
          ∙ ap (λ (v : Option VarId). two_by o.slots ds (Body so) i a v j b (slice_get (vars_of q).choices j)) va
          ∙ ap (λ (v : Option VarId). two_by o.slots ds (Body so) i a (Some (var_at (q.first + choice_place q.op + i))) j b v) vb in
          subst (Met x) (sym is) (two_met q so kept k m i j a b at bt other, tt)
      of_source other In k = none In k refl
      of_source other Out k = none Out k refl
      of_source other (End term) k = none (End term) k refl
      of_source other (Copy node) k = none (Copy node) k refl
      of_source other Enter k = none Enter k refl
      of_source other Leave k = none Leave k refl

      by : (t : Bool) → one_value a b ≡ t → Met x (if one_value a b then [] else posted)
      by true e = subst (λ (t : Bool). Met x (if t then [] else posted)) (sym e) tt
      by false e = subst (λ (t : Bool). Met x (if t then [] else posted)) (sym e) (of_source e q.op.kind refl)

  -- of each two operands of an operation
  pub twos_of_one : (q : Placed) → Member q (all e o x) → IsKept q → Met x (twos_in o.slots ds (place_of q))
  twos_of_one q m kept =
      two_each (λ (c : Constraint). meets c x ≡ true) (two_at o.slots ds (place_of q)) 0 q.op.operands (λ i j a b lt at bt.
      let zi : i ≡ 0 + i = omega arith in
      let zj : j ≡ 0 + j = omega arith in
      subst (λ n. Met x (two_at o.slots ds (place_of q) (0 + i) a n b)) zj
      (subst (λ n. Met x (two_at o.slots ds (place_of q) n a j b)) zi (two_posted q kept m i j a b at bt)))

  module _ (solved : IsSchedule (latency_gap e.table) (model_of e o).domains (model_of e o) x (schedule_of (model_of e o) x)) where
    all_kept : (q : Placed) → Member q (all e o x) → IsKept q
    all_kept q m = record {
      there = λ j operand rd at act.
          (let d = read_of x (issue_at x q) (vars_of q) j operand in
          let good = good_read e o x (numbered e o x given) d solved (has_read e o x q j operand m act at) in
          let one : good.result ≡ rd.spot = one_spot e o x (numbered e o x given) good.result rd.spot good.member rd.member
          (good.is ∙ ap (λ (t : TempId). t.0) (read_temp e o x given q j operand rd)) in
          let back : (P : Spot → Type 0) → P good.result → P rd.spot = λ P p. subst P one p in
          record {
            active = back (λ s. (spot_range e o x s).active ≡ true) good.active;
            space = back (λ s. InSpace (spot_range e o x s).reg (space_read (issue_at x q).instr j)) good.space;
            ready = back (λ s. (spot_range e o x s).from + latency_gap e.table (spot_range e o x s).instr (issue_at x q).instr
                ≤ (issue_at x q).cycle) good.ready;
            last = back (λ s. (issue_at x q).cycle ≤ (spot_range e o x s).last + 1) good.last;
          });
      shares = λ s u ms mu bs bu.
          (let regs = solved.registers in
          pairwise_two (λ s u. ShareNoCycle (spot_range e o x s) (spot_range e o x u)) (spots e o x) s u
          (pairwise_of_map ShareNoCycle (spot_range e o x) (spots e o x)
          (subst (Pairwise ShareNoCycle) (ranges_are e o x given) (pairwise_all ShareNoCycle (the_ranges e o x) regs.0))) ms mu);
    }

    pub two_operands : AllMet (twos_of (model_of e o)) x
    two_operands = (posted_each e o x given (twos_in o.slots ds)).1 (each_of _ (all e o x) (λ q m. twos_of_one q m (all_kept q m)))
