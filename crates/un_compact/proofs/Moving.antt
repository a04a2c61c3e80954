-- The schedule of values of which the cycles of each block are squeezed: the old one, moved.
use Rattle.std.proofs.Common.{ℕ, zero, suc, ◌≡◌, ◌+◌, ◌-◌, ◌<◌, ◌≤◌, Bool, true, false, eqb, List, [], ◌∷◌, ◌++◌, length, map, max}
use Rattle.std.proofs.Common.{Option, Some, None, inl, inr, ⊎_elim, refl, sym, ap, ◌∙◌, subst, arith}
use Rattle.std.specs.Prelude.{◌&&◌, ◌||◌, ◌==◌, is_some, slice_get, fold, if◌then◌else◌}
use Rattle.std.specs.List.{list_all, range_with_len}
use Rattle.std.specs.Option.{option_map}
use Rattle.std.proofs.lemmas.Bool.{cases_lt, eqb-true}
use Rattle.un_base.specs.declared.ids.VarId.{VarId}
use Rattle.un_base.specs.declared.ids.TempId.{TempId}
use Rattle.un_isa.specs.declared.op.Op.{Op}
use Rattle.un_ir.specs.Kinds.{is_delimiter, is_frame_op}
use Rattle.un_ir.specs.Extended.{all_results, temp}
use Rattle.un_ir.specs.declared.extended.ExtKind.{ExtKind}
use Rattle.un_ir.specs.declared.extended.ExtKind.TheVariants.{In, Out, Body, End, Copy, Enter, Leave}
use Rattle.un_ir.specs.declared.extended.Operand.{Operand}
use Rattle.un_ir.specs.declared.extended.Ext.{Ext}
use Rattle.un_model.specs.declared.model.Options.{Options}
use Rattle.un_model.specs.declared.model.TempVars.{TempVars}
use Rattle.un_model.specs.declared.model.OpVars.{OpVars}
use Rattle.un_model.specs.declared.schedule.Issue.{Issue}
use Rattle.un_model.specs.declared.schedule.Read.{Read}
use Rattle.un_model.specs.declared.schedule.LiveRange.{LiveRange}
use Rattle.un_model.specs.declared.schedule.Schedule.{Schedule}
use Rattle.un_model.specs.Cost.{value_of}
use Rattle.un_model.specs.Instructions.{instruction_of}
use Rattle.un_model.specs.Pairs.{places_from, joined}
use Rattle.un_model.specs.Schedules.{value_by, instr_of, cycle_by, cycle_of, is_zero, chosen, read_of, op_reads, cycle_for, last_read}
use Rattle.un_model.specs.Schedules.{range_by, range_of, ranges_of, issues_of, reads_of, schedule_of}
use Rattle.un_model.specs.Variables.{model_of, var_at, register_place}
use Rattle.un_lists.proofs.Lists.{Each, Member, each_member, each_of, member_at, slice_get-map, length_get, map-append}
use Rattle.un_model.proofs.Placed.{Placed, vars_of, end_of, issue_at, reads_at, Spot, spot, spots_of, temp_vars, issues_are, reads_are}
use Rattle.un_model.proofs.Placed.{temps_are}
use Rattle.un_model.proofs.PlacedSchedules.{all, spots, issue_here, spot_temp, definer_in, one_spot, joined_member, places_member}
use Rattle.un_compact.specs.Squeezes.{squeezed}
use Rattle.un_compact.proofs.Squeezing.{rises, no_more, before_later}
use Rattle.un_compact.proofs.Times.{false_by}
use Rattle.un_compact.proofs.Clauses.{move_issue, move_read, move_range, move}

-- ---- lists

maps : {A B C : Type 0} (f : A → C) (g : B → C) (h : A → B) (xs : List A) → Each (λ x. f x ≡ g (h x)) xs → map f xs ≡ map g (map h xs)
maps f g h [] k = refl
maps f g h (x ∷ xs) k = ap (λ y. y ∷ map f xs) k.0 ∙ ap (λ ys. g (h x) ∷ ys) (maps f g h xs k.1)

joined_maps : {A B : Type 0} (f h : A → List B) (g : B → B) (xs : List A) → Each (λ x. f x ≡ map g (h x)) xs
    → joined (map f xs) ≡ map g (joined (map h xs))
joined_maps f h g [] k = refl
joined_maps f h g (x ∷ xs) k =
    ap (λ ys. ys ++ joined (map f xs)) k.0 ∙ ap (λ ys. map g (h x) ++ ys) (joined_maps f h g xs k.1)
    ∙ sym (map-append g (h x) (joined (map h xs)))

places_maps : {A B : Type 0} (f h : ℕ → A → B) (g : B → B) (i : ℕ) (xs : List A)
    → ((k n : ℕ) (x : A) → n ≡ i + k → slice_get xs k ≡ Some x → f n x ≡ g (h n x)) → places_from f i xs ≡ map g (places_from h i xs)
places_maps f h g i [] k = refl
places_maps f h g i (x ∷ xs) k =
    ap (λ y. y ∷ places_from f (i + 1) xs) (k 0 i x (omega arith) refl)
    ∙ ap (λ ys. g (h i x) ∷ ys) (places_maps f h g (i + 1) xs (λ j n y e q. k (suc j) n y (omega (arith, e)) q))

if_map : {B : Type 0} (g : B → B) (b : Bool) (xs ys : List B) → xs ≡ map g ys → (if b then xs else []) ≡ map g (if b then ys else [])
if_map g true xs ys e = e
if_map g false xs ys e = refl

all_same : (new old : List ℕ) (vs : List VarId) → Each (λ (v : VarId). value_of new v ≡ value_of old v) vs
    → list_all (λ (v : VarId). value_of new v == 0) vs ≡ list_all (λ (v : VarId). value_of old v == 0) vs
all_same new old [] h = refl
all_same new old (v ∷ vs) h =
    ap (λ n. eqb n 0 && list_all (λ (v : VarId). value_of new v == 0) vs) h.0 ∙ ap (λ b. eqb (value_of old v) 0 && b)
    (all_same new old vs h.1)

pub choice_same : (new old : List ℕ) (vs : List VarId) (j : ℕ) → Each (λ (v : VarId). value_of new v ≡ value_of old v) vs
    → value_by new (slice_get vs j) ≡ value_by old (slice_get vs j)
choice_same new old [] j h = refl
choice_same new old (v ∷ vs) zero h = h.0
choice_same new old (v ∷ vs) (suc j) h = choice_same new old vs j h.1

-- ---- numbers

not_zero : (n : ℕ) → 0 < n → eqb n 0 ≡ false
not_zero n lt = false_by (eqb n 0) (λ e. let q = eqb-true n 0 e in omega (arith, q, lt))

max_place : (u : ℕ → Bool) (a b : ℕ) → max (squeezed u a) (squeezed u b) ≡ squeezed u (max a b)
max_place u a b = ⊎_elim
    (λ (lt : a < b). let r = rises u a b (omega (arith, lt)) in let m : max a b ≡ b = omega (arith, lt) in
    let n : max (squeezed u a) (squeezed u b) ≡ squeezed u b = omega (arith, r) in n ∙ ap (squeezed u) (sym m))
    (λ (le : b ≤ a). let r = rises u b a le in let m : max a b ≡ a = omega (arith, le) in
    let n : max (squeezed u a) (squeezed u b) ≡ squeezed u a = omega (arith, r) in n ∙ ap (squeezed u) (sym m))
    (cases_lt a b)

last_place : (u : ℕ → Bool) (c l : ℕ) → max (squeezed u c) (squeezed u l - 1) ≡ max (squeezed u c) (squeezed u (max c (l - 1) + 1) - 1)
last_place u c l = ⊎_elim
    (λ (lt : c + 1 < l). let m : l ≡ max c (l - 1) + 1 = omega (arith, lt) in ap (λ n. max (squeezed u c) (squeezed u n - 1)) m)
    (λ (le : l ≤ c + 1).
    let m : c + 1 ≡ max c (l - 1) + 1 = omega (arith, le) in
    let r = rises u l (c + 1) le in
    let s = no_more u c (c + 1) (omega arith) in
    let a : max (squeezed u c) (squeezed u l - 1) ≡ squeezed u c = omega (arith, r, s) in
    let b : squeezed u c ≡ max (squeezed u c) (squeezed u (c + 1) - 1) = omega (arith, s) in
    a ∙ b ∙ ap (λ n. max (squeezed u c) (squeezed u n - 1)) m)
    (cases_lt (c + 1) l)

module _ (used : ℕ → ℕ → Bool) (start : (b : ℕ) → used b 0 ≡ true) (old new : List ℕ) where
  abbrev at : ℕ → ℕ → ℕ
  at b c = squeezed (used b) c

  -- what becomes of the variables of an operation, and of its results
  pub record Moves (p : Placed) : Type 0 where
    pub instr : value_by new (vars_of p).instr ≡ value_by old (vars_of p).instr
    pub cycle : value_by new (vars_of p).cycle ≡ squeezed (used p.block) (value_by old (vars_of p).cycle)
    pub cycle_used : used p.block (value_by old (vars_of p).cycle) ≡ true
    pub choices : Each (λ (v : VarId). value_of new v ≡ value_of old v) (vars_of p).choices
    pub close : value_of new p.close ≡ squeezed (used p.block) (value_of old p.close)
    pub close_used : used p.block (value_of old p.close) ≡ true
    pub results : (k : ℕ) → k < length p.op.results → value_of new (var_at (p.first + register_place p.op + k)) ≡ value_of old
        (var_at (p.first + register_place p.op + k))

  -- ---- issues

  zero_place : (b c : ℕ) → eqb (at b c) 0 ≡ eqb c 0
  zero_place b zero = refl
  zero_place b (suc c) =
      let r = before_later (used b) 0 (suc c) (start b) (omega arith) in
      not_zero (at b (suc c)) (omega (arith, r)) ∙ sym (not_zero (suc c) (omega arith))

  cycle_moves : (p : Placed) (k : ExtKind) → Moves p → cycle_by new (end_of new p) k (vars_of p) ≡ at p.block
      (cycle_by old (end_of old p) k (vars_of p))
  cycle_moves p In h = refl
  cycle_moves p Out h = h.close
  cycle_moves p (Body o) h = h.cycle
  cycle_moves p (End term) h = h.cycle
  cycle_moves p (Copy node) h = h.cycle
  cycle_moves p Enter h = h.cycle
  cycle_moves p Leave h = h.cycle

  pub cycle_in : (p : Placed) (k : ExtKind) → Moves p → used p.block (cycle_by old (end_of old p) k (vars_of p)) ≡ true
  cycle_in p In h = start p.block
  cycle_in p Out h = h.close_used
  cycle_in p (Body o) h = h.cycle_used
  cycle_in p (End term) h = h.cycle_used
  cycle_in p (Copy node) h = h.cycle_used
  cycle_in p Enter h = h.cycle_used
  cycle_in p Leave h = h.cycle_used

  abbrev make : Placed → Option Op → Bool → ℕ → ℕ → Issue
  make p i z c e = record {
    block = record { 0 = p.block };
    op = record { 0 = p.number };
    instr = i;
    active = is_delimiter p.op.kind || is_some i;
    frame = is_frame_op p.op.kind;
    zero = z;
    cycle = c;
    end = e;
  }

  pub issue_moves : (p : Placed) → Moves p → issue_at new p ≡ move_issue used start (issue_at old p)
  issue_moves p h =
      let v = vars_of p in
      let z : is_zero new v ≡ is_zero old v =
      ap (λ n. eqb n 0 && list_all (λ (v : VarId). value_of new v == 0) v.choices) h.cycle
      ∙ ap (λ b. b && list_all (λ (v : VarId). value_of new v == 0) v.choices) (zero_place p.block (value_by old v.cycle))
      ∙ ap (λ b. eqb (value_by old v.cycle) 0 && b) (all_same new old v.choices h.choices) in
      ap (λ (n : ℕ). make p (instruction_of p.op.kind n) (is_zero new v) (cycle_of new (end_of new p) p.op v) (end_of new p)) h.instr
      ∙ ap (λ (b : Bool). make p (instr_of old p.op v) b (cycle_of new (end_of new p) p.op v) (end_of new p)) z
      ∙ ap (λ (n : ℕ). make p (instr_of old p.op v) (is_zero old v) n (end_of new p)) (cycle_moves p p.op.kind h)
      ∙ ap (λ (n : ℕ). make p (instr_of old p.op v) (is_zero old v) (at p.block (cycle_of old (end_of old p) p.op v)) n) h.close

  -- ---- reads

  read_moves : (i : Issue) (v : OpVars) → Each (λ (v : VarId). value_of new v ≡ value_of old v) v.choices → (n : ℕ) (x : Operand)
      → read_of new (move_issue used start i) v n x ≡ move_read used start (read_of old i v n x)
  read_moves i v h n x = ap (λ (t : TempId). let r : Read = record {
    block = i.block;
    user = i.op;
    instr = i.instr;
    operand = n;
    temp = t;
    cycle = at i.block.0 i.cycle;
    home = x.home;
  } in r) (ap (chosen x.alts) (choice_same new old v.choices n h))

  pub reads_move : (p : Placed) → Moves p → reads_at new p ≡ map (move_read used start) (reads_at old p)
  reads_move p h =
      let v = vars_of p in
      let i = issue_at old p in
      ap (λ (i : Issue). op_reads new i p.op v) (issue_moves p h)
      ∙ if_map (move_read used start) i.active (places_from (read_of new (move_issue used start i) v) 0 p.op.operands)
      (places_from (read_of old i v) 0 p.op.operands)
      (places_maps (read_of new (move_issue used start i) v) (read_of old i v) (move_read used start) 0 p.op.operands
      (λ k n x e q. read_moves i v h.choices n x))

  -- ---- last reads

  last_moves : (t b a : ℕ) (rs : List Read) → ((r : Read) → Member r rs → r.temp.0 ≡ t → r.block.0 ≡ b)
      → fold (λ (a : ℕ) (r : Read). max a (cycle_for t r)) (at b a) (map (move_read used start) rs)
      ≡ at b (fold (λ (a : ℕ) (r : Read). max a (cycle_for t r)) a rs)
  last_moves t b a [] h = refl
  last_moves t b a (r ∷ rs) h =
      ap (λ n. fold (λ (a : ℕ) (r : Read). max a (cycle_for t r)) n (map (move_read used start) rs)) (step (eqb r.temp.0 t) refl)
      ∙ last_moves t b (max a (cycle_for t r)) rs (λ q m e. h q (inr m) e)
    where
      step : (k : Bool) → eqb r.temp.0 t ≡ k → max (at b a) (cycle_for t (move_read used start r)) ≡ at b (max a (cycle_for t r))
      step true e =
          let q = h r (inl refl) (eqb-true r.temp.0 t e) in
          ap (λ (k : Bool). max (at b a) (if k then at r.block.0 r.cycle else 0)) e
          ∙ ap (λ n. max (at b a) (at n r.cycle)) q ∙ max_place (used b) a r.cycle
          ∙ ap (λ (k : Bool). at b (max a (if k then r.cycle else 0))) (sym e)
      step false e =
          ap (λ (k : Bool). max (at b a) (if k then at r.block.0 r.cycle else 0)) e
          ∙ max_place (used b) a 0
          ∙ ap (λ (k : Bool). at b (max a (if k then r.cycle else 0))) (sym e)

  -- ---- the schedule

  module _ (e : Ext) (o : Options) (moves : Each Moves (all e o old)) where
    moves_at : (p : Placed) → Member p (all e o old) → Moves p
    moves_at p m = each_member Moves (all e o old) p moves m

    pub issues_moved : issues_of (model_of e o) new ≡ map (move_issue used start) (issues_of (model_of e o) old)
    issues_moved = issues_are new 0 0 0 e.blocks
        ∙ maps (issue_at new) (move_issue used start) (issue_at old) (all e o old)
        (each_of (λ p. issue_at new p ≡ move_issue used start (issue_at old p)) (all e o old) (λ p m. issue_moves p (moves_at p m)))
        ∙ ap (map (move_issue used start)) (sym (issues_are old 0 0 0 e.blocks))

    pub reads_moved : reads_of (model_of e o) new ≡ map (move_read used start) (reads_of (model_of e o) old)
    reads_moved = reads_are new 0 0 0 e.blocks
        ∙ joined_maps (reads_at new) (reads_at old) (move_read used start) (all e o old)
        (each_of (λ p. reads_at new p ≡ map (move_read used start) (reads_at old p)) (all e o old) (λ p m. reads_move p (moves_at p m)))
        ∙ ap (map (move_read used start)) (sym (reads_are old 0 0 0 e.blocks))

    module _ (numbered : all_results e.blocks ≡ map temp (range_with_len 0 (length (all_results e.blocks))))
        (local : (r : Read) → Member r (reads_of (model_of e o) old) → (s : Spot) × (Member s (spots e o old)) × (s.temp.0 ≡ r.temp.0)
        × (s.definer.block ≡ r.block.0)) where
      -- all reads of a result are of its block
      read_here : (s : Spot) → Member s (spots e o old) → (r : Read) → Member r (reads_of (model_of e o) old) → r.temp.0 ≡ s.temp.0
          → r.block.0 ≡ s.definer.block
      read_here s m r n q =
          let l = local r n in
          let one = one_spot e o old numbered l.0 s l.1 m (l.2 ∙ q) in
          sym l.3 ∙ ap (λ (s : Spot). s.definer.block) one

      abbrev old_range : ℕ → TempVars → LiveRange
      old_range k t = range_of old (issues_of (model_of e o) old) (reads_of (model_of e o) old) k t

      range_moves : (k : ℕ) (s : Spot) → Member s (spots e o old) → s.temp.0 ≡ k
          → range_of new (issues_of (model_of e o) new) (reads_of (model_of e o) new) k (temp_vars s) ≡ move_range used start
          (old_range k (temp_vars s))
      range_moves k s m q =
          let d = s.definer in
          let md = definer_in e o old numbered s m in
          let h = moves_at d md in
          let i = issue_at old d in
          let l = last_read (reads_of (model_of e o) old) k in
          let reads : last_read (reads_of (model_of e o) new) k ≡ at d.block l =
          ap (λ rs. last_read rs k) reads_moved
          ∙ last_moves k d.block 0 (reads_of (model_of e o) old) (λ r n e. read_here s m r n (e ∙ sym q)) in
          let issue : slice_get (issues_of (model_of e o) new) d.number ≡ Some (move_issue used start i) =
          ap (λ is. slice_get is d.number) issues_moved ∙ slice_get-map (move_issue used start) (issues_of (model_of e o) old) d.number
          ∙ ap (option_map (move_issue used start)) (issue_here e o old d md) in
          let was = issue_here e o old d md in
          let reg : value_of new (temp_vars s).reg ≡ value_of old (temp_vars s).reg = h.results s.place (inside s m) in
          ap (λ (n : ℕ). range_by new (temp_vars s) n (slice_get (issues_of (model_of e o) new) d.number)) reads
          ∙ ap (λ (i : Option Issue). range_by new (temp_vars s) (at d.block l) i) issue
          ∙ ap (λ (n : ℕ). build i (temp_vars s) n (max (at d.block i.cycle) (at d.block l - 1))) reg
          ∙ ap (λ (n : ℕ). build i (temp_vars s) (value_of old (temp_vars s).reg) n) (last_place (used d.block) i.cycle l)
          ∙ ap (λ (i : Option Issue). move_range used start (range_by old (temp_vars s) l i)) (sym was)
        where
          build : Issue → TempVars → ℕ → ℕ → LiveRange
          build i t reg last = record {
            block = i.block;
            op = t.op;
            instr = i.instr;
            active = i.active;
            reg = reg;
            from = at i.block.0 i.cycle;
            last = last;
          }

          inside : (s : Spot) → Member s (spots e o old) → s.place < length s.definer.op.results
          inside s m =
              let r = joined_member spots_of (all e o old) s m in
              let q = places_member (spot r.0) 0 r.0.op.results s r.2 in
              let lt = length_get r.0.op.results q.0 q.1 q.2 in
              subst (λ (s : Spot). s.place < length s.definer.op.results) q.3
              (let z : 0 + q.0 < length r.0.op.results = omega (arith, lt) in z)

      pub ranges_moved : ranges_of new (issues_of (model_of e o) new) (reads_of (model_of e o) new) (model_of e o).temps ≡ map
          (move_range used start) (ranges_of old (issues_of (model_of e o) old) (reads_of (model_of e o) old) (model_of e o).temps)
      ranges_moved = places_maps (range_of new (issues_of (model_of e o) new) (reads_of (model_of e o) new)) old_range
          (move_range used start) 0 (model_of e o).temps by
        where
          by : (k n : ℕ) (t : TempVars) → n ≡ 0 + k → slice_get (model_of e o).temps k ≡ Some t
              → range_of new (issues_of (model_of e o) new) (reads_of (model_of e o) new) n t ≡ move_range used start (old_range n t)
          by k n t eq q = go (slice_get (spots e o old) k) refl (sym (slice_get-map temp_vars (spots e o old) k)
              ∙ ap (λ xs. slice_get xs k) (sym (temps_are 0 0 0 e.blocks)) ∙ q)
            where
              go : (x : Option Spot) → slice_get (spots e o old) k ≡ x → option_map temp_vars (slice_get (spots e o old) k) ≡ Some t
                  → range_of new (issues_of (model_of e o) new) (reads_of (model_of e o) new) n t ≡ move_range used start (old_range n t)
              go None g h = absurd (cc (ap (option_map temp_vars) (sym g) ∙ h))
              go (Some s) g h =
                  let same : Some (temp_vars s) ≡ Some t = ap (option_map temp_vars) (sym g) ∙ h in
                  let is : temp_vars s ≡ t = cc same in
                  let num : s.temp.0 ≡ n = ap (λ (x : TempId). x.0) (spot_temp e o old numbered k s g) ∙ omega (arith, eq) in
                  subst (λ (t : TempVars). range_of new (issues_of (model_of e o) new) (reads_of (model_of e o) new) n t
                  ≡ move_range used start (old_range n t)) is (range_moves n s (member_at (spots e o old) k s g) num)

      pub moved : schedule_of (model_of e o) new ≡ move used start (schedule_of (model_of e o) old)
      moved =
          ap (λ (is : List Issue). let t : Schedule = record {
            issues = is;
            reads = reads_of (model_of e o) new;
            ranges = ranges_of new (issues_of (model_of e o) new) (reads_of (model_of e o) new) (model_of e o).temps;
          } in t) issues_moved
          ∙ ap (λ (rs : List Read). let t : Schedule = record {
            issues = map (move_issue used start) (issues_of (model_of e o) old);
            reads = rs;
            ranges = ranges_of new (issues_of (model_of e o) new) (reads_of (model_of e o) new) (model_of e o).temps;
          } in t) reads_moved
          ∙ ap (λ (hs : List LiveRange). let t : Schedule = record {
            issues = map (move_issue used start) (issues_of (model_of e o) old);
            reads = map (move_read used start) (reads_of (model_of e o) old);
            ranges = hs;
          } in t) ranges_moved
