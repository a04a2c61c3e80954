-- Two interchangeable registers exchanged in a solution give a solution of the same cost.
use Rattle.std.proofs.Common.{ℕ, zero, suc, ◌≡◌, ◌≢◌, ◌+◌, ◌<◌, ◌≤◌, Bool, true, false, eqb, List, [], ◌∷◌, length, map, get_or, max}
use Rattle.std.proofs.Common.{inl, inr, ⊎_elim, refl, sym, ap, ◌∙◌, subst, arith}
use Rattle.std.specs.Prelude.{Option, Some, None, ◌&&◌, ◌||◌, ◌==◌, ◌*◌, ◌-◌, IfSome, is_some, slice_get, if◌then◌else◌}
use Rattle.std.specs.List.{AllZip, list_all, range_with_len}
use Rattle.std.proofs.lemmas.Bool.{eqb-true, eq-eqb}
use Rattle.un_base.specs.declared.ids.VarId.{VarId}
use Rattle.un_base.specs.declared.ids.TempId.{TempId}
use Rattle.un_isa.specs.declared.op.Op.{Op}
use Rattle.un_isa.specs.declared.reg.Reg.{Reg}
use Rattle.un_isa.specs.declared.table.Table.{Table}
use Rattle.un_ir.specs.Kinds.{is_optional, is_delimiter, is_frame_op}
use Rattle.un_ir.specs.declared.extended.ExtKind.{ExtKind}
use Rattle.un_ir.specs.declared.extended.ExtKind.TheVariants.{In, Out, Body, End, Copy, Enter, Leave}
use Rattle.un_ir.specs.declared.extended.Operand.{Operand}
use Rattle.un_ir.specs.declared.extended.ExtOp.{ExtOp}
use Rattle.un_ir.specs.declared.extended.ExtBlock.{ExtBlock}
use Rattle.un_ir.specs.declared.extended.Ext.{Ext}
use Rattle.un_domains.specs.declared.domain.Domain.{Domain}
use Rattle.un_domains.specs.Domains.{values_of}
use Rattle.un_domains.specs.Sets.{set_at, has}
use Rattle.un_model.specs.declared.model.Options.{Options}
use Rattle.un_model.specs.declared.model.BlockVars.{BlockVars}
use Rattle.un_model.specs.declared.model.TempVars.{TempVars}
use Rattle.un_model.specs.declared.model.Model.{Model}
use Rattle.un_model.specs.declared.model.Solution.{Solution}
use Rattle.un_model.specs.declared.schedule.Issue.{Issue}
use Rattle.un_model.specs.declared.schedule.Read.{Read}
use Rattle.un_model.specs.declared.schedule.LiveRange.{LiveRange}
use Rattle.un_model.specs.declared.schedule.Schedule.{Schedule}
use Rattle.un_model.specs.Cost.{value_of, block_cost, blocks_cost, cost_of}
use Rattle.un_model.specs.Instructions.{instruction_of}
use Rattle.un_model.specs.Pairs.{places_from, joined, any_from}
use Rattle.un_model.specs.Registers.{is_register}
use Rattle.un_model.specs.Schedules.{value_by, instr_of, cycle_by, cycle_of, is_zero, chosen, read_of, op_reads, range_by, range_of}
use Rattle.un_model.specs.Schedules.{ranges_of, issues_of, reads_of, schedule_of, last_read}
use Rattle.un_model.specs.Solutions.{InDomain, KeepsDomains, IsSchedule, IsSolution, latency_gap, KeepsFrame}
use Rattle.un_model.specs.Variables.{IsModel, model_of, var_at, var_if, has_cycle, count_if, cycle_place, choice_place, register_place}
use Rattle.un_model.specs.Variables.{chosen_operands, blocks_count, var_count, ops_count, block_count}
use Rattle.un_lists.proofs.Lists.{Each, Member, each_of, any_of, member_at}
use Rattle.un_model.proofs.Placed.{Placed, placed, block_placed, blocks_placed, vars_of, end_of, issue_at, reads_at, issues_are, reads_are}
use Rattle.un_model.proofs.PlacedSchedules.{split_member, joined_member, places_member}
use Rattle.un_symm.specs.Exchanges.{exchanged, is_register_of, exchanged_at, exchanged_values, exchange_of}
use Rattle.un_symm.specs.Interchangeable.{first_sets, may_have, HasBothOrNeither, reads_home, gives_home, is_home_at, is_home_in_block}
use Rattle.un_symm.specs.Interchangeable.{is_home_in, AreInterchangeable}
use Rattle.un_symm.proofs.Apart.{no_register, no_end, no_close, no_flag}
use Rattle.un_symm.proofs.Clauses.{all_at, swap_range, swap, AreAlike, zeros, choices, spaces, latencies, registers, homes}
use Rattle.un_symm.proofs.Clauses.{congruences, frame}
use Rattle.un_symm.proofs.Domains.{value_in, values_here}
use Rattle.un_symm.proofs.Tests.{or_left, or_right, any_at}
use Rattle.un_symm.proofs.Values.{value_at, register_moves, other_stays, stays_by}

-- ---- lists

maps_same : {A B : Type 0} (f g : A → B) (xs : List A) → Each (λ x. f x ≡ g x) xs → map f xs ≡ map g xs
maps_same f g [] h = refl
maps_same f g (x ∷ xs) h = ap (λ y. y ∷ map f xs) h.0 ∙ ap (λ ys. g x ∷ ys) (maps_same f g xs h.1)

places_same : {A B : Type 0} (f g : ℕ → A → B) (i : ℕ) (xs : List A) → ((n : ℕ) (x : A) → Member x xs → f n x ≡ g n x)
    → places_from f i xs ≡ places_from g i xs
places_same f g i [] h = refl
places_same f g i (x ∷ xs) h =
    ap (λ y. y ∷ places_from f (i + 1) xs) (h i x (inl refl))
    ∙ ap (λ ys. g i x ∷ ys) (places_same f g (i + 1) xs (λ n y m. h n y (inr m)))

places_map : {A B C : Type 0} (f : ℕ → A → B) (g : B → C) (i : ℕ) (xs : List A)
    → places_from (λ n x. g (f n x)) i xs ≡ map g (places_from f i xs)
places_map f g i [] = refl
places_map f g i (x ∷ xs) = ap (λ ys. g (f i x) ∷ ys) (places_map f g (i + 1) xs)

each_range : (P : VarId → Type 0) (a n : ℕ) → ((k : ℕ) → a ≤ k → k < a + n → P (var_at k)) → Each P (map var_at (range_with_len a n))
each_range P a zero h = tt
each_range P a (suc n) h =
    (h a (omega arith) (omega arith), each_range P (a + 1) n (λ k lo hi. h k (omega (arith, lo)) (omega (arith, hi))))

all_same : (new old : List ℕ) (vs : List VarId) → Each (λ (v : VarId). value_of new v ≡ value_of old v) vs
    → list_all (λ (v : VarId). value_of new v == 0) vs ≡ list_all (λ (v : VarId). value_of old v == 0) vs
all_same new old [] h = refl
all_same new old (v ∷ vs) h =
    ap (λ n. eqb n 0 && list_all (λ (v : VarId). value_of new v == 0) vs) h.0 ∙ ap (λ b. eqb (value_of old v) 0 && b)
    (all_same new old vs h.1)

choice_same : (new old : List ℕ) (vs : List VarId) (j : ℕ) → Each (λ (v : VarId). value_of new v ≡ value_of old v) vs
    → value_by new (slice_get vs j) ≡ value_by old (slice_get vs j)
choice_same new old [] j h = refl
choice_same new old (v ∷ vs) zero h = h.0
choice_same new old (v ∷ vs) (suc j) h = choice_same new old vs j h.1

-- ---- homes

-- who reads a home has it
module _ (r : ℕ) (q : Reg) (same : q.0 ≡ r) where
  reads_it : (op : ExtOp) (x : Operand) → Member x op.operands → x.home ≡ Some q → reads_home op r ≡ true
  reads_it op x m e = any_at (λ (x : Operand). is_register x.home r) op.operands x m
      (ap (λ (h : Option Reg). is_register h r) e ∙ eq-eqb q.0 r same)

-- it is among those of its block
op_in : (b : ℕ) (owner : ExtBlock) (close : VarId) (n first : ℕ) (ops : List ExtOp) (p : Placed)
    → Member p (placed b owner close n first ops) → Member p.op ops
op_in b owner close n first [] p m = elim m [ ]
op_in b owner close n first (op ∷ ops) p (inl e) = inl (ap (λ (q : Placed). q.op) e)
op_in b owner close n first (op ∷ ops) p (inr m) = inr (op_in b owner close (n + 1) (first + var_count op) ops p m)

pub home_here : (t : Table) (r b n first : ℕ) (blocks : List ExtBlock) (p : Placed) → Member p (blocks_placed b n first blocks)
    → reads_home p.op r ≡ true → any_from (is_home_in_block t r) b blocks ≡ true
home_here t r b n first [] p m e = elim m [ ]
home_here t r b n first (block ∷ blocks) p m e =
    ⊎_elim
    (λ (k : Member p (block_placed b n first block)).
    or_left (is_home_in_block t r b block) (any_from (is_home_in_block t r) (b + 1) blocks)
    (any_at (is_home_at t (b == 0) block.live_in r) block.ops p.op
    (op_in b block (var_at (first + ops_count block.ops)) n first block.ops p k)
    (or_left (reads_home p.op r) (gives_home t (b == 0) block.live_in p.op r) e)))
    (λ (k : Member p (blocks_placed (b + 1) (n + length block.ops) (first + block_count block) blocks)).
    or_right (is_home_in_block t r b block) (any_from (is_home_in_block t r) (b + 1) blocks)
    (home_here t r (b + 1) (n + length block.ops) (first + block_count block) blocks p k e))
    (split_member (block_placed b n first block) (blocks_placed (b + 1) (n + length block.ops) (first + block_count block) blocks) p m)

-- ---- first domains

-- they are closed under the exchange
pub closed : (m : Model) (a b : ℕ) → AreInterchangeable m a b → (v x : ℕ)
    → may_have m v (exchanged_at m.temps a b v x) ≡ may_have m v x
closed m a b alike v x = by (is_register_of m.temps v) refl
  where
    by : (k : Bool) → is_register_of m.temps v ≡ k → may_have m v (exchanged_at m.temps a b v x) ≡ may_have m v x
    by false e = ap (may_have m v) (other_stays m.temps a b v x e)
    by true e =
        let r = any_of (λ (t : TempVars). eqb t.reg.0 v) m.temps e in
        let is = eqb-true r.0.reg.0 v r.2 in
        let same = all_at (HasBothOrNeither m a b) m.temps r.0 alike.domains r.1 in
        ap (may_have m v) (register_moves m.temps a b v x e)
        ∙ stays_by (may_have m v) a b x (subst (λ n. may_have m n a ≡ may_have m n b) is same)

zip_places : (f : ℕ → ℕ → ℕ) (i : ℕ) (xs : List ℕ) (ds : List Domain) → AllZip InDomain xs ds
    → ((n k x : ℕ) (d : Domain) → n ≡ i + k → slice_get ds k ≡ Some d → InDomain x d → InDomain (f n x) d)
    → AllZip InDomain (places_from f i xs) ds
zip_places f i [] [] h g = h
zip_places f i [] (d ∷ ds) h g = absurd h
zip_places f i (x ∷ xs) [] h g = absurd h
zip_places f i (x ∷ xs) (d ∷ ds) h g = (
  g i 0 x d (omega arith) refl h.0,
  zip_places f (i + 1) xs ds h.1 (λ n k y c e at inside. g n (suc k) y c (omega (arith, e)) at inside),
)

-- ---- costs

costs : (new old : List ℕ) (blocks : List ExtBlock) (vars : List BlockVars)
    → Each (λ (v : BlockVars). value_of new v.end ≡ value_of old v.end) vars → blocks_cost new blocks vars ≡ blocks_cost old blocks vars
costs new old [] vars h = refl
costs new old (block ∷ blocks) [] h = refl
costs new old (block ∷ blocks) (v ∷ vars) h =
    ap (λ n. block.freq * (n - 1) + blocks_cost new blocks vars) h.0 ∙ ap (λ n. block_cost old block v + n) (costs new old blocks vars h.1)

-- ---- a model and its values

module _ (e : Ext) (o : Options) (a b : ℕ) (old : List ℕ) (alike : AreInterchangeable (model_of e o) a b) where
  abbrev m : Model
  m = model_of e o

  abbrev pub new : List ℕ
  new = exchanged_values m.temps a b old

  abbrev ps : List Placed
  ps = blocks_placed 0 0 0 e.blocks

  abbrev first : 0 < a
  first = alike.nonzero.0

  abbrev second : 0 < b
  second = alike.nonzero.1

  -- the value of what is no register stays
  stays : (v : ℕ) → is_register_of m.temps v ≡ false → get_or new v 0 ≡ get_or old v 0
  stays v none = value_at m.temps a b old first second v ∙ other_stays m.temps a b v (get_or old v 0) none

  -- that of a temporary's register is exchanged
  moves : (t : TempVars) → Member t m.temps → get_or new t.reg.0 0 ≡ exchanged a b (get_or old t.reg.0 0)
  moves t k = value_at m.temps a b old first second t.reg.0
      ∙ register_moves m.temps a b t.reg.0 (get_or old t.reg.0 0)
      (any_at (λ (u : TempVars). eqb u.reg.0 t.reg.0) m.temps t k (eq-eqb t.reg.0 t.reg.0 refl))

  -- ---- operations

  module _ (p : Placed) (mp : Member p ps) where
    inner : (v : ℕ) → p.first ≤ v → v < p.first + register_place p.op → get_or new v 0 ≡ get_or old v 0
    inner v lo hi = stays v (no_register e.blocks p mp v lo hi)

    instr_stays : (k : Bool) → is_optional p.op.kind ≡ k → value_by new (var_if k p.first) ≡ value_by old (var_if k p.first)
    instr_stays false q = refl
    instr_stays true q = let c = ap count_if q in inner p.first (omega arith) (omega (arith, c))

    cycle_stays : (k : Bool) → has_cycle p.op.kind ≡ k
        → value_by new (var_if k (p.first + cycle_place p.op)) ≡ value_by old (var_if k (p.first + cycle_place p.op))
    cycle_stays false q = refl
    cycle_stays true q = let c = ap count_if q in inner (p.first + cycle_place p.op) (omega arith) (omega (arith, c))

    choices_stay : Each (λ (v : VarId). value_of new v ≡ value_of old v) (vars_of p).choices
    choices_stay = each_range (λ (v : VarId). value_of new v ≡ value_of old v) (p.first + choice_place p.op)
        (length (chosen_operands p.op)) (λ k lo hi. inner k (omega (arith, lo)) (omega (arith, hi)))

    close_stays : value_of new p.close ≡ value_of old p.close
    close_stays = stays p.close.0 (no_close e.blocks p mp)

    abbrev make : Option Op → Bool → ℕ → ℕ → Issue
    make i z c n = record {
      block = record { 0 = p.block };
      op = record { 0 = p.number };
      instr = i;
      active = is_delimiter p.op.kind || is_some i;
      frame = is_frame_op p.op.kind;
      zero = z;
      cycle = c;
      end = n;
    }

    cycle_by_kind : (k : ExtKind) → cycle_by new (end_of new p) k (vars_of p) ≡ cycle_by old (end_of old p) k (vars_of p)
    cycle_by_kind In = refl
    cycle_by_kind Out = close_stays
    cycle_by_kind (Body source) = cycle_stays (has_cycle p.op.kind) refl
    cycle_by_kind (End term) = cycle_stays (has_cycle p.op.kind) refl
    cycle_by_kind (Copy node) = cycle_stays (has_cycle p.op.kind) refl
    cycle_by_kind Enter = cycle_stays (has_cycle p.op.kind) refl
    cycle_by_kind Leave = cycle_stays (has_cycle p.op.kind) refl

    issue_stays : issue_at new p ≡ issue_at old p
    issue_stays =
        let v = vars_of p in
        let z : is_zero new v ≡ is_zero old v =
        ap (λ n. eqb n 0 && list_all (λ (v : VarId). value_of new v == 0) v.choices) (cycle_stays (has_cycle p.op.kind) refl)
        ∙ ap (λ k. eqb (value_by old v.cycle) 0 && k) (all_same new old v.choices choices_stay) in
        ap (λ (n : ℕ). make (instruction_of p.op.kind n) (is_zero new v) (cycle_of new (end_of new p) p.op v) (end_of new p))
        (instr_stays (is_optional p.op.kind) refl)
        ∙ ap (λ (k : Bool). make (instr_of old p.op v) k (cycle_of new (end_of new p) p.op v) (end_of new p)) z
        ∙ ap (λ (n : ℕ). make (instr_of old p.op v) (is_zero old v) n (end_of new p)) (cycle_by_kind p.op.kind)
        ∙ ap (λ (n : ℕ). make (instr_of old p.op v) (is_zero old v) (cycle_of old (end_of old p) p.op v) n) close_stays

    read_stays : (i : Issue) (n : ℕ) (x : Operand) → read_of new i (vars_of p) n x ≡ read_of old i (vars_of p) n x
    read_stays i n x = ap (λ (t : TempId). let r : Read = record {
      block = i.block;
      user = i.op;
      instr = i.instr;
      operand = n;
      temp = t;
      cycle = i.cycle;
      home = x.home;
    } in r) (ap (chosen x.alts) (choice_same new old (vars_of p).choices n choices_stay))

    reads_stay : reads_at new p ≡ reads_at old p
    reads_stay =
        ap (λ (i : Issue). op_reads new i p.op (vars_of p)) issue_stays
        ∙ ap (λ (rs : List Read). if (issue_at old p).active then rs else [])
        (places_same (read_of new (issue_at old p) (vars_of p)) (read_of old (issue_at old p) (vars_of p)) 0 p.op.operands
        (λ n x k. read_stays (issue_at old p) n x))

  -- ---- the schedule

  issues_stay : issues_of m new ≡ issues_of m old
  issues_stay = issues_are new 0 0 0 e.blocks
      ∙ maps_same (issue_at new) (issue_at old) ps (each_of (λ p. issue_at new p ≡ issue_at old p) ps issue_stays)
      ∙ sym (issues_are old 0 0 0 e.blocks)

  reads_all_stay : reads_of m new ≡ reads_of m old
  reads_all_stay = reads_are new 0 0 0 e.blocks
      ∙ ap joined (maps_same (reads_at new) (reads_at old) ps (each_of (λ p. reads_at new p ≡ reads_at old p) ps reads_stay))
      ∙ sym (reads_are old 0 0 0 e.blocks)

  range_swaps : (t : TempVars) → Member t m.temps → (last : ℕ) (i : Option Issue)
      → range_by new t last i ≡ swap_range a b (range_by old t last i)
  range_swaps t k last None = ap (λ (n : ℕ). let h : LiveRange = record {
    block = record { 0 = 0 };
    op = t.op;
    instr = None;
    active = false;
    reg = n;
    from = 0;
    last = 0;
  } in h) (moves t k)
  range_swaps t k last (Some i) = ap (λ (n : ℕ). let h : LiveRange = record {
    block = i.block;
    op = t.op;
    instr = i.instr;
    active = i.active;
    reg = n;
    from = i.cycle;
    last = max i.cycle (last - 1);
  } in h) (moves t k)

  ranges_swap : ranges_of new (issues_of m new) (reads_of m new) m.temps
      ≡ map (swap_range a b) (ranges_of old (issues_of m old) (reads_of m old) m.temps)
  ranges_swap =
      ap (λ (is : List Issue). ranges_of new is (reads_of m new) m.temps) issues_stay
      ∙ ap (λ (rs : List Read). ranges_of new (issues_of m old) rs m.temps) reads_all_stay
      ∙ places_same (range_of new (issues_of m old) (reads_of m old))
      (λ n t. swap_range a b (range_of old (issues_of m old) (reads_of m old) n t)) 0 m.temps
      (λ n t k. range_swaps t k (last_read (reads_of m old) n) (slice_get (issues_of m old) t.op.0))
      ∙ places_map (range_of old (issues_of m old) (reads_of m old)) (swap_range a b) 0 m.temps

  schedule_swaps : schedule_of m new ≡ swap a b (schedule_of m old)
  schedule_swaps =
      ap (λ (is : List Issue). let t : Schedule = record {
        issues = is;
        reads = reads_of m new;
        ranges = ranges_of new (issues_of m new) (reads_of m new) m.temps;
      } in t) issues_stay
      ∙ ap (λ (rs : List Read). let t : Schedule = record {
        issues = issues_of m old;
        reads = rs;
        ranges = ranges_of new (issues_of m new) (reads_of m new) m.temps;
      } in t) reads_all_stay
      ∙ ap (λ (hs : List LiveRange). let t : Schedule = record {
        issues = issues_of m old;
        reads = reads_of m old;
        ranges = hs;
      } in t) ranges_swap

  -- ---- what is read at home

  reads_free : (r : Read) → Member r (reads_of m old) → IfSome r.home (λ (q : Reg). (q.0 ≢ a) × (q.0 ≢ b))
  reads_free r mr =
      let j = joined_member (reads_at old) ps r (subst (Member r) (reads_are old 0 0 0 e.blocks) mr) in
      of_op j.0 j.1 (issue_at old j.0).active j.2
    where
      of_op : (p : Placed) → Member p ps → (k : Bool)
          → Member r (if k then places_from (read_of old (issue_at old p) (vars_of p)) 0 p.op.operands else [])
          → IfSome r.home (λ (q : Reg). (q.0 ≢ a) × (q.0 ≢ b))
      of_op p mp false mem = elim mem [ ]
      of_op p mp true mem =
          let s = places_member (read_of old (issue_at old p) (vars_of p)) 0 p.op.operands r mem in
          of_home r.home s.1 (member_at p.op.operands s.0 s.1 s.2) (ap (λ (r : Read). r.home) s.3)
        where
          not_home : (n : ℕ) → is_home_in m n ≡ false → (q : Reg) (x : Operand) → Member x p.op.operands → x.home ≡ Some q → q.0 ≢ n
          not_home n none q x k h = λ same. absurd (cc (sym none ∙ home_here e.table n 0 0 0 e.blocks p mp (reads_it n q same p.op x k h)))

          of_home : (h : Option Reg) (x : Operand) → Member x p.op.operands → x.home ≡ h
              → IfSome h (λ (q : Reg). (q.0 ≢ a) × (q.0 ≢ b))
          of_home None x k h = tt
          of_home (Some q) x k h = (not_home a alike.homes.0 q x k h, not_home b alike.homes.1 q x k h)

  are_alike : AreAlike a b e.table.clobbered (schedule_of m old)
  are_alike = record { first = first; second = second; kind = alike.kind; calls = alike.calls; homes = reads_free }

  -- ---- domains

  in_domains : KeepsDomains m.domains old → KeepsDomains m.domains new
  in_domains h = zip_places (exchanged_at m.temps a b) 0 old m.domains h keeps
    where
      keeps : (n k x : ℕ) (d : Domain) → n ≡ 0 + k → slice_get m.domains k ≡ Some d → InDomain x d
          → InDomain (exchanged_at m.temps a b n x) d
      keeps n k x d e at inside =
          let there : n ≡ k = omega (arith, e) in
          let here : set_at (first_sets m) n ≡ values_of d = values_here m.domains n d (ap (slice_get m.domains) there ∙ at) in
          (value_in d (exchanged_at m.temps a b n x)).1
          (ap (λ (vs : List ℕ). has vs (exchanged_at m.temps a b n x)) (sym here)
          ∙ closed m a b alike n x ∙ ap (λ (vs : List ℕ). has vs x) here ∙ (value_in d x).0 inside)

  -- ---- the clauses together

  pub solved : IsSchedule (latency_gap e.table) m.domains m old (schedule_of m old)
      → IsSchedule (latency_gap e.table) m.domains m new (schedule_of m new)
  solved h =
      let t = schedule_of m old in
      let flag : value_of old m.flag ≡ value_of new m.flag = sym (stays (blocks_count e.blocks) (no_flag e.blocks)) in
      subst (λ (t : Schedule). IsSchedule (latency_gap e.table) m.domains m new t) (sym schedule_swaps) (record {
        in_domains = in_domains h.in_domains;
        zeros = zeros a b e.table.clobbered t are_alike h.zeros;
        choices = choices a b e.table.clobbered t are_alike h.choices;
        spaces = spaces a b e.table.clobbered t are_alike h.spaces;
        latencies = latencies a b e.table.clobbered t are_alike (latency_gap e.table) h.latencies;
        memory = h.memory;
        registers = registers a b e.table.clobbered t are_alike h.registers;
        packets = h.packets;
        homes = homes a b e.table.clobbered t are_alike h.homes;
        congruences = congruences a b e.table.clobbered t are_alike e.blocks h.congruences;
        frame = subst (λ n. KeepsFrame n (swap a b t)) flag (frame a b e.table.clobbered t are_alike (value_of old m.flag) h.frame);
      })

  pub same_cost : blocks_cost new e.blocks m.blocks ≡ blocks_cost old e.blocks m.blocks
  same_cost = costs new old e.blocks m.blocks (each_of (λ (v : BlockVars). value_of new v.end ≡ value_of old v.end) m.blocks
      (λ v k. stays v.end.0 (no_end e.blocks v k)))

-- ---- of any model

pub is_solution : (m : Model) → IsModel m → (a b : ℕ) → AreInterchangeable m a b → (s : Solution) → IsSolution m s
    → IsSolution m (exchange_of m a b s)
unfolding exchange_of
is_solution m own a b alike s h = subst (λ (n : Model). IsSolution n (record { values = exchanged_values n.temps a b s.values })) (sym own)
    (solved m.ext m.options a b s.values (subst (λ (n : Model). AreInterchangeable n a b) own alike)
    (subst (λ (n : Model). IsSolution n s) own h))

pub costs_same : (m : Model) → IsModel m → (a b : ℕ) → AreInterchangeable m a b → (s : Solution)
    → cost_of m (exchange_of m a b s) ≡ cost_of m s
unfolding exchange_of
costs_same m own a b alike s = subst (λ (n : Model). cost_of n (record { values = exchanged_values n.temps a b s.values }) ≡ cost_of n s)
    (sym own) (same_cost m.ext m.options a b s.values (subst (λ (n : Model). AreInterchangeable n a b) own alike))
