-- What an operand of an active operation reads: a result of an earlier operation of its block, which carries the operand's value,
-- is active and ready, and lies in the space and at the home that are asked for.
use Rattle.std.proofs.Common.{ℕ, zero, suc, ◌≡◌, ◌<◌, ◌≤◌, ◌+◌, ◌-◌, ◌^◌, Bool, true, false, List, [], ◌∷◌, length, map, replicate, inl}
use Rattle.std.proofs.Common.{refl, sym, ap, ◌∙◌, subst, arith, All, Contains}
use Rattle.std.specs.Prelude.{Option, Some, None, slice_get, slice_index, unwrap_or, if◌then◌else◌}
use Rattle.std.specs.List.{range_with_len, AllZip}
use Rattle.std.specs.Option.{option_map}
use Rattle.std.proofs.lemmas.List.{length-append}
use Rattle.un_base.specs.declared.ids.TempId.{TempId}
use Rattle.un_isa.specs.Fit.{IsFit}
use Rattle.un_isa.specs.declared.reg.Reg.{Reg}
use Rattle.un_ir.specs.declared.function.Kind.{Kind}
use Rattle.un_ir.specs.declared.function.Kind.TheVariants.{General}
use Rattle.un_ir.specs.declared.extended.ExtKind.{ExtKind}
use Rattle.un_ir.specs.declared.extended.ExtKind.TheVariants.{In, Body}
use Rattle.un_ir.specs.declared.extended.Operand.{Operand}
use Rattle.un_ir.specs.declared.extended.Ext.{Ext}
use Rattle.un_ir.specs.Linear.{first_of}
use Rattle.un_ir.specs.WellFormed.{result_kind}
use Rattle.un_ir.specs.Extended.{IsExtended, AreGoodBlocks, all_results, temp, carried, IsGoodOperand, Want, wants_of, result_count}
use Rattle.un_ir.specs.Extended.{defined_kinds, name_kind}
use Rattle.un_model.specs.declared.model.Options.{Options}
use Rattle.un_model.specs.declared.model.TempVars.{TempVars}
use Rattle.un_model.specs.declared.schedule.LiveRange.{LiveRange}
use Rattle.un_model.specs.Emission.{temp_register, register_by}
use Rattle.un_model.proofs.Gaps.{is_fresh_in, gap_whole}
use Rattle.un_model.specs.Instructions.{latency_by, space_read}
use Rattle.un_model.specs.Options.{AreOptions}
use Rattle.un_model.specs.Schedules.{choice_of, value_by, read_of, schedule_of}
use Rattle.un_model.specs.Solutions.{IsSchedule, latency_gap, InSpace, HasHome}
use Rattle.un_ir.specs.Kinds.{has_choices}
use Rattle.un_model.specs.Variables.{model_of, var_at, choice_place, chosen_operands, domains_of, own_horizon}
use Rattle.un_lists.proofs.Lists.{Each, Member, each_member, each_of, each_all, member_at, get_below, slice_get-map, length_get}
use Rattle.un_model.proofs.Placed.{Placed, vars_of, issue_at, Spot, temp_vars, temps_are}
use Rattle.un_model.proofs.OpDomains.{InDomains, in_entry, keeps_sits, sits_left, all_sit, choice_sits}
use Rattle.un_model.proofs.PlacedSchedules.{all, spots, range_at, spot_range, has_read, spot_here, range_here, one_spot, good_read}
use Rattle.un_model.proofs.PlacedSchedules.{get_range}
use Rattle.un_model.proofs.Operations.{GoodPlaced, all_good}
use Rattle.un_model.proofs.TempKinds.{FitKinds, kind_at, same_kind}

-- a solution of the model of an extended function
pub record Solved (e : Ext) (o : Options) (values : List ℕ) : Type 0 where
  pub extended : IsExtended e
  pub fit : IsFit e.table
  pub options : AreOptions o
  pub schedule : IsSchedule (latency_gap e.table) (model_of e o).domains (model_of e o) values (schedule_of (model_of e o) values)

pub zip_get : {A B : Type 0} (R : A → B → Type 0) (xs : List A) (ys : List B) (j : ℕ) (x : A) → AllZip R xs ys → slice_get xs j ≡ Some x
    → (y : B) × (slice_get ys j ≡ Some y) × R x y
zip_get R [] [] j x h e = absurd (cc e)
zip_get R [] (y ∷ ys) j x h e = absurd h
zip_get R (z ∷ zs) [] j x h e = absurd h
zip_get R (z ∷ zs) (y ∷ ys) zero x h e = let same : z ≡ x = cc e in (y, refl, subst (λ w. R w y) same h.0)
zip_get R (z ∷ zs) (y ∷ ys) (suc j) x h e = zip_get R zs ys j x h.1 e

length-mapped : {A B : Type 0} (f : A → B) (xs : List A) → length (map f xs) ≡ length xs
length-mapped f [] = refl
length-mapped f (x ∷ xs) = ap suc (length-mapped f xs)

length-repeat : {A : Type 0} (n : ℕ) (x : A) → length (replicate n x) ≡ n
length-repeat zero x = refl
length-repeat (suc n) x = ap suc (length-repeat n x)

pub all_member : {X : Type 0} (P : X → Type 0) (xs : List X) (x : X) → All P xs → Member x xs → P x
all_member P xs x h m = each_member P xs x (each_all P xs h) m

module _ (e : Ext) (o : Options) (values : List ℕ) (h : Solved e o values) where
  pub good : AreGoodBlocks e.table e.names e.blocks (2 ^ 24)
  good = let x = h.extended in x.good

  pub numbered : all_results e.blocks ≡ map temp (range_with_len 0 (length (all_results e.blocks)))
  numbered = let g = good in g.numbered

  pub placed_good : (p : Placed) → Member p (all e o values) → GoodPlaced e (2 ^ 24) good p
  placed_good p m = each_member (GoodPlaced e (2 ^ 24) good) (all e o values) p (all_good e (2 ^ 24) good) m

  fits_by : (kind : ExtKind) (p : Placed) → length p.op.results ≡ result_count e.table p.owner kind
      → length (defined_kinds e.names p.owner kind p.op) ≡ length p.op.results
  fits_by In p l =
      let live = p.owner.live_in in
      let a = length-append (map (name_kind e.names) live) (replicate (length p.op.results - length live) General) in
      let b = length-mapped (name_kind e.names) live in
      let c = length-repeat (length p.op.results - length live) General in
      omega arith
  fits_by (Body so) p l = length-mapped (λ (y : TempId). result_kind so.op) p.op.results
  fits_by _ p l = length-mapped (λ (y : TempId). General) p.op.results

  pub fit_kinds : Each (FitKinds e.names) (all e o values)
  fit_kinds = each_of (FitKinds e.names) (all e o values) (λ p m. let g = placed_good p m in let k = g.keeps in
      fits_by p.op.kind p k.results)

  pub placed_domains : (p : Placed) → Member p (all e o values) → InDomains e o values (in_entry e o values p) p
  placed_domains p m =
      let s = h.schedule in
      each_member (λ p. InDomains e o values (in_entry e o values p) p) (all e o values) p
      (all_sit e o values true 0 0 0 e.blocks refl (sits_left values _ _ 0 (keeps_sits values (domains_of own_horizon e o) s.in_domains))) m

  -- what an operand chooses is one of its alternatives
  choice_in : (p : Placed) (j : ℕ) (x : Operand) → Member p (all e o values) → slice_get p.op.operands j ≡ Some x → 0 < length x.alts
      → Member (choice_of values (vars_of p) j x) x.alts
  choice_in p j x m q pos =
      let r = get_below x.alts (value_by values (slice_get (vars_of p).choices j)) (below (has_choices p.op.kind) refl) in
      subst (λ (y : TempId). Member y x.alts) (sym (ap (λ (y : Option TempId). unwrap_or y (temp 0)) r.1))
      (member_at x.alts (value_by values (slice_get (vars_of p).choices j)) r.0 r.1)
    where
      all_of : (b : Bool) → has_choices p.op.kind ≡ b → chosen_operands p.op ≡ (if b then p.op.operands else [])
      all_of b e = ap (λ (c : Bool). if c then p.op.operands else []) e

      below : (b : Bool) → has_choices p.op.kind ≡ b → value_by values (slice_get (vars_of p).choices j) < length x.alts
      below true c =
          let ops = all_of true c in
          let n = length_get p.op.operands j x q in
          let l : length (chosen_operands p.op) ≡ length p.op.operands = ap length ops in
          let get : slice_get (vars_of p).choices j ≡ Some (var_at (p.first + choice_place p.op + j)) =
          slice_get-map var_at (range_with_len (p.first + choice_place p.op) (length (chosen_operands p.op))) j
          ∙ ap (option_map var_at) (get_range (p.first + choice_place p.op) (length (chosen_operands p.op)) j (omega arith)) in
          let d = choice_sits e o values (in_entry e o values p) p j x (placed_domains p m) (ap (λ xs. slice_get xs j) ops ∙ q) in
          let v : value_by values (slice_get (vars_of p).choices j) ≡ slice_index values (p.first + choice_place p.op + j) =
          ap (value_by values) get in
          let hi = d.1 in
          omega arith
      below false c =
          let ops = all_of false c in
          let get : slice_get (vars_of p).choices j ≡ None = ap (λ n. slice_get
          (map var_at (range_with_len (p.first + choice_place p.op) n)) j) (ap length ops) in
          let v : value_by values (slice_get (vars_of p).choices j) ≡ 0 = ap (value_by values) get in
          omega arith

  -- what the operand at place j reads
  pub record Reading (p : Placed) (j : ℕ) (x : Operand) (want : Want) : Type 0 where
    pub spot : Spot
    pub member : Member spot (spots e o values)
    pub is : spot.temp ≡ choice_of values (vars_of p) j x
    pub block : spot.definer.block ≡ p.block
    pub earlier : spot.definer.number < p.number
    pub active : (range_at e o values spot.temp.0).active ≡ true
    pub there : (range_at e o values spot.temp.0).block.0 ≡ p.block
    pub space : InSpace (range_at e o values spot.temp.0).reg (space_read (issue_at values p).instr j)
    pub ready : (range_at e o values spot.temp.0).from + latency_gap e.table (range_at e o values spot.temp.0).instr
        (issue_at values p).instr ≤ (issue_at values p).cycle
    pub last : (issue_at values p).cycle ≤ (range_at e o values spot.temp.0).last + 1
    pub home : HasHome want.home (range_at e o values spot.temp.0)
    pub value : carried e.blocks spot.temp ≡ temp (first_of x.alts)
    pub kind : kind_at e o values numbered fit_kinds spot.temp.0 ≡ want.kind

  pub reading : (p : Placed) (j : ℕ) (x : Operand) → Member p (all e o values) → (issue_at values p).active ≡ true
      → slice_get p.op.operands j ≡ Some x
      → (want : Want) × (slice_get (wants_of e.table e.names e.blocks p.owner p.op.kind p.op) j ≡ Some want) × Reading p j x want
  reading p j x m act q =
      let g = placed_good p m in
      let k = g.keeps in
      let z = zip_get (IsGoodOperand e.names e.blocks g.before) p.op.operands (wants_of e.table e.names e.blocks p.owner p.op.kind p.op) j x
      k.operands q in
      let want = z.0 in
      let ok = z.2 in
      let y = choice_of values (vars_of p) j x in
      let my = choice_in p j x m q ok.chooses in
      let s = g.local y (all_member (Contains g.before) x.alts y ok.known my) in
      let r = good_read e o values numbered (read_of values (issue_at values p) (vars_of p) j x) h.schedule
      (has_read e o values p j x m act q) in
      let one = one_spot e o values numbered r.result s.0 r.member s.1 (r.is ∙ sym (ap (λ (t : TempId). t.0) s.2)) in
      let same : range_at e o values s.0.temp.0 ≡ spot_range e o values r.result = range_here e o values numbered s.0 s.1
      ∙ ap (spot_range e o values) (sym one) in
      let back : (P : LiveRange → Type 0) → P (spot_range e o values r.result)
      → P (range_at e o values s.0.temp.0) = λ P v. subst P (sym same) v in
      let one_val = all_member (λ (y : TempId). carried e.blocks y ≡ temp (first_of x.alts)) x.alts y ok.one_value my in
      let first = all_member (λ (y : TempId). carried e.blocks y ≡ temp (first_of x.alts)) x.alts (temp (first_of x.alts)) ok.one_value
      (first_in x.alts ok.chooses) in (
        want,
        z.1,
        record {
          spot = s.0;
          member = s.1;
          is = s.2;
          block = s.3;
          earlier = s.4;
          active = back (λ v. v.active ≡ true) r.active;
          there = ap (λ (v : LiveRange). v.block.0) (range_here e o values numbered s.0 s.1) ∙ s.3;
          space = back (λ v. InSpace v.reg (space_read (issue_at values p).instr j)) r.space;
          ready = back (λ v. v.from + latency_gap e.table v.instr (issue_at values p).instr ≤ (issue_at values p).cycle) r.ready;
          last = back (λ v. (issue_at values p).cycle ≤ v.last + 1) r.last;
          home = subst (λ (r : Option Reg). HasHome r (range_at e o values s.0.temp.0)) ok.home (back (λ v. HasHome x.home v) r.home);
          value = ap (carried e.blocks) s.2 ∙ one_val;
          kind =
              same_kind e o values numbered fit_kinds s.0.temp (temp (first_of x.alts)) (ap (carried e.blocks) s.2 ∙ one_val ∙ sym first)
              ∙ ap (λ (k : Option Kind). unwrap_or k General) ok.kind;
        },
      )
    where
      first_in : (alts : List TempId) → 0 < length alts → Member (temp (first_of alts)) alts
      first_in [] lt = absurd (omega arith)
      first_in (y ∷ ys) lt = inl refl

  -- what is read was given its definer's latency before, where it is not tested fresh
  pub waited_latency : (p : Placed) (j : ℕ) (x : Operand) (want : Want) (r : Reading p j x want)
      → is_fresh_in e.table (range_at e o values r.spot.temp.0).instr (issue_at values p).instr ≡ false
      → (range_at e o values r.spot.temp.0).from + latency_by e.table (range_at e o values r.spot.temp.0).instr ≤ (issue_at values p).cycle
  waited_latency p j x want r stale =
      let g = gap_whole e.table (range_at e o values r.spot.temp.0).instr (issue_at values p).instr stale in
      let late = r.ready in
      omega (arith, g, late)

  -- the number of the register that a result has
  pub register_is : (s : Spot) → Member s (spots e o values) → (temp_register (model_of e o) values s.temp).0 ≡
      (range_at e o values s.temp.0).reg
  register_is s m =
      let vars : slice_get (model_of e o).temps s.temp.0 ≡ Some (temp_vars s) = ap (λ xs. slice_get xs s.temp.0) (temps_are 0 0 0 e.blocks)
      ∙ slice_get-map temp_vars (spots e o values) s.temp.0 ∙ ap (option_map temp_vars) (spot_here e o values numbered s m) in
      ap (λ (t : Option TempVars). (register_by values t).0) vars ∙ sym (ap (λ (v : LiveRange). v.reg) (range_here e o values numbered s m))
