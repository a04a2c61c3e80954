-- Compacting a schedule of any length gives a solution that costs no more.
use Rattle.std.proofs.Common.{ℕ, zero, suc, ◌≡◌, ◌+◌, ◌-◌, ◌*◌, ◌^◌, ◌<◌, ◌≤◌, Bool, true, false, eqb, List, [], ◌∷◌, length, map, get_or}
use Rattle.std.proofs.Common.{Option, Some, None, ◌⊎◌, inl, inr, ⊎_elim, refl, sym, ap, ◌∙◌, subst, arith, All}
use Rattle.std.specs.Prelude.{◌&&◌, ◌||◌, ◌==◌, is_some, slice_get, slice_index, slice_index_or, unwrap_or, Contains, IfSome, if◌then◌else◌}
use Rattle.std.specs.Option.{option_map}
use Rattle.std.specs.List.{list_all, range_with_len}
use Rattle.std.proofs.lemmas.Bool.{eqb-true}
use Rattle.std.proofs.lemmas.Nat.{mul-le}
use Rattle.un_base.specs.declared.ids.VarId.{VarId}
use Rattle.un_base.specs.declared.ids.TempId.{TempId}
use Rattle.un_isa.specs.declared.op.Op.{Op}
use Rattle.un_isa.specs.Fit.{IsFit}
use Rattle.un_ir.specs.Extended.{IsExtended, AreGoodBlocks, IsGoodExtBlock, IsGoodOperand, wants_of, all_results, temp}
use Rattle.un_ir.specs.Kinds.{is_optional, has_choices, is_delimiter}
use Rattle.un_ir.specs.declared.extended.ExtKind.{ExtKind}
use Rattle.un_ir.specs.declared.extended.ExtKind.TheVariants.{In, Out, Body, End, Copy, Enter, Leave}
use Rattle.un_ir.specs.declared.extended.Operand.{Operand}
use Rattle.un_ir.specs.declared.extended.ExtBlock.{ExtBlock}
use Rattle.un_ir.specs.declared.extended.Ext.{Ext}
use Rattle.un_domains.specs.declared.domain.Domain.{Domain}
use Rattle.un_domains.specs.declared.domain.Domain.TheVariants.{Range}
use Rattle.un_model.specs.declared.model.Options.{Options}
use Rattle.un_model.specs.declared.model.OpVars.{OpVars}
use Rattle.un_model.specs.declared.model.BlockVars.{BlockVars}
use Rattle.un_model.specs.declared.model.Model.{Model}
use Rattle.un_model.specs.declared.schedule.Issue.{Issue}
use Rattle.un_model.specs.declared.schedule.Read.{Read}
use Rattle.un_model.specs.declared.schedule.LiveRange.{LiveRange}
use Rattle.un_model.specs.declared.schedule.Schedule.{Schedule}
use Rattle.un_model.specs.declared.model.Solution.{Solution}
use Rattle.un_model.specs.Cost.{value_of, block_cost, blocks_cost, cost_of}
use Rattle.un_model.specs.Pairs.{places_from}
use Rattle.un_model.specs.declared.model.TempVars.{TempVars}
use Rattle.un_model.specs.Schedules.{value_by, cycle_by, read_of, range_by, range_of, choice_of, issues_of, reads_of, last_read}
use Rattle.un_model.specs.Schedules.{schedule_of}
use Rattle.un_model.specs.Solutions.{InDomain, KeepsDomains, IsSchedule, IsIdleAtZero, IsPlaced, IsPlacedAs, latency_gap, KeepsFrame}
use Rattle.un_model.specs.Solutions.{IsSolution}
use Rattle.un_model.specs.Variables.{IsModel, model_of, domains_of, blocks_domains, own_horizon, has_cycle, count_if, cycle_place}
use Rattle.un_model.specs.Variables.{choice_place, register_place}
use Rattle.un_model.specs.Variables.{var_count, var_at, var_if, ops_vars, ops_count, blocks_vars, blocks_count, chosen_operands}
use Rattle.un_model.specs.Variables.{cycle_domain, ops_domains}
use Rattle.un_model.proofs.Gaps.{gap_short}
use Rattle.un_lists.proofs.Lists.{Each, Member, each_member, each_of, each_more, member_map, member_map_of, member_at, slice_get-map}
use Rattle.un_lists.proofs.Lists.{length_get, get_below, index_get, any_of, none_any}
use Rattle.un_model.proofs.OpDomains.{get_left, keeps_sits, sits_left, all_sit, InDomains, in_entry, choice_sits, get_places}
use Rattle.un_model.proofs.Operations.{GoodPlaced, all_good}
use Rattle.un_model.proofs.Placed.{Placed, vars_of, end_of, issue_at, reads_at, Spot, issues_are, reads_are}
use Rattle.un_model.proofs.PlacedSchedules.{all, spots, joined_member, places_member, get_range, range_get, spot_range}
use Rattle.un_model.proofs.Readings.{zip_get, all_member}
use Rattle.un_violations.proofs.Domains.{kept, zip_length}
use Rattle.un_violations.specs.Loose.{is_number, is_cycle, is_time_in, is_time, opened, loosened, loose_domains, IsLoose}
use Rattle.un_compact.specs.Squeezes.{is_used, squeezed}
use Rattle.un_compact.specs.Compacted.{IsCompactedIn, IsCompacted}
use Rattle.un_compact.specs.Retimed.{moved_by, compacted}
use Rattle.un_compact.proofs.Squeezing.{no_more, before_later, neighbours}
use Rattle.un_compact.proofs.Times.{Owned, owned, stays, moves, value_moved, none_after, cycle_in_use, end_in_use, start_in_use}
use Rattle.un_compact.proofs.Times.{cycle_is_time}
use Rattle.un_compact.proofs.Times.{end_is_time, or_cases, number_if}
use Rattle.un_compact.proofs.Clauses.{Facts, move, all_of, all_at, zeros, choices, spaces, latencies, memory, registers, packets, homes}
use Rattle.un_compact.proofs.Clauses.{congruences, frame}
use Rattle.un_compact.proofs.Moving.{Moves, cycle_in, choice_same, moved}
use Rattle.un_compact.proofs.Sites.{Stands, stands_left, block_site, op_site, cycle_stands, end_stands, end_in_horizon}

-- ---- variables of one operation

each_range : (P : VarId → Type 0) (a n : ℕ) → ((k : ℕ) → a ≤ k → k < a + n → P (var_at k)) → Each P (map var_at (range_with_len a n))
each_range P a zero h = tt
each_range P a (suc n) h =
    (h a (omega arith) (omega arith), each_range P (a + 1) n (λ k lo hi. h k (omega (arith, lo)) (omega (arith, hi))))

abbrev pub no_block : BlockVars
no_block = record { ops = []; end = record { 0 = 0 } }

module _ (e : Ext) (o : Options) (old : List ℕ) where
  abbrev pub new : List ℕ
  new = places_from (moved_by old (blocks_vars 0 e.blocks)) 0 old

  -- the cycles of block b that are in use
  abbrev pub used : ℕ → ℕ → Bool
  used b c = is_used old (slice_index_or (blocks_vars 0 e.blocks) b no_block) c

  pub start : (b : ℕ) → used b 0 ≡ true
  start b = start_in_use old (slice_index_or (blocks_vars 0 e.blocks) b no_block)

  -- ---- what becomes of values

  -- the value of a time is squeezed
  pub time_moves : (vars : BlockVars) → Member vars (blocks_vars 0 e.blocks) → (k : ℕ) → is_time_in vars k ≡ true
      → get_or new k 0 ≡ squeezed (is_used old vars) (get_or old k 0)
  time_moves vars m k t = value_moved old (blocks_vars 0 e.blocks) k ∙ moves old k (get_or old k 0) (get_or old k 0) 0 e.blocks vars m t

  -- all else stays
  pub rest_stays : (k : ℕ) → ((v : BlockVars) → Member v (blocks_vars 0 e.blocks) → is_time_in v k ≡ false)
      → get_or new k 0 ≡ get_or old k 0
  rest_stays k h = value_moved old (blocks_vars 0 e.blocks) k ∙ stays old k (get_or old k 0) (get_or old k 0) (blocks_vars 0 e.blocks) h

  -- an operation, with the variables of its block
  abbrev Site : Placed → Type 0
  Site p = Owned 0 (blocks_vars 0 e.blocks) p × (0 ≤ p.first)

  sites : Each Site (all e o old)
  sites = owned 0 0 0 e.blocks

  other_stays : (p : Placed) → Site p → (j : ℕ) → j < var_count p.op → (has_cycle p.op.kind ≡ true → j ≡ cycle_place p.op → ⊥)
      → get_or new (p.first + j) 0 ≡ get_or old (p.first + j) 0
  other_stays p s j lt unlike = rest_stays (p.first + j) (λ v m. let h = s.0 in h.others j lt unlike v m)

  block_here : (p : Placed) → (s : Site p) → slice_index_or (blocks_vars 0 e.blocks) p.block no_block ≡ (let h = s.0 in h.vars)
  block_here p s =
      let h = s.0 in let q = h.number in
      let k : p.block ≡ h.place = omega (arith, q) in
      ap (λ n. slice_index_or (blocks_vars 0 e.blocks) n no_block) k ∙ index_get (blocks_vars 0 e.blocks) h.place no_block h.vars h.at

  instr_stays : (p : Placed) → Site p → (b : Bool) → is_optional p.op.kind ≡ b
      → value_by new (var_if b p.first) ≡ value_by old (var_if b p.first)
  instr_stays p s false q = refl
  instr_stays p s true q =
      let c = ap count_if q in
      let z : p.first + 0 ≡ p.first = omega arith in
      let r = other_stays p s 0 (inside c) (λ h at. omega (arith, at, c)) in
      subst (λ k. get_or new k 0 ≡ get_or old k 0) z r
    where
      inside : count_if (is_optional p.op.kind) ≡ 1 → 0 < var_count p.op
      inside c = omega (arith, c)

  cycle_moves : (p : Placed) → (s : Site p) → (b : Bool) → has_cycle p.op.kind ≡ b
      → value_by new (var_if b (p.first + cycle_place p.op)) ≡ squeezed (is_used old (let h = s.0 in h.vars))
      (value_by old (var_if b (p.first + cycle_place p.op)))
  cycle_moves p s false q = refl
  cycle_moves p s true q =
      let h = s.0 in
      time_moves h.vars h.member (p.first + cycle_place p.op) (cycle_is_time h.vars (vars_of p) (var_at (p.first + cycle_place p.op)) h.has
      (ap (λ b. var_if b (p.first + cycle_place p.op)) q))

  abbrev pub M : Placed → Type 0
  M p = Moves used start old new p

  moves_of : (p : Placed) → Site p → M p
  moves_of p s =
      let h = s.0 in
      let here = block_here p s in
      record {
        instr = instr_stays p s (is_optional p.op.kind) refl;
        cycle = cycle_moves p s (has_cycle p.op.kind) refl
            ∙ ap (λ (v : BlockVars). squeezed (is_used old v) (value_by old (vars_of p).cycle)) (sym here);
        cycle_used = ap (λ (v : BlockVars). is_used old v (value_by old (vars_of p).cycle)) here ∙ cycle_in_use old h.vars (vars_of p)
            h.has;
        choices = each_range (λ (v : VarId). value_of new v ≡ value_of old v) (p.first + choice_place p.op) (length (chosen_operands p.op))
            (λ k lo hi. choice k lo hi);
        close = subst (λ (c : VarId). value_of new c ≡ squeezed (used p.block) (value_of old c)) h.close
            (time_moves h.vars h.member h.vars.end.0 (end_is_time h.vars)
            ∙ ap (λ (v : BlockVars). squeezed (is_used old v) (value_of old h.vars.end)) (sym here));
        close_used = subst (λ (c : VarId). used p.block (value_of old c) ≡ true) h.close
            (ap (λ (v : BlockVars). is_used old v (value_of old h.vars.end)) here ∙ end_in_use old h.vars);
        results = λ k lt.
            let at : p.first + (register_place p.op + k) ≡ p.first + register_place p.op + k = omega arith in
            subst (λ n. get_or new n 0 ≡ get_or old n 0) at (other_stays p s (register_place p.op + k) (omega (arith, lt))
            (λ c q. let z = ap count_if c in omega (arith, q, z)));
      }
    where
      choice : (k : ℕ) → p.first + choice_place p.op ≤ k → k < p.first + choice_place p.op + length (chosen_operands p.op)
          → get_or new k 0 ≡ get_or old k 0
      choice k lo hi =
          let at : p.first + (k - p.first) ≡ k = omega (arith, lo) in
          subst (λ n. get_or new n 0 ≡ get_or old n 0) at (other_stays p s (k - p.first) (omega (arith, lo, hi))
          (λ c q. let z = ap count_if c in omega (arith, q, z, lo)))

  pub all_move : Each M (all e o old)
  all_move = each_more Site M (all e o old) moves_of sites

  -- ---- costs

  pub end_no_later : (vars : BlockVars) → Member vars (blocks_vars 0 e.blocks) → value_of new vars.end ≤ value_of old vars.end
  end_no_later vars m =
      let t = time_moves vars m vars.end.0 (end_is_time vars) in
      let n = no_more (is_used old vars) 0 (value_of old vars.end) (omega arith) in
      omega (arith, t, n)

costs : (new old : List ℕ) (blocks : List ExtBlock) (vars : List BlockVars)
    → ((v : BlockVars) → Member v vars → value_of new v.end ≤ value_of old v.end)
    → blocks_cost new blocks vars ≤ blocks_cost old blocks vars
costs new old [] vars h = omega arith
costs new old (block ∷ blocks) [] h = omega arith
costs new old (block ∷ blocks) (v ∷ vars) h =
    let first = h v (inl refl) in
    let one : block_cost new block v ≤ block_cost old block v =
    mul-le block.freq (value_of new v.end - 1) block.freq (value_of old v.end - 1) (omega arith) (omega (arith, first)) in
    omega (arith, one, costs new old blocks vars (λ w m. h w (inr m)))

pub cheaper : (e : Ext) (o : Options) (old : List ℕ) → blocks_cost (new e o old) e.blocks (blocks_vars 0 e.blocks)
    ≤ blocks_cost old e.blocks (blocks_vars 0 e.blocks)
cheaper e o old = costs (new e o old) old e.blocks (blocks_vars 0 e.blocks) (end_no_later e o old)

-- ---- a loose schedule, compacted

-- what holds of an assignment to the model of an extended function
pub record Loosely (e : Ext) (o : Options) (old : List ℕ) : Type 0 where
  pub extended : IsExtended e
  pub fit : IsFit e.table
  pub schedule : IsSchedule (latency_gap e.table) (loose_domains (model_of e o)) (model_of e o) old (schedule_of (model_of e o) old)

length-places : {A B : Type 0} (f : ℕ → A → B) (i : ℕ) (xs : List A) → length (places_from f i xs) ≡ length xs
length-places f i [] = refl
length-places f i (x ∷ xs) = ap suc (length-places f (i + 1) xs)

module _ (e : Ext) (o : Options) (old : List ℕ) (h : Loosely e o old) where
  abbrev pub ds : List Domain
  ds = domains_of own_horizon e o

  abbrev pub fresh : List ℕ
  fresh = new e o old

  abbrev pub in_use : ℕ → ℕ → Bool
  in_use = used e o old

  issue_known : (P : Issue → Type 0) → All P (issues_of (model_of e o) old) → (p : Placed) → Member p (all e o old) → P (issue_at old p)
  issue_known P a p mp = all_at P (issues_of (model_of e o) old) (issue_at old p) a
      (subst (Member (issue_at old p)) (sym (issues_are old 0 0 0 e.blocks)) (member_map (issue_at old) (all e o old) p mp))

  -- ---- 1

  -- a value in its loosened domain
  loosely : (k : ℕ) (d : Domain) → slice_get ds k ≡ Some d → InDomain (get_or old k 0) (loosened (is_time (blocks_vars 0 e.blocks) k) d)
  loosely k d q =
      let s = h.schedule in
      let z : 0 + k ≡ k = omega arith in
      subst (λ n. InDomain (get_or old n 0) (loosened (is_time (blocks_vars 0 e.blocks) k) d)) z
      (keeps_sits old (loose_domains (model_of e o)) s.in_domains k (loosened (is_time (blocks_vars 0 e.blocks) k) d)
      (get_places e o old (λ (k : ℕ) (d : Domain). loosened (is_time (blocks_vars 0 e.blocks) k) d) ds 0 k k d (omega arith) q))

  -- an operation's cycle: 0 where it is inactive, and before the end where it is active
  cycle_known : (p : Placed) → Member p (all e o old) → has_cycle p.op.kind ≡ true
      → (value_by old (vars_of p).cycle ≡ 0) ⊎ (value_by old (vars_of p).cycle < end_of old p)
  cycle_known p mp c =
      let s = h.schedule in let z = s.zeros in let l = s.latencies in
      by p.op.kind c (issue_at old p).instr (idle (issue_known IsIdleAtZero z.0 p mp)) (issue_known IsPlaced l.0 p mp)
    where
      idle : IsIdleAtZero (issue_at old p) → ((issue_at old p).active ≡ true) ⊎ (value_by old (vars_of p).cycle ≡ 0)
      idle (inl a) = inl a
      idle (inr z) = inr (first (eqb (value_by old (vars_of p).cycle) 0) refl z)
        where
          first : (b : Bool) → eqb (value_by old (vars_of p).cycle) 0 ≡ b
              → (eqb (value_by old (vars_of p).cycle) 0 && list_all (λ (v : VarId). value_of old v == 0) (vars_of p).choices) ≡ true
              → value_by old (vars_of p).cycle ≡ 0
          first true q f = eqb-true (value_by old (vars_of p).cycle) 0 q
          first false q f = absurd
              (cc (sym (ap (λ (b : Bool). b && list_all (λ (v : VarId). value_of old v == 0) (vars_of p).choices) q) ∙ f))

      inner : (x : Option Op) → (is_some x ≡ true) ⊎ (value_by old (vars_of p).cycle ≡ 0)
          → IfSome x (IsPlacedAs (value_by old (vars_of p).cycle) (end_of old p))
          → (value_by old (vars_of p).cycle ≡ 0) ⊎ (value_by old (vars_of p).cycle < end_of old p)
      inner None (inl a) b = absurd (cc a)
      inner None (inr z) b = inl z
      inner (Some op) a b = let w = b.0 in inr w.1

      by : (k : ExtKind) → has_cycle k ≡ true → (x : Option Op)
          → ((is_delimiter k || is_some x) ≡ true) ⊎ (value_by old (vars_of p).cycle ≡ 0)
          → IfSome x (IsPlacedAs (cycle_by old (end_of old p) k (vars_of p)) (end_of old p))
          → (value_by old (vars_of p).cycle ≡ 0) ⊎ (value_by old (vars_of p).cycle < end_of old p)
      by In c x a b = absurd (cc c)
      by Out c x a b = absurd (cc c)
      by (Body op) c x a b = inner x a b
      by (End term) c x a b = inner x a b
      by (Copy node) c x a b = inner x a b
      by Enter c x a b = inner x a b
      by Leave c x a b = inner x a b

  good : AreGoodBlocks e.table e.names e.blocks (2 ^ 24)
  good = let x = h.extended in x.good

  numbered : all_results e.blocks ≡ map temp (range_with_len 0 (length (all_results e.blocks)))
  numbered = let g = good in g.numbered

  stands : Stands ds 0 (blocks_domains e o own_horizon true e.blocks)
  stands = λ i d q. let z : i ≡ 0 + i = omega arith in
      ap (slice_get ds) (sym z) ∙ get_left (blocks_domains e o own_horizon true e.blocks) (Range 0 1 ∷ []) i d q

  -- a least value of 0 or 1 stays
  least : (u : ℕ → Bool) → u 0 ≡ true → (lo x : ℕ) → lo ≤ 1 → lo ≤ x → lo ≤ squeezed u x
  least u s lo zero few le = omega (arith, le)
  least u s lo (suc x) few le = let r = before_later u 0 (suc x) s (omega arith) in omega (arith, r, few)

  cycle_range : (horizon : ℕ) (k : ExtKind) → has_cycle k ≡ true
      → (lo : ℕ) × (lo ≤ 1) × (cycle_domain horizon k ≡ Some (Range lo (horizon - 1)))
  cycle_range horizon In c = absurd (cc c)
  cycle_range horizon Out c = absurd (cc c)
  cycle_range horizon (Body op) c = (1, omega arith, refl)
  cycle_range horizon (End term) c = (1, omega arith, refl)
  cycle_range horizon (Copy node) c = (0, omega arith, refl)
  cycle_range horizon Enter c = (0, omega arith, refl)
  cycle_range horizon Leave c = (0, omega arith, refl)

  in_range : (u : ℕ → Bool) → u 0 ≡ true → (lo hi x : ℕ) (d : Domain) → lo ≤ 1 → Range lo hi ≡ d → InDomain x (opened d)
      → squeezed u x ≤ hi → InDomain (squeezed u x) d
  in_range u s lo hi x d few q l le =
      subst (InDomain (squeezed u x)) q
      (let r : InDomain x (opened (Range lo hi)) = subst (λ d. InDomain x (opened d)) (sym q) l in (least u s lo x few r.0, le))

  same_domain : (n k : ℕ) (c d : Domain) → n ≡ k → slice_get ds k ≡ Some c → slice_get ds n ≡ Some d → c ≡ d
  same_domain n k c d q a b = let s : Some c ≡ Some d = sym a ∙ ap (slice_get ds) (sym q) ∙ b in cc s

  timed : (n : ℕ) (d : Domain) (vars : BlockVars) → Member vars (blocks_vars 0 e.blocks) → is_time_in vars n ≡ true
      → slice_get ds n ≡ Some d → InDomain (get_or old n 0) (opened d) → InDomain (squeezed (is_used old vars) (get_or old n 0)) d
  timed n d vars mem t q l =
      let site = block_site ds e o true 0 0 0 e.blocks stands vars mem in
      let block = site.block in
      let g = good in
      let fine = all_member (IsGoodExtBlock e.table e.names e.blocks) e.blocks block g.each site.member in
      let long = fine.horizon in
      let short : squeezed (is_used old vars) (value_of old vars.end) ≤ 2 * length block.ops + 2 =
      subst (λ (v : BlockVars). squeezed (is_used old v) (value_of old v.end) ≤ 2 * length block.ops + 2) site.is
      (end_in_horizon old site.first block) in
      ⊎_elim
      (λ (c : is_cycle vars.ops n ≡ true).
      let r = any_of (λ (o : OpVars). is_number n o.cycle) vars.ops c in
      let own : Member r.0 (ops_vars site.first block.ops) = subst (λ (v : BlockVars). Member r.0 v.ops) (sym site.is) r.1 in
      let op = op_site ds e o site.ie site.b block (var_at (site.first + ops_count block.ops)) site.n site.first block.ops
      (stands_left ds site.first (ops_domains e o site.ie block (own_horizon block) block.ops) (Range 1 (own_horizon block) ∷ [])
      site.stands)
      r.0 own in
      let p = op.op in
      let num = number_if (has_cycle p.op.kind) n (p.first + cycle_place p.op) (ap (λ (v : OpVars). is_number n v.cycle) op.is ∙ r.2) in
      let value : get_or old n 0 ≡ value_by old (vars_of p).cycle = ap (λ k. get_or old k 0) num.1
      ∙ sym (ap (λ b. value_by old (var_if b (p.first + cycle_place p.op))) num.0) in
      let dom = cycle_range (own_horizon block) p.op.kind num.0 in
      let at = cycle_stands ds e o site.ie block (own_horizon block) p.first p.op (Range dom.0 (own_horizon block - 1)) op.stands dom.2 in
      let close : p.close ≡ vars.end = op.close ∙ ap (λ (v : BlockVars). v.end) site.is in
      let inside : Member p (all e o old) = site.inside p op.member in
      let live : is_used old vars (get_or old n 0) ≡ true = ap (is_used old vars) value
      ∙ ap (λ (v : OpVars). is_used old vars (value_by old v.cycle)) op.is ∙ cycle_in_use old vars r.0 r.1 in
      let below : squeezed (is_used old vars) (get_or old n 0) ≤ own_horizon block - 1 = ⊎_elim
      (λ (z : value_by old (vars_of p).cycle ≡ 0).
      let y : squeezed (is_used old vars) (get_or old n 0) ≡ 0 = ap (squeezed (is_used old vars)) (value ∙ z) in omega (arith, y))
      (λ (lt : value_by old (vars_of p).cycle < end_of old p).
      let e2 : end_of old p ≡ value_of old vars.end = ap (value_of old) close in
      let b = before_later (is_used old vars) (get_or old n 0) (value_of old vars.end) live (omega (arith, value, lt, e2)) in
      omega (arith, b, short, long))
      (cycle_known p inside num.0) in
      in_range (is_used old vars) (start_in_use old vars) dom.0 (own_horizon block - 1) (get_or old n 0) d dom.1
      (same_domain n (p.first + cycle_place p.op) (Range dom.0 (own_horizon block - 1)) d num.1 at q) l below)
      (λ (c : eqb n vars.end.0 ≡ true).
      let num = eqb-true n vars.end.0 c in
      let at = end_stands ds e o site.ie site.first block site.stands in
      let end : n ≡ site.first + ops_count block.ops = num ∙ sym (ap (λ (v : BlockVars). v.end.0) site.is) in
      let below : squeezed (is_used old vars) (get_or old n 0) ≤ block.horizon =
      let w = ap (λ k. squeezed (is_used old vars) (get_or old k 0)) num in omega (arith, w, short, long) in
      in_range (is_used old vars) (start_in_use old vars) 1 block.horizon (get_or old n 0) d (omega arith)
      (same_domain n (site.first + ops_count block.ops) (Range 1 block.horizon) d end at q) l below)
      (or_cases (is_cycle vars.ops n) (eqb n vars.end.0) t)

  bounded : (n : ℕ) (d : Domain) → slice_get ds n ≡ Some d → InDomain (get_or fresh n 0) d
  bounded n d q = by (is_time (blocks_vars 0 e.blocks) n) refl
    where
      by : (b : Bool) → is_time (blocks_vars 0 e.blocks) n ≡ b → InDomain (get_or fresh n 0) d
      by false f =
          let none = none_any (λ (v : BlockVars). is_time_in v n) (blocks_vars 0 e.blocks) f in
          subst (λ x. InDomain x d) (sym (rest_stays e o old n (λ v mv. each_member (λ (v : BlockVars). is_time_in v n ≡ false)
          (blocks_vars 0 e.blocks) v none mv)))
          (subst (λ b. InDomain (get_or old n 0) (loosened b d)) f (loosely n d q))
      by true f =
          let r = any_of (λ (v : BlockVars). is_time_in v n) (blocks_vars 0 e.blocks) f in
          subst (λ x. InDomain x d) (sym (time_moves e o old r.0 r.1 n r.2))
          (timed n d r.0 r.1 r.2 q (subst (λ b. InDomain (get_or old n 0) (loosened b d)) f (loosely n d q)))

  in_domains : KeepsDomains ds fresh
  in_domains =
      let s = h.schedule in
      let a = zip_length InDomain old (loose_domains (model_of e o)) s.in_domains in
      let b : length (loose_domains (model_of e o)) ≡ length ds =
      length-places (λ (k : ℕ) (d : Domain). loosened (is_time (blocks_vars 0 e.blocks) k) d) 0 ds in
      let c : length fresh ≡ length old = length-places (moved_by old (blocks_vars 0 e.blocks)) 0 old in
      let long : length fresh ≡ length ds = omega (arith, a, b, c) in
      kept ds fresh long (λ n d lt.
      let g = get_below ds n (omega (arith, long, lt)) in
      subst (InDomain (get_or fresh n 0)) (sym (index_get ds n d g.0 g.1)) (bounded n g.0 g.1))

  -- ---- what is read is of the reader's block

  placed_good : (p : Placed) → Member p (all e o old) → GoodPlaced e (2 ^ 24) good p
  placed_good p mp = each_member (GoodPlaced e (2 ^ 24) good) (all e o old) p (all_good e (2 ^ 24) good) mp

  moves_here : (p : Placed) → Member p (all e o old) → Moves in_use (start e o old) old fresh p
  moves_here p mp = each_member (Moves in_use (start e o old) old fresh) (all e o old) p (all_move e o old) mp

  placed_domains : (p : Placed) → Member p (all e o old) → InDomains e o fresh (in_entry e o fresh p) p
  placed_domains p mp = each_member (λ p. InDomains e o fresh (in_entry e o fresh p) p) (all e o old) p
      (all_sit e o fresh true 0 0 0 e.blocks refl (sits_left fresh _ _ 0 (keeps_sits fresh ds in_domains))) mp

  -- what an operand chooses is one of its alternatives
  choice_in : (p : Placed) (j : ℕ) (x : Operand) → Member p (all e o old) → slice_get p.op.operands j ≡ Some x → 0 < length x.alts
      → Member (choice_of old (vars_of p) j x) x.alts
  choice_in p j x mp q pos =
      let mv = moves_here p mp in
      let same = choice_same fresh old (vars_of p).choices j mv.choices in
      let low = below (has_choices p.op.kind) refl in
      let r = get_below x.alts (value_by old (slice_get (vars_of p).choices j)) (omega (arith, same, low)) in
      subst (λ (y : TempId). Member y x.alts) (sym (ap (λ (y : Option TempId). unwrap_or y (temp 0)) r.1))
      (member_at x.alts (value_by old (slice_get (vars_of p).choices j)) r.0 r.1)
    where
      all_of : (b : Bool) → has_choices p.op.kind ≡ b → chosen_operands p.op ≡ (if b then p.op.operands else [])
      all_of b c = ap (λ (c : Bool). if c then p.op.operands else []) c

      below : (b : Bool) → has_choices p.op.kind ≡ b → value_by fresh (slice_get (vars_of p).choices j) < length x.alts
      below true c =
          let ops = all_of true c in
          let n = length_get p.op.operands j x q in
          let l : length (chosen_operands p.op) ≡ length p.op.operands = ap length ops in
          let get : slice_get (vars_of p).choices j ≡ Some (var_at (p.first + choice_place p.op + j)) =
          slice_get-map var_at (range_with_len (p.first + choice_place p.op) (length (chosen_operands p.op))) j
          ∙ ap (option_map var_at) (get_range (p.first + choice_place p.op) (length (chosen_operands p.op)) j (omega arith)) in
          let d = choice_sits e o fresh (in_entry e o fresh p) p j x (placed_domains p mp) (ap (λ xs. slice_get xs j) ops ∙ q) in
          let v : value_by fresh (slice_get (vars_of p).choices j) ≡ slice_index fresh (p.first + choice_place p.op + j) =
          ap (value_by fresh) get in
          let hi = d.1 in
          omega arith
      below false c =
          let ops = all_of false c in
          let get : slice_get (vars_of p).choices j ≡ None = ap (λ n. slice_get
          (map var_at (range_with_len (p.first + choice_place p.op) n)) j) (ap length ops) in
          let v : value_by fresh (slice_get (vars_of p).choices j) ≡ 0 = ap (value_by fresh) get in
          omega arith

  -- where a read comes from
  record ReadSite (r : Read) : Type 0 where
    p : Placed
    member : Member p (all e o old)
    j : ℕ
    x : Operand
    operand : slice_get p.op.operands j ≡ Some x
    is : read_of old (issue_at old p) (vars_of p) j x ≡ r

  read_site : (r : Read) → Member r (reads_of (model_of e o) old) → ReadSite r
  read_site r mr =
      let a = joined_member (reads_at old) (all e o old) r (subst (Member r) (reads_are old 0 0 0 e.blocks) mr) in
      by a.0 a.1 (issue_at old a.0).active a.2
    where
      by : (p : Placed) → Member p (all e o old) → (b : Bool)
          → Member r (if b then places_from (read_of old (issue_at old p) (vars_of p)) 0 p.op.operands else []) → ReadSite r
      by p mp true mem =
          let b = places_member (read_of old (issue_at old p) (vars_of p)) 0 p.op.operands r mem in
          let z : 0 + b.0 ≡ b.0 = omega arith in
          record {
            p = p;
            member = mp;
            j = b.0;
            x = b.1;
            operand = b.2;
            is = ap (λ n. read_of old (issue_at old p) (vars_of p) n b.1) (sym z) ∙ b.3;
          }
      by p mp false mem = elim mem [ ]

  local : (r : Read) → Member r (reads_of (model_of e o) old)
      → (s : Spot) × (Member s (spots e o old)) × (s.temp.0 ≡ r.temp.0) × (s.definer.block ≡ r.block.0)
  local r mr =
      let a = read_site r mr in
      let p = a.p in
      let g = placed_good p a.member in
      let k = g.keeps in
      let z = zip_get (IsGoodOperand e.names e.blocks g.before) p.op.operands (wants_of e.table e.names e.blocks p.owner p.op.kind p.op)
      a.j a.x
      k.operands a.operand in
      let ok = z.2 in
      let y = choice_of old (vars_of p) a.j a.x in
      let s = g.local y (all_member (Contains g.before) a.x.alts y ok.known (choice_in p a.j a.x a.member a.operand ok.chooses)) in
      (s.0, s.1, ap (λ (t : TempId). t.0) s.2 ∙ ap (λ (r : Read). r.temp.0) a.is, s.3 ∙ ap (λ (r : Read). r.block.0) a.is)

  -- ---- the schedule

  abbrev pub before : Schedule
  before = schedule_of (model_of e o) old

  issue_used : (i : Issue) → Member i (issues_of (model_of e o) old) → (in_use i.block.0 i.cycle ≡ true) × (in_use i.block.0 i.end ≡ true)
  issue_used i mi =
      let a = member_map_of (issue_at old) (all e o old) i (subst (Member i) (issues_are old 0 0 0 e.blocks) mi) in
      let p = a.0 in
      let mv = moves_here p a.1 in
      subst (λ (i : Issue). (in_use i.block.0 i.cycle ≡ true) × (in_use i.block.0 i.end ≡ true)) a.2
      (cycle_in in_use (start e o old) old fresh p p.op.kind mv, mv.close_used)

  read_used : (r : Read) → Member r (reads_of (model_of e o) old) → in_use r.block.0 r.cycle ≡ true
  read_used r mr =
      let a = read_site r mr in
      let mv = moves_here a.p a.member in
      subst (λ (r : Read). in_use r.block.0 r.cycle ≡ true) a.is (cycle_in in_use (start e o old) old fresh a.p a.p.op.kind mv)

  range_used : (x : LiveRange) → Member x before.ranges → (in_use x.block.0 x.from ≡ true) × (x.from ≤ x.last)
  range_used x mx =
      let a = places_member (range_of old (issues_of (model_of e o) old) (reads_of (model_of e o) old)) 0 (model_of e o).temps x mx in
      subst (λ (x : LiveRange). (in_use x.block.0 x.from ≡ true) × (x.from ≤ x.last)) a.3
      (by a.1 (last_read (reads_of (model_of e o) old) (0 + a.0)) (slice_get (issues_of (model_of e o) old) a.1.op.0) refl)
    where
      by : (t : TempVars) (l : ℕ) (i : Option Issue) → slice_get (issues_of (model_of e o) old) t.op.0 ≡ i
          → (in_use (range_by old t l i).block.0 (range_by old t l i).from ≡ true) × ((range_by old t l i).from ≤ (range_by old t l i).last)
      by t l None q = (start e o old 0, omega arith)
      by t l (Some i) q = let u = issue_used i (member_at (issues_of (model_of e o) old) t.op.0 i q) in (u.0, omega arith)

  read_local : (r : Read) (x : LiveRange) → Member r before.reads → slice_get before.ranges r.temp.0 ≡ Some x → x.block.0 ≡ r.block.0
  read_local r x mr q =
      let s = local r mr in
      let g = range_get e o old numbered s.0 s.1 in
      let same : Some (spot_range e o old s.0) ≡ Some x = sym g ∙ ap (slice_get before.ranges) s.2 ∙ q in
      let is : spot_range e o old s.0 ≡ x = cc same in
      sym (ap (λ (x : LiveRange). x.block.0) is) ∙ s.3

  facts : Facts in_use (start e o old) before
  facts = record { issues = issue_used; reads = read_used; ranges = range_used; local = read_local }

  pub solved : IsSchedule (latency_gap e.table) ds (model_of e o) fresh (schedule_of (model_of e o) fresh)
  solved =
      let s = h.schedule in
      let st = start e o old in
      let flag : value_of old (var_at (blocks_count e.blocks)) ≡ value_of fresh (var_at (blocks_count e.blocks)) =
      sym (rest_stays e o old (blocks_count e.blocks) (λ v mv. none_after 0 (blocks_count e.blocks) e.blocks (omega arith) v mv)) in
      subst (λ (t : Schedule). IsSchedule (latency_gap e.table) ds (model_of e o) fresh t)
      (sym (moved in_use st old fresh e o (all_move e o old) numbered local))
      (record {
        in_domains = in_domains;
        zeros = zeros in_use st before facts s.zeros;
        choices = choices in_use st before facts s.choices;
        spaces = spaces in_use st before facts s.spaces;
        latencies = latencies in_use st before facts (latency_gap e.table) (gap_short e.table h.fit) s.latencies;
        memory = memory in_use st before facts s.memory;
        registers = registers in_use st before facts e.table.clobbered s.registers;
        packets = packets in_use st before facts e.table s.packets;
        homes = homes in_use st before facts s.homes;
        congruences = congruences in_use st before facts e.blocks s.congruences;
        frame = subst (λ n. KeepsFrame n (move in_use st before)) flag
            (frame in_use st before facts (value_of old (var_at (blocks_count e.blocks))) s.frame);
      })

-- ---- of any model

module _ (e : Ext) (o : Options) (s : Solution) where
  cycle : (vars : BlockVars) → Member vars (blocks_vars 0 e.blocks) → (v : OpVars) → Member v vars.ops → (x : Option VarId) → v.cycle ≡ x
      → IfSome x (λ (w : VarId). value_of (new e o s.values) w ≡ squeezed (is_used s.values vars) (value_of s.values w))
  cycle vars mem v mv None q = tt
  cycle vars mem v mv (Some w) q = time_moves e o s.values vars mem w.0 (cycle_is_time vars v w mv q)

  in_block : (vars : BlockVars) → Member vars (blocks_vars 0 e.blocks) → IsCompactedIn s.values (new e o s.values) vars
  in_block vars mem = record {
    moved = squeezed (is_used s.values vars);
    squeeze = record {
      start = refl;
      each = λ p u n. neighbours (is_used s.values vars) p u n.first n.second n.order n.none;
    };
    cycles = all_of (λ (v : OpVars). IfSome v.cycle (λ (w : VarId). value_of (new e o s.values) w
        ≡ squeezed (is_used s.values vars) (value_of s.values w))) vars.ops
        (each_of (λ (v : OpVars). IfSome v.cycle (λ (w : VarId). value_of (new e o s.values) w
        ≡ squeezed (is_used s.values vars) (value_of s.values w))) vars.ops (λ v mv. cycle vars mem v mv v.cycle refl));
    end = time_moves e o s.values vars mem vars.end.0 (end_is_time vars);
  }

  exactly_of : IsCompacted (model_of e o) s (compacted (model_of e o) s)
  unfolding compacted
  exactly_of = record {
    long = length-places (moved_by s.values (blocks_vars 0 e.blocks)) 0 s.values;
    blocks = all_of (IsCompactedIn s.values (new e o s.values)) (blocks_vars 0 e.blocks)
        (each_of (IsCompactedIn s.values (new e o s.values)) (blocks_vars 0 e.blocks) in_block);
    rest = λ k f. rest_stays e o s.values k (λ v mv. each_member (λ (v : BlockVars). is_time_in v k ≡ false) (blocks_vars 0 e.blocks) v
        (none_any (λ (v : BlockVars). is_time_in v k) (blocks_vars 0 e.blocks) f) mv);
  }

  solution_of : IsExtended e → IsFit e.table → IsLoose (model_of e o) s → IsSolution (model_of e o) (compacted (model_of e o) s)
  unfolding compacted
  solution_of extended fit loose = solved e o s.values (record { extended = extended; fit = fit; schedule = loose })

  cost_falls : cost_of (model_of e o) (compacted (model_of e o) s) ≤ cost_of (model_of e o) s
  unfolding compacted
  cost_falls = cheaper e o s.values

pub exactly : (m : Model) → IsModel m → (s : Solution) → IsCompacted m s (compacted m s)
exactly m own s = subst (λ (n : Model). IsCompacted n s (compacted n s)) (sym own) (exactly_of m.ext m.options s)

pub is_solution : (m : Model) → IsModel m → IsExtended m.ext → IsFit m.ext.table → (s : Solution) → IsLoose m s
    → IsSolution m (compacted m s)
is_solution m own extended fit s loose = subst (λ (n : Model). IsSolution n (compacted n s)) (sym own)
    (solution_of m.ext m.options s extended fit (subst (λ (n : Model). IsLoose n s) own loose))

pub costs_no_more : (m : Model) → IsModel m → (s : Solution) → cost_of m (compacted m s) ≤ cost_of m s
costs_no_more m own s = subst (λ (n : Model). cost_of n (compacted n s) ≤ cost_of n s) (sym own) (cost_falls m.ext m.options s)

pub no_cheaper : (m : Model) → IsModel m → IsExtended m.ext → IsFit m.ext.table → (n : ℕ)
    → ((s : Solution) → IsSolution m s → n ≤ cost_of m s)
    → (x : Solution) → IsLoose m x → n ≤ cost_of m x
no_cheaper m own extended fit n all x loose =
    let a = all (compacted m x) (is_solution m own extended fit x loose) in
    let b = costs_no_more m own x in
    omega (arith, a, b)
