-- The bound that knows no domain is at most what any solution costs.
use Rattle.std.proofs.Common.{◌≡◌, ℕ, zero, suc, ◌+◌, ◌-◌, ◌*◌, ◌≤◌, ◌<◌, Bool, true, false, ◌==◌, if◌then◌else◌, List, [], ◌∷◌, ◌++◌}
use Rattle.std.proofs.Common.{◌||◌, Option, Some, None, length, map, max, refl, sym, ap, ◌∙◌, subst, arith, mul-suc}
use Rattle.std.specs.Prelude.{IfSome, IsSomeAnd, slice_get, slice_index, sum_by, unwrap_or}
use Rattle.std.proofs.lemmas.List.{length-map}
use Rattle.std.proofs.lemmas.Bool.{eqb-false, eq-eqb}
use Rattle.std.proofs.lemmas.Nat.{mul-le}
use Rattle.std.proofs.lemmas.List.Sums.{sum_by-cons, sum_by-append}
use Rattle.un_isa.specs.Facts.{class_of}
use Rattle.un_isa.specs.Fit.{AreFitNeeds, IsFit}
use Rattle.un_isa.specs.Hexagon.{needs_by}
use Rattle.un_isa.specs.Tables.{number_of}
use Rattle.un_isa.specs.declared.op.Op.{Op}
use Rattle.un_isa.specs.declared.table.Needs.{Needs}
use Rattle.un_isa.specs.declared.table.Table.{Table}
use Rattle.un_ir.specs.declared.extended.ExtKind.{ExtKind}
use Rattle.un_ir.specs.declared.extended.ExtKind.TheVariants.{In, Out, Body, End, Copy, Enter, Leave}
use Rattle.un_ir.specs.declared.extended.ExtOp.{ExtOp}
use Rattle.un_ir.specs.declared.extended.ExtBlock.{ExtBlock}
use Rattle.un_ir.specs.Extended.{IsExtended}
use Rattle.un_domains.specs.Sets.{Sets, set_at, has, IsIn}
use Rattle.un_model.specs.declared.model.Arc.{Arc}
use Rattle.un_model.specs.declared.model.BlockVars.{BlockVars}
use Rattle.un_model.specs.declared.model.Model.{Model}
use Rattle.un_model.specs.declared.model.OpVars.{OpVars}
use Rattle.un_model.specs.declared.model.Solution.{Solution}
use Rattle.un_model.specs.declared.schedule.Issue.{Issue}
use Rattle.un_isa.specs.declared.packet_counts.Resource.{Resource}
use Rattle.un_isa.specs.declared.packet_counts.Resource.TheVariants.{Instructions, Memory, Stores, MultiplyOrControl, Control}
use Rattle.un_model.specs.Cost.{value_of, blocks_cost, cost_of}
use Rattle.un_model.specs.Instructions.{instruction_of, no_needs}
use Rattle.un_model.specs.Options.{AreOptions}
use Rattle.un_model.specs.Pairs.{pairs_from, over_blocks}
use Rattle.un_model.specs.Schedules.{value_by, issue_of, block_issues, issues_of}
use Rattle.un_model.specs.Solutions.{IsPlacedAs, IsPlaced, IsSolution, HasRoom, issues_at, share_of, taken}
use Rattle.un_isa.specs.PacketCounts.{places_of, share_of as share_by}
use Rattle.un_model.specs.Variables.{IsModel, block_count, blocks_vars}
use Rattle.un_lists.proofs.Lists.{Each, each_all, each_append}
use Rattle.un_bound.specs.Plain.{plain_share, needed, packets_for, IsPlainSum, IsPlainBound}
use Rattle.un_bound.specs.Relaxations.{AreRelaxed}
use Rattle.un_bound.specs.Choices.{AllKnown}
use Rattle.un_bound.proofs.Members.{times_of, known_box, solution_times}

-- ---- what an operation surely takes, it takes

none_taken : (t : Table) (r : Resource) (n : ℕ) → share_of t r None ≤ n
none_taken t Instructions n = omega arith
none_taken t Memory n = omega arith
none_taken t Stores n = omega arith
none_taken t MultiplyOrControl n = omega arith
none_taken t Control n = omega arith

-- at least what its class needs, for a table that the compiler works for
by_needs : (r : Resource) (least : Needs) (o : Option Needs) → IsSomeAnd o (AreFitNeeds least)
    → share_by r least ≤ share_by r (unwrap_or o no_needs)
by_needs r least None h = absurd h
by_needs Instructions least (Some n) h = omega arith
by_needs Memory least (Some n) h = h.mem.0
by_needs Stores least (Some n) h = h.store.0
by_needs MultiplyOrControl least (Some n) h = h.xc.0
by_needs Control least (Some n) h = h.control.0

by_class : (t : Table) → IsFit t → (r : Resource) (o : Option Op) → plain_share r o ≤ share_of t r o
by_class t fit r None = omega arith
by_class t fit r (Some op) = by_needs r (needs_by (class_of op)) (slice_get t.uses (number_of op)) (fit.needs op)

surely : (t : Table) → IsFit t → (r : Resource) (kind : ExtKind) (n : ℕ)
    → plain_share r (instruction_of kind 0) ≤ share_of t r (instruction_of kind n)
surely t fit r In n = omega arith
surely t fit r Out n = omega arith
surely t fit r (Body o) n = by_class t fit r (instruction_of (Body o) 0)
surely t fit r (End term) n = by_class t fit r (instruction_of (End term) 0)
surely t fit r (Copy node) n = omega arith
surely t fit r Enter n = omega arith
surely t fit r Leave n = omega arith

module _ (t : Table) (fit : IsFit t) (r : Resource) where
  abbrev share : Issue → ℕ
  share i = share_of t r i.instr

  abbrev shares : List Issue → ℕ
  shares is = sum_by share is

  needed_least : (x : List ℕ) (b end n : ℕ) (ops : List ExtOp) (vars : List OpVars) → length vars ≡ length ops
      → needed r ops ≤ shares (pairs_from (issue_of x b end) n ops vars)
  needed_least x b end n [] vars long = omega arith
  needed_least x b end n (op ∷ ops) [] long = absurd (omega (arith, long))
  needed_least x b end n (op ∷ ops) (v ∷ vars) long =
      let a = sum_by-cons (λ (o : ExtOp). plain_share r (instruction_of o.kind 0)) op ops in
      let c = sum_by-cons share (issue_of x b end n op v) (pairs_from (issue_of x b end) (n + 1) ops vars) in
      let d = surely t fit r op.kind (value_by x v.instr) in
      let e = needed_least x b end (n + 1) ops vars (omega (arith, long)) in
      omega (arith, a, c, d, e)

  -- ---- each issue is in one cycle of its block

  -- what issues of block b take in the first n cycles
  abbrev spread : List Issue → ℕ → ℕ → ℕ
  spread is b zero = 0
  spread is b (suc n) = spread is b n + taken t r is b (n + 1)

  abbrev here : Issue → ℕ → ℕ → ℕ
  here i b c = if issues_at b c i then share i else 0

  abbrev one : Issue → ℕ → ℕ → ℕ
  one i b zero = 0
  one i b (suc n) = one i b n + here i b (n + 1)

  spread_none : (b n : ℕ) → spread [] b n ≡ 0
  spread_none b zero = refl
  spread_none b (suc n) = let h = spread_none b n in omega (arith, h)

  spread_cons : (i : Issue) (is : List Issue) (b n : ℕ) → spread (i ∷ is) b n ≡ one i b n + spread is b n
  spread_cons i is b zero = refl
  spread_cons i is b (suc n) =
      let a = sum_by-cons (λ (j : Issue). if issues_at b (n + 1) j then share j else 0) i is in
      let h = spread_cons i is b n in
      omega (arith, a, h)

  one_here : (i : Issue) (b n : ℕ) → i.block.0 ≡ b → 0 < i.cycle → i.cycle ≤ n → share i ≤ one i b n
  one_here i b zero own low high = absurd (omega (arith, low, high))
  one_here i b (suc n) own low high = by (one_here i b n own low) (i.cycle == n + 1) refl
    where
      by : (i.cycle ≤ n → share i ≤ one i b n) → (v : Bool) → (i.cycle == n + 1) ≡ v → share i ≤ one i b n + here i b (n + 1)
      by before true e = let at : here i b (n + 1) ≡ share i = rw (eq-eqb i.block.0 b own, e) refl in omega (arith, at)
      by before false e = omega (arith, before (other (eqb-false i.cycle (n + 1) e)))
        where
          other : (i.cycle ≡ n + 1 → ⊥) → i.cycle ≤ n
          other ne = omega (arith, high, ne)

  one_enough : (i : Issue) (b end : ℕ) → i.block.0 ≡ b → IfSome i.instr (IsPlacedAs i.cycle end) → share i ≤ one i b (end - 1)
  one_enough i b end own placed = by i.instr refl
    where
      by : (instr : Option Op) → i.instr ≡ instr → share i ≤ one i b (end - 1)
      by None e = subst (λ (o : Option Op). share_of t r o ≤ one i b (end - 1)) (sym e) (none_taken t r (one i b (end - 1)))
      by (Some op) e =
          let p : IsPlacedAs i.cycle end op = subst (λ (o : Option Op). IfSome o (IsPlacedAs i.cycle end)) e placed in
          one_here i b (end - 1) own p.0.0 (omega (arith, p.0.1))

  shares_spread : (x : List ℕ) (b end n : ℕ) (ops : List ExtOp) (vars : List OpVars)
      → Each IsPlaced (pairs_from (issue_of x b end) n ops vars)
      → shares (pairs_from (issue_of x b end) n ops vars) ≤ spread (pairs_from (issue_of x b end) n ops vars) b (end - 1)
  shares_spread x b end n [] vars placed = omega arith
  shares_spread x b end n (op ∷ ops) [] placed = omega arith
  shares_spread x b end n (op ∷ ops) (v ∷ vars) placed =
      let i : Issue = issue_of x b end n op v in
      let rest = pairs_from (issue_of x b end) (n + 1) ops vars in
      let a = sum_by-cons share i rest in
      let c = spread_cons i rest b (end - 1) in
      let d = one_enough i b end refl placed.0 in
      let h = shares_spread x b end (n + 1) ops vars placed.1 in
      omega (arith, a, c, d, h)

  -- packets have room
  spread_room : (is : List Issue) (b n : ℕ) → ((c : ℕ) → taken t r is b c ≤ places_of r) → spread is b n ≤ places_of r * n
  spread_room is b zero room = omega arith
  spread_room is b (suc n) room =
      let h = spread_room is b n room in
      let a = room (n + 1) in
      let e : places_of r * suc n ≡ places_of r * n + places_of r = mul-suc (places_of r) n in
      omega (arith, h, a, e)

  -- the packets of a block have what its operations need
  pub enough : (x : List ℕ) (b n : ℕ) (block : ExtBlock) (vars : BlockVars) → length vars.ops ≡ length block.ops
      → Each IsPlaced (block_issues x b n block vars)
      → ((c : ℕ) → taken t r (block_issues x b n block vars) b c ≤ places_of r)
      → needed r block.ops ≤ places_of r * (value_of x vars.end - 1)
  enough x b n block vars long placed room =
      let end = value_of x vars.end in
      let a = needed_least x b end n block.ops vars.ops long in
      let c = shares_spread x b end n block.ops vars.ops placed in
      let d = spread_room (block_issues x b n block vars) b (end - 1) room in
      omega (arith, a, c, d)

  taken_parts : (xs ys : List Issue) (b c : ℕ) → taken t r (xs ++ ys) b c ≡ taken t r xs b c + taken t r ys b c
  taken_parts xs ys b c = sum_by-append (λ (i : Issue). if issues_at b c i then share i else 0) xs ys

few_packets : (r : Resource) (ops : List ExtOp) (n : ℕ) → needed r ops ≤ places_of r * n → packets_for r ops ≤ n
few_packets Instructions ops n h = omega (arith, h)
few_packets Memory ops n h = omega (arith, h)
few_packets Stores ops n h = omega (arith, h)
few_packets MultiplyOrControl ops n h = omega (arith, h)
few_packets Control ops n h = omega (arith, h)

most : (len a b c d n : ℕ) → len ≤ n → a ≤ n → b ≤ n → c ≤ n → d ≤ n → max len (max (max a b) (max c d)) ≤ n
most len a b c d n l p q r s = omega (arith, l, p, q, r, s)

-- ---- all blocks

module _ (t : Table) (fit : IsFit t) (s : Sets) (x : List ℕ) where
  sum_below : (b n : ℕ) (blocks : List ExtBlock) (vars : List BlockVars) (arcs : List (List Arc)) (sum : ℕ)
      → length vars ≡ length blocks → AllKnown (length s) blocks vars → AreRelaxed s n blocks vars arcs (times_of x blocks vars)
      → Each IsPlaced (over_blocks (block_issues x) b n blocks vars)
      → ((r : Resource) (a c : ℕ) → taken t r (over_blocks (block_issues x) b n blocks vars) a c ≤ places_of r)
      → IsPlainSum n blocks arcs sum → sum ≤ blocks_cost x blocks vars
  sum_below b n [] vars arcs sum long known member placed room is = omega (arith, is)
  sum_below b n (block ∷ blocks) vars [] sum long known member placed room is = omega (arith, is)
  sum_below b n (block ∷ blocks) [] (first ∷ arcs) sum long known member placed room is = absurd (omega (arith, long))
  sum_below b n (block ∷ blocks) (v ∷ vars) (first ∷ arcs) sum long known member placed room (packets, more, bound, rest, total) =
      let behind = sum_below (b + 1) (n + length block.ops) blocks vars arcs more (omega (arith, long)) known.1 member.1 parts.1
      (λ r a c. omega (arith, taken_parts t fit r own others a c, room r a c)) rest in
      omega (arith, total, times, behind)
    where
      own : List Issue
      own = block_issues x b n block v

      others : List Issue
      others = over_blocks (block_issues x) (b + 1) (n + length block.ops) blocks vars

      parts : Each IsPlaced own × Each IsPlaced others
      parts = each_append IsPlaced own others placed

      last : ℕ
      last = value_of x v.end - 1

      packets_fit : (r : Resource) → packets_for r block.ops ≤ last
      packets_fit r = few_packets r block.ops last
          (enough t fit r x b n block v known.0.long parts.0 (λ c. omega (arith, taken_parts t fit r own others b c, room r b c)))

      length_fits : (let len = bound.0 in len) ≤ last
      length_fits = bound.1.least (value_of x v.end) _ member.0.timing

      within : packets ≤ last
      within = rw bound.2 (most bound.0 (packets_for Instructions block.ops) (packets_for Memory block.ops)
          (packets_for Stores block.ops) (packets_for MultiplyOrControl block.ops) last length_fits (packets_fit Instructions)
          (packets_fit Memory) (packets_fit Stores) (packets_fit MultiplyOrControl))

      times : block.freq * packets ≤ block.freq * last
      times = mul-le block.freq packets block.freq last (omega arith) within

-- ---- the model

-- the box of values alone
abbrev own_box : List ℕ → Sets
own_box x = map (λ (n : ℕ). n ∷ []) x

own_has : (x : List ℕ) (v : ℕ) → v < length x → has (set_at (own_box x) v) (slice_index x v) ≡ true
own_has [] v lt = absurd (omega (arith, lt))
own_has (n ∷ x) zero lt = ap (λ (b : Bool). b || false) (eq-eqb n n refl)
own_has (n ∷ x) (suc v) lt = own_has x v (omega (arith, lt))

in_own : (x : List ℕ) → IsIn x (own_box x)
in_own x = record {
  long = sym (length-map x (λ (n : ℕ). n ∷ []));
  each = λ v lt. own_has x v (omega (arith, lt, length-map x (λ (n : ℕ). n ∷ [])));
}

length-vars : (first : ℕ) (blocks : List ExtBlock) → length (blocks_vars first blocks) ≡ length blocks
length-vars first [] = refl
length-vars first (block ∷ blocks) = ap suc (length-vars (first + block_count block) blocks)

-- no solution costs less than the bound
pub plain_below : (m : Model) (solution : Solution) (sum : ℕ) → IsModel m → IsExtended m.ext → IsFit m.ext.table
    → AreOptions m.options → IsSolution m solution → IsPlainBound m sum → sum ≤ cost_of m solution
unfolding HasRoom
plain_below m solution sum own extended fit options is bound =
    let x = solution.values in
    let long : length m.blocks ≡ length m.ext.blocks = ap (λ (y : Model). length y.blocks) own ∙ length-vars 0 m.ext.blocks in
    sum_below m.ext.table fit (own_box x) x 0 0 m.ext.blocks m.blocks m.arcs sum long (known_box m solution (own_box x) own is (in_own x))
    (solution_times m solution (own_box x) own extended fit options is (in_own x))
    (each_all IsPlaced (issues_of m x) is.latencies.0) (λ r a c. is.packets a c r) bound
