-- Where the propagators of cycles and ends let a store stay as it is, its least cycles and its least ends are a member of its
-- relaxation under the limit.
use Rattle.std.proofs.Common.{ℕ, suc, ◌≡◌, ◌+◌, ◌-◌, ◌*◌, ◌<◌, ◌++◌, Bool, true, false, List, [], ◌∷◌, length, map}
use Rattle.std.proofs.Common.{refl, sym, ap, ◌∙◌, subst, arith, All}
use Rattle.std.proofs.lemmas.List.{length-map}
use Rattle.std.specs.Prelude.{Option, Some, None, IfSome, slice_get, slice_index}
use Rattle.std.specs.Option.{option_map}
use Rattle.un_base.specs.declared.ids.VarId.{VarId}
use Rattle.un_isa.specs.Fit.{IsFit}
use Rattle.un_isa.specs.declared.op.Op.{Op}
use Rattle.un_ir.specs.declared.function.Term.TheVariants.{Fall}
use Rattle.un_ir.specs.declared.extended.Ext.{Ext}
use Rattle.un_ir.specs.declared.extended.ExtBlock.{ExtBlock}
use Rattle.un_ir.specs.declared.extended.ExtKind.{ExtKind}
use Rattle.un_ir.specs.declared.extended.ExtKind.TheVariants.{In, Out, Body, End, Copy, Enter, Leave}
use Rattle.un_ir.specs.declared.extended.ExtOp.{ExtOp}
use Rattle.un_ir.specs.Extended.{IsExtended}
use Rattle.un_domains.specs.Domains.{values_of}
use Rattle.un_domains.specs.Order.{Below}
use Rattle.un_domains.specs.OrderLaws.{has_below}
use Rattle.un_domains.specs.Sets.{Sets, IsIn, NoneEmpty, has, set_at}
use Rattle.un_model.specs.declared.model.Arc.{Arc}
use Rattle.un_model.specs.declared.model.Options.{Options}
use Rattle.un_model.specs.declared.model.OpVars.{OpVars}
use Rattle.un_model.specs.declared.model.Model.{Model}
use Rattle.un_model.specs.ArcLaws.{arc_told}
use Rattle.un_ir.specs.Kinds.{is_mandatory}
use Rattle.un_model.specs.Arcs.{block_arcs, blocks_arcs}
use Rattle.un_model.specs.Cost.{blocks_cost, cost_of}
use Rattle.un_model.specs.Instructions.{instruction_of}
use Rattle.un_model.specs.Options.{AreOptions}
use Rattle.un_model.specs.Pairs.{joined, over_blocks}
use Rattle.un_model.specs.Schedules.{cycle_by, value_by}
use Rattle.un_model.specs.Solutions.{IsPlaced, IsPlacedAs}
use Rattle.un_model.specs.Variables.{model_of, op_vars, ops_vars, blocks_vars, ops_count, block_count, var_count, var_at, var_if}
use Rattle.un_model.specs.Variables.{has_cycle, cycle_place, blocks_temps}
use Rattle.un_lists.proofs.Lists.{Each, Member, each_of, each_all, each_member, each_append, each_map, each_of_map, index_get, member_at}
use Rattle.un_lists.proofs.Lists.{slice_get-map}
use Rattle.un_model.proofs.Operations.{placed_is, placed_get}
use Rattle.un_model.proofs.Placed.{Placed, placed, Region, region_placed, vars_of, issue_at}
use Rattle.un_model.proofs.PlacedSchedules.{all}
use Rattle.un_bound.specs.Choices.{IsKnown, AreKnown, AllKnown}
use Rattle.un_bound.specs.Relaxations.{Times, IsValue, InOwnSet, IsRelaxed, AreRelaxed, times_cost, IsMember, IsMemberUnder}
use Rattle.un_bound.specs.Timings.{IsTimed, IsKept}
use Rattle.un_bound.proofs.Knowns.{known_model}
use Rattle.un_sites.specs.Befores.{arc_before, befores_in, befores_of, lengths_of}
use Rattle.un_kinds.specs.Constraints.{Constraint, AllMet}
use Rattle.un_sites.specs.Places.{Place, act_of, places_of, definers_of, asked_by}
use Rattle.un_sites.specs.Postings.{over_places, of_place, of_operand, zeros_of, issue_by, issues_in, results_in, edges_of, frame_of}
use Rattle.un_sites.specs.Postings.{limit_of, postings_of}
use Rattle.un_sites.specs.Pressures.{pressures_of}
use Rattle.un_sites.specs.Rooms.{rooms_of}
use Rattle.un_post.specs.Listed.{counts_of, all_postings_of}
use Rattle.un_post.specs.Strength.{is_timing, Strong}
use Rattle.un_post.proofs.Blocks.{blocks, in_all}
use Rattle.un_post.proofs.Exact.{of_domains}
use Rattle.un_post.proofs.Facts.{Given}
use Rattle.un_post.proofs.Latencies.{placed_at}
use Rattle.un_post.proofs.LeastValues.{leasts, leasts_in, strong_met}
use Rattle.un_post.proofs.Limits.{limits}
use Rattle.un_root.proofs.Eaches.{all_each}
use Rattle.un_post.proofs.Meeting.{Met, met_all, all_met, each_joined, joined_each}
use Rattle.un_post.proofs.Memory.{one, arcs_by_regions, member_contains}
use Rattle.un_post.proofs.Placing.{place_of, place_here, places_are}
use Rattle.un_model.proofs.Regions.{regions}

-- ---- the operations of a block

length_placed : (b : ℕ) (owner : ExtBlock) (close : VarId) (n first : ℕ) (ops : List ExtOp)
    → length (placed b owner close n first ops) ≡ length ops
length_placed b owner close n first [] = refl
length_placed b owner close n first (op ∷ ops) = ap suc (length_placed b owner close (n + 1) (first + var_count op) ops)

placed_vars : (b : ℕ) (owner : ExtBlock) (close : VarId) (n first : ℕ) (ops : List ExtOp)
    → ops_vars first ops ≡ map vars_of (placed b owner close n first ops)
placed_vars b owner close n first [] = refl
placed_vars b owner close n first (op ∷ ops) =
    ap (λ vs. op_vars first op ∷ vs) (placed_vars b owner close (n + 1) (first + var_count op) ops)

-- ---- what is posted of an operation's place in its block is of cycles and ends

pub timing_issues : (p : Place) → Each (λ (c : Constraint). is_timing c ≡ true) (issues_in p)
timing_issues p = let v = p.vars in let it = p.it in by it.kind v.cycle
  where
    by : (kind : ExtKind) (cycle : Option VarId) → Each (λ (c : Constraint). is_timing c ≡ true) (issue_by kind (act_of p) p.end cycle)
    by kind None = tt
    by (End Fall) (Some at) = tt
    by (End term) (Some at) = (refl, tt)
    by kind (Some at) = (refl, tt)

-- ---- the times of an assignment within the domains

module _ (e : Ext) (o : Options) (x : List ℕ) (given : Given e o x) where
  abbrev cycle_at : Placed → ℕ
  cycle_at q = (issue_at x q).cycle

  abbrev pub region_times : Region → Times
  region_times r = let owner = r.owner in record {
    end = slice_index x (r.first + ops_count owner.ops);
    cycles = map cycle_at (region_placed r);
  }

  abbrev pub arcs_in : Region → List Arc
  arcs_in r = let owner = r.owner in block_arcs e.table (blocks_temps 0 0 e.blocks) r.number owner.ops

  -- an operation that issues where it may
  timed : (q : Placed) → Member q (all e o x) → Met x (issues_in (place_of q)) → IsTimed (issue_at x q).end (cycle_at q) q.op.kind
  timed q m met = by q.op.kind refl
    where
      is_placed : IsPlaced (issue_at x q)
      is_placed = (placed_at e o x given q m).1 met

      own : (kind : ExtKind) (i : Option Op) → q.op.kind ≡ kind → instruction_of kind (value_by x (vars_of q).instr) ≡ i
          → IfSome i (IsPlacedAs (cycle_at q) (issue_at x q).end)
      own kind i k made = subst (λ (i : Option Op). IfSome i (IsPlacedAs (cycle_at q) (issue_at x q).end))
          (ap (λ (c : ExtKind). instruction_of c (value_by x (vars_of q).instr)) k ∙ made) is_placed

      back : (kind : ExtKind) → q.op.kind ≡ kind → IsTimed (issue_at x q).end (cycle_at q) kind
          → IsTimed (issue_at x q).end (cycle_at q) q.op.kind
      back kind k h = subst (IsTimed (issue_at x q).end (cycle_at q)) (sym k) h

      cycle_is : (kind : ExtKind) → q.op.kind ≡ kind → cycle_at q ≡ cycle_by x (issue_at x q).end kind (vars_of q)
      cycle_is kind k = ap (λ (c : ExtKind). cycle_by x (issue_at x q).end c (vars_of q)) k

      by : (kind : ExtKind) → q.op.kind ≡ kind → IsTimed (issue_at x q).end (cycle_at q) q.op.kind
      by In k = back In k (cycle_is In k)
      by Out k = back Out k (cycle_is Out k)
      by (Body so) k = back (Body so) k (own (Body so) (Some so.op) k refl)
      by (End term) k = back (End term) k (own (End term) (instruction_of (End term) 0) k refl)
      by (Copy node) k = back (Copy node) k tt
      by Enter k = back Enter k tt
      by Leave k = back Leave k tt

  module _ (s : Sets) (within : IsIn x s) where
    -- its cycle is in the set of its variable, where it has one
    abbrev InSet : Placed → Bool → Type 0
    InSet q timed = IfSome (var_if timed (q.first + cycle_place q.op)) (λ (v : VarId). IsValue s v (cycle_at q))

    own_set : (q : Placed) → IsKnown (length s) q.op.kind (vars_of q).cycle → InOwnSet s (cycle_at q) q.op (vars_of q)
    own_set q known mandatory = by q.op.kind refl
      where
        value : (kind : ExtKind) → q.op.kind ≡ kind → has_cycle kind ≡ true
            → (let v = vars_of q in let n = q.first + cycle_place q.op in
            cycle_by x (issue_at x q).end kind (record { instr = v.instr; cycle = Some (var_at n); choices = v.choices }) ≡ slice_index x n)
            → q.first + cycle_place q.op < length s → InSet q (has_cycle q.op.kind)
        value kind k timed read lt =
            let n = q.first + cycle_place q.op in
            let v = vars_of q in
            let same : cycle_at q ≡ slice_index x n =
            ap (λ (c : ExtKind). cycle_by x (issue_at x q).end c
            (record { instr = v.instr; cycle = var_if (has_cycle c) n; choices = v.choices })) k
            ∙ ap (λ (b : Bool). cycle_by x (issue_at x q).end kind
            (record { instr = v.instr; cycle = var_if b n; choices = v.choices })) timed ∙ read in
            subst (InSet q) (sym (ap has_cycle k ∙ timed)) (subst (λ c. has (set_at s n) c ≡ true) (sym same) (within.each n lt))

        none : (kind : ExtKind) → q.op.kind ≡ kind → has_cycle kind ≡ false → InSet q (has_cycle q.op.kind)
        none kind k f = subst (InSet q) (sym (ap has_cycle k ∙ f)) tt

        told : (kind : ExtKind) → q.op.kind ≡ kind → IsKnown (length s) kind (var_if (has_cycle kind) (q.first + cycle_place q.op))
        told kind k = subst (λ (c : ExtKind). IsKnown (length s) c (var_if (has_cycle c) (q.first + cycle_place q.op))) k known

        optional : (kind : ExtKind) → q.op.kind ≡ kind → is_mandatory kind ≡ false → ⊥
        optional kind k f = let z : true ≡ false = sym mandatory ∙ ap is_mandatory k ∙ f in cc z

        by : (kind : ExtKind) → q.op.kind ≡ kind → InSet q (has_cycle q.op.kind)
        by In k = none In k refl
        by Out k = none Out k refl
        by (Body so) k = value (Body so) k refl refl (told (Body so) k)
        by (End term) k = value (End term) k refl refl (told (End term) k)
        by (Copy node) k = absurd (optional (Copy node) k refl)
        by Enter k = absurd (optional Enter k refl)
        by Leave k = absurd (optional Leave k refl)

    -- ---- a block

    -- its operation at a place
    record Here (r : Region) (k : ℕ) (op : ExtOp) : Type 0 where
      pub it : Placed
      pub stands : slice_get (region_placed r) k ≡ Some it
      pub is : it.op ≡ op
      pub member : Member it (all e o x)
      pub number : it.number ≡ r.number + k
      pub close : (let owner = r.owner in it.close ≡ var_at (r.first + ops_count owner.ops))

    here : (r : Region) → Member r (blocks e o x) → (k : ℕ) (op : ExtOp) → (let owner = r.owner in slice_get owner.ops k ≡ Some op)
        → Here r k op
    here r mr k op at =
        let owner = r.owner in
        let close = var_at (r.first + ops_count owner.ops) in
        let p = placed_get r.block owner close r.number r.first k owner.ops op at in
        let is = placed_is r.block owner close r.number r.first k owner.ops p.0 p.1 in
        record {
          it = p.0;
          stands = p.1;
          is = p.2;
          member = in_all e o x r p.0 mr (member_at (region_placed r) k p.0 p.1);
          number = is.1;
          close = is.4;
        }

    cycle_here : (r : Region) (k : ℕ) (op : ExtOp) (h : Here r k op) → slice_index (map cycle_at (region_placed r)) k ≡ cycle_at h.it
    cycle_here r k op h = index_get (map cycle_at (region_placed r)) k 0 (cycle_at h.it)
        (slice_get-map cycle_at (region_placed r) k ∙ ap (option_map cycle_at) h.stands)

    abbrev Issues : Type 0
    Issues = Each (λ q. Met x (issues_in (place_of q))) (all e o x)

    abbrev pub RegionRelaxed : Region → Type 0
    RegionRelaxed r = let owner = r.owner in
        IsRelaxed s r.number (var_at (r.first + ops_count owner.ops)) owner.ops (ops_vars r.first owner.ops) (arcs_in r) (region_times r)

    abbrev pub RegionKnown : Region → Type 0
    RegionKnown r = let owner = r.owner in
        AreKnown (length s) (var_at (r.first + ops_count owner.ops)) owner.ops (ops_vars r.first owner.ops)

    -- its operations issue where they may
    abbrev IssuesIn : Region → Type 0
    IssuesIn r = (q : Placed) → Member q (region_placed r) → Met x (issues_in (place_of q))

    pub relaxed : (r : Region) → Member r (blocks e o x) → IssuesIn r → Met x (befores_in (places_of (model_of e o)) (arcs_in r))
        → RegionKnown r → RegionRelaxed r
    relaxed r mr issues met known =
        let owner = r.owner in
        let places = places_of (model_of e o) in
        let cycles = map cycle_at (region_placed r) in
        let end = slice_index x (r.first + ops_count owner.ops) in
        let arcs = arcs_in r in
        record {
          timing = record {
            long = length-map (region_placed r) cycle_at
                ∙ length_placed r.block owner (var_at (r.first + ops_count owner.ops)) r.number r.first owner.ops;
            each = λ k op at.
                let h = here r mr k op at in
                let t = timed h.it h.member (issues h.it (member_at (region_placed r) k h.it h.stands)) in
                let stop : (issue_at x h.it).end ≡ end = ap (λ (v : VarId). slice_index x v.0) h.close in
                subst (λ (p : ExtOp). IsTimed end (slice_index cycles k) p.kind) h.is
                (subst (λ c. IsTimed end c h.it.op.kind) (sym (cycle_here r k op h))
                (subst (λ n. IsTimed n (cycle_at h.it) h.it.op.kind) stop t));
            kept = all_each (IsKept r.number cycles) arcs (each_of (IsKept r.number cycles) arcs (λ a m.
                let told = arc_told e.table (blocks_temps 0 0 e.blocks) r.number owner.ops a (member_contains arcs a m) in
                let p = here r mr told.earlier told.from told.from_at in
                let q = here r mr told.later told.to told.to_at in
                let from = told.numbers.0 in
                let to = told.numbers.1 in
                let pa = ap (slice_get places) (from ∙ sym p.number) ∙ place_here e o x p.it p.member in
                let qa = ap (slice_get places) (to ∙ sym q.number) ∙ place_here e o x q.it q.member in
                let le = (one e o x given a p.it q.it pa qa).1
                (each_member _ arcs a (each_of_map _ (arc_before places) arcs met) m) in
                let i : a.from.0 - r.number ≡ told.earlier = omega (arith, from) in
                let j : a.to.0 - r.number ≡ told.later = omega (arith, to) in
                let f = ap (slice_index cycles) i ∙ cycle_here r told.earlier told.from p in
                let t = ap (slice_index cycles) j ∙ cycle_here r told.later told.to q in
                omega (arith, le, f, t)));
          };
          stop = within.each (r.first + ops_count owner.ops) known.stop;
          cycles = λ k op v at vat.
              let h = here r mr k op at in
              let q = h.it in
              let vars : slice_get (ops_vars r.first owner.ops) k ≡ Some (vars_of q) =
              ap (λ vs. slice_get vs k) (placed_vars r.block owner (var_at (r.first + ops_count owner.ops)) r.number r.first owner.ops)
              ∙ slice_get-map vars_of (region_placed r) k ∙ ap (option_map vars_of) h.stands in
              let some : Some v ≡ Some (vars_of q) = sym vat ∙ vars in
              let same : v ≡ vars_of q = cc some in
              let k1 = subst (λ (w : OpVars). IsKnown (length s) op.kind w.cycle) same (known.each k op v at vat) in
              let k2 = subst (λ (p : ExtOp). IsKnown (length s) p.kind (vars_of q).cycle) (sym h.is) k1 in
              subst (λ (w : OpVars). InOwnSet s (slice_index cycles k) op w) (sym same)
              (subst (λ (p : ExtOp). InOwnSet s (slice_index cycles k) p (vars_of q)) h.is
              (subst (λ c. InOwnSet s c q.op (vars_of q)) (sym (cycle_here r k op h)) (own_set q k2)));
        }

    -- ---- all blocks

    are_relaxed : (b n first : ℕ) (bs : List ExtBlock) → AllKnown (length s) bs (blocks_vars first bs)
        → Each (λ r. RegionKnown r → RegionRelaxed r) (regions b n first bs)
        → AreRelaxed s n bs (blocks_vars first bs) (blocks_arcs e.table (blocks_temps 0 0 e.blocks) n bs)
        (map region_times (regions b n first bs))
    are_relaxed b n first [] known each = refl
    are_relaxed b n first (block ∷ bs) known each = (
      each.0 known.0,
      are_relaxed (b + 1) (n + length block.ops) (first + block_count block) bs known.1 each.1,
    )

    is_member : length s ≡ length (model_of e o).domains → Issues → AllMet (befores_of (model_of e o)) x
        → IsMember (model_of e o) s (map region_times (blocks e o x))
    is_member long issues met =
        let m : Model = model_of e o in
        let places = places_of m in
        let bs = blocks e o x in
        let of_arcs = each_joined _ (befores_in places) m.arcs (met_all x _ met) in
        let each = each_of_map (λ arcs. Met x (befores_in places arcs)) arcs_in bs
        (subst (Each (λ arcs. Met x (befores_in places arcs)))
        (arcs_by_regions e.table (blocks_temps 0 0 e.blocks) 0 0 0 e.blocks) of_arcs) in
        are_relaxed 0 0 0 e.blocks (known_model m (length s) refl (omega (arith, long)))
        (each_of (λ r. RegionKnown r → RegionRelaxed r) bs (λ r mr known. relaxed r mr
        (λ q mq. each_member _ (all e o x) q issues (in_all e o x r q mr mq)) (each_member _ bs r each mr) known))

  same_cost : (b n first : ℕ) (bs : List ExtBlock)
      → times_cost bs (map region_times (regions b n first bs)) ≡ blocks_cost x bs (blocks_vars first bs)
  same_cost b n first [] = refl
  same_cost b n first (block ∷ bs) =
      ap (λ c. block.freq * (slice_index x (first + ops_count block.ops) - 1) + c)
      (same_cost (b + 1) (n + length block.ops) (first + block_count block) bs)

-- ---- a store that the propagators let stay as it is

module _ (e : Ext) (o : Options) (limit : Option ℕ) (s : Sets) where
  abbrev m : Model
  m = model_of e o

  abbrev pub Kept : List Constraint → Type 0
  Kept cs = Each (Strong s) cs

  abbrev pub after_issues : Place → List Constraint
  after_issues p = joined (map (of_operand e.table o.slots) (asked_by (definers_of m) p)) ++ results_in o.slots (definers_of m) p

  pub kept_met : (cs : List Constraint) → Each (λ (c : Constraint). is_timing c ≡ true) cs → Kept cs → Met (leasts s) cs
  kept_met cs timing kept = each_of _ cs (λ c n. strong_met s c (each_member _ cs c timing n) (each_member _ cs c kept n))

  timing_befores : Each (λ (c : Constraint). is_timing c ≡ true) (befores_of m)
  timing_befores = joined_each _ (befores_in (places_of m)) m.arcs (each_of _ m.arcs (λ arcs n.
      each_map _ (arc_before (places_of m)) arcs (each_of _ arcs (λ a k. refl))))

  timing_limit : (l : Option ℕ) → Each (λ (c : Constraint). is_timing c ≡ true) (limit_of m l)
  timing_limit None = tt
  timing_limit (Some n) = (refl, tt)

  kept_issues : Kept (over_places (of_place e.table o.slots (definers_of m)) m)
      → Each (λ q. Kept (issues_in (place_of q))) (all e o (leasts s))
  kept_issues h =
      let f = of_place e.table o.slots (definers_of m) in
      let each = each_of_map (λ p. Kept (f p)) place_of (all e o (leasts s))
      (subst (Each (λ p. Kept (f p))) (places_are 0 0 0 e.blocks) (each_joined (Strong s) f (places_of m) h)) in
      each_of _ (all e o (leasts s)) (λ q n.
      let here = each_member _ (all e o (leasts s)) q each n in
      let p = place_of q in
      let rest = (each_append (Strong s) (zeros_of (definers_of m) p) (issues_in p ++ after_issues p) here).1 in
      (each_append (Strong s) (issues_in p) (after_issues p) rest).0)

  -- the least cycles and the least ends are a member
  pub has_member : IsExtended e → IsFit e.table → AreOptions o → Below s (map values_of (model_of e o).domains) → NoneEmpty s
      → All (Strong s) (all_postings_of (model_of e o) limit) → (times : List Times) × IsMemberUnder limit (model_of e o) s times
  has_member extended fit options below some strong =
      let x = leasts s in
      let ds = m.domains in
      let own = leasts_in s some in
      let there : IsIn x (map values_of ds) = record {
        long = own.long ∙ below.long;
        each = λ v lt. let same = below.long in
            has_below s (map values_of ds) v (slice_index x v) below (own.each v (omega (arith, lt, same)));
      } in
      let given : Given e o x = record {
        extended = extended;
        fit = fit;
        options = options;
        domains = (of_domains ds (map values_of ds) x refl).0 there;
      } in
      let long : length s ≡ length ds = below.long ∙ length-map ds values_of in
      let edges = over_blocks (edges_of e.blocks (definers_of m)) 0 0 e.blocks m.blocks in
      let frame = frame_of m (definers_of m) (places_of m) in
      let ops = over_places (of_place e.table o.slots (definers_of m)) m in
      let rest = befores_of m ++ (rooms_of m ++ (lengths_of m ++ pressures_of m)) in
      let whole = each_append (Strong s) (postings_of m limit) (counts_of m limit ++ rest)
      (each_all (Strong s) (all_postings_of m limit) strong) in
      let behind = each_append (Strong s) (counts_of m limit) rest whole.1 in
      let first = each_append (Strong s) ops (edges ++ (frame ++ limit_of m limit)) whole.0 in
      let second = each_append (Strong s) edges (frame ++ limit_of m limit) first.1 in
      let third = each_append (Strong s) frame (limit_of m limit) second.1 in
      let arcs = each_append (Strong s) (befores_of m) (rooms_of m ++ (lengths_of m ++ pressures_of m)) behind.1 in
      let issues = each_of (λ q. Met x (issues_in (place_of q))) (all e o x) (λ q n.
      kept_met (issues_in (place_of q)) (timing_issues (place_of q)) (each_member _ (all e o x) q (kept_issues first.0) n)) in
      let met = all_met x (befores_of m) (kept_met (befores_of m) timing_befores arcs.0) in
      let cheap = (limits m (record { values = x }) limit).1
      (all_met x (limit_of m limit) (kept_met (limit_of m limit) (timing_limit limit) third.1)) in
      let same : times_cost e.blocks (map (region_times e o x given) (blocks e o x)) ≡ cost_of m (record { values = x }) =
      same_cost e o x given 0 0 0 e.blocks in (
        map (region_times e o x given) (blocks e o x),
        (is_member e o x given s own long issues met, subst (λ c. IfSome limit (λ (n : ℕ). c < n)) (sym same) cheap),
      )
