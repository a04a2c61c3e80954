-- Each solution meets what is posted of what calls separate.
use Rattle.std.proofs.Common.{ℕ, zero, suc, ◌≡◌, ◌+◌, ◌<◌, ◌≤◌, Bool, true, false, List, [], ◌∷◌, refl, sym, ap, ◌∙◌, subst}
use Rattle.std.proofs.Common.{arith}
use Rattle.std.specs.Prelude.{Option, Some, None, not, ◌&&◌, ◌||◌, nat_lt, filter, slice_get}
use Rattle.std.specs.Prelude.{if◌then◌else◌}
use Rattle.std.specs.List.{list_any}
use Rattle.std.proofs.lemmas.Bool.{or_parts}
use Rattle.std.proofs.lemmas.Bool.Decides.{nat_tests}
use Rattle.un_isa.specs.Fit.{IsFit}
use Rattle.un_ir.specs.declared.extended.Ext.{Ext}
use Rattle.un_ir.specs.declared.extended.Operand.{Operand}
use Rattle.un_ir.specs.Extended.{IsExtended}
use Rattle.un_model.specs.declared.model.Arc.{Arc}
use Rattle.un_model.specs.declared.model.Model.{Model}
use Rattle.un_model.specs.declared.model.Options.{Options}
use Rattle.un_model.specs.declared.model.Solution.{Solution}
use Rattle.un_ir.specs.Kinds.{is_mandatory, is_call_kind}
use Rattle.un_model.specs.Options.{AreOptions}
use Rattle.un_model.specs.Pairs.{any_from, places_from, joined}
use Rattle.un_model.specs.Schedules.{schedule_of}
use Rattle.un_model.specs.Instructions.{instruction_of}
use Rattle.un_model.specs.Solutions.{IsSchedule, IsSolution, latency_gap, least_wait}
use Rattle.un_model.specs.Variables.{IsModel, model_of, arcs_of}
use Rattle.un_lists.proofs.Lists.{Each, Member, each_of, each_join, member_map_of, member_of_filter, member_at}
use Rattle.un_model.proofs.Placed.{Placed, Region, region_placed, issue_at}
use Rattle.un_prop.specs.Acts.{at_value}
use Rattle.un_prop.specs.declared.act.Act.TheVariants.{Always}
use Rattle.un_sites.specs.CallBefores.{reads_anew, waits_anew, anew_count, anew_gap}
use Rattle.un_sites.specs.CallBefores.{compares, reads_compared, own_wait, anew_after}
use Rattle.un_sites.specs.CallBefores.{is_between, of_call, of_call_at, call_befores_by, call_befores_in, call_befores_of}
use Rattle.un_kinds.specs.Constraints.{AllMet, Before}
use Rattle.un_sites.specs.Places.{Place, time_of}
use Rattle.un_sites.specs.Postings.{with_kind}
use Rattle.un_sites.specs.Rooms.{arcs_or, is_behind}
use Rattle.un_post.proofs.Blocks.{blocks, region_places, region_vars, places_in, regions_met}
use Rattle.un_post.proofs.CallAnew.{Rewritten, rewritten}
use Rattle.un_post.proofs.CallCounts.{three_after}
use Rattle.un_post.proofs.CallOrder.{ordered}
use Rattle.un_post.proofs.Facts.{Given, times}
use Rattle.un_root.proofs.Eaches.{each_places}
use Rattle.un_post.proofs.Meeting.{Met, joined_each}
use Rattle.un_post.proofs.Placing.{place_of}
use Rattle.un_post.proofs.Tests.{and_iff, le_iff}

-- ---- lists

pub each_lists : {X : Type 0} (Q : X → Type 0) (xss : List (List X)) → Each (Each Q) xss → Each Q (joined xss)
each_lists Q [] h = tt
each_lists Q (xs ∷ xss) h = each_join Q xs (joined xss) h.0 (each_lists Q xss h.1)

-- a place that passes
any_place : {X : Type 0} (p : ℕ → X → Bool) (i : ℕ) (xs : List X) → any_from p i xs ≡ true
    → (j : ℕ) × (x : X) × (slice_get xs j ≡ Some x) × (p (i + j) x ≡ true)
any_place p i [] h = absurd (cc h)
any_place {X} p i (x ∷ xs) h = by (p i x) refl h (any_place p (i + 1) xs)
  where
    by : (b : Bool) → p i x ≡ b → (b || any_from p (i + 1) xs) ≡ true
        → (any_from p (i + 1) xs ≡ true → (j : ℕ) × (y : X) × (slice_get xs j ≡ Some y) × (p (i + 1 + j) y ≡ true))
        → (j : ℕ) × (y : X) × (slice_get (x ∷ xs) j ≡ Some y) × (p (i + j) y ≡ true)
    by true e h rest = let z : i ≡ i + 0 = omega arith in (0, x, refl, subst (λ n. p n x ≡ true) z e)
    by false e h rest =
        let r = rest h in let z : i + 1 + r.0 ≡ i + suc r.0 = omega arith in (suc r.0, r.1, r.2, subst (λ n. p n r.1 ≡ true) z r.3)

-- where no operand reads what a comparison gives, none does
none_compared : (ps : List Place) (i : ℕ) (xs : List Operand) → any_from (reads_compared ps) i xs ≡ false → (j : ℕ) (x : Operand)
    → slice_get xs j ≡ Some x → list_any (compares x) ps ≡ false
none_compared ps i [] h j x e = absurd (cc e)
none_compared ps i (y ∷ ys) h zero x e =
    let same : y ≡ x = cc e in
    subst (λ (z : Operand). list_any (compares z) ps ≡ false) same
    (or_parts (list_any (compares y) ps) (any_from (reads_compared ps) (i + 1) ys) h).0
none_compared ps i (y ∷ ys) h (suc j) x e =
    none_compared ps (i + 1) ys (or_parts (list_any (compares y) ps) (any_from (reads_compared ps) (i + 1) ys) h).1 j x e

module _ (e : Ext) (o : Options) (x : List ℕ) (given : Given e o x)
    (schedule : IsSchedule (latency_gap e.table) (model_of e o).domains (model_of e o) x (schedule_of (model_of e o) x)) where
  module _ (r : Region) (mr : Member r (blocks e o x)) (c q : Placed) (mc : Member c (region_placed r)) (mq : Member q (region_placed r))
      (call : is_call_kind c.op.kind ≡ true) (behind : (issue_at x c).cycle + 1 ≤ (issue_at x q).cycle)
      (mandatory : is_mandatory q.op.kind ≡ true) where
    -- how long it is after the call: what writes its operand lies between, or stands beside a jump that tests it fresh
    abbrev least : ℕ
    least = 1 + own_wait e.table (region_places r) (place_of q)

    own_after : (j : ℕ) (operand : Operand) → slice_get q.op.operands j ≡ Some operand → Rewritten e o x given schedule r c q operand
        → (issue_at x c).cycle + least ≤ (issue_at x q).cycle
    own_after j operand at w = by (any_from (reads_compared (region_places r)) 0 q.op.operands) refl
      where
        by : (b : Bool) → any_from (reads_compared (region_places r)) 0 q.op.operands ≡ b
            → (issue_at x c).cycle + (1 + (if b then least_wait e.table (instruction_of q.op.kind 0) else 1)) ≤ (issue_at x q).cycle
        by true some = let late = w.late in let early = w.early in omega (arith, late, early)
        by false none =
            let late = w.late in
            let plain = w.plain (λ k. none_compared (region_places r) 0 q.op.operands none j operand at) in
            omega (arith, late, plain)

    least_after : waits_anew e.table (place_of c) (place_of q) ≡ true → (issue_at x c).cycle + least ≤ (issue_at x q).cycle
    least_after h =
        let k = (and_iff (is_mandatory q.op.kind) (any_from (reads_anew e.table (place_of c) q.op.kind) 0 q.op.operands)).1 h in
        let f = any_place (reads_anew e.table (place_of c) q.op.kind) 0 q.op.operands k.1 in
        let z : 0 + f.0 ≡ f.0 = omega arith in
        let w = rewritten e o x given schedule r mr c q mc mq call behind mandatory f.0 f.1 f.2
        (subst (λ n. reads_anew e.table (place_of c) q.op.kind n f.1 ≡ true) z f.3) in
        own_after f.0 f.1 f.2 w

    gap_after : waits_anew e.table (place_of c) (place_of q) ≡ true
        → (issue_at x c).cycle + anew_gap e.table (region_places r) (place_of c) (place_of q) ≤ (issue_at x q).cycle
    gap_after h = by (is_call_kind q.op.kind) (nat_lt 4 (anew_count e.table (place_of c) (place_of q))) refl refl
      where
        by : (t b : Bool) → is_call_kind q.op.kind ≡ t → nat_lt 4 (anew_count e.table (place_of c) (place_of q)) ≡ b
            → (issue_at x c).cycle + (if t && b then 3 else least) ≤ (issue_at x q).cycle
        by true true later many =
            three_after e o x given schedule r mr c q mc mq call behind later mandatory
            (let lt : 4 < anew_count e.table (place_of c) (place_of q) = grind (arith, nat_tests, many) in omega (arith, lt))
        by true false later many = least_after h
        by false b later many = least_after h

  -- ---- blocks

  behind_of : (arcs : List Arc) (c : Place) (next : Option Place) (u : Place) → is_between arcs c next u ≡ true
      → is_behind arcs c u ≡ true
  behind_of arcs c None u h = h
  behind_of arcs c (Some d) u h = ((and_iff (is_behind arcs c u) (not (is_behind arcs d u))).1 h).0

  module _ (r : Region) (mr : Member r (blocks e o x)) where
    abbrev arcs : List Arc
    arcs = arcs_or (slice_get (arcs_of e) r.block)

    abbrev ps : List Place
    ps = region_places r

    one_met : (c q : Placed) → Member c (region_placed r) → Member q (region_placed r) → is_call_kind c.op.kind ≡ true
        → is_behind arcs (place_of c) (place_of q) ≡ true → Met x (anew_after e.table ps (place_of c) (place_of q))
    one_met c q mc mq call behind = by (waits_anew e.table (place_of c) (place_of q)) refl
      where
        by : (b : Bool) → waits_anew e.table (place_of c) (place_of q) ≡ b
            → Met x (if b then Before (time_of (place_of c)) Always (time_of (place_of q)) Always
            (anew_gap e.table (region_places r) (place_of c) (place_of q)) ∷ [] else [])
        by false h = tt
        by true h =
            let two = and_iff (is_mandatory q.op.kind) (any_from (reads_anew e.table (place_of c) q.op.kind) 0 q.op.operands) in
            let order = ordered e o x given schedule r mr in
            let le = gap_after r mr c q mc mq call (order.behind c q mc mq call behind) (two.1 h).0 h in
            let a = times e o x given c in
            let b = times e o x given q in
            let gap = anew_gap e.table (region_places r) (place_of c) (place_of q) in
            ((le_iff (at_value (time_of (place_of c)) x + gap) (at_value (time_of (place_of q)) x)).0 (omega (arith, le, a, b)), tt)

    call_met : (next : Option Place) (c : Place) → Member c (with_kind is_call_kind ps) → Met x (of_call e.table arcs ps next c)
    call_met next c m =
        let k = member_of_filter (λ (p : Place). is_call_kind p.it.kind) ps c m in
        let p = member_map_of place_of (region_placed r) c k.0 in
        let call : is_call_kind p.0.op.kind ≡ true = ap (λ (p : Place). is_call_kind p.it.kind) p.2 ∙ k.1 in
        subst (λ (c : Place). Met x (of_call e.table arcs ps next c)) p.2
        (joined_each _ (anew_after e.table ps (place_of p.0)) (filter (is_between arcs (place_of p.0) next) ps)
        (each_of _ (filter (is_between arcs (place_of p.0) next) ps) (λ u mu.
        let f = member_of_filter (is_between arcs (place_of p.0) next) ps u mu in
        let q = member_map_of place_of (region_placed r) u f.0 in
        let far : is_behind arcs (place_of p.0) (place_of q.0) ≡ true =
        subst (λ (u : Place). is_behind arcs (place_of p.0) u ≡ true) (sym q.2) (behind_of arcs (place_of p.0) next u f.1) in
        subst (λ (u : Place). Met x (anew_after e.table ps (place_of p.0) u)) q.2 (one_met p.0 q.0 p.1 q.1 call far))))

    pub block_met : Met x (call_befores_in e.table (arcs_of e) r.block r.number r.owner (region_vars r))
    block_met =
        let calls = with_kind is_call_kind ps in
        subst (λ (qs : List Place). Met x (call_befores_by e.table arcs qs)) (sym (places_in r))
        (each_lists _ (places_from (of_call_at e.table arcs ps calls) 0 calls)
        (each_places (Met x) (of_call_at e.table arcs ps calls) calls
        (λ i c at. call_met (slice_get calls (i + 1)) c (member_at calls i c at))))

  pub call_befores_met : AllMet (call_befores_of (model_of e o)) x
  call_befores_met = (regions_met e o x (call_befores_in e.table (arcs_of e))).1 (each_of _ (blocks e o x) (λ r m. block_met r m))

-- each solution meets what is posted of what calls separate
pub call_befores_hold : (m : Model) (s : Solution) → IsModel m → IsExtended m.ext → IsFit m.ext.table → AreOptions m.options
    → IsSolution m s → AllMet (call_befores_of m) s.values
call_befores_hold m s own extended fit options solution =
    let schedule = subst (λ (k : Model). IsSchedule (latency_gap m.ext.table) k.domains k s.values (schedule_of k s.values)) own solution in
    let given : Given m.ext m.options s.values = record {
      extended = extended;
      fit = fit;
      options = options;
      domains = schedule.in_domains;
    } in
    subst (λ (k : Model). AllMet (call_befores_of k) s.values) (sym own) (call_befores_met m.ext m.options s.values given schedule)
