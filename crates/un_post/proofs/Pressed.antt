-- Each solution has room for the values that are there in each cycle of a block, and for those that cross each call.
use Rattle.std.proofs.Common.{ℕ, ◌≡◌, ◌≤◌, ◌+◌, true, false, List, [], ◌∷◌, ◌++◌, length, map, filter, refl, sym, ap, ◌∙◌}
use Rattle.std.proofs.Common.{subst, arith}
use Rattle.std.specs.Prelude.{not, nat_le, nat_lt, ◌&&◌, ◌==◌, slice_get}
use Rattle.std.specs.List.{list_any}
use Rattle.std.proofs.lemmas.Bool.{eqb-true}
use Rattle.un_base.specs.declared.ids.TempId.{TempId}
use Rattle.un_isa.specs.Tables.{in_mask}
use Rattle.un_domains.specs.declared.domain.Domain.{Domain}
use Rattle.un_ir.specs.Extended.{temp}
use Rattle.un_ir.specs.Kinds.{is_call_kind, is_mandatory}
use Rattle.un_ir.specs.Linear.{first_of}
use Rattle.un_ir.specs.declared.extended.Ext.{Ext}
use Rattle.un_ir.specs.declared.extended.Operand.{Operand}
use Rattle.un_model.specs.declared.model.Arc.{Arc}
use Rattle.un_model.specs.declared.model.Options.{Options}
use Rattle.un_model.specs.Pairs.{joined, places_from}
use Rattle.un_model.specs.Schedules.{schedule_of}
use Rattle.un_model.specs.Solutions.{IsSchedule, latency_gap}
use Rattle.un_model.specs.Variables.{model_of, arcs_of}
use Rattle.un_lists.proofs.Lists.{Member, each_of, each_map, member_map, member_map_of, member_filter, member_of_filter}
use Rattle.un_lists.proofs.Lists.{any_of, place_of as position_of, map-append, Pairwise, pairwise_map, pairwise_filter}
use Rattle.un_model.proofs.Placed.{Placed, Region, region_placed, issue_at, Spot, spot, spots_of, all_spots}
use Rattle.un_model.proofs.Readings.{Solved}
use Rattle.un_prop.specs.Acts.{at_value}
use Rattle.un_prop.specs.declared.act.At.{At}
use Rattle.un_press.specs.Pressures.{is_live, living}
use Rattle.un_press.specs.PressureLaws.{fits_holds}
use Rattle.un_press.specs.declared.live.Span.{Span}
use Rattle.un_press.proofs.Counting.{Differ, length_mapped}
use Rattle.un_press.proofs.Crossings.{reg_of, across_fits, CoversAll}
use Rattle.un_press.proofs.Descent.{Reader}
use Rattle.un_press.proofs.Living.{Living, living_fit}
use Rattle.un_kinds.specs.Constraints.{Constraint, AllMet, meets}
use Rattle.un_sites.specs.Crossings.{crossing, reads_value, is_asked}
use Rattle.un_sites.specs.Places.{Place, Definer, definers_of, time_of}
use Rattle.un_sites.specs.Postings.{with_kind}
use Rattle.un_sites.specs.Pressures.{spared_room, span_of, own_spans, spans_in, live_by, across_by}
use Rattle.un_sites.specs.Pressures.{pressure_by, block_room, pressure_in, pressures_of}
use Rattle.un_sites.specs.Rooms.{arcs_or}
use Rattle.un_post.proofs.Blocks.{blocks, region_places, region_vars, places_in, regions_met, in_all}
use Rattle.un_post.proofs.BlockTemps.{region_spots, spot_all, spots_by_blocks}
use Rattle.un_post.proofs.Crossed.{by_definer, spots_filter, pairwise_part, Other, different, reads_active}
use Rattle.un_post.proofs.Crossed.{call_keeping, across, values_many, values_differ, crossed_by, crossed}
use Rattle.un_post.proofs.Facts.{Given, times}
use Rattle.un_post.proofs.Meeting.{Met}
use Rattle.un_post.proofs.OneEnter.{filter_map}
use Rattle.un_post.proofs.Placing.{place_of}
use Rattle.un_model.proofs.Regions.{of_region}
use Rattle.un_post.proofs.RoomOfBlocks.{has_room}
use Rattle.un_post.proofs.Tests.{and_iff, le_iff, lt_iff}

-- ---- values as results

module _ (ps : List Place) where
  abbrev span_at : Spot → Span
  span_at s = span_of ps (place_of s.definer) s.temp

  own_are : (q : Placed) (k : ℕ) (ts : List TempId) → map (span_of ps (place_of q)) ts ≡ map span_at (places_from (spot q) k ts)
  own_are q k [] = refl
  own_are q k (t ∷ ts) = ap (λ vs. span_of ps (place_of q) t ∷ vs) (own_are q (k + 1) ts)

  spans_are : (qs : List Placed) → joined (map (own_spans ps) (map place_of qs)) ≡ map span_at (all_spots qs)
  spans_are [] = refl
  spans_are (q ∷ qs) =
      ap (λ vs. own_spans ps (place_of q) ++ vs) (spans_are qs)
      ∙ ap (λ vs. vs ++ map span_at (all_spots qs)) (own_are q 0 q.op.results)
      ∙ sym (map-append span_at (spots_of q) (all_spots qs))

module _ (e : Ext) (o : Options) (x : List ℕ) (given : Given e o x)
    (schedule : IsSchedule (latency_gap e.table) (model_of e o).domains (model_of e o) x (schedule_of (model_of e o) x)) where
  abbrev solved : Solved e o x
  solved = record { extended = given.extended; fit = given.fit; options = given.options; schedule = schedule }

  abbrev domains : List Domain
  domains = (model_of e o).domains

  abbrev ds : List Definer
  ds = definers_of (model_of e o)

  module _ (r : Region) (mr : Member r (blocks e o x)) where
    abbrev room : List ℕ
    room = block_room domains ds (region_places r)

    -- ---- in each cycle

    abbrev mandatory : List Placed
    mandatory = filter (λ (q : Placed). is_mandatory q.op.kind) (region_placed r)

    abbrev readers : List Place
    readers = map place_of mandatory

    mandatory_are : with_kind is_mandatory (region_places r) ≡ readers
    mandatory_are = filter_map (λ (p : Place). is_mandatory p.it.kind) place_of (region_placed r)

    abbrev found : ℕ → List Spot
    found t = filter (λ (s : Spot). is_live t x (span_at readers s)) (all_spots mandatory)

    abbrev values : ℕ → List TempId
    values t = map (λ (s : Spot). s.temp) (found t)

    counted : (t : ℕ) → living (spans_in readers) x t ≡ length (values t)
    counted t =
        ap (λ (vs : List Span). length (filter (is_live t x) vs)) (spans_are readers mandatory)
        ∙ ap length (filter_map (is_live t x) (span_at readers) (all_spots mandatory))
        ∙ length_mapped (span_at readers) (found t)
        ∙ sym (length_mapped (λ (s : Spot). s.temp) (found t))

    inside : (s : Spot) → Member s (all_spots mandatory) → Member s (region_spots r)
    inside s m = (member_of_filter (by_definer (λ (q : Placed). is_mandatory q.op.kind)) (region_spots r) s
        (subst (Member s) (spots_filter (λ (q : Placed). is_mandatory q.op.kind) (region_placed r)) m)).0

    differ : (t : ℕ) → Differ (values t)
    differ t =
        pairwise_map (λ x y. x ≡ y → ⊥) (λ (s : Spot). s.temp) (found t)
        (pairwise_filter (Other e o x given schedule) (λ (s : Spot). is_live t x (span_at readers s)) (all_spots mandatory)
        (subst (Pairwise (Other e o x given schedule))
        (sym (spots_filter (λ (q : Placed). is_mandatory q.op.kind) (region_placed r)))
        (pairwise_filter (Other e o x given schedule) (by_definer (λ (q : Placed). is_mandatory q.op.kind)) (region_spots r)
        (pairwise_part (Other e o x given schedule) (map region_spots (blocks e o x)) (region_spots r)
        (subst (Pairwise (Other e o x given schedule)) (spots_by_blocks e o x) (different e o x given schedule))
        (member_map region_spots (blocks e o x) r mr)))))

    -- an operation of the block that reads a value after a cycle
    reader_of : (t : ℕ) (s : Spot) → list_any (λ (u : At). nat_lt t (at_value u x)) (map time_of (filter (reads_value false s.temp.0) readers)) ≡ true
        → (k : Reader e o x solved s.temp t) × (let user = k.user in user.block ≡ r.block)
    reader_of t s some =
        let u = any_of (λ (u : At). nat_lt t (at_value u x)) (map time_of (filter (reads_value false s.temp.0) readers)) some in
        let p = member_map_of time_of (filter (reads_value false s.temp.0) readers) u.0 u.1 in
        let reads = member_of_filter (reads_value false s.temp.0) readers p.0 p.1 in
        let q = member_map_of place_of mandatory p.0 reads.0 in
        let here = member_of_filter (λ (q : Placed). is_mandatory q.op.kind) (region_placed r) q.0 q.1 in
        let told : reads_value false s.temp.0 (place_of q.0) ≡ true = ap (reads_value false s.temp.0) q.2 ∙ reads.1 in
        let test = λ (y : Operand). first_of y.alts == s.temp.0 && is_asked false q.0.op.kind y in
        let two = (and_iff (is_mandatory q.0.op.kind) (list_any test q.0.op.operands)).1 told in
        let y = any_of test q.0.op.operands two.1 in
        let both = (and_iff (first_of y.0.alts == s.temp.0) (is_asked false q.0.op.kind y.0)).1 y.2 in
        let k = position_of q.0.op.operands y.0 y.1 in
        let later = (lt_iff t (at_value u.0 x)).1 u.2 in
        let time : at_value u.0 x ≡ (issue_at x q.0).cycle =
        ap (λ (a : At). at_value a x) (sym p.2) ∙ ap (λ (p : Place). at_value (time_of p) x) (sym q.2) ∙ times e o x given q.0 in
        let all = in_all e o x r q.0 mr here.0 in (
          record {
            user = q.0;
            member = all;
            active = reads_active e o x given schedule q.0 k.0 y.0 all here.1 k.2;
            place = k.0;
            operand = y.0;
            at = k.2;
            value = ap temp (eqb-true (first_of y.0.alts) s.temp.0 both.0);
            after = omega (arith, later, time);
          },
          of_region r q.0 here.0,
        )

    lives : (t : ℕ) (s : Spot) → Member s (found t) → Living e o x solved r.block t s.temp
    lives t s m =
        let outer = member_of_filter (λ (s : Spot). is_live t x (span_at readers s)) (all_spots mandatory) s m in
        let two = (and_iff (nat_le (at_value (time_of (place_of s.definer)) x) t) _).1 outer.1 in
        let early = (le_iff (at_value (time_of (place_of s.definer)) x) t).1 two.0 in
        let time = times e o x given s.definer in
        let read = reader_of t s two.1 in
        record {
          own = s;
          member = spot_all e o x r s mr (inside s outer.0);
          is = refl;
          early = omega (arith, early, time);
          reader = read.0;
          block = read.1;
        }

    live_fits : (t : ℕ) → living (spans_in readers) x t ≤ length room
    live_fits t =
        let le = living_fit e o x solved r.block t room (λ s m block active. has_room e o x given schedule r mr s m block) (values t)
        (each_map (Living e o x solved r.block t) (λ (s : Spot). s.temp) (found t)
        (each_of (λ (s : Spot). Living e o x solved r.block t s.temp) (found t) (lives t))) (differ t) in
        let count = counted t in
        omega (arith, le, count)

    live_met : meets (live_by room (let owner = r.owner in owner.horizon) (region_places r)) x ≡ true
    live_met = let owner = r.owner in fits_holds (spans_in (with_kind is_mandatory (region_places r))) (length room) owner.horizon x
        (λ t lt. subst (λ (ps : List Place). living (spans_in ps) x t ≤ length room) (sym mandatory_are) (live_fits t))

    -- ---- across a call

    abbrev arcs : List Arc
    arcs = arcs_or (slice_get (arcs_of e) r.block)

    abbrev clobbered : ℕ
    clobbered = let t = e.table in t.clobbered

    covers : (c : Placed) → Member c (region_placed r) → CoversAll e o x solved c (spared_room clobbered room)
    covers c mc s m block active spared = member_filter (λ (k : ℕ). not (in_mask clobbered k)) room (reg_of e o x solved s)
        (has_room e o x given schedule r mr s m (block ∙ of_region r c mc)) (ap not spared)

    across_met : (c : Placed) → Member c (region_placed r) → is_call_kind c.op.kind ≡ true
        → meets (across_by clobbered arcs room (region_places r) (place_of c)) x ≡ true
    across_met c mc call =
        let keep = call_keeping e o x given schedule r mr c mc call in
        let vs = across e o x given schedule r mr c mc keep false in
        let many = values_many e o x given schedule r mr c mc keep false in
        let le = across_fits e o x solved c (in_all e o x r c mr mc) call (spared_room clobbered room) (covers c mc) vs
        (each_of _ vs (λ v m. crossed e o x given schedule r mr c mc keep false v (crossed_by e o x given schedule r mr c mc keep false v m)))
        (values_differ e o x given schedule r mr c mc keep false) in
        (le_iff (length (crossing false arcs (region_places r) (place_of c))) (length (spared_room clobbered room))).0
        (omega (arith, le, many))

    calls_met : Met x (map (across_by clobbered arcs room (region_places r)) (with_kind is_call_kind (region_places r)))
    calls_met = each_map (λ (c : Constraint). meets c x ≡ true) (across_by clobbered arcs room (region_places r))
        (with_kind is_call_kind (region_places r))
        (each_of (λ (p : Place). meets (across_by clobbered arcs room (region_places r) p) x ≡ true)
        (with_kind is_call_kind (region_places r)) (λ p m.
        let f = member_of_filter (λ (p : Place). is_call_kind p.it.kind) (region_places r) p m in
        let q = member_map_of place_of (region_placed r) p f.0 in
        let call : is_call_kind q.0.op.kind ≡ true = ap (λ (p : Place). is_call_kind p.it.kind) q.2 ∙ f.1 in
        subst (λ (p : Place). meets (across_by clobbered arcs room (region_places r) p) x ≡ true) q.2 (across_met q.0 q.1 call)))

    pressure_met : Met x (pressure_in (model_of e o) ds r.block r.number r.owner (region_vars r))
    pressure_met = let owner = r.owner in
        subst (λ (ps : List Place). Met x (pressure_by clobbered arcs (block_room domains ds ps) owner.horizon ps)) (sym (places_in r))
        (live_met, calls_met)

  pub pressures_met : AllMet (pressures_of (model_of e o)) x
  pressures_met = (regions_met e o x (pressure_in (model_of e o) ds)).1 (each_of _ (blocks e o x) (λ r m. pressure_met r m))
