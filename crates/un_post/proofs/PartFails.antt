-- Where the relaxation of a block has no member under the limit, rounds over the propagators that are posted for its part fail.
use Rattle.std.proofs.Common.{ℕ, zero, suc, ◌≡◌, ◌+◌, ◌-◌, ◌<◌, ◌++◌, Bool, true, List, [], ◌∷◌, length, map, refl, sym, ap, ◌∙◌, subst}
use Rattle.std.proofs.Common.{arith, eq-eqb}
use Rattle.std.specs.Prelude.{Option, Some, None, IfSome, slice_get, slice_index, if◌then◌else◌}
use Rattle.std.proofs.lemmas.List.{length-map}
use Rattle.un_isa.specs.Fit.{IsFit}
use Rattle.un_ir.specs.declared.extended.Ext.{Ext}
use Rattle.un_ir.specs.declared.extended.ExtBlock.{ExtBlock}
use Rattle.un_ir.specs.Extended.{IsExtended}
use Rattle.un_domains.specs.Domains.{values_of}
use Rattle.un_domains.specs.Order.{Below}
use Rattle.un_domains.specs.OrderLaws.{has_below}
use Rattle.un_domains.specs.Sets.{Sets, IsIn, NoneEmpty}
use Rattle.un_model.specs.declared.model.Arc.{Arc}
use Rattle.un_model.specs.declared.model.BlockVars.{BlockVars}
use Rattle.un_model.specs.declared.model.Model.{Model}
use Rattle.un_model.specs.declared.model.Options.{Options}
use Rattle.un_model.specs.Arcs.{first_number}
use Rattle.un_model.specs.Options.{AreOptions}
use Rattle.un_model.specs.Pairs.{joined}
use Rattle.un_model.specs.Variables.{model_of, blocks_vars, block_count, arcs_of, ops_count, ops_vars, var_at}
use Rattle.un_lists.proofs.Lists.{Each, Member, each_of, each_member, each_append, each_map, each_of_map, get_below, member_at}
use Rattle.un_model.proofs.Placed.{Placed, Region, region_placed}
use Rattle.un_model.proofs.Regions.{regions, region_is, region_of, over_regions}
use Rattle.un_bound.specs.Choices.{AreKnown, AllKnown}
use Rattle.un_bound.specs.Relaxations.{Times}
use Rattle.un_bound.proofs.Knowns.{known_model}
use Rattle.un_kinds.specs.Constraints.{Constraint}
use Rattle.un_sites.specs.Befores.{arc_before, befores_in}
use Rattle.un_sites.specs.Places.{Place, Definer, block_places, places_of, definers_of}
use Rattle.un_sites.specs.Postings.{of_place, edges_of, part_frame, part_limit, zeros_of, issues_in}
use Rattle.un_sites.specs.Rooms.{apart_in, arcs_or, packets_in}
use Rattle.un_post.specs.PartPostings.{part_in, part_postings, part_spared, part_twos, where_block}
use Rattle.un_post.specs.PartPosts.{IsPartMember, IsRelaxedIn, part_times_cost}
use Rattle.un_post.specs.Strength.{is_timing, Strong}
use Rattle.un_post.proofs.Blocks.{blocks, region_places, region_vars, places_in}
use Rattle.un_post.proofs.CallOrder.{arcs_here}
use Rattle.un_post.proofs.Exact.{of_domains}
use Rattle.un_post.proofs.Facts.{Given}
use Rattle.un_post.proofs.Failing.{block_more}
use Rattle.un_post.proofs.LeastValues.{leasts, leasts_in}
use Rattle.un_post.proofs.Meeting.{Met, each_joined}
use Rattle.un_post.proofs.Memory.{temps}
use Rattle.un_post.proofs.PartExact.{vars_here, own_cost, limits}
use Rattle.un_post.proofs.Placing.{place_of}
use Rattle.un_post.proofs.Relaxed.{relaxed, region_times, arcs_in, timing_issues, kept_met, Kept, after_issues}

-- ---- the numbers of a block

number_here : (b n first k : ℕ) (bs : List ExtBlock) (r : Region) → slice_get (regions b n first bs) k ≡ Some r
    → r.number ≡ n + first_number bs k
number_here b n first k [] r e = absurd (cc e)
number_here b n first zero (block ∷ bs) r e =
    let own = ap number_or e in omega (arith, own)
  where
    number_or : Option Region → ℕ
    number_or None = 0
    number_or (Some r) = r.number
number_here b n first (suc k) (block ∷ bs) r e =
    let rest = number_here (b + 1) (n + length block.ops) (first + block_count block) k bs r e in omega (arith, rest)

known_here : (count b n first k : ℕ) (bs : List ExtBlock) (r : Region) → AllKnown count bs (blocks_vars first bs)
    → slice_get (regions b n first bs) k ≡ Some r
    → (let owner = r.owner in AreKnown count (var_at (r.first + ops_count owner.ops)) owner.ops (ops_vars r.first owner.ops))
known_here count b n first k [] r h e = absurd (cc e)
known_here count b n first zero (block ∷ bs) r h e =
    let same : (let s : Region = record { block = b; number = n; first = first; owner = block } in s ≡ r) = cc e in
    subst (λ (s : Region). let owner = s.owner in AreKnown count (var_at (s.first + ops_count owner.ops)) owner.ops
    (ops_vars s.first owner.ops)) same h.0
known_here count b n first (suc k) (block ∷ bs) r h e =
    known_here count (b + 1) (n + length block.ops) (first + block_count block) k bs r h.1 e

-- ---- a store that the propagators let stay as it is

module _ (e : Ext) (o : Options) (limit : Option ℕ) (s : Sets) where
  abbrev m : Model
  m = model_of e o

  abbrev ds : List Definer
  ds = definers_of m

  -- what is posted for the part is among what is posted for the model
  own_kept : (r : Region) → slice_get (regions 0 0 0 e.blocks) r.block ≡ Some r → Each (Strong s) (part_postings m r.block limit)
      → Each (Strong s) (part_in m ds limit r.block r.number r.owner (region_vars r))
  own_kept r at h =
      let f = where_block r.block (part_in m ds limit) in
      let g = λ (q : Region). f q.block q.number q.owner (region_vars q) in
      let bs = regions 0 0 0 e.blocks in
      let each = each_joined (Strong s) g bs (subst (Each (Strong s)) (over_regions f 0 0 0 e.blocks) h) in
      subst (λ (b : Bool). Each (Strong s) (if b then part_in m ds limit r.block r.number r.owner (region_vars r) else []))
      (eq-eqb r.block r.block refl) (each_member (λ (q : Region). Each (Strong s) (g q)) bs r each (member_at bs r.block r at))

  timing_arcs : (arcs : List Arc) → Each (λ (c : Constraint). is_timing c ≡ true) (befores_in (places_of m) arcs)
  timing_arcs arcs = each_map (λ (c : Constraint). is_timing c ≡ true) (arc_before (places_of m)) arcs
      (each_of (λ a. is_timing (arc_before (places_of m) a) ≡ true) arcs (λ a ma. refl))

  timing_limit : (r : Region) (l : Option ℕ) → Each (λ (c : Constraint). is_timing c ≡ true) (part_limit r.owner (region_vars r) l)
  timing_limit r None = tt
  timing_limit r (Some n) = (refl, tt)

  kept_issues : (r : Region) → Kept e o limit s (joined (map (of_place e.table o.slots ds) (region_places r)))
      → (q : Placed) → Member q (region_placed r) → Kept e o limit s (issues_in (place_of q))
  kept_issues r h q mq =
      let f = of_place e.table o.slots ds in
      let each = each_of_map (λ p. Kept e o limit s (f p)) place_of (region_placed r) (each_joined (Strong s) f (region_places r) h) in
      let here = each_member (λ q. Kept e o limit s (f (place_of q))) (region_placed r) q each mq in
      let p = place_of q in
      let rest = (each_append (Strong s) (zeros_of ds p) (issues_in p ++ after_issues e o limit s p) here).1 in
      (each_append (Strong s) (issues_in p) (after_issues e o limit s p) rest).0

  -- the least cycles and the least end are a member
  in_region : (r : Region) → slice_get (regions 0 0 0 e.blocks) r.block ≡ Some r → IsExtended e → IsFit e.table → AreOptions o
      → Below s (map values_of (model_of e o).domains) → NoneEmpty s → Each (Strong s) (part_postings (model_of e o) r.block limit)
      → (times : Times) × IsPartMember limit (model_of e o) r.block s times
  in_region r at extended fit options below some strong =
      let x = leasts s in
      let domains = m.domains in
      let own = leasts_in s some in
      let there : IsIn x (map values_of domains) = record {
        long = own.long ∙ below.long;
        each = λ v lt. let same = below.long in
            has_below s (map values_of domains) v (slice_index x v) below (own.each v (omega (arith, lt, same)));
      } in
      let given : Given e o x = record {
        extended = extended;
        fit = fit;
        options = options;
        domains = (of_domains domains (map values_of domains) x refl).0 there;
      } in
      let long : length s ≡ length domains = below.long ∙ length-map domains values_of in
      let mr = member_at (blocks e o x) r.block r at in
      let places = places_of m in
      let own_places = block_places r.block r.number r.owner (region_vars r) in
      let arcs = arcs_or (slice_get (arcs_of e) r.block) in
      let a = part_limit r.owner (region_vars r) limit in
      let of_places : List Place → List Constraint = λ ps. joined (map (of_place e.table o.slots ds) ps) in
      let b = of_places own_places in
      let c = edges_of e.blocks ds r.block r.number r.owner (region_vars r) ++ part_frame m ds own_places ∷ [] in
      let f = befores_in places arcs in
      let g = apart_in ds r.block r.number r.owner (region_vars r) ++ (part_spared m ds own_places
      ++ packets_in e.table r.block r.number r.owner (region_vars r)) in
      let h = part_twos m ds own_places in
      let whole = each_append (Strong s) (a ++ (b ++ c)) ((f ++ g) ++ h) (own_kept r at strong) in
      let single = each_append (Strong s) a (b ++ c) whole.0 in
      let ops = (each_append (Strong s) b c single.1).0 in
      let waits = (each_append (Strong s) f g (each_append (Strong s) (f ++ g) h whole.1).0).0 in
      let here = subst (λ (ps : List Place). Each (Strong s) (of_places ps)) (places_in r) ops in
      let issues = λ (q : Placed) (mq : Member q (region_placed r)).
      kept_met e o limit s (issues_in (place_of q)) (timing_issues (place_of q)) (kept_issues r here q mq) in
      let arcs_are : arcs ≡ arcs_in e o x given r =
      ap arcs_or (arcs_here e.table (temps e o x given) 0 0 0 r.block e.blocks r mr (omega arith)) in
      let met = subst (λ (listed : List Arc). Met x (befores_in places listed)) arcs_are
      (kept_met e o limit s (befores_in places arcs) (timing_arcs arcs) waits) in
      let known = known_here (length s) 0 0 0 r.block e.blocks r (known_model m (length s) refl (omega (arith, long))) at in
      let timed = relaxed e o x given s own r mr issues met known in
      let times = region_times e o x given r in
      let owner_at = (region_is 0 0 0 e.blocks r.block r at).0 in
      let vars_at = vars_here 0 0 0 r.block e.blocks r at in
      let number : first_number e.blocks r.block ≡ r.number = (let n = number_here 0 0 0 r.block e.blocks r at in omega (arith, n)) in
      let cheap = (limits e o x given r at limit).1 (kept_met e o limit s a (timing_limit r limit) single.0) in (
        times,
        (
          subst (λ (n : ℕ). IsRelaxedIn s n (slice_get e.blocks r.block) (slice_get m.blocks r.block) arcs times) (sym number)
              (subst (λ (w : Option ExtBlock). IsRelaxedIn s r.number w (slice_get m.blocks r.block) arcs times) (sym owner_at)
              (subst (λ (w : Option BlockVars). IsRelaxedIn s r.number (Some r.owner) w arcs times) (sym vars_at)
              (subst (λ (listed : List Arc). IsRelaxedIn s r.number (Some r.owner) (Some (region_vars r)) listed times) (sym arcs_are) timed))),
          subst (λ (c : ℕ). IfSome limit (λ (n : ℕ). c < n))
              (own_cost e o x given r at ∙ sym (ap (λ (w : Option ExtBlock). part_times_cost w times) owner_at)) cheap,
        ),
      )

pub part_member : (e : Ext) (o : Options) (limit : Option ℕ) (s : Sets) (k : ℕ) → k < length e.blocks → IsExtended e → IsFit e.table
    → AreOptions o → Below s (map values_of (model_of e o).domains) → NoneEmpty s
    → Each (Strong s) (part_postings (model_of e o) k limit) → (times : Times) × IsPartMember limit (model_of e o) k s times
part_member e o limit s k lt extended fit options below some strong =
    let block = get_below e.blocks k lt in
    let found = region_of 0 0 0 e.blocks k block.0 block.1 in
    let r = found.0 in
    let number = (region_is 0 0 0 e.blocks k r found.1).1 in
    let is : r.block ≡ k = omega (arith, number) in
    let at = subst (λ (n : ℕ). slice_get (regions 0 0 0 e.blocks) n ≡ Some r) (sym is) found.1 in
    subst (λ (n : ℕ). (times : Times) × IsPartMember limit (model_of e o) n s times) is
    (in_region e o limit s r at extended fit options below some
    (subst (λ (n : ℕ). Each (Strong s) (part_postings (model_of e o) n limit)) (sym is) strong))

-- ---- what is a member of a smaller store's relaxation is one of a larger store's

pub member_more : (t s : Sets) → Below t s → (limit : Option ℕ) (m : Model) (k : ℕ) (times : Times) → IsPartMember limit m k t times
    → IsPartMember limit m k s times
member_more t s below limit m k times h =
    (by (slice_get m.ext.blocks k) (slice_get m.blocks k) (first_number m.ext.blocks k) (arcs_or (slice_get m.arcs k)) h.0, h.1)
  where
    by : (block : Option ExtBlock) (vars : Option BlockVars) (n : ℕ) (arcs : List Arc) → IsRelaxedIn t n block vars arcs times
        → IsRelaxedIn s n block vars arcs times
    by None vars n arcs r = absurd r
    by (Some block) None n arcs r = absurd r
    by (Some block) (Some vars) n arcs r = block_more t s below n vars.end block.ops vars.ops arcs times r
