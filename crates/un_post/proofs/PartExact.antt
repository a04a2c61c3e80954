-- What is posted for one block is met by exactly the assignments of its part that cost less there than the limit.
use Rattle.std.proofs.Common.{ℕ, zero, suc, ◌≡◌, ◌↔◌, ◌+◌, ◌<◌, Bool, true, false, List, [], ◌∷◌, ◌++◌, length, map, refl, sym, ap, ◌∙◌, subst}
use Rattle.std.proofs.Common.{arith, Option, eq-eqb}
use Rattle.std.specs.Prelude.{Some, None, IfSome, slice_get, ◌==◌, nat_lt, if◌then◌else◌}
use Rattle.un_isa.specs.Fit.{IsFit}
use Rattle.un_domains.specs.Domains.{values_of}
use Rattle.un_domains.specs.Sets.{Sets}
use Rattle.un_ir.specs.declared.extended.Ext.{Ext}
use Rattle.un_ir.specs.declared.extended.ExtBlock.{ExtBlock}
use Rattle.un_ir.specs.Extended.{IsExtended}
use Rattle.un_model.specs.declared.model.BlockVars.{BlockVars}
use Rattle.un_model.specs.declared.model.Options.{Options}
use Rattle.un_model.specs.declared.model.Model.{Model}
use Rattle.un_model.specs.declared.schedule.Schedule.{Schedule}
use Rattle.un_model.specs.Congruences.{HandsOn}
use Rattle.un_model.specs.Cost.{block_cost}
use Rattle.un_model.specs.Options.{AreOptions}
use Rattle.un_model.specs.Pairs.{joined}
use Rattle.un_model.specs.Schedules.{schedule_of}
use Rattle.un_model.specs.Solutions.{KeepsDomains, KeepsLatencies, IsPlaced, latency_gap}
use Rattle.un_model.specs.Variables.{IsModel, model_of, block_vars, block_count, blocks_vars, arcs_of}
use Rattle.un_lists.proofs.Lists.{Member, each_of, each_member, get_below}
use Rattle.un_model.proofs.Placed.{Placed, Region, region_placed, issue_at}
use Rattle.un_model.proofs.RegionEnds.{all_regions}
use Rattle.un_model.proofs.Regions.{regions, region_is, region_of}
use Rattle.un_kinds.specs.AnyProps.{constraint_of}
use Rattle.un_kinds.specs.Constraints.{Constraint, AllMet, Below, meets}
use Rattle.un_kinds.specs.declared.any.AnyProp.{AnyProp}
use Rattle.un_sites.specs.Befores.{befores_in}
use Rattle.un_sites.specs.Places.{Place, Definer, block_places, places_of, definers_of}
use Rattle.un_sites.specs.Postings.{of_place, edges_of, part_frame, part_limit, weighted}
use Rattle.un_sites.specs.Rooms.{apart_in, arcs_or, packets_in, twos_in}
use Rattle.std.proofs.lemmas.List.Elements.{All-map}
use Rattle.un_post.specs.Parts.{part_cost, cost_or, block_schedule}
use Rattle.un_post.specs.PartPostings.{part_in, part_postings, part_spared, where_block}
use Rattle.un_post.specs.PartPosts.{IsPartBelow, IsPartExact}
use Rattle.un_post.proofs.Blocks.{blocks, one_region, region_places, region_vars, places_in, regions_met}
use Rattle.un_post.proofs.Congruences.{edge_iff}
use Rattle.un_post.proofs.Exact.{of_domains}
use Rattle.un_post.proofs.ExactProps.{map_all}
use Rattle.un_post.proofs.Facts.{Given}
use Rattle.un_post.proofs.Meeting.{Met}
use Rattle.un_post.proofs.PartArcs.{arcs_met, met_memory}
use Rattle.un_post.proofs.PartFrame.{frame}
use Rattle.un_post.proofs.PartItems.{here, issues_here, equal_of}
use Rattle.un_post.proofs.PartRooms.{rooms}
use Rattle.un_post.proofs.PartSingle.{singly}
use Rattle.un_post.proofs.PartTwos.{twos_met}
use Rattle.un_post.proofs.Tests.{iff_then, iff_back, lt_iff, met_one}
use Rattle.un_post.proofs.Whole.{met_append}

-- ---- the variables of a block

pub vars_here : (b n first k : ℕ) (bs : List ExtBlock) (r : Region) → slice_get (regions b n first bs) k ≡ Some r
    → slice_get (blocks_vars first bs) k ≡ Some (block_vars r.first r.owner)
vars_here b n first k [] r e = absurd (cc e)
vars_here b n first zero (block ∷ bs) r e = ap own e
  where
    own : Option Region → Option BlockVars
    own None = None
    own (Some r) = Some (block_vars r.first r.owner)
vars_here b n first (suc k) (block ∷ bs) r e = vars_here (b + 1) (n + length block.ops) (first + block_count block) k bs r e

module _ (e : Ext) (o : Options) (x : List ℕ) (given : Given e o x) (r : Region)
    (at : slice_get (all_regions e o x given.extended) r.block ≡ Some r) where
  abbrev m : Model
  m = model_of e o

  abbrev ds : List Definer
  ds = definers_of m

  abbrev part : Schedule
  part = block_schedule r.block (schedule_of m x)

  abbrev own_places : List Place
  own_places = block_places r.block r.number r.owner (region_vars r)

  -- ---- the cost

  pub owner_at : slice_get e.blocks r.block ≡ Some r.owner
  owner_at = (region_is 0 0 0 e.blocks r.block r at).0

  pub own_cost : part_cost m r.block x ≡ block_cost x r.owner (region_vars r)
  own_cost = ap (λ (b : Option ExtBlock). cost_or x b (slice_get m.blocks r.block)) owner_at
      ∙ ap (cost_or x (Some r.owner)) (vars_here 0 0 0 r.block e.blocks r at)

  pub limits : (limit : Option ℕ) → IfSome limit (λ (l : ℕ). part_cost m r.block x < l) ↔ Met x (part_limit r.owner (region_vars r) limit)
  limits None = (λ h. tt, λ h. tt)
  limits (Some l) =
      let c = block_cost x r.owner (region_vars r) in
      let same : c + 0 ≡ part_cost m r.block x = (let own = own_cost in omega (arith, own)) in
      iff_then (lt_iff (part_cost m r.block x) l)
      (met_one x (Below (weighted r.owner (region_vars r) ∷ []) l) (nat_lt (part_cost m r.block x) l) (ap (λ (n : ℕ). nat_lt n l) same))

  -- ---- all that is posted for it

  placed_of : KeepsLatencies (latency_gap e.table) part → (q : Placed) → Member q (region_placed r) → IsPlaced (issue_at x q)
  placed_of h q m = each_member (λ q. IsPlaced (issue_at x q)) (region_placed r) q ((issues_here e o x given r at IsPlaced).0 h.0) m

  -- the parts of the list
  abbrev Parts : Option ℕ → Type 0
  Parts limit = Met x (part_limit r.owner (region_vars r) limit) × Met x (joined (map (of_place e.table o.slots ds) (region_places r)))
      × Met x (edges_of e.blocks ds r.block r.number r.owner (region_vars r)) × Met x (part_frame m ds (region_places r) ∷ [])
      × Met x (befores_in (places_of m) (arcs_or (slice_get (arcs_of e) r.block)))
      × Met x (apart_in ds r.block r.number r.owner (region_vars r)) × Met x (part_spared m ds own_places)
      × Met x (packets_in e.table r.block r.number r.owner (region_vars r))
      × Met x (joined (map (twos_in o.slots ds) (region_places r)))

  in_parts : (limit : Option ℕ) → Met x (part_in m ds limit r.block r.number r.owner (region_vars r)) ↔ Parts limit
  in_parts limit =
      let a = part_limit r.owner (region_vars r) limit in
      let of_places : List Place → List Constraint = λ ps. joined (map (of_place e.table o.slots ds) ps) in
      let of_frame : List Place → List Constraint = λ ps. part_frame m ds ps ∷ [] in
      let b = of_places own_places in
      let c = edges_of e.blocks ds r.block r.number r.owner (region_vars r) in
      let d = of_frame own_places in
      let f = befores_in (places_of m) (arcs_or (slice_get (arcs_of e) r.block)) in
      let g = apart_in ds r.block r.number r.owner (region_vars r) in
      let h = part_spared m ds own_places in
      let i = packets_in e.table r.block r.number r.owner (region_vars r) in
      let of_twos : List Place → List Constraint = λ ps. joined (map (twos_in o.slots ds) ps) in
      let j = of_twos own_places in
      let own = places_in r in
      let whole = met_append x (a ++ (b ++ (c ++ d))) ((f ++ (g ++ (h ++ i))) ++ j) in
      let behind = met_append x (f ++ (g ++ (h ++ i))) j in
      let s1 = met_append x a (b ++ (c ++ d)) in
      let s2 = met_append x b (c ++ d) in
      let s3 = met_append x c d in
      let t1 = met_append x f (g ++ (h ++ i)) in
      let t2 = met_append x g (h ++ i) in
      let t3 = met_append x h i in (
        λ k.
            let w = whole.0 k in
            let u1 = s1.0 w.0 in let u2 = s2.0 u1.1 in let u3 = s3.0 u2.1 in
            let v = behind.0 w.1 in
            let v1 = t1.0 v.0 in let v2 = t2.0 v1.1 in let v3 = t3.0 v2.1 in (
              u1.0,
              subst (λ (ps : List Place). Met x (of_places ps)) own u2.0,
              u3.0,
              subst (λ (ps : List Place). Met x (of_frame ps)) own u3.1,
              v1.0,
              v2.0,
              v3.0,
              v3.1,
              subst (λ (ps : List Place). Met x (of_twos ps)) own v.1,
            ),
        λ k. whole.1 (
          s1.1 (
            k.0,
            s2.1 (
              subst (λ (ps : List Place). Met x (of_places ps)) (sym own) k.1,
              s3.1 (k.2, subst (λ (ps : List Place). Met x (of_frame ps)) (sym own) k.3),
            ),
          ),
          behind.1 (
            t1.1 (k.4, t2.1 (k.5, t3.1 (k.6, k.7))),
            subst (λ (ps : List Place). Met x (of_twos ps)) (sym own) k.8,
          ),
        ),
      )

  -- what the block hands on
  hands : ((a : ExtBlock) → slice_get e.blocks r.block ≡ Some a → HandsOn e.blocks (schedule_of m x) r.block a)
      ↔ Met x (edges_of e.blocks ds r.block r.number r.owner (region_vars r))
  hands =
      let one = edge_iff e o x given r.block r at in (
        λ h. one.0 (h r.owner owner_at),
        λ h a there. let same : Some r.owner ≡ Some a = sym owner_at ∙ there in
            subst (HandsOn e.blocks (schedule_of m x) r.block) (cc same) (one.1 h),
      )

  of_parts : (limit : Option ℕ) → IsPartBelow m r.block limit x ↔ Parts limit
  of_parts limit =
      let l = limits limit in
      let s = singly e o x given r at in
      let f = frame e o x given r at in (
        λ h.
            let t = h.0 in
            let rest = (rooms e o x given r at (placed_of t.latencies)).0 (t.registers, t.packets) in (
              l.0 h.1,
              s.0 (record { zeros = t.zeros; choices = t.choices; spaces = t.spaces; latencies = t.latencies; homes = t.homes }),
              hands.0 t.congruences,
              f.0 t.frame,
              arcs_met e o x given r at t.choices t.latencies t.memory,
              rest.0,
              rest.1,
              rest.2,
              twos_met e o x given r at t.choices t.spaces t.latencies t.registers,
            ),
        λ h.
            let one = s.1 h.1 in
            let rest = (rooms e o x given r at (placed_of one.latencies)).1 (h.5, h.6, h.7) in (
              record {
                in_domains = given.domains;
                zeros = one.zeros;
                choices = one.choices;
                spaces = one.spaces;
                latencies = one.latencies;
                memory = met_memory e o x given r at h.4;
                registers = rest.0;
                packets = rest.1;
                homes = one.homes;
                congruences = hands.1 h.2;
                frame = f.1 h.3;
              },
              l.1 h.0,
            ),
      )

  -- the list of the block alone is posted
  alone : (limit : Option ℕ) → Met x (part_in m ds limit r.block r.number r.owner (region_vars r)) ↔ AllMet (part_postings m r.block limit) x
  alone limit =
      let f = part_in m ds limit in
      let met = regions_met e o x (where_block r.block f) in (
        λ h. met.1 (each_of _ (blocks e o x) (λ s ms. by h s ms (s.block == r.block) refl)),
        λ h. subst (λ (b : Bool). Met x (if b then f r.block r.number r.owner (region_vars r) else [])) (eq-eqb r.block r.block refl)
            (each_member (λ (s : Region). Met x (where_block r.block f s.block s.number s.owner (region_vars s))) (blocks e o x) r (met.0 h)
            (here e o x given r at)),
      )
    where
      by : Met x (part_in m ds limit r.block r.number r.owner (region_vars r)) → (s : Region) → Member s (blocks e o x) → (b : Bool)
          → (s.block == r.block) ≡ b
          → Met x (where_block r.block (part_in m ds limit) s.block s.number s.owner (region_vars s))
      by h s ms true is =
          let same = one_region e o x r s (here e o x given r at) ms (sym (equal_of s.block r.block is)) in
          subst (λ (b : Bool). Met x (if b then part_in m ds limit s.block s.number s.owner (region_vars s) else [])) (sym is)
          (subst (λ (s : Region). Met x (part_in m ds limit s.block s.number s.owner (region_vars s))) same h)
      by h s ms false is =
          subst (λ (b : Bool). Met x (if b then part_in m ds limit s.block s.number s.owner (region_vars s) else [])) (sym is) tt

  of_region : (limit : Option ℕ) → IsPartBelow m r.block limit x ↔ AllMet (part_postings m r.block limit) x
  of_region limit = iff_then (of_parts limit) (iff_then (iff_back (in_parts limit)) (alone limit))

-- ---- any block

pub part_met : (e : Ext) (o : Options) (k : ℕ) (limit : Option ℕ) (x : List ℕ) → Given e o x → k < length e.blocks
    → IsPartBelow (model_of e o) k limit x ↔ AllMet (part_postings (model_of e o) k limit) x
part_met e o k limit x given lt =
    let block = get_below e.blocks k lt in
    let found = region_of 0 0 0 e.blocks k block.0 block.1 in
    let r = found.0 in
    let number = (region_is 0 0 0 e.blocks k r found.1).1 in
    let is : r.block ≡ k = omega (arith, number) in
    let at = subst (λ (n : ℕ). slice_get (regions 0 0 0 e.blocks) n ≡ Some r) (sym is) found.1 in
    subst (λ (n : ℕ). IsPartBelow (model_of e o) n limit x ↔ AllMet (part_postings (model_of e o) n limit) x) is
    (of_region e o x given r at limit)

exact_of : (e : Ext) (o : Options) (k : ℕ) (limit : Option ℕ) (s : Sets) (ps : List AnyProp) → IsExtended e → IsFit e.table → AreOptions o
    → k < length e.blocks → s ≡ map values_of (model_of e o).domains → map constraint_of ps ≡ part_postings (model_of e o) k limit
    → IsPartExact (model_of e o) k limit s ps
exact_of e o k limit s ps extended fit options lt same asks = unfold IsPartExact in λ x.
    let own = of_domains (model_of e o).domains s x same in
    let P : Constraint → Type 0 = λ c. meets c x ≡ true in
    let by = λ (domains : KeepsDomains (model_of e o).domains x).
    part_met e o k limit x (record { extended = extended; fit = fit; options = options; domains = domains }) lt in (
      λ h.
          let domains = h.0.in_domains in
          (own.1 domains, map_all P constraint_of ps (subst (λ cs. AllMet cs x) (sym asks) ((by domains).0 h))),
      λ h. (by (own.0 h.0)).1 (subst (λ cs. AllMet cs x) asks (All-map P constraint_of ps h.1)),
    )

pub part_exact : (m : Model) (k : ℕ) (limit : Option ℕ) (s : Sets) (ps : List AnyProp) → IsModel m → IsExtended m.ext → IsFit m.ext.table
    → AreOptions m.options → k < length m.ext.blocks → s ≡ map values_of m.domains → map constraint_of ps ≡ part_postings m k limit
    → IsPartExact m k limit s ps
part_exact m k limit s ps model extended fit options lt =
    subst (λ (w : Model). s ≡ map values_of w.domains → map constraint_of ps ≡ part_postings w k limit → IsPartExact w k limit s ps)
    (sym model) (exact_of m.ext m.options k limit s ps extended fit options lt)
