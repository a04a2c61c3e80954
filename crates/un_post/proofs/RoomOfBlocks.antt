-- The registers and slots in which something of what the operations of a block define may be are room for all that they define.
use Rattle.std.proofs.Common.{ℕ, ◌≡◌, ◌<◌, ◌+◌, true, List, [], ◌∷◌, length, map, refl, sym, ap, ◌∙◌, subst, arith}
use Rattle.std.specs.Prelude.{Option, Some, nat_eq, nat_le, slice_get, slice_index}
use Rattle.std.specs.List.{list_any, range_with_len}
use Rattle.std.proofs.lemmas.List.{length-append}
use Rattle.un_base.specs.declared.ids.TempId.{TempId}
use Rattle.un_isa.specs.declared.reg.TheConstants.{FIRST_SLOT, SLOTS}
use Rattle.un_domains.specs.declared.domain.Domain.{Domain}
use Rattle.un_domains.specs.declared.domain.Domain.TheVariants.{Range, Set}
use Rattle.un_ir.specs.declared.extended.Ext.{Ext}
use Rattle.un_model.specs.declared.model.Options.{Options}
use Rattle.un_model.specs.Schedules.{schedule_of}
use Rattle.un_model.specs.Solutions.{IsSchedule, InDomain, KeepsDomains, latency_gap}
use Rattle.un_model.specs.Variables.{model_of, own_horizon, blocks_domains, blocks_count, register_place}
use Rattle.un_lists.proofs.Lists.{Member, member_at, member_map, member_filter, get_below}
use Rattle.un_model.proofs.Numbering.{length-blocks_domains}
use Rattle.un_model.proofs.OpDomains.{keeps_sits}
use Rattle.un_model.proofs.Operations.{contains_member}
use Rattle.un_model.proofs.Placed.{Placed, Region, region_placed, Spot, spot, spots_of}
use Rattle.un_model.proofs.PlacedSchedules.{all, spots, joined_member, member_joined, places_member, definer_in as definer_all}
use Rattle.un_model.proofs.PlacedSchedules.{get_range}
use Rattle.un_model.proofs.Readings.{Solved}
use Rattle.un_press.proofs.Crossings.{reg_of}
use Rattle.un_sites.specs.Places.{Definer, definers_of, definer_or, definers_at}
use Rattle.un_sites.specs.Pressures.{in_domain, may_have, room_of, block_room}
use Rattle.un_sites.specs.Rooms.{temps_in}
use Rattle.un_post.proofs.Blocks.{blocks, region_places, stands_in}
use Rattle.un_post.proofs.BlockTemps.{region_spots, results_are}
use Rattle.un_post.proofs.Facts.{Given, numbered}
use Rattle.un_post.proofs.Frames.{any_true}
use Rattle.un_post.proofs.Placing.{definer_at, definer_here}
use Rattle.un_post.proofs.ReadingModel.{spot_known}
use Rattle.un_post.proofs.Spaces.{bound}
use Rattle.un_post.proofs.Tests.{and_iff, le_iff, eq_iff}

-- ---- domains

is_in : (d : Domain) (v : ℕ) → InDomain v d → in_domain (Some d) v ≡ true
is_in (Range lo hi) v h = (and_iff (nat_le lo v) (nat_le v hi)).0 ((le_iff lo v).0 h.0, (le_iff v hi).0 h.1)
is_in (Set values) v h = any_true (nat_eq v) values v (contains_member values v h) ((eq_iff v v).0 refl)

domain_has : (ds : List Domain) (x : List ℕ) (v : ℕ) → KeepsDomains ds x → v < length ds
    → in_domain (slice_get ds v) (slice_index x v) ≡ true
domain_has ds x v keeps lt =
    let d = get_below ds v lt in
    let z : 0 + v ≡ v = omega arith in
    ap (λ (c : Option Domain). in_domain c (slice_index x v)) d.1
    ∙ is_in d.0 (slice_index x v) (subst (λ (n : ℕ). InDomain (slice_index x n) d.0) z (keeps_sits x ds keeps v d.0 d.1))

module _ (e : Ext) (o : Options) (x : List ℕ) (given : Given e o x)
    (schedule : IsSchedule (latency_gap e.table) (model_of e o).domains (model_of e o) x (schedule_of (model_of e o) x)) where
  abbrev solved : Solved e o x
  solved = record { extended = given.extended; fit = given.fit; options = given.options; schedule = schedule }

  abbrev domains : List Domain
  domains = (model_of e o).domains

  abbrev ds : List Definer
  ds = definers_of (model_of e o)

  -- ---- the register of a result is in its domain

  long : length domains ≡ blocks_count e.blocks + 1
  long = length-append (blocks_domains e o own_horizon true e.blocks) (Range 0 1 ∷ [])
      ∙ ap (λ (k : ℕ). k + 1) (length-blocks_domains e o true e.blocks)

  own_domain : (s : Spot) → Member s (spots e o x) → may_have domains (reg_of e o x solved s) (definer_at s) ≡ true
  own_domain s m =
      let q = s.definer in
      let v = q.first + register_place q.op + s.place in
      let lt = spot_known e o given.extended s m in
      domain_has domains x v given.domains (omega (arith, lt, long))

  module _ (r : Region) (mr : Member r (blocks e o x)) where
    abbrev room : List ℕ
    room = block_room domains ds (region_places r)

    -- a result of an operation of the block is one of the block's
    of_block : (s : Spot) → Member s (spots e o x) → s.definer.block ≡ r.block → Member s (region_spots r)
    of_block s m block =
        let j = joined_member spots_of (all e o x) s m in
        let u = places_member (spot j.0) 0 (j.0.op).results s j.2 in
        let same : j.0 ≡ s.definer = ap (λ (s : Spot). s.definer) u.3 in
        let inside = stands_in e o x r j.0 mr j.1 (ap (λ (p : Placed). p.block) same ∙ block) in
        member_joined (map spots_of (region_placed r)) (spots_of j.0) s (member_map spots_of (region_placed r) j.0 inside) j.2

    listed : (s : Spot) → Member s (spots e o x) → Member s (region_spots r) → Member (definer_at s) (definers_at ds (temps_in (region_places r)))
    listed s m inside =
        let there : Member s.temp (temps_in (region_places r)) = subst (Member s.temp) (sym (results_are (region_placed r)))
        (member_map (λ (s : Spot). s.temp) (region_spots r) s inside) in
        let is = definer_here e o x (numbered e o x given) s m (definer_all e o x (numbered e o x given) s m) in
        subst (λ (d : Definer). Member d (definers_at ds (temps_in (region_places r)))) (ap definer_or is)
        (member_map (λ (y : TempId). definer_or (slice_get ds y.0)) (temps_in (region_places r)) s.temp there)

    -- there is room for all that is active in the block
    pub has_room : (s : Spot) → Member s (spots e o x) → s.definer.block ≡ r.block → Member (reg_of e o x solved s) room
    unfolding room_of
    has_room s m block =
        let reg = reg_of e o x solved s in
        let options = given.options in
        let few = options.slots in
        let lt = bound e o x given s m in
        let below : reg < FIRST_SLOT + SLOTS = omega (arith, lt, few) in
        let at : slice_get (range_with_len 0 (FIRST_SLOT + SLOTS)) reg ≡ Some reg =
        get_range 0 (FIRST_SLOT + SLOTS) reg below ∙ ap (λ (n : ℕ). Some n) (let z : 0 + reg ≡ reg = omega arith in z) in
        member_filter (λ (k : ℕ). list_any (may_have domains k) (definers_at ds (temps_in (region_places r))))
        (range_with_len 0 (FIRST_SLOT + SLOTS)) reg (member_at (range_with_len 0 (FIRST_SLOT + SLOTS)) reg reg at)
        (any_true (may_have domains reg) (definers_at ds (temps_in (region_places r))) (definer_at s)
        (listed s m (of_block s m block)) (own_domain s m))
