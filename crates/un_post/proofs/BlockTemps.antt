-- The temporaries of each block, as propagators name them, with their live ranges.
use Rattle.std.proofs.Common.{ℕ, ◌≡◌, ◌↔◌, ◌+◌, List, [], ◌∷◌, ◌++◌, map, refl, sym, ap, ◌∙◌}
use Rattle.std.proofs.Common.{subst}
use Rattle.std.specs.Prelude.{Option}
use Rattle.un_base.specs.declared.ids.TempId.{TempId}
use Rattle.un_ir.specs.declared.extended.Ext.{Ext}
use Rattle.un_model.specs.declared.model.Options.{Options}
use Rattle.un_model.specs.Pairs.{places_from, joined}
use Rattle.un_model.specs.Variables.{model_of}
use Rattle.un_lists.proofs.Lists.{Each, Member, map-append, member_map}
use Rattle.un_model.proofs.Placed.{Placed, Region, region_placed, Spot, spot, spots_of, all_spots}
use Rattle.un_model.proofs.PlacedSchedules.{spots, spot_range, joined_member, places_member, member_joined}
use Rattle.un_prop.specs.declared.act.Temp.{Temp}
use Rattle.un_prop.specs.Acts.{is_active}
use Rattle.un_rect.specs.Spans.{starts, ends}
use Rattle.un_sites.specs.Places.{Definer, definers_of, definer_or}
use Rattle.un_sites.specs.Rooms.{temp_by, temp_at, temps_in}
use Rattle.un_post.proofs.Blocks.{blocks, region_places, joined_parts, map_twice}
use Rattle.un_post.proofs.Facts.{Given, numbered, definer_is, definer_acts, definer_times}
use Rattle.un_post.proofs.Meeting.{each_joined, joined_each}
use Rattle.un_post.proofs.Placing.{place_of, definer_at, definer_here}
use Rattle.un_model.proofs.Regions.{placed_regions, of_region}
use Rattle.un_post.proofs.Users.{ends_is}

abbrev pub region_spots : Region → List Spot
region_spots r = all_spots (region_placed r)

-- the temporary that a result is to propagators, among those of a block
abbrev pub temp_of : Region → Spot → Temp
temp_of r s = temp_by (region_places r) s.temp (definer_at s)

-- ---- results of a block

own_temps : (q : Placed) (k : ℕ) (ts : List TempId) → map (λ (s : Spot). s.temp) (places_from (spot q) k ts) ≡ ts
own_temps q k [] = refl
own_temps q k (t ∷ ts) = ap (λ us. t ∷ us) (own_temps q (k + 1) ts)

pub results_are : (qs : List Placed) → temps_in (map place_of qs) ≡ map (λ (s : Spot). s.temp) (all_spots qs)
results_are [] = refl
results_are (q ∷ qs) =
    ap (λ ts. (q.op).results ++ ts) (results_are qs) ∙ ap (λ ts. ts ++ map (λ (s : Spot). s.temp) (all_spots qs))
    (sym (own_temps q 0 (q.op).results))
    ∙ sym (map-append (λ (s : Spot). s.temp) (spots_of q) (all_spots qs))

pub definer_in : (qs : List Placed) (s : Spot) → Member s (all_spots qs) → Member s.definer qs
definer_in qs s m =
    let r = joined_member spots_of qs s m in
    let q = places_member (spot r.0) 0 (r.0.op).results s r.2 in
    subst (λ p. Member p qs) (ap (λ (s : Spot). s.definer) q.3) r.1

module _ (e : Ext) (o : Options) (x : List ℕ) where
  pub spots_by_blocks : spots e o x ≡ joined (map region_spots (blocks e o x))
  spots_by_blocks =
      ap (λ qs. joined (map spots_of qs)) (placed_regions 0 0 0 e.blocks) ∙ joined_parts spots_of (map region_placed (blocks e o x))
      ∙ ap joined (map_twice (λ qs. joined (map spots_of qs)) region_placed (blocks e o x))

  pub spot_all : (r : Region) (s : Spot) → Member r (blocks e o x) → Member s (region_spots r) → Member s (spots e o x)
  spot_all r s m n = subst (Member s) (sym spots_by_blocks)
      (member_joined (map region_spots (blocks e o x)) (region_spots r) s (member_map region_spots (blocks e o x) r m) n)

  pub spots_in_blocks : (P : Spot → Type 0) → Each P (spots e o x) ↔ Each (λ r. Each P (region_spots r)) (blocks e o x)
  spots_in_blocks P = (
    λ h. each_joined P region_spots (blocks e o x) (subst (Each P) spots_by_blocks h),
    λ h. subst (Each P) (sym spots_by_blocks) (joined_each P region_spots (blocks e o x) h),
  )

  pub spot_block : (r : Region) (s : Spot) → Member s (region_spots r) → (let q = s.definer in q.block ≡ r.block)
  spot_block r s m = of_region r s.definer (definer_in (region_placed r) s m)

  module _ (given : Given e o x) (r : Region) (s : Spot) (mr : Member r (blocks e o x)) (m : Member s (region_spots r)) where
    pub temp_is : temp_at (definers_of (model_of e o)) (region_places r) s.temp ≡ temp_of r s
    temp_is =
        let ms = spot_all r s mr m in
        ap (λ (d : Option Definer). temp_by (region_places r) s.temp (definer_or d))
        (definer_here e o x (numbered e o x given) s ms (definer_is e o x given s ms).0)

    -- it is active, starts and ends as its live range does
    pub on_is : (let t = temp_of r s in is_active t.on x ≡ (spot_range e o x s).active)
    on_is = definer_acts e o x given s (spot_all r s mr m)

    pub start_is : starts (temp_of r s) x ≡ (spot_range e o x s).from
    start_is = definer_times e o x given s

    pub end_is : ends (temp_of r s) x ≡ (spot_range e o x s).last + 1
    end_is = ends_is e o x given r s mr (spot_all r s mr m) (spot_block r s m)
