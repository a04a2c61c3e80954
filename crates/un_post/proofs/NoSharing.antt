-- No two active temporaries of a block occupy a register in one cycle exactly where the constraints of each block are met.
use Rattle.std.proofs.Common.{ℕ, ◌≡◌, ◌↔◌, ◌+◌, ◌<◌, ◌≤◌, max, Bool, true, false, List, [], ◌∷◌, ◌++◌, map, refl, sym, ap, ◌∙◌}
use Rattle.std.proofs.Common.{subst, arith, AllPairs, inl, inr}
use Rattle.std.specs.Prelude.{not, ◌&&◌, ◌||◌, nat_eq, nat_le}
use Rattle.std.specs.List.{list_all}
use Rattle.std.proofs.lemmas.Bool.Decides.{nat_tests}
use Rattle.std.proofs.lemmas.List.Kept.{AllPairs-cons}
use Rattle.un_ir.specs.declared.extended.Ext.{Ext}
use Rattle.un_model.specs.declared.model.Options.{Options}
use Rattle.un_model.specs.declared.schedule.LiveRange.{LiveRange}
use Rattle.un_model.specs.Pairs.{joined}
use Rattle.un_model.specs.Solutions.{ShareNoCycle}
use Rattle.un_model.specs.Variables.{model_of}
use Rattle.un_lists.proofs.Lists.{Each, Pairwise, Member, each_of, each_member, each_join, pairwise_all, pairwise_map}
use Rattle.un_lists.proofs.Lists.{pairwise_of_map, pairwise_more, pairwise_append_left, pairwise_append_right}
use Rattle.un_model.proofs.Placed.{Region, region_placed, Spot}
use Rattle.un_model.proofs.PlacedSchedules.{spots, spot_range, the_ranges, joined_member}
use Rattle.un_prop.specs.declared.act.Temp.{Temp}
use Rattle.un_prop.specs.Acts.{is_active}
use Rattle.un_rect.specs.Apart.{pair_holds, apart_holds}
use Rattle.un_rect.specs.Spans.{starts, ends}
use Rattle.un_kinds.specs.Constraints.{AllMet, Apart}
use Rattle.un_sites.specs.Places.{Place, definers_of}
use Rattle.un_sites.specs.Rooms.{temp_at, temps_in, apart_in, aparts_of}
use Rattle.un_post.proofs.Blocks.{blocks, region_places, region_vars, map_twice, places_in, regions_met}
use Rattle.un_post.proofs.BlockTemps.{region_spots, temp_of, results_are, spots_by_blocks, spot_block, temp_is, on_is, start_is, end_is}
use Rattle.un_post.proofs.Facts.{Given}
use Rattle.un_root.proofs.Eaches.{all_each}
use Rattle.un_post.proofs.Meeting.{Met}
use Rattle.un_post.proofs.Blocks.{rising}
use Rattle.un_post.proofs.Tests.{and_iff}
use Rattle.un_post.proofs.Whole.{ranges_are}

-- ---- each two of a list

pub all_pairwise : {X : Type 0} (R : X → X → Type 0) (xs : List X) → Pairwise R xs → AllPairs R xs
all_pairwise R [] h = λ i j d lt within. absurd (omega arith)
all_pairwise R (x ∷ xs) h = AllPairs-cons R x xs (all_each (R x) xs h.0) (all_pairwise R xs h.1)

pairwise_join : {X : Type 0} (R : X → X → Type 0) (xs ys : List X) → Pairwise R xs → Pairwise R ys
    → ((x y : X) → Member x xs → Member y ys → R x y) → Pairwise R (xs ++ ys)
pairwise_join R [] ys h k cross = k
pairwise_join R (x ∷ xs) ys h k cross = (
  each_join (R x) xs ys h.0 (each_of (R x) ys (λ y m. cross x y (inl refl) m)),
  pairwise_join R xs ys h.1 k (λ z y m n. cross z y (inr m) n),
)

-- each two of joined lists, where a relation holds of what is in different lists
pub pairwise_parts : {X Y : Type 0} (R : Y → Y → Type 0) (S : X → X → Type 0) (f : X → List Y) (xs : List X) → Pairwise S xs
    → ((a b : X) → S a b → (y z : Y) → Member y (f a) → Member z (f b) → R y z)
    → Pairwise R (joined (map f xs)) ↔ Each (λ x. Pairwise R (f x)) xs
pairwise_parts R S f [] s cross = (λ h. tt, λ h. tt)
pairwise_parts R S f (x ∷ xs) s cross =
    let rest = pairwise_parts R S f xs s.1 cross in (
      λ h. (pairwise_append_left R (f x) (joined (map f xs)) h, rest.0 (pairwise_append_right R (f x) (joined (map f xs)) h)),
      λ h. pairwise_join R (f x) (joined (map f xs)) h.0 (rest.1 h.1) (λ y z m n.
          let r = joined_member f xs z n in cross x r.0 (each_member (S x) xs r.0 s.0 r.1) y z m r.2),
    )

pub all_pass : {X : Type 0} (t : X → Bool) (xs : List X) → Each (λ x. t x ≡ true) xs ↔ (list_all t xs ≡ true)
all_pass t [] = (λ h. refl, λ h. tt)
all_pass t (x ∷ xs) =
    let a = and_iff (t x) (list_all t xs) in
    let b = all_pass t xs in (λ h. a.0 (h.0, b.0 h.1), λ h. let k = a.1 h in (k.0, b.1 k.1))

pub apart_pairs : (temps : List Temp) (x : List ℕ) → Pairwise (λ a b. pair_holds a b x ≡ true) temps ↔ (apart_holds temps x ≡ true)
apart_pairs [] x = (λ h. refl, λ h. tt)
apart_pairs (a ∷ rest) x =
    let p = and_iff (list_all (λ b. pair_holds a b x) rest) (apart_holds rest x) in
    let q = all_pass (λ b. pair_holds a b x) rest in
    let r = apart_pairs rest x in (λ h. p.0 (q.0 h.0, r.0 h.1), λ h. let k = p.1 h in (q.1 k.0, r.1 k.1))

-- ---- two spans

-- two spans have no cycle in common, where both count and have one register
apart_iff : (p q : Bool) (a b from last start end : ℕ) → from ≤ last → start ≤ end
    → (p ≡ true → q ≡ true → a ≡ b → (c : ℕ) → (from ≤ c) × (c ≤ last) → (start ≤ c) × (c ≤ end) → ⊥)
    ↔ ((not (p && (q && nat_eq a b)) || (nat_le (last + 1) start || nat_le (end + 1) from)) ≡ true)
apart_iff false q a b from last start end l m = (λ h. refl, λ h p. absurd (cc p))
apart_iff true false a b from last start end l m = (λ h. refl, λ h p q. absurd (cc q))
apart_iff true true a b from last start end l m = by (nat_eq a b) (nat_le (last + 1) start) (nat_le (end + 1) from) refl refl refl
  where
    by : (s u v : Bool) → nat_eq a b ≡ s → nat_le (last + 1) start ≡ u → nat_le (end + 1) from ≡ v
        → (true ≡ true → true ≡ true → a ≡ b → (c : ℕ) → (from ≤ c) × (c ≤ last) → (start ≤ c) × (c ≤ end) → ⊥) ↔
        ((not s || (u || v)) ≡ true)
    by false u v e f g = (
      λ h. refl,
      λ h p q same. let no : a ≡ b
          → ⊥ = λ s. (let n : nat_eq a b ≡ true = grind (arith, nat_tests, s) in let z : true ≡ false = sym n ∙ e in cc z) in
          absurd (no same),
    )
    by true true v e f g = (
      λ h. refl,
      λ h p q same c i j. let le : last + 1 ≤ start = grind (arith, nat_tests, f) in let hi = i.1 in
          let lo = j.0 in absurd (omega arith),
    )
    by true false true e f g = (
      λ h. refl,
      λ h p q same c i j. let le : end + 1 ≤ from = grind (arith, nat_tests, g) in let hi = j.1 in
          let lo = i.0 in absurd (omega arith),
    )
    by true false false e f g = (
      λ h. absurd (
          let same : a ≡ b = grind (arith, nat_tests, e) in
          let one : start < last + 1 = grind (arith, nat_tests, f) in
          let two : from < end + 1 = grind (arith, nat_tests, g) in
          h refl refl same (max from start) (omega arith, omega arith) (omega arith, omega arith)),
      λ h. absurd (cc h),
    )

share_apart : (a b : LiveRange) → (let i = a.block in let j = b.block in i.0 ≡ j.0 → ⊥) → ShareNoCycle a b
unfolding ShareNoCycle
share_apart a b apart p q same = absurd (apart same)

share_iff : (a b : LiveRange) → (let i = a.block in let j = b.block in i.0 ≡ j.0) → a.from ≤ a.last → b.from ≤ b.last
    → ShareNoCycle a b ↔ ((not (a.active && (b.active && nat_eq a.reg b.reg)) || (nat_le (a.last + 1) b.from || nat_le (b.last + 1) a.from))
    ≡ true)
unfolding ShareNoCycle
share_iff a b same l m =
    let k = apart_iff a.active b.active a.reg b.reg a.from a.last b.from b.last l m in
    (λ h. k.0 (λ p q r. h p q same r), λ h p q s r. k.1 h p q r)

module _ (e : Ext) (o : Options) (x : List ℕ) (given : Given e o x) where
  abbrev pub Share : Spot → Spot → Type 0
  Share s u = ShareNoCycle (spot_range e o x s) (spot_range e o x u)

  -- two temporaries of a block
  two : (r : Region) (s u : Spot) → Member r (blocks e o x) → Member s (region_spots r) → Member u (region_spots r)
      → Share s u ↔ (pair_holds (temp_of r s) (temp_of r u) x ≡ true)
  two r s u mr ms mu =
      let a = spot_range e o x s in
      let b = spot_range e o x u in
      let la : a.from ≤ a.last = omega arith in
      let lb : b.from ≤ b.last = omega arith in
      let on = on_is e o x given r s mr ms in
      let on2 = on_is e o x given r u mr mu in
      let from = start_is e o x given r s mr ms in
      let from2 = start_is e o x given r u mr mu in
      let end = end_is e o x given r s mr ms in
      let end2 = end_is e o x given r u mr mu in
      let t = temp_of r s in
      let v = temp_of r u in
      let test = λ (p q : Bool) (f g h k : ℕ). not (p && (q && nat_eq a.reg b.reg)) || (nat_le g h || nat_le k f) in
      let is : pair_holds t v x ≡ test a.active b.active a.from (a.last + 1) b.from (b.last + 1) =
      ap (λ p. test p (is_active v.on x) (starts t x) (ends t x) (starts v x) (ends v x)) on
      ∙ ap (λ q. test a.active q (starts t x) (ends t x) (starts v x) (ends v x)) on2
      ∙ ap (λ f. test a.active b.active f (ends t x) (starts v x) (ends v x)) from
      ∙ ap (λ g. test a.active b.active a.from g (starts v x) (ends v x)) end
      ∙ ap (λ h. test a.active b.active a.from (a.last + 1) h (ends v x)) from2
      ∙ ap (λ k. test a.active b.active a.from (a.last + 1) b.from k) end2 in
      let block : a.block.0 ≡ b.block.0 = spot_block e o x r s ms ∙ sym (spot_block e o x r u mu) in
      let iff = share_iff a b block la lb in
      (λ h. is ∙ iff.0 h, λ h. iff.1 (sym is ∙ h))

  -- all of a block
  pub of_block : (r : Region) → Member r (blocks e o x)
      → Pairwise Share (region_spots r) ↔ Met x (apart_in (definers_of (model_of e o)) r.block r.number r.owner (region_vars r))
  of_block r mr =
      let ds = definers_of (model_of e o) in
      let ps = region_places r in
      let H = λ (a b : Temp). pair_holds a b x ≡ true in
      let at = λ (s : Spot). temp_at ds ps s.temp in
      let made : map (temp_at ds ps) (temps_in ps) ≡ map at (region_spots r) =
      ap (map (temp_at ds ps)) (results_are (region_placed r)) ∙ map_twice (temp_at ds ps) (λ (s : Spot). s.temp) (region_spots r) in
      let pairs = apart_pairs (map at (region_spots r)) x in
      let same : (s : Spot) → Member s (region_spots r) → at s ≡ temp_of r s = λ s m. temp_is e o x given r s mr m in
      let posted : apart_in ds r.block r.number r.owner (region_vars r) ≡ Apart (map at (region_spots r)) ∷ [] =
      ap (λ (qs : List Place). Apart (map (temp_at ds qs) (temps_in qs)) ∷ []) (places_in r) ∙ ap (λ ts. Apart ts ∷ []) made in (
        λ h. subst (Met x) (sym posted) (
          pairs.0 (pairwise_map H at (region_spots r)
              (pairwise_more Share (λ s u. H (at s) (at u)) (region_spots r)
              (λ s u ms mu k. subst (λ t. H t (at u)) (sym (same s ms))
              (subst (λ t. H (temp_of r s) t) (sym (same u mu)) ((two r s u mr ms mu).0 k))) h)),
          tt,
        ),
        λ h. pairwise_more (λ s u. H (at s) (at u)) Share (region_spots r)
            (λ s u ms mu k. (two r s u mr ms mu).1 (subst (λ t. H t (temp_of r u)) (same s ms) (subst (λ t. H (at s) t) (same u mu) k)))
            (pairwise_of_map H at (region_spots r) (pairs.1 (subst (Met x) posted h).0)),
      )

  cross : (r q : Region) → r.block < q.block → (s u : Spot) → Member s (region_spots r) → Member u (region_spots q) → Share s u
  cross r q lt s u ms mu = share_apart (spot_range e o x s) (spot_range e o x u) (λ same.
      let a = spot_block e o x r s ms in let b = spot_block e o x q u mu in
      let c : s.definer.block ≡ u.definer.block = same in
      omega arith)

  pub no_sharing : AllPairs ShareNoCycle (the_ranges e o x) ↔ AllMet (aparts_of (model_of e o)) x
  no_sharing =
      let parts = pairwise_parts Share (λ (r s : Region). r.block < s.block) region_spots (blocks e o x) (rising 0 0 0 e.blocks) cross in
      let met = regions_met e o x (apart_in (definers_of (model_of e o))) in (
        λ h.
            let a = pairwise_of_map ShareNoCycle (spot_range e o x) (spots e o x)
            (subst (Pairwise ShareNoCycle) (ranges_are e o x given) (pairwise_all ShareNoCycle (the_ranges e o x) h)) in
            let b = parts.0 (subst (Pairwise Share) (spots_by_blocks e o x) a) in
            met.1 (each_of _ (blocks e o x) (λ r m. (of_block r m).0 (each_member _ (blocks e o x) r b m))),
        λ h.
            let b = met.0 h in
            let a = parts.1 (each_of _ (blocks e o x) (λ r m. (of_block r m).1 (each_member _ (blocks e o x) r b m))) in
            let c = pairwise_map ShareNoCycle (spot_range e o x) (spots e o x) (subst (Pairwise Share) (sym (spots_by_blocks e o x)) a) in
            all_pairwise ShareNoCycle (the_ranges e o x) (subst (Pairwise ShareNoCycle) (sym (ranges_are e o x given)) c),
      )
