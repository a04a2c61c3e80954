-- Two neighbouring registers that mirror the left side of the nearest branch: no others than the branch's value and the next one.
use Rattle.std.proofs.Common.{ℕ, zero, suc, ◌≡◌, ◌+◌, ◌-◌, ◌<◌, List, [], ◌∷◌, length, get_or, map, All}
use Rattle.std.proofs.Common.{length-append, refl, sym, ap, subst, arith}
use Rattle.std.specs.List.{AllByRecursion}
use Rattle.std.proofs.lemmas.List.Elements.{recursion_from_All}
use Rattle.std.proofs.lemmas.Option.{slice_get_read}
use Rattle.un_domains.specs.declared.domain.Domain.{Domain}
use Rattle.un_domains.specs.declared.side.Side.TheVariants.{Above}
use Rattle.un_domains.specs.Domains.{IsDomain, values_of}
use Rattle.un_domains.specs.Sets.{set_at, least, NoneEmpty}
use Rattle.un_domains.specs.OrderLaws.{has_least}
use Rattle.un_model.specs.Boxes.{root_of}
use Rattle.un_model.specs.declared.model.Model.{Model}
use Rattle.un_tree.specs.declared.node.Decision.{Decision}
use Rattle.un_walk.specs.Stands.{IsStandAt}
use Rattle.un_walk.specs.declared.stand.Stand.{Stand}
use Rattle.un_mirrors.specs.Mirrors.{IsMirror}
use Rattle.un_mirrors.specs.Shortened.{IsMirrorOnNearest, IsNearestRight}
use Rattle.un_mirrors.proofs.Moves.{only_neighbour}
use Rattle.un_mirrors.proofs.NearestLemmas.{nearest_at, nearest_once}
use Rattle.un_mirrors.proofs.StandFacts.{above_at, mirror_needs, some_at, there_at}

-- it is on the path
pub nearest_inside : (path : List Decision) (k : ℕ) → IsNearestRight path k → k < length path
nearest_inside path k h =
    let e = ap length h.split in let deep = h.deep in omega (arith, e, deep, length-append h.above (h.at ∷ h.below))

module _ (m : Model) (s : Stand) (h : IsStandAt (root_of m) s) (depth : ℕ) (at : Decision) (near : IsNearestRight s.path.items depth)
    (is : at ≡ get_or s.path.items depth at) where
  inside : depth < length s.path.items
  inside = nearest_inside s.path.items depth near

  pub nearest_there : at.var.0 < length s.cuts.sets
  nearest_there = there_at m s h depth at inside is

  pub nearest_some : 0 < length (set_at s.cuts.sets at.var.0)
  nearest_some = some_at m s h depth at inside is

  right : at.side ≡ Above
  right = subst (λ (d : Decision). d.side ≡ Above) (sym (nearest_at s.path.items depth near at
      (slice_get_read s.path.items (length s.path.items) depth at refl inside is))) near.right

  -- the values are above that of the branch
  pub nearest_low : at.val < least (set_at s.cuts.sets at.var.0)
  nearest_low = above_at m s h depth at inside is right (least (set_at s.cuts.sets at.var.0)) (has_least (set_at s.cuts.sets at.var.0) nearest_some)

  -- where the least value and the one before it mirror nothing, no two neighbours do
  pub no_neighbours : (value : ℕ) → value ≡ least (set_at s.cuts.sets at.var.0) → (IsMirror m (value - 1) value depth s.path.items → ⊥)
      → (a : ℕ) → IsMirrorOnNearest m a s.path.items → ⊥
  no_neighbours value low none a on =
      let once = nearest_once s.path.items on.0 depth on.1 near in
      let mirror : IsMirror m a (a + 1) depth s.path.items = subst (λ (k : ℕ). IsMirror m a (a + 1) k s.path.items) once on.2 in
      let here = slice_get_read s.path.items (length s.path.items) depth at refl inside is in
      let needs = mirror_needs m s h a (a + 1) depth at here mirror in
      let only = only_neighbour m.temps a s.cuts.sets at nearest_some (above_at m s h depth at inside is right) needs.1 in
      let first : a ≡ value - 1 = omega (arith, only.0, only.1, low) in
      let second : a + 1 ≡ value = omega (arith, only.0, only.1, low) in
      none (subst (λ (k : ℕ). IsMirror m k value depth s.path.items) first
      (subst (λ (k : ℕ). IsMirror m a k depth s.path.items) second mirror))

-- ---- the first box has a value of each variable

all_some : (ds : List Domain) → AllByRecursion IsDomain ds → NoneEmpty (map values_of ds)
all_some [] all v lt = absurd (omega (arith, lt))
all_some (d ∷ ds) all zero lt = all.0.some
all_some (d ∷ ds) all (suc v) lt = all_some ds all.1 v (omega (arith, lt))

pub root_full : (m : Model) → All IsDomain m.domains → NoneEmpty (root_of m)
root_full m all = all_some m.domains (recursion_from_All IsDomain m.domains all)
