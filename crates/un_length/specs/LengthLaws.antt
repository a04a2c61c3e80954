-- Laws of lengths.
use Rattle.std.proofs.Common.{ℕ, zero, suc, ◌≡◌, ◌<◌, ◌≤◌, ◌+◌, ◌-◌, ◌∙◌, true, not, ◌&&◌, ◌||◌, List, [], ◌∷◌, length}
use Rattle.std.proofs.Common.{get_or, map, max, min, nat_le, nat_lt, Some, ap, arith}
use Rattle.std.specs.List.{AllByRecursion}
use Rattle.std.proofs.lemmas.Bool.Decides.{nat_tests}
use Rattle.std.proofs.lemmas.List.Elements.{recursion_from_All}
use Rattle.un_base.specs.declared.ids.VarId.{VarId}
use Rattle.un_domains.specs.Sets.{Sets, set_at, least, greatest, IsIn, NoneEmpty, Kept}
use Rattle.un_domains.specs.SetLaws.{least-le, has-fold_max}
use Rattle.un_domains.specs.Order.{Below}
use Rattle.un_domains.specs.OrderLaws.{least_below, greatest_below}
use Rattle.un_prop.specs.Among.{among}
use Rattle.un_prop.specs.AmongLaws.{has_among}
use Rattle.un_prop.specs.FailLaws.{first_lawful, first_keeps, first_passes}
use Rattle.un_prop.specs.Lawful.{Agree, Lawful, LawfulTest}
use Rattle.un_prop.specs.LookLaws.{both, firsts, not_or, or_not, set_alike}
use Rattle.un_prop.specs.Rounds.{HasVars}
use Rattle.un_slots.specs.SlotLaws.{map_each}
use Rattle.un_length.specs.declared.block.Task.{Task}
use Rattle.un_length.specs.declared.block.Precedence.{Precedence}
use Rattle.un_length.specs.Places.{at_place}
use Rattle.un_length.specs.Blocks.{cycle_of, block_holds, FitsBlock, BlockVars}
use Rattle.un_length.specs.BlockLaws.{place_alike, place_less, each_two, holds_fits}
use Rattle.un_length.specs.Windows.{raised, lowered, first_cycle, last_cycle, earliest, latest}
use Rattle.un_length.specs.WindowLaws.{raised_less, lowered_less, raised_keeps, lowered_keeps, lowered_falls}
use Rattle.un_length.specs.Mixed.{fit_mixed}
use Rattle.un_length.specs.MixedLaws.{fit_less, keeps_fit}
use Rattle.un_length.specs.Lengths.{is_near, length_test, length_cut, LengthStrong}

-- no latest cycle is after the greatest end
pub latest_within : (ops : List Task) (arcs : List Precedence) (end : VarId) (s : Sets) (i : ℕ)
    → latest ops arcs end s i ≤ greatest (set_at s end.0)
latest_within ops arcs end s i = (
    let falls = lowered_falls arcs (at_place (last_cycle end s) ops) i in
    let within = each ops i in
    omega (arith, falls, within))
  where
    each : (rest : List Task) (k : ℕ) → at_place (last_cycle end s) rest k ≤ greatest (set_at s end.0)
    each [] k = omega arith
    each (t ∷ ts) zero = omega arith
    each (t ∷ ts) (suc k) = each ts k

module _ (vs : List VarId) (ops : List Task) (arcs : List Precedence) (end : VarId) (horizon : ℕ) (among_all : BlockVars vs ops end) where
  of_ops : AllByRecursion (λ (t : Task). among vs t.at ≡ true) ops
  of_ops = recursion_from_All _ _ among_all.of_ops

  -- A smaller store

  module _ (t s : Sets) (known : HasVars vs s) (full : NoneEmpty t) (le : Below t s) where
    end_less : greatest (set_at t end.0) ≤ greatest (set_at s end.0)
    end_less = greatest_below t s end.0 le

    first_less : (o : Task) → among vs o.at ≡ true → first_cycle s o ≤ first_cycle t o
    first_less o h = (
        let up = least_below t s o.at.0 le (full o.at.0 (let at = has_among vs o.at s h known in omega (arith, at, le.long))) in
        omega (arith, up))

    last_less : (o : Task) → among vs o.at ≡ true → last_cycle end t o ≤ last_cycle end s o
    last_less o h = (let down = greatest_below t s o.at.0 le in let ends = end_less in omega (arith, down, ends))

    later : (i : ℕ) → earliest ops arcs s i ≤ earliest ops arcs t i
    later = raised_less arcs (at_place (first_cycle s) ops) (at_place (first_cycle t) ops)
        (place_less (first_cycle s) (first_cycle t) ops (map_each (λ o. among vs o.at ≡ true) (λ o. first_cycle s o ≤ first_cycle t o)
        first_less ops of_ops))

    sooner : (i : ℕ) → latest ops arcs end t i ≤ latest ops arcs end s i
    sooner = lowered_less arcs (at_place (last_cycle end t) ops) (at_place (last_cycle end s) ops)
        (place_less (last_cycle end t) (last_cycle end s) ops (map_each (λ o. among vs o.at ≡ true)
        (λ o. last_cycle end t o ≤ last_cycle end s o) last_less ops of_ops))

    near_less : is_near vs ops end horizon s ≡ true → is_near vs ops end horizon t ≡ true
    near_less h =
        let two = firsts (nat_lt (greatest (set_at s end.0) + length ops) horizon) (nat_le (length ops) (length vs)) h in
        let near = two.0 in
        let lt : greatest (set_at s end.0) + length ops < horizon = grind (arith, nat_tests, near) in
        let ends = end_less in
        let less : greatest (set_at t end.0) + length ops < horizon = omega (arith, lt, ends) in
        both (nat_lt (greatest (set_at t end.0) + length ops) horizon) (nat_le (length ops) (length vs))
        (grind (arith, nat_tests, less)) two.1

    test_less : length_test vs ops arcs end horizon t ≡ true → length_test vs ops arcs end horizon s ≡ true
    test_less h = not_or (is_near vs ops end horizon s) (fit_mixed ops horizon (earliest ops arcs s) (latest ops arcs end s))
        (λ near. fit_less ops horizon (earliest ops arcs s) (latest ops arcs end s) (earliest ops arcs t) (latest ops arcs end t)
        (λ i lt. later i) (λ i lt. sooner i)
        (or_not (is_near vs ops end horizon t) (fit_mixed ops horizon (earliest ops arcs t) (latest ops arcs end t)) h (near_less near)))

  -- Stores that agree

  module _ (s t : Sets) (agree : Agree vs s t) where
    end_alike : greatest (set_at s end.0) ≡ greatest (set_at t end.0)
    end_alike = ap greatest (set_alike vs s t agree end among_all.of_end)

    firsts_alike : map (first_cycle s) ops ≡ map (first_cycle t) ops
    firsts_alike = place_alike (first_cycle s) (first_cycle t) ops (map_each (λ o. among vs o.at ≡ true)
        (λ o. first_cycle s o ≡ first_cycle t o)
        (λ o h. ap (λ (xs : List ℕ). max (least xs) o.head) (set_alike vs s t agree o.at h)) ops of_ops)

    lasts_alike : map (last_cycle end s) ops ≡ map (last_cycle end t) ops
    lasts_alike = place_alike (last_cycle end s) (last_cycle end t) ops (map_each (λ o. among vs o.at ≡ true)
        (λ o. last_cycle end s o ≡ last_cycle end t o)
        (λ o h. ap (λ (xs : List ℕ). min (greatest xs) (greatest (set_at s end.0) - o.tail)) (set_alike vs s t agree o.at h)
        ∙ ap (λ (n : ℕ). min (greatest (set_at t o.at.0)) (n - o.tail)) end_alike) ops of_ops)

    test_alike : length_test vs ops arcs end horizon s ≡ length_test vs ops arcs end horizon t
    test_alike =
        ap (λ (n : ℕ). not (nat_lt (n + length ops) horizon && nat_le (length ops) (length vs))
        || fit_mixed ops horizon (earliest ops arcs s) (latest ops arcs end s)) end_alike
        ∙ (ap (λ (ns : List ℕ). not (is_near vs ops end horizon t) || fit_mixed ops horizon (λ i. raised arcs (λ k. get_or ns k 0) i)
        (latest ops arcs end s)) firsts_alike
        ∙ ap (λ (ns : List ℕ). not (is_near vs ops end horizon t) || fit_mixed ops horizon (earliest ops arcs t)
        (λ i. lowered arcs (λ k. get_or ns k 0) i)) lasts_alike)

  length_lawful_test : LawfulTest vs (λ s c. length_test vs ops arcs end horizon s)
  length_lawful_test = record {
    monotone = λ t s c known full le pass. test_less t s known full le pass;
    local = λ s t c agree. test_alike s t agree;
  }

  pub length_lawful : Lawful vs (length_cut vs ops arcs end horizon)
  length_lawful = first_lawful (λ s c. length_test vs ops arcs end horizon s) vs length_lawful_test

  -- An assignment that keeps all

  module _ (s : Sets) (x : List ℕ) (known : HasVars vs s) (there : IsIn x s) (fits : FitsBlock ops arcs end x) where
    from_first : (o : Task) → (among vs o.at ≡ true) × (o.head ≤ cycle_of x o) → first_cycle s o ≤ cycle_of x o
    from_first o h = (
        let least_of = least-le (set_at s o.at.0) (get_or x o.at.0 0) (there.each o.at.0 (has_among vs o.at s h.0 known)) in
        let head = h.1 in
        omega (arith, least_of, head))

    to_last : (o : Task) → (among vs o.at ≡ true) × (cycle_of x o + o.tail ≤ get_or x end.0 0) → cycle_of x o ≤ last_cycle end s o
    to_last o h = (
        let own = has-fold_max 0 (set_at s o.at.0) (get_or x o.at.0 0) (there.each o.at.0 (has_among vs o.at s h.0 known)) in
        let ends = has-fold_max 0 (set_at s end.0) (get_or x end.0 0) (there.each end.0 (has_among vs end s among_all.of_end known)) in
        let before = h.1 in
        omega (arith, own, ends, before))

    pub test_kept : length_test vs ops arcs end horizon s ≡ true
    test_kept = not_or (is_near vs ops end horizon s) (fit_mixed ops horizon (earliest ops arcs s) (latest ops arcs end s))
        (λ near. keeps_fit ops horizon x (earliest ops arcs s) (latest ops arcs end s)
        (raised_keeps arcs (at_place (first_cycle s) ops) (at_place (cycle_of x) ops) (recursion_from_All _ _ fits.ordered)
        (place_less (first_cycle s) (cycle_of x) ops
        (map_each (λ o. (among vs o.at ≡ true) × (o.head ≤ cycle_of x o)) (λ o. first_cycle s o ≤ cycle_of x o) from_first ops
        (each_two (λ o. among vs o.at ≡ true) (λ o. o.head ≤ cycle_of x o) ops of_ops (recursion_from_All _ _ fits.begun)))))
        (lowered_keeps arcs (at_place (last_cycle end s) ops) (at_place (cycle_of x) ops) (recursion_from_All _ _ fits.ordered)
        (place_less (cycle_of x) (last_cycle end s) ops
        (map_each (λ o. (among vs o.at ≡ true) × (cycle_of x o + o.tail ≤ get_or x end.0 0))
        (λ o. cycle_of x o ≤ last_cycle end s o) to_last ops
        (each_two (λ o. among vs o.at ≡ true) (λ o. cycle_of x o + o.tail ≤ get_or x end.0 0) ops of_ops
        (recursion_from_All _ _ fits.ended)))))
        fits.room)

  pub length_keeps : (s : Sets) (x : List ℕ) → HasVars vs s → IsIn x s → block_holds ops arcs end x ≡ true
      → Kept x (length_cut vs ops arcs end horizon s)
  length_keeps s x known there holds = first_keeps (λ s c. length_test vs ops arcs end horizon s) vs s x known there
      (λ c. test_kept s x known there (holds_fits ops arcs end x holds))

  -- What stays

  some_var : (vs : List VarId) → among vs end ≡ true → 0 < length vs
  some_var [] h = absurd (cc h)
  some_var (v ∷ rest) h = omega arith

  pub length_strong : (s : Sets) → HasVars vs s → NoneEmpty s → length_cut vs ops arcs end horizon s ≡ Some s
      → LengthStrong vs ops arcs end horizon s
  length_strong s known full stays = (first_passes (λ s c. length_test vs ops arcs end horizon s) vs s (some_var vs among_all.of_end)
      known full stays).1
