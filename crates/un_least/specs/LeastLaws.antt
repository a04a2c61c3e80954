-- A block that keeps its precedences and has room in each cycle ends no sooner than the least end before which its operations have room.
use Rattle.std.proofs.Common.{ℕ, zero, suc, ◌≡◌, ◌≤◌, ◌+◌, ◌-◌, inl, inr, Bool, true, false, if◌then◌else◌, List, [], ◌∷◌, get_or, min, refl, sym, ap, ◌∙◌, arith, All}
use Rattle.std.proofs.lemmas.Bool.{cases_lt}
use Rattle.std.proofs.lemmas.List.Elements.{recursion_from_All}
use Rattle.un_base.specs.declared.ids.VarId.{VarId}
use Rattle.un_slots.specs.SlotLaws.{map_each}
use Rattle.un_length.specs.declared.block.Task.{Task}
use Rattle.un_length.specs.declared.block.Precedence.{Precedence}
use Rattle.un_length.specs.Places.{at_place}
use Rattle.un_length.specs.Blocks.{cycle_of, FitsBlock}
use Rattle.un_length.specs.BlockLaws.{place_less, each_two}
use Rattle.un_length.specs.WindowLaws.{raised_keeps, lowered_keeps, lowered_falls}
use Rattle.un_length.specs.MixedLaws.{keeps_fit}
use Rattle.un_least.specs.Least.{head_cycle, tail_cycle, earliest_of, latest_of, fits_before, least_by, least_end_of}

-- one that passes is no earlier than the first
pub first_is_no_later : (test : ℕ → Bool) (from n d : ℕ) → from ≤ d → test d ≡ true → least_by test from n ≤ d
unfolding least_by
first_is_no_later test from zero d le passes = le
first_is_no_later test from (suc n) d le passes =
    by (test from) refl (λ before. first_is_no_later test (suc from) n d before passes)
  where
    by : (b : Bool) → test from ≡ b → (suc from ≤ d → least_by test (suc from) n ≤ d)
        → (if b then from else least_by test (suc from) n) ≤ d
    by true is rest = le
    by false is rest = elim (cases_lt from d) [
      | inl before ↦ rest (omega (arith, before))
      | inr ge ↦ (
          let at : from ≡ d = omega (arith, le, ge) in
          let no : true ≡ false = sym passes ∙ sym (ap test at) ∙ is in
          absurd (cc no))
    ]

module _ (ops : List Task) (arcs : List Precedence) (end : VarId) (horizon : ℕ) (x : List ℕ) (fits : FitsBlock ops arcs end x)
    (issued : All (λ (t : Task). min t.tail 1 ≤ cycle_of x t) ops) where
  from_head : (t : Task) → (min t.tail 1 ≤ cycle_of x t) × (t.head ≤ cycle_of x t) → head_cycle t ≤ cycle_of x t
  from_head t h = (let first = h.0 in let head = h.1 in omega (arith, first, head))

  to_tail : (t : Task) → cycle_of x t + t.tail ≤ get_or x end.0 0 → cycle_of x t ≤ tail_cycle (get_or x end.0 0) t
  to_tail t h = omega (arith, h)

  -- they have room before its own end
  pub own_end_fits : fits_before ops arcs horizon (get_or x end.0 0) ≡ true
  own_end_fits = keeps_fit ops horizon x (earliest_of ops arcs) (latest_of ops arcs (get_or x end.0 0))
      (raised_keeps arcs (at_place head_cycle ops) (at_place (cycle_of x) ops) (recursion_from_All _ _ fits.ordered)
      (place_less head_cycle (cycle_of x) ops
      (map_each (λ t. (min t.tail 1 ≤ cycle_of x t) × (t.head ≤ cycle_of x t)) (λ t. head_cycle t ≤ cycle_of x t) from_head ops
      (each_two (λ t. min t.tail 1 ≤ cycle_of x t) (λ t. t.head ≤ cycle_of x t) ops (recursion_from_All _ _ issued)
      (recursion_from_All _ _ fits.begun)))))
      (lowered_keeps arcs (at_place (tail_cycle (get_or x end.0 0)) ops) (at_place (cycle_of x) ops)
      (recursion_from_All _ _ fits.ordered)
      (place_less (cycle_of x) (tail_cycle (get_or x end.0 0)) ops
      (map_each (λ t. cycle_of x t + t.tail ≤ get_or x end.0 0) (λ t. cycle_of x t ≤ tail_cycle (get_or x end.0 0) t) to_tail ops
      (recursion_from_All _ _ fits.ended))))
      fits.room

  pub least_is_no_later : (from : ℕ) → from ≤ get_or x end.0 0 → least_end_of ops arcs horizon from ≤ get_or x end.0 0
  least_is_no_later from le =
      first_is_no_later (fits_before ops arcs horizon) from (horizon - from) (get_or x end.0 0) le own_end_fits

-- no latest cycle is after the end
pub latest_of_within : (ops : List Task) (arcs : List Precedence) (end i : ℕ) → latest_of ops arcs end i ≤ end
latest_of_within ops arcs end i = (
    let falls = lowered_falls arcs (at_place (tail_cycle end) ops) i in
    let within = each ops i in
    omega (arith, falls, within))
  where
    each : (rest : List Task) (k : ℕ) → at_place (tail_cycle end) rest k ≤ end
    each [] k = omega arith
    each (t ∷ ts) zero = omega arith
    each (t ∷ ts) (suc k) = each ts k
