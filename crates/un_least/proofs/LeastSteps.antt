-- A first number that passes a test, as a loop finds it.
use Rattle.std.proofs.Common.{ℕ, suc, ◌≡◌, ◌≤◌, ◌<◌, ◌+◌, ◌-◌, Bool, true, false, if◌then◌else◌, max, refl, sym, ap, ◌∙◌, arith}
use Rattle.un_least.specs.Least.{least_by}

-- none of the numbers before `at` passes, so that the first one is sought from there on
pub record Sought (test : ℕ → Bool) (from to at : ℕ) : Type 0 where
  pub rest : least_by test at (to - at) ≡ least_by test from (to - from)
  pub later : from ≤ at
  pub within : at ≤ max from to

pub sought_first : (test : ℕ → Bool) (from to : ℕ) → Sought test from to from
sought_first test from to = record { rest = refl; later = omega arith; within = omega arith }

-- by whether this one passes
step : (test : ℕ → Bool) (to at : ℕ) → at < to → least_by test at (to - at) ≡ (if test at then at else least_by test (suc at) (to - suc at))
unfolding least_by
step test to at lt =
    let more : to - at ≡ suc (to - suc at) = omega (arith, lt) in
    ap (least_by test at) more

pub sought_next : (test : ℕ → Bool) (from to at : ℕ) → at < to → test at ≡ false → Sought test from to at → Sought test from to (at + 1)
sought_next test from to at lt fails s =
    let later = s.later in
    let next : at + 1 ≡ suc at = omega arith in
    record {
      rest = ap (λ (n : ℕ). least_by test n (to - n)) next
          ∙ sym (step test to at lt ∙ ap (λ (b : Bool). if b then at else least_by test (suc at) (to - suc at)) fails) ∙ s.rest;
      later = omega (arith, later);
      within = omega (arith, lt);
    }

pub sought_here : (test : ℕ → Bool) (from to at : ℕ) → at < to → test at ≡ true → Sought test from to at → at ≡ least_by test from (to - from)
sought_here test from to at lt passes s =
    sym (step test to at lt ∙ ap (λ (b : Bool). if b then at else least_by test (suc at) (to - suc at)) passes) ∙ s.rest

pub sought_none : (test : ℕ → Bool) (from to at : ℕ) → to ≤ at → Sought test from to at → max to from ≡ least_by test from (to - from)
unfolding least_by
sought_none test from to at le s =
    let within = s.within in
    let later = s.later in
    let is : max to from ≡ at = omega (arith, le, within, later) in
    let none : to - at ≡ 0 = omega (arith, le) in
    is ∙ sym (ap (least_by test at) none) ∙ s.rest
