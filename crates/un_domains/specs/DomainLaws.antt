-- Laws of places and values.
use Rattle.std.proofs.Common.{ℕ, ◌≡◌, ◌<◌, ◌≤◌, ◌+◌, ◌-◌, List, true, false, length, get_or, map, nat_lt, nat_le, refl, sym, ap, ◌∙◌, arith}
use Rattle.std.proofs.Common.{inl, inr}
use Rattle.std.proofs.lemmas.Bool.{cases_lt}
use Rattle.std.proofs.lemmas.Bool.Decides.{nat_tests}
use Rattle.std.specs.List.{range_with_len}
use Rattle.std.proofs.lemmas.List.{ext_get_or}
use Rattle.std.proofs.lemmas.List.FromFn.{length-range_with_len, get_or-range_with_len, length-map-range_with_len}
use Rattle.std.proofs.lemmas.List.FromFn.{get_or-map-range_with_len}
use Rattle.un_domains.specs.declared.domain.Domain.{Domain}
use Rattle.un_domains.specs.declared.domain.Domain.TheVariants.{Range, Set}
use Rattle.un_domains.specs.Domains.{values_of, value_at, Rises}

-- a value by its place
pub value_is : (d : Domain) (i : ℕ) → i < length (values_of d) → get_or (values_of d) i 0 ≡ value_at d i
value_is (Range lo hi) i lt = get_or-range_with_len lo (hi + 1 - lo) i 0 (omega (arith, lt, length-range_with_len lo (hi + 1 - lo)))
value_is (Set values) i lt = refl

-- all values by their places
pub all_values : (d : Domain) → map (value_at d) (range_with_len 0 (length (values_of d))) ≡ values_of d
all_values d =
    let n = length (values_of d) in
    ext_get_or 0 (map (value_at d) (range_with_len 0 n)) (values_of d) (length-map-range_with_len (value_at d) 0 n) (λ i lt.
    let below : i < n = omega (arith, lt, length-map-range_with_len (value_at d) 0 n) in
    get_or-map-range_with_len (value_at d) 0 n i i 0 below (omega arith) ∙ sym (value_is d i below))

-- later places have greater values
pub value_rises : (d : Domain) (i j : ℕ) → Rises (values_of d) → i < j → j < length (values_of d) → value_at d i < value_at d j
value_rises d i j rises lt within = omega (arith, rises i j lt within, value_is d i (omega (arith, lt, within)), value_is d j within)

-- the values that are at most that of place k
pub rank_at : (xs : List ℕ) (k x i : ℕ) → Rises xs → k < length xs → get_or xs k 0 ≡ x → i < length xs
    → nat_lt i (k + 1) ≡ nat_le (get_or xs i 0) x
rank_at xs k x i rises lt is below = elim (cases_lt i k) [
  | inl before ↦ (let less = rises i k before lt in up (omega (arith, before)) (omega (arith, less, is)))
  | inr from ↦ elim (cases_lt k i) [
    | inl past ↦ (let more = rises k i past below in down (omega (arith, past)) (omega (arith, more, is)))
    | inr to ↦ (let same : i ≡ k = omega (arith, from, to) in
        let e : get_or xs i 0 ≡ x = ap (λ (j : ℕ). get_or xs j 0) same ∙ is in up (omega (arith, same)) (omega (arith, e)))
  ]
]
  where
    up : i < k + 1 → get_or xs i 0 ≤ x → nat_lt i (k + 1) ≡ nat_le (get_or xs i 0) x
    up a b = let l : nat_lt i (k + 1) ≡ true = grind (arith, nat_tests) in
        let r : nat_le (get_or xs i 0) x ≡ true = grind (arith, nat_tests) in l ∙ sym r

    down : k + 1 ≤ i → x < get_or xs i 0 → nat_lt i (k + 1) ≡ nat_le (get_or xs i 0) x
    down a b = let l : nat_lt i (k + 1) ≡ false = grind (arith, nat_tests) in
        let r : nat_le (get_or xs i 0) x ≡ false = grind (arith, nat_tests) in l ∙ sym r
