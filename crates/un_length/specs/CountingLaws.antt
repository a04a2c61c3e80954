-- Laws of what the code counts.
use Rattle.std.proofs.Common.{ℕ, zero, suc, ◌≡◌, ◌<◌, ◌≤◌, ◌+◌, ◌-◌, ◌*◌, ◌∙◌, ◌⊎◌, Bool, true, false, ◌&&◌, ◌||◌, List, length}
use Rattle.std.proofs.Common.{slice_index, nat_eq, nat_le, nat_lt, refl, sym, ap, zero-add, subst, arith, inl, inr}
use Rattle.std.specs.List.{list_all}
use Rattle.std.proofs.lemmas.Bool.{cases_lt}
use Rattle.std.proofs.lemmas.Bool.Decides.{nat_tests}
use Rattle.un_domains.specs.OrderLaws.{same_test}
use Rattle.un_isa.specs.declared.packet_counts.Resource.{Resource}
use Rattle.un_isa.specs.PacketCounts.{resources, places_of}
use Rattle.un_prop.specs.LookLaws.{both, firsts}
use Rattle.un_slots.specs.Counts.{sum_from}
use Rattle.un_slots.specs.CountLaws.{from_same, below_same}
use Rattle.un_slots.specs.Crowds.{all_below}
use Rattle.un_slots.specs.CrowdLaws.{below_each, each_below, true_le, le_true, places_more}
use Rattle.un_slots.specs.SlotLaws.{for_each, of_each}
use Rattle.un_length.specs.declared.block.Task.{Task}
use Rattle.un_length.specs.Sums.{as_number, count_below}
use Rattle.un_length.specs.SumLaws.{sum_same, sum_plus, count_less, count_none}
use Rattle.un_length.specs.Rooms.{takes, lies_in, crowd, crowd_fits, end_fits, in_order, all_fit}
use Rattle.un_length.specs.Counting.{ends_at, adds, ended, starts, AreCounts}

-- Tests

-- before the next cycle is before this one or at it
bound_more : (l h : ℕ) → nat_lt l (h + 1) ≡ (nat_lt l h || nat_eq l h)
bound_more l h = elim (cases_lt l h) [
  | inl less ↦ (
      let a : nat_lt l (h + 1) ≡ true = grind (arith, nat_tests, less) in
      let b : nat_lt l h ≡ true = grind (arith, nat_tests, less) in
      rw (a, b) refl)
  | inr more ↦ elim (cases_lt h l) [
    | inl above ↦ (
        let a : nat_lt l (h + 1) ≡ false = grind (arith, nat_tests, above) in
        let b : nat_lt l h ≡ false = grind (arith, nat_tests, above) in
        let c : nat_eq l h ≡ false = grind (arith, nat_tests, above) in
        rw (a, b, c) refl)
    | inr same ↦ (
        let is : l ≡ h = omega (arith, more, same) in
        let a : nat_lt l (h + 1) ≡ true = grind (arith, nat_tests, is) in
        let b : nat_lt l h ≡ false = grind (arith, nat_tests, is) in
        let c : nat_eq l h ≡ true = grind (arith, nat_tests, is) in
        rw (a, b, c) refl)
  ]
]

bound_apart : (l h : ℕ) → (nat_lt l h && nat_eq l h) ≡ false
bound_apart l h = elim (cases_lt l h) [
  | inl less ↦ (
      let b : nat_lt l h ≡ true = grind (arith, nat_tests, less) in
      let c : nat_eq l h ≡ false = grind (arith, nat_tests, less) in
      rw (b, c) refl)
  | inr more ↦ (let b : nat_lt l h ≡ false = grind (arith, nat_tests, more) in rw b refl)
]

-- from a cycle on is at it or from the next one on
start_more : (l e : ℕ) → nat_le l e ≡ (nat_eq e l || nat_le (suc l) e)
start_more l e = elim (cases_lt e l) [
  | inl less ↦ (
      let a : nat_le l e ≡ false = grind (arith, nat_tests, less) in
      let b : nat_eq e l ≡ false = grind (arith, nat_tests, less) in
      let c : nat_le (suc l) e ≡ false = grind (arith, nat_tests, less) in
      rw (a, b, c) refl)
  | inr more ↦ elim (cases_lt l e) [
    | inl above ↦ (
        let a : nat_le l e ≡ true = grind (arith, nat_tests, above) in
        let b : nat_eq e l ≡ false = grind (arith, nat_tests, above) in
        let c : nat_le (suc l) e ≡ true = grind (arith, nat_tests, above) in
        rw (a, b, c) refl)
    | inr same ↦ (
        let is : e ≡ l = omega (arith, more, same) in
        let a : nat_le l e ≡ true = grind (arith, nat_tests, is) in
        let b : nat_eq e l ≡ true = grind (arith, nat_tests, is) in
        rw (a, b) refl)
  ]
]

start_apart : (l e : ℕ) → (nat_eq e l && nat_le (suc l) e) ≡ false
start_apart l e = elim (cases_lt l e) [
  | inl above ↦ (let b : nat_eq e l ≡ false = grind (arith, nat_tests, above) in rw b refl)
  | inr more ↦ elim (cases_lt e l) [
    | inl less ↦ (let b : nat_eq e l ≡ false = grind (arith, nat_tests, less) in rw b refl)
    | inr same ↦ (
        let is : e ≡ l = omega (arith, more, same) in
        let b : nat_eq e l ≡ true = grind (arith, nat_tests, is) in
        let c : nat_le (suc l) e ≡ false = grind (arith, nat_tests, is) in
        rw (b, c) refl)
  ]
]

same_bound : (l h : ℕ) → nat_le l h ≡ nat_lt l (h + 1)
same_bound l h = same_test (nat_le l h) (nat_lt l (h + 1)) (λ e. grind (arith, nat_tests, e)) (λ e. grind (arith, nat_tests, e))

-- what passes one of two tests that exclude each other
split : (t a g h : Bool) → a ≡ (g || h) → (g && h) ≡ false → as_number (t && a) ≡ as_number (t && g) + as_number (t && h)
split false a g h e k = refl
split true a false false e k = ap as_number e
split true a true false e k = ap as_number e
split true a false true e k = ap as_number e
split true a true true e k = absurd (cc k)

split_with : (t a g h d : Bool) → a ≡ (g || h) → (g && h) ≡ false
    → as_number ((t && a) && d) ≡ as_number ((t && g) && d) + as_number ((t && h) && d)
split_with false a g h d e k = refl
split_with true a false false d e k = ap (λ (b : Bool). as_number (b && d)) e
split_with true a true false true e k = ap (λ (b : Bool). as_number (b && true)) e
split_with true a true false false e k = ap (λ (b : Bool). as_number (b && false)) e
split_with true a false true true e k = ap (λ (b : Bool). as_number (b && true)) e
split_with true a false true false e k = ap (λ (b : Bool). as_number (b && false)) e
split_with true a true true d e k = absurd (cc k)

split_first : (t a b c d f : Bool) → a ≡ (d || f) → (d && f) ≡ false → b ≡ c
    → as_number (t && (a && b)) ≡ as_number ((t && c) && d) + as_number (t && (f && b))
split_first false a b c d f e k s = refl
split_first true a b true false false e k s = ap (λ (g : Bool). as_number (g && b)) e
split_first true a b false false false e k s = ap (λ (g : Bool). as_number (g && b)) e
split_first true a b true true false e k s = ap (λ (g : Bool). as_number (g && b)) e ∙ ap as_number s
split_first true a b false true false e k s = ap (λ (g : Bool). as_number (g && b)) e ∙ ap as_number s
split_first true a b true false true e k s = ap (λ (g : Bool). as_number (g && b)) e ∙ sym (zero-add (as_number b))
split_first true a b false false true e k s = ap (λ (g : Bool). as_number (g && b)) e ∙ sym (zero-add (as_number b))
split_first true a b c true true e k s = absurd (cc k)

no_less : (l : ℕ) → nat_lt l 0 ≡ false
no_less l = grind (arith, nat_tests)

-- Counts

module _ (r : Resource) (ops : List Task) (early late : ℕ → ℕ) where
  pub starts_more : (high c : ℕ) → count_below (starts r ops early late (high + 1) c) (length ops)
      ≡ count_below (starts r ops early late high c) (length ops) + count_below (adds r ops early late high c) (length ops)
  starts_more high c =
      sum_same (λ i. as_number (starts r ops early late (high + 1) c i))
      (λ i. as_number (starts r ops early late high c i) + as_number (adds r ops early late high c i)) (length ops)
      (λ i lt. split_with (takes r ops i) (nat_lt (late i) (high + 1)) (nat_lt (late i) high) (nat_eq (late i) high) (nat_eq (early i) c)
      (bound_more (late i) high) (bound_apart (late i) high))
      ∙ sum_plus (λ i. as_number (starts r ops early late high c i)) (λ i. as_number (adds r ops early late high c i)) (length ops)

  pub ended_more : (high : ℕ) → count_below (ended r ops late (high + 1)) (length ops)
      ≡ count_below (ended r ops late high) (length ops) + count_below (ends_at r ops late high) (length ops)
  ended_more high =
      sum_same (λ i. as_number (ended r ops late (high + 1) i))
      (λ i. as_number (ended r ops late high i) + as_number (ends_at r ops late high i)) (length ops)
      (λ i lt. split (takes r ops i) (nat_lt (late i) (high + 1)) (nat_lt (late i) high) (nat_eq (late i) high)
      (bound_more (late i) high) (bound_apart (late i) high))
      ∙ sum_plus (λ i. as_number (ended r ops late high i)) (λ i. as_number (ends_at r ops late high i)) (length ops)

  pub none_ended : count_below (ended r ops late 0) (length ops) ≡ 0
  none_ended = count_none (ended r ops late 0) (length ops) (λ i lt. off (takes r ops i) (nat_lt (late i) 0) (no_less (late i)))
    where
      off : (t g : Bool) → g ≡ false → (t && g) ≡ false
      off true g e = e
      off false g e = refl

  pub none_started : (c : ℕ) → count_below (starts r ops early late 0 c) (length ops) ≡ 0
  none_started c = count_none (starts r ops early late 0 c) (length ops)
      (λ i lt. off (takes r ops i) (nat_lt (late i) 0) (nat_eq (early i) c) (no_less (late i)))
    where
      off : (t g d : Bool) → g ≡ false → ((t && g) && d) ≡ false
      off true g d e = ap (λ (b : Bool). b && d) e
      off false g d e = refl

  -- so few that they fit anywhere
  pub few_fit : (end : ℕ) → count_below (takes r ops) (length ops) ≤ places_of r → all_below (end_fits r ops early late) end ≡ true
  few_fit end few = each_below (end_fits r ops early late) end (λ high lt. each_below (crowd_fits r ops early late high) (high + 1)
      (λ low less. le_true (crowd r ops early late low high) (places_of r * (high + 1 - low)) (
      let fewer = count_less (lies_in r ops early late low high) (takes r ops) (length ops)
      (λ i lt e. (firsts (takes r ops i) (nat_le low (early i) && nat_le (late i) high) e).0) in
      let m : high + 1 - low ≡ suc (high - low) = omega (arith, less) in
      let more = ap (λ (k : ℕ). places_of r * k) m ∙ places_more r (high - low) in
      omega (arith, fewer, few, more))))

  module _ (ordered : (i : ℕ) → i < length ops → early i ≤ late i) where
    -- what lies in an interval
    bounds : (low high i : ℕ) → lies_in r ops early late low high i ≡ true
        → (takes r ops i ≡ true) × (low ≤ early i) × (late i ≤ high)
    bounds low high i e =
        let two = firsts (takes r ops i) (nat_le low (early i) && nat_le (late i) high) e in
        let more = firsts (nat_le low (early i)) (nat_le (late i) high) two.1 in
        (two.0, true_le low (early i) more.0, true_le (late i) high more.1)

    not_lies : (low high i : ℕ) → (lies_in r ops early late low high i ≡ true → ⊥) → lies_in r ops early late low high i ≡ false
    not_lies low high i h = by (lies_in r ops early late low high i) refl
      where
        by : (b : Bool) → lies_in r ops early late low high i ≡ b → lies_in r ops early late low high i ≡ false
        by false e = e
        by true e = absurd (h e)

    crowd_none : (low high : ℕ) → high < low → crowd r ops early late low high ≡ 0
    crowd_none low high after = count_none (lies_in r ops early late low high) (length ops) (λ i lt. not_lies low high i (λ e. (
        let b = bounds low high i e in
        let from = b.1 in
        let to = b.2 in
        let le = ordered i lt in
        omega (arith, from, to, le, after))))

    crowd_step : (low high : ℕ) → crowd r ops early late low high
        ≡ count_below (starts r ops early late (high + 1) low) (length ops) + crowd r ops early late (suc low) high
    crowd_step low high =
        sum_same (λ i. as_number (lies_in r ops early late low high i))
        (λ i. as_number (starts r ops early late (high + 1) low i) + as_number (lies_in r ops early late (suc low) high i)) (length ops)
        (λ i lt. split_first (takes r ops i) (nat_le low (early i)) (nat_le (late i) high) (nat_lt (late i) (high + 1))
        (nat_eq (early i) low) (nat_le (suc low) (early i)) (start_more low (early i)) (start_apart low (early i))
        (same_bound (late i) high))
        ∙ sum_plus (λ i. as_number (starts r ops early late (high + 1) low i)) (λ i. as_number (lies_in r ops early late (suc low) high i))
        (length ops)

    -- the counts from a cycle on are the crowd
    pub crowd_sum : (high m low : ℕ) → low + m ≡ high + 1
        → sum_from (λ k. count_below (starts r ops early late (high + 1) k) (length ops)) low m ≡ crowd r ops early late low high
    crowd_sum high zero low e = sym (crowd_none low high (omega (arith, e)))
    crowd_sum high (suc m) low e = (
        let rest = crowd_sum high m (suc low) (omega (arith, e)) in
        let step = crowd_step low high in
        omega (arith, rest, step))

    -- what lies before a cycle's end has ended by then
    pub crowd_ended : (high : ℕ) → crowd r ops early late 0 high ≤ count_below (ended r ops late (high + 1)) (length ops)
    crowd_ended high = count_less (lies_in r ops early late 0 high) (ended r ops late (high + 1)) (length ops) (λ i lt e. (
        let b = bounds 0 high i e in
        both (takes r ops i) (nat_lt (late i) (high + 1)) b.0 (sym (same_bound (late i) high) ∙ le_true (late i) high b.2)))

    module _ (high : ℕ) (counts : List ℕ) (are : AreCounts r ops early late (high + 1) counts) where
      sums : (low : ℕ) → low < high + 1 → sum_from (slice_index counts) low (high + 1 - low) ≡ crowd r ops early late low high
      sums low lt =
          let n : low + (high + 1 - low) ≡ high + 1 = omega (arith, lt) in
          from_same (slice_index counts) (λ k. count_below (starts r ops early late (high + 1) k) (length ops)) low (high + 1 - low)
          (λ k less. are k) ∙ crowd_sum high (high + 1 - low) low n

      pub whole_counted : sum_from (slice_index counts) 0 (high + 1) ≤ count_below (ended r ops late (high + 1)) (length ops)
      whole_counted =
          let none : high + 1 - 0 ≡ high + 1 = omega arith in
          let same = ap (sum_from (slice_index counts) 0) none in
          let is = sums 0 (omega arith) in
          let le = crowd_ended high in
          omega (arith, same, is, le)

      pub fits_counted : all_below (λ low. nat_le (sum_from (slice_index counts) low (high + 1 - low)) (places_of r * (high + 1 - low)))
          (high + 1) ≡ end_fits r ops early late high
      fits_counted = below_same
          (λ low. nat_le (sum_from (slice_index counts) low (high + 1 - low)) (places_of r * (high + 1 - low)))
          (crowd_fits r ops early late high) (high + 1)
          (λ low lt. ap (λ (m : ℕ). nat_le m (places_of r * (high + 1 - low))) (sums low lt))

    -- Where none ends at a cycle

    module _ (high : ℕ) (off : (i : ℕ) → i < length ops → ends_at r ops late high i ≡ false) where
      not_last : (i : ℕ) → i < length ops → takes r ops i ≡ true → late i ≡ high → ⊥
      not_last i lt t e =
          let here : nat_eq (late i) high ≡ true = grind (arith, nat_tests, e) in
          let on = both (takes r ops i) (nat_eq (late i) high) t here in
          let bad : true ≡ false = sym on ∙ off i lt in cc bad

      -- what lies in an interval that ends there lies in the one that ends before it
      pub crowd_quiet : (low : ℕ) → low < high → crowd r ops early late low high ≤ crowd r ops early late low (high - 1)
      crowd_quiet low less = count_less (lies_in r ops early late low high) (lies_in r ops early late low (high - 1)) (length ops)
          (λ i in_ops e. (
          let b = bounds low high i e in
          let from = b.1 in
          let to = b.2 in
          let ne = not_last i in_ops b.0 in
          let sooner : late i ≤ high - 1 = omega (arith, to, ne, less) in
          both (takes r ops i) (nat_le low (early i) && nat_le (late i) (high - 1)) b.0
          (both (nat_le low (early i)) (nat_le (late i) (high - 1)) (le_true low (early i) from) (le_true (late i) (high - 1) sooner))))

      -- and nothing lies in the cycle alone
      pub crowd_lone : (low : ℕ) → high ≤ low → crowd r ops early late low high ≡ 0
      crowd_lone low more = count_none (lies_in r ops early late low high) (length ops) (λ i in_ops. not_lies low high i (λ e. (
          let b = bounds low high i e in
          let from = b.1 in
          let to = b.2 in
          let le = ordered i in_ops in
          let at : late i ≡ high = omega (arith, from, to, le, more) in
          not_last i in_ops b.0 at)))

    -- it is so if it was before
    pub quiet_end : (high : ℕ) → all_below (end_fits r ops early late) high ≡ true
        → ((i : ℕ) → i < length ops → ends_at r ops late high i ≡ false) → end_fits r ops early late high ≡ true
    quiet_end high before off = each_below (crowd_fits r ops early late high) (high + 1)
        (λ low lt. le_true (crowd r ops early late low high) (places_of r * (high + 1 - low)) (room low lt (cases_lt low high)))
      where
        room : (low : ℕ) → low < high + 1 → (low < high) ⊎ (high ≤ low)
            → crowd r ops early late low high ≤ places_of r * (high + 1 - low)
        room low lt (inl less) = (
            let fewer = crowd_quiet high off low less in
            let fit = true_le (crowd r ops early late low (high - 1)) (places_of r * (high - 1 + 1 - low))
            (below_each (crowd_fits r ops early late (high - 1)) (high - 1 + 1)
            (below_each (end_fits r ops early late) high before (high - 1) (omega (arith, less))) low (omega (arith, less))) in
            let last : high - 1 + 1 - low ≡ high - low = omega (arith, less) in
            let same = ap (λ (k : ℕ). places_of r * k) last in
            let m : high + 1 - low ≡ suc (high - low) = omega (arith, less) in
            let more = ap (λ (k : ℕ). places_of r * k) m ∙ places_more r (high - low) in
            omega (arith, fewer, fit, same, more))
        room low lt (inr more) = (let none = crowd_lone high off low more in omega (arith, none))

    -- where all end before a cycle, later ones say no more
    rest_fit : (end horizon : ℕ) → ((i : ℕ) → i < length ops → late i < end) → all_below (end_fits r ops early late) end ≡ true
        → end ≤ horizon → all_below (end_fits r ops early late) horizon ≡ true
    rest_fit end zero sooner fit le = (
        let is : end ≡ 0 = omega (arith, le) in subst (λ (k : ℕ). all_below (end_fits r ops early late) k ≡ true) is fit)
    rest_fit end (suc h) sooner fit le = elim (cases_lt h end) [
      | inl less ↦ (
          let is : end ≡ suc h = omega (arith, le, less) in
          subst (λ (k : ℕ). all_below (end_fits r ops early late) k ≡ true) is fit)
      | inr more ↦ (
          let before = rest_fit end h sooner fit more in
          both (all_below (end_fits r ops early late) h) (end_fits r ops early late h) before (quiet_end h before (λ i lt. (
          let less = sooner i lt in
          let ne : nat_eq (late i) h ≡ false = grind (arith, nat_tests, less, more) in
          off (takes r ops i) (nat_eq (late i) h) ne))))
    ]
      where
        off : (t g : Bool) → g ≡ false → (t && g) ≡ false
        off true g e = e
        off false g e = refl

    pub all_ended : (end horizon : ℕ) → ((i : ℕ) → i < length ops → late i < end) → end ≤ horizon
        → all_below (end_fits r ops early late) end ≡ all_below (end_fits r ops early late) horizon
    all_ended end horizon sooner le = same_test (all_below (end_fits r ops early late) end) (all_below (end_fits r ops early late) horizon)
        (λ fit. rest_fit end horizon sooner fit le)
        (λ fit. each_below (end_fits r ops early late) end (λ k lt. below_each (end_fits r ops early late) horizon fit k (omega (arith, lt, le))))

pub in_order_each : (ops : List Task) (early late : ℕ → ℕ) → in_order ops early late ≡ true → (i : ℕ) → i < length ops → early i ≤ late i
in_order_each ops early late h i lt = true_le (early i) (late i) (below_each (λ i. nat_le (early i) (late i)) (length ops) h i lt)

-- all resources before a cycle by which all end
pub all_fit_ended : (ops : List Task) (early late : ℕ → ℕ) (end horizon : ℕ) → in_order ops early late ≡ true
    → ((i : ℕ) → i < length ops → late i < end) → end ≤ horizon
    → list_all (λ r. all_below (end_fits r ops early late) end) resources ≡ all_fit ops horizon early late
all_fit_ended ops early late end horizon ordered sooner le = same_test
    (list_all (λ r. all_below (end_fits r ops early late) end) resources) (all_fit ops horizon early late)
    (λ h. for_each (λ r. all_below (end_fits r ops early late) horizon) (λ r. sym (same r)
    ∙ of_each (λ r. all_below (end_fits r ops early late) end) h r))
    (λ h. for_each (λ r. all_below (end_fits r ops early late) end) (λ r. same r
    ∙ of_each (λ r. all_below (end_fits r ops early late) horizon) h r))
  where
    same : (r : Resource) → all_below (end_fits r ops early late) end ≡ all_below (end_fits r ops early late) horizon
    same r = all_ended r ops early late (in_order_each ops early late ordered) end horizon sooner le
