-- Laws of room between earliest and latest cycles.
use Rattle.std.proofs.Common.{ℕ, zero, suc, ◌≡◌, ◌<◌, ◌≤◌, ◌+◌, ◌-◌, ◌*◌, Bool, true, false, ◌&&◌, if◌then◌else◌, List, [], ◌∷◌}
use Rattle.std.proofs.Common.{length, nat_eq, nat_le, refl, ap, arith}
use Rattle.std.proofs.lemmas.Bool.Decides.{nat_tests}
use Rattle.un_domains.specs.OrderLaws.{same_test}
use Rattle.un_isa.specs.declared.packet_counts.Resource.{Resource}
use Rattle.un_isa.specs.PacketCounts.{places_of, share_of}
use Rattle.un_prop.specs.LookLaws.{both, firsts}
use Rattle.un_slots.specs.Crowds.{all_below}
use Rattle.un_slots.specs.CrowdLaws.{below_each, each_below, true_le, le_true}
use Rattle.un_slots.specs.SlotLaws.{for_each, of_each}
use Rattle.un_length.specs.declared.block.Task.{Task}
use Rattle.un_length.specs.Places.{at_place}
use Rattle.un_length.specs.Blocks.{cycle_of, taken_by, taken}
use Rattle.un_length.specs.Sums.{sum_below, as_number}
use Rattle.un_length.specs.SumLaws.{sum_less, sum_has, sum_swap, sum_places, sum_of_places, count_less}
use Rattle.un_length.specs.Rooms.{takes, lies_in, crowd, crowd_fits, end_fits, in_order, all_fit, have_room}

-- All intervals

module _ (ops : List Task) (horizon : ℕ) (early late : ℕ → ℕ) where
  pub fit_each : all_fit ops horizon early late ≡ true → (r : Resource) (high low : ℕ) → high < horizon → low < high + 1
      → crowd_fits r ops early late high low ≡ true
  fit_each h r high low lt less = below_each (crowd_fits r ops early late high) (high + 1)
      (below_each (end_fits r ops early late) horizon (of_each (λ r. all_below (end_fits r ops early late) horizon) h r) high lt) low less

  pub each_fit : ((r : Resource) (high low : ℕ) → crowd_fits r ops early late high low ≡ true) → all_fit ops horizon early late ≡ true
  each_fit h = for_each (λ r. all_below (end_fits r ops early late) horizon) (λ r. each_below (end_fits r ops early late) horizon
      (λ high lt. each_below (crowd_fits r ops early late high) (high + 1) (λ low less. h r high low)))

-- Wider windows have room where narrower ones have

module _ (ops : List Task) (horizon : ℕ) (early late early' late' : ℕ → ℕ) (later : (i : ℕ) → i < length ops → early i ≤ early' i)
    (sooner : (i : ℕ) → i < length ops → late' i ≤ late i) where
  lies_less : (r : Resource) (low high i : ℕ) → i < length ops → lies_in r ops early late low high i ≡ true
      → lies_in r ops early' late' low high i ≡ true
  lies_less r low high i lt h =
      let two = firsts (takes r ops i) (nat_le low (early i) && nat_le (late i) high) h in
      let bounds = firsts (nat_le low (early i)) (nat_le (late i) high) two.1 in
      let from = true_le low (early i) bounds.0 in
      let to = true_le (late i) high bounds.1 in
      let up = later i lt in
      let down = sooner i lt in
      both (takes r ops i) (nat_le low (early' i) && nat_le (late' i) high) two.0
      (both (nat_le low (early' i)) (nat_le (late' i) high) (le_true low (early' i) (omega (arith, from, up)))
      (le_true (late' i) high (omega (arith, to, down))))

  pub crowd_less : (r : Resource) (low high : ℕ) → crowd r ops early late low high ≤ crowd r ops early' late' low high
  crowd_less r low high = count_less (lies_in r ops early late low high) (lies_in r ops early' late' low high) (length ops)
      (lies_less r low high)

  pub room_less : have_room ops horizon early' late' ≡ true → have_room ops horizon early late ≡ true
  room_less h = both (in_order ops early late) (all_fit ops horizon early late)
      (each_below (λ i. nat_le (early i) (late i)) (length ops) (λ i lt. (
      let mid = true_le (early' i) (late' i) (below_each (λ i. nat_le (early' i) (late' i)) (length ops) two.0 i lt) in
      let up = later i lt in
      let down = sooner i lt in
      le_true (early i) (late i) (omega (arith, mid, up, down)))))
      (for_each (λ r. all_below (end_fits r ops early late) horizon) (λ r. each_below (end_fits r ops early late) horizon
      (λ high lt. each_below (crowd_fits r ops early late high) (high + 1) (λ low less. (
      let fewer = crowd_less r low high in
      let fit = true_le (crowd r ops early' late' low high) (places_of r * (high + 1 - low))
      (fit_each ops horizon early' late' two.1 r high low lt less) in
      le_true (crowd r ops early late low high) (places_of r * (high + 1 - low)) (within fewer fit))))))
    where
      two : (in_order ops early' late' ≡ true) × (all_fit ops horizon early' late' ≡ true)
      two = firsts (in_order ops early' late') (all_fit ops horizon early' late') h

      within : {a b c : ℕ} → a ≤ b → b ≤ c → a ≤ c
      within h k = omega (arith, h, k)

-- windows that are alike below the number of operations
pub room_same : (ops : List Task) (horizon : ℕ) (early late early' late' : ℕ → ℕ) → ((i : ℕ) → i < length ops → early i ≡ early' i)
    → ((i : ℕ) → i < length ops → late i ≡ late' i) → have_room ops horizon early late ≡ have_room ops horizon early' late'
room_same ops horizon early late early' late' e l = same_test (have_room ops horizon early late) (have_room ops horizon early' late')
    (room_less ops horizon early' late' early late (λ i lt. (let same = e i lt in omega (arith, same)))
    (λ i lt. (let same = l i lt in omega (arith, same))))
    (room_less ops horizon early late early' late' (λ i lt. (let same = e i lt in omega (arith, same)))
    (λ i lt. (let same = l i lt in omega (arith, same))))

-- out of order there is no room, and in order it is that of all intervals
pub room_off : (ops : List Task) (horizon : ℕ) (early late : ℕ → ℕ) → in_order ops early late ≡ false
    → have_room ops horizon early late ≡ false
room_off ops horizon early late off = ap (λ (b : Bool). b && all_fit ops horizon early late) off

pub room_on : (ops : List Task) (horizon : ℕ) (early late : ℕ → ℕ) → in_order ops early late ≡ true
    → have_room ops horizon early late ≡ all_fit ops horizon early late
room_on ops horizon early late on = ap (λ (b : Bool). b && all_fit ops horizon early late) on

-- Cycles that keep all have room

pub own_share : (r : Resource) (x : List ℕ) (ops : List Task) (i : ℕ)
    → at_place (taken_by r (at_place (cycle_of x) ops i) x) ops i ≡ at_place (λ t. share_of r t.needs) ops i
own_share r x [] i = refl
own_share r x (t ∷ ts) zero =
    let own : nat_eq (cycle_of x t) (cycle_of x t) ≡ true = grind (arith, nat_tests) in
    ap (λ (b : Bool). if b then share_of r t.needs else 0) own
own_share r x (t ∷ ts) (suc i) = own_share r x ts i

module _ (ops : List Task) (horizon : ℕ) (x : List ℕ) (early late : ℕ → ℕ) (from : (i : ℕ) → early i ≤ at_place (cycle_of x) ops i)
    (to : (i : ℕ) → at_place (cycle_of x) ops i ≤ late i) (room : (r : Resource) (c : ℕ) → taken r ops x c ≤ places_of r) where
  -- an operation that is counted takes some in a cycle of the interval
  counted_takes : (r : Resource) (low high i : ℕ) → as_number (lies_in r ops early late low high i)
      ≤ sum_below (λ k. at_place (taken_by r (low + k) x) ops i) (high + 1 - low)
  counted_takes r low high i = by (lies_in r ops early late low high i) refl
    where
      by : (b : Bool) → lies_in r ops early late low high i ≡ b
          → as_number b ≤ sum_below (λ k. at_place (taken_by r (low + k) x) ops i) (high + 1 - low)
      by false e = omega arith
      by true e =
          let two = firsts (takes r ops i) (nat_le low (early i) && nat_le (late i) high) e in
          let bounds = firsts (nat_le low (early i)) (nat_le (late i) high) two.1 in
          let above = true_le low (early i) bounds.0 in
          let below = true_le (late i) high bounds.1 in
          let c = at_place (cycle_of x) ops i in
          let first = from i in
          let last = to i in
          let takes_some = two.0 in
          let some : 0 < at_place (λ t. share_of r t.needs) ops i = grind (arith, nat_tests, takes_some) in
          let own = own_share r x ops i in
          let is : low + (c - low) ≡ c = omega (arith, above, first) in
          let same = ap (λ (m : ℕ). at_place (taken_by r m x) ops i) is in
          let has = sum_has (λ k. at_place (taken_by r (low + k) x) ops i) (high + 1 - low) (c - low)
          (omega (arith, above, first, last, below)) in
          omega (arith, some, own, same, has)

  crowd_room : (r : Resource) (low high : ℕ) → crowd r ops early late low high ≤ places_of r * (high + 1 - low)
  crowd_room r low high =
      let n = length ops in
      let m = high + 1 - low in
      let each = sum_less (λ i. as_number (lies_in r ops early late low high i))
      (λ i. sum_below (λ k. at_place (taken_by r (low + k) x) ops i) m) n (λ i lt. counted_takes r low high i) in
      let swap = sum_swap (λ i k. at_place (taken_by r (low + k) x) ops i) n m in
      let fits = sum_places r (λ k. sum_below (λ i. at_place (taken_by r (low + k) x) ops i) n) m
      (λ k lt. (let is = sum_of_places (taken_by r (low + k) x) ops in let le = room r (low + k) in omega (arith, is, le))) in
      omega (arith, each, swap, fits)

  pub keeps_room : have_room ops horizon early late ≡ true
  keeps_room = both (in_order ops early late) (all_fit ops horizon early late)
      (each_below (λ i. nat_le (early i) (late i)) (length ops)
      (λ i lt. le_true (early i) (late i) (let a = from i in let b = to i in omega (arith, a, b))))
      (each_fit ops horizon early late (λ r high low. le_true (crowd r ops early late low high) (places_of r * (high + 1 - low))
      (crowd_room r low high)))
