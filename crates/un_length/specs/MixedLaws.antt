-- Laws of what cycles lose.
use Rattle.std.proofs.Common.{ℕ, zero, suc, ◌≡◌, ◌<◌, ◌≤◌, ◌+◌, ◌-◌, ◌*◌, ◌∙◌, ◌⊎◌, Bool, true, false, not, ◌&&◌, ◌||◌, List, [], ◌∷◌}
use Rattle.std.proofs.Common.{if◌then◌else◌, length, nat_eq, nat_le, nat_lt, slice_index, refl, ap, subst, arith, inl, inr}
use Rattle.std.proofs.lemmas.Bool.{cases_lt}
use Rattle.std.proofs.lemmas.Bool.Decides.{nat_tests}
use Rattle.un_domains.specs.OrderLaws.{same_test}
use Rattle.un_isa.specs.declared.packet_counts.Resource.{Resource}
use Rattle.un_isa.specs.declared.packet_counts.Resource.TheVariants.{Instructions, Memory, Stores, MultiplyOrControl, Control}
use Rattle.un_isa.specs.PacketCounts.{places_of, share_of}
use Rattle.un_prop.specs.LookLaws.{both, firsts}
use Rattle.un_slots.specs.Counts.{sum_from}
use Rattle.un_slots.specs.CountLaws.{from_same, below_same}
use Rattle.un_slots.specs.Crowds.{all_below}
use Rattle.un_slots.specs.CrowdLaws.{below_each, each_below, true_le, le_true, places_more}
use Rattle.un_length.specs.declared.block.Task.{Task}
use Rattle.un_length.specs.declared.mixed.Sort.TheVariants.{First, Both, Neither}
use Rattle.un_length.specs.Places.{at_place}
use Rattle.un_length.specs.Blocks.{cycle_of, taken_by, taken}
use Rattle.un_length.specs.Sums.{sum_below, as_number, count_below}
use Rattle.un_length.specs.SumLaws.{sum_less, sum_plus, sum_has, sum_swap, sum_head, sum_places, sum_of_places, count_less}
use Rattle.un_length.specs.Rooms.{takes, lies_in, crowd, have_room}
use Rattle.un_length.specs.RoomLaws.{own_share, crowd_less, room_less, keeps_room}
use Rattle.un_length.specs.Counting.{ends_at, starts, ended, adds}
use Rattle.un_length.specs.CountingLaws.{starts_more, crowd_sum, crowd_ended, crowd_quiet, crowd_lone}
use Rattle.un_length.specs.Mixed.{may_issue, issuable, is_of, holds_of, holds_at, lost_at, mix_fits}
use Rattle.un_length.specs.Mixed.{mixed_end_fits, mixes_fit, are_countless, mixed_room, AreMixed, fit_mixed}

-- Sums from a number on

pub from_places : (f : ℕ → ℕ) (low n : ℕ) → sum_from f low n ≡ sum_below (λ k. f (low + k)) n
from_places f low zero = refl
from_places f low (suc n) = (
    let rest = from_places f (suc low) n in
    let head = sum_head (λ k. f (low + k)) n in
    let first : low + 0 ≡ low = omega arith in
    let same = ap f first in
    let later = places_alike n in
    omega (arith, rest, head, same, later))
  where
    places_alike : (m : ℕ) → sum_below (λ k. f (low + suc k)) m ≡ sum_below (λ k. f (suc low + k)) m
    places_alike zero = refl
    places_alike (suc m) = (
        let rest = places_alike m in
        let is : low + suc m ≡ suc low + m = omega arith in
        let here = ap f is in
        omega (arith, rest, here))

pub from_last : (f : ℕ → ℕ) (low n : ℕ) → sum_from f low (suc n) ≡ sum_from f low n + f (low + n)
from_last f low n = (
    let more = from_places f low (suc n) in
    let less = from_places f low n in
    omega (arith, more, less))

pub from_plus : (f g : ℕ → ℕ) (low n : ℕ) → sum_from (λ k. f k + g k) low n ≡ sum_from f low n + sum_from g low n
from_plus f g low zero = refl
from_plus f g low (suc n) = (let rest = from_plus f g (suc low) n in omega (arith, rest))

from_each : (f g : ℕ → ℕ) → ((k : ℕ) → f k ≤ g k) → (low n : ℕ) → sum_from f low n ≤ sum_from g low n
from_each f g h low zero = omega arith
from_each f g h low (suc n) = (
    let here = h low in
    let rest = from_each f g h (suc low) n in
    omega (arith, here, rest))

-- A cycle loses no more than it has

pub lost_most : (ops : List Task) (early late : ℕ → ℕ) (q : ℕ) → lost_at ops early late q ≤ places_of Instructions
lost_most ops early late q = omega arith

pub lost_few : (ops : List Task) (early late : ℕ → ℕ) (n : ℕ) → sum_from (lost_at ops early late) 0 n ≤ places_of Instructions * n
lost_few ops early late n = (
    let is = from_places (lost_at ops early late) 0 n in
    let few = sum_places Instructions (λ k. lost_at ops early late (0 + k)) n (λ k lt. lost_most ops early late (0 + k)) in
    omega (arith, is, few))

pub lost_or_none : (ops : List Task) (early late : ℕ → ℕ) (q : ℕ) (b : Bool)
    → (if b then lost_at ops early late q else 0) ≤ places_of Instructions
lost_or_none ops early late q true = lost_most ops early late q
lost_or_none ops early late q false = omega arith

-- Wider windows lose less

module _ (ops : List Task) (early late early' late' : ℕ → ℕ) (later : (i : ℕ) → i < length ops → early i ≤ early' i)
    (sooner : (i : ℕ) → i < length ops → late' i ≤ late i) where
  issuable_less : (sort : ℕ → Bool) (q : ℕ) → issuable sort ops early' late' q ≤ issuable sort ops early late q
  issuable_less sort q = count_less (λ i. sort i && may_issue early' late' q i) (λ i. sort i && may_issue early late q i) (length ops)
      (λ i lt e. (
      let two = firsts (sort i) (may_issue early' late' q i) e in
      let bounds = firsts (nat_le (early' i) q) (nat_le q (late' i)) two.1 in
      let from = true_le (early' i) q bounds.0 in
      let to = true_le q (late' i) bounds.1 in
      let up = later i lt in
      let down = sooner i lt in
      both (sort i) (may_issue early late q i) two.0 (both (nat_le (early i) q) (nat_le q (late i))
      (le_true (early i) q (omega (arith, from, up))) (le_true q (late i) (omega (arith, to, down))))))

  holds_of_less : (r s : Resource) (q : ℕ) → holds_of r s ops early' late' q ≤ holds_of r s ops early late q
  holds_of_less r s q =
      let first = issuable_less (is_of First r s ops) q in
      let second = issuable_less (is_of Both r s ops) q in
      omega (arith, first, second)

  lost_more : (q : ℕ) → lost_at ops early late q ≤ lost_at ops early' late' q
  lost_more q =
      let free = issuable_less (is_of Neither Memory MultiplyOrControl ops) q in
      let memory = holds_of_less Memory Stores q in
      let others = holds_of_less MultiplyOrControl Control q in
      omega (arith, free, memory, others)

  pub mixed_less : (horizon : ℕ) → mixed_room ops horizon early' late' ≡ true → mixed_room ops horizon early late ≡ true
  mixed_less horizon h = by (are_countless ops) h
    where
      fit : mixes_fit ops horizon early' late' ≡ true → mixes_fit ops horizon early late ≡ true
      fit k = each_below (mixed_end_fits ops early late) horizon (λ high lt. each_below (mix_fits ops early late high) (high + 1)
          (λ low less. (
          let m = high + 1 - low in
          let fewer = crowd_less ops horizon early late early' late' later sooner Instructions low high in
          let lost = from_each (lost_at ops early late) (lost_at ops early' late') lost_more low m in
          let there = true_le (crowd Instructions ops early' late' low high + sum_from (lost_at ops early' late') low m)
          (places_of Instructions * m) (below_each (mix_fits ops early' late' high) (high + 1)
          (below_each (mixed_end_fits ops early' late') horizon k high lt) low less) in
          le_true (crowd Instructions ops early late low high + sum_from (lost_at ops early late) low m) (places_of Instructions * m)
          (within fewer lost there))))
        where
          within : {a b c d e : ℕ} → a ≤ b → c ≤ d → b + d ≤ e → a + c ≤ e
          within x y z = omega (arith, x, y, z)

      by : (b : Bool) → (b || mixes_fit ops horizon early' late') ≡ true → (b || mixes_fit ops horizon early late) ≡ true
      by true e = refl
      by false e = fit e

-- Cycles that keep all have room

-- each instruction takes a place of the packet
takes_place : (ops : List Task) (i : ℕ) → i < length ops → takes Instructions ops i ≡ true
takes_place [] i lt = absurd (omega (arith, lt))
takes_place (t ∷ ts) zero lt = refl
takes_place (t ∷ ts) (suc i) lt = takes_place ts i (omega (arith, lt))

-- an operation is of one sort at least
sorts_cover : (m s x c h : Bool) → as_number h ≤ as_number ((not m && not x) && h)
    + ((as_number ((m && not s) && h) + as_number ((m && s) && h)) + (as_number ((x && not c) && h) + as_number ((x && c) && h)))
sorts_cover false s false c h = omega arith
sorts_cover true true x c h = omega arith
sorts_cover true false x c h = omega arith
sorts_cover false s true true h = omega arith
sorts_cover false s true false h = omega arith

-- and of one of the first two sorts of a resource at most
sorts_apart : (r s h : Bool) → as_number ((r && not s) && h) + as_number ((r && s) && h) ≤ as_number (r && h)
sorts_apart false s h = omega arith
sorts_apart true true h = omega arith
sorts_apart true false h = omega arith

-- the operation at a place issues in cycle q
abbrev issues_at : List Task → List ℕ → ℕ → ℕ → Bool
issues_at ops x q i = nat_eq (at_place (cycle_of x) ops i) q

-- how many operations of a sort do
abbrev issued : List Task → List ℕ → (ℕ → Bool) → ℕ → ℕ
issued ops x sort q = count_below (λ i. sort i && issues_at ops x q i) (length ops)

module _ (ops : List Task) (horizon : ℕ) (x : List ℕ) (early late : ℕ → ℕ) (from : (i : ℕ) → early i ≤ at_place (cycle_of x) ops i)
    (to : (i : ℕ) → at_place (cycle_of x) ops i ≤ late i) (room : (r : Resource) (c : ℕ) → taken r ops x c ≤ places_of r) where
  issued_may : (sort : ℕ → Bool) (q : ℕ) → issued ops x sort q ≤ issuable sort ops early late q
  issued_may sort q = count_less (λ i. sort i && issues_at ops x q i) (λ i. sort i && may_issue early late q i) (length ops) (λ i lt e. (
      let two = firsts (sort i) (issues_at ops x q i) e in
      let at = two.1 in
      let is : at_place (cycle_of x) ops i ≡ q = grind (arith, nat_tests, at) in
      let first = from i in
      let last = to i in
      both (sort i) (may_issue early late q i) two.0 (both (nat_le (early i) q) (nat_le q (late i))
      (le_true (early i) q (omega (arith, is, first))) (le_true q (late i) (omega (arith, is, last))))))

  -- no more take some of a resource than a packet has
  issued_takes : (r : Resource) (q : ℕ) → issued ops x (takes r ops) q ≤ places_of r
  issued_takes r q =
      let each = sum_less (λ i. as_number (takes r ops i && issues_at ops x q i)) (at_place (taken_by r q x) ops) (length ops)
      (λ i lt. one i (takes r ops i && issues_at ops x q i) refl) in
      let all = sum_of_places (taken_by r q x) ops in
      let fits = room r q in
      omega (arith, each, all, fits)
    where
      one : (i : ℕ) (b : Bool) → (takes r ops i && issues_at ops x q i) ≡ b → as_number b ≤ at_place (taken_by r q x) ops i
      one i false e = omega arith
      one i true e =
          let two = firsts (takes r ops i) (issues_at ops x q i) e in
          let some_taken = two.0 in
          let at = two.1 in
          let some : 0 < at_place (λ t. share_of r t.needs) ops i = grind (arith, nat_tests, some_taken) in
          let is : at_place (cycle_of x) ops i ≡ q = grind (arith, nat_tests, at) in
          let own = own_share r x ops i in
          let same = ap (λ (m : ℕ). at_place (taken_by r m x) ops i) is in
          omega (arith, some, own, same)

  issued_holds : (r s : Resource) (q : ℕ) → issued ops x (is_of First r s ops) q + issued ops x (is_of Both r s ops) q
      ≤ holds_of r s ops early late q
  issued_holds r s q =
      let n = length ops in
      let alone = λ (i : ℕ). as_number (is_of First r s ops i && issues_at ops x q i) in
      let with_both = λ (i : ℕ). as_number (is_of Both r s ops i && issues_at ops x q i) in
      let plus = sum_plus alone with_both n in
      let either = sum_less (λ i. alone i + with_both i) (λ i. as_number (takes r ops i && issues_at ops x q i)) n
      (λ i lt. sorts_apart (takes r ops i) (takes s ops i) (issues_at ops x q i)) in
      let second = count_less (λ i. is_of Both r s ops i && issues_at ops x q i) (λ i. takes s ops i && issues_at ops x q i) n
      (λ i lt e. (
      let two = firsts (is_of Both r s ops i) (issues_at ops x q i) e in
      both (takes s ops i) (issues_at ops x q i) (firsts (takes r ops i) (takes s ops i) two.0).1 two.1)) in
      let all = issued_takes r q in
      let scarce = issued_takes s q in
      let may_first = issued_may (is_of First r s ops) q in
      let may_both = issued_may (is_of Both r s ops) q in
      omega (arith, plus, either, second, all, scarce, may_first, may_both)

  -- a cycle holds what issues in it
  cycle_holds : (q : ℕ) → count_below (issues_at ops x q) (length ops) ≤ holds_at ops early late q
  cycle_holds q =
      let n = length ops in
      let whole = count_less (issues_at ops x q) (λ i. takes Instructions ops i && issues_at ops x q i) n
      (λ i lt e. both (takes Instructions ops i) (issues_at ops x q i) (takes_place ops i lt) e) in
      let most = issued_takes Instructions q in
      let free = λ (i : ℕ). as_number (is_of Neither Memory MultiplyOrControl ops i && issues_at ops x q i) in
      let load = λ (i : ℕ). as_number (is_of First Memory Stores ops i && issues_at ops x q i) in
      let store = λ (i : ℕ). as_number (is_of Both Memory Stores ops i && issues_at ops x q i) in
      let product = λ (i : ℕ). as_number (is_of First MultiplyOrControl Control ops i && issues_at ops x q i) in
      let transfer = λ (i : ℕ). as_number (is_of Both MultiplyOrControl Control ops i && issues_at ops x q i) in
      let cover = sum_less (λ i. as_number (issues_at ops x q i)) (λ i. free i + ((load i + store i) + (product i + transfer i))) n
      (λ i lt. sorts_cover (takes Memory ops i) (takes Stores ops i) (takes MultiplyOrControl ops i) (takes Control ops i)
      (issues_at ops x q i)) in
      let outer = sum_plus free (λ i. (load i + store i) + (product i + transfer i)) n in
      let inner = sum_plus (λ i. load i + store i) (λ i. product i + transfer i) n in
      let memory_parts = sum_plus load store n in
      let other_parts = sum_plus product transfer n in
      let free_may = issued_may (is_of Neither Memory MultiplyOrControl ops) q in
      let memory = issued_holds Memory Stores q in
      let others = issued_holds MultiplyOrControl Control q in
      omega (arith, whole, most, cover, outer, inner, memory_parts, other_parts, free_may, memory, others)

  -- an operation that is counted issues in a cycle of the interval
  counted_here : (low high i : ℕ) → as_number (lies_in Instructions ops early late low high i)
      ≤ sum_below (λ k. as_number (issues_at ops x (low + k) i)) (high + 1 - low)
  counted_here low high i = by (lies_in Instructions ops early late low high i) refl
    where
      by : (b : Bool) → lies_in Instructions ops early late low high i ≡ b
          → as_number b ≤ sum_below (λ k. as_number (issues_at ops x (low + k) i)) (high + 1 - low)
      by false e = omega arith
      by true e =
          let two = firsts (takes Instructions ops i) (nat_le low (early i) && nat_le (late i) high) e in
          let bounds = firsts (nat_le low (early i)) (nat_le (late i) high) two.1 in
          let above = true_le low (early i) bounds.0 in
          let below = true_le (late i) high bounds.1 in
          let c = at_place (cycle_of x) ops i in
          let first = from i in
          let last = to i in
          let is : c ≡ low + (c - low) = omega (arith, above, first) in
          let at : nat_eq c (low + (c - low)) ≡ true = grind (arith, nat_tests, is) in
          let one = ap as_number at in
          let has = sum_has (λ k. as_number (issues_at ops x (low + k) i)) (high + 1 - low) (c - low)
          (omega (arith, above, first, last, below)) in
          omega (arith, one, has)

  mix_room : (low high : ℕ) → crowd Instructions ops early late low high + sum_from (lost_at ops early late) low (high + 1 - low)
      ≤ places_of Instructions * (high + 1 - low)
  mix_room low high =
      let n = length ops in
      let m = high + 1 - low in
      let each = sum_less (λ i. as_number (lies_in Instructions ops early late low high i))
      (λ i. sum_below (λ k. as_number (issues_at ops x (low + k) i)) m) n (λ i lt. counted_here low high i) in
      let swap = sum_swap (λ i k. as_number (issues_at ops x (low + k) i)) n m in
      let lost = from_places (lost_at ops early late) low m in
      let plus = sum_plus (λ k. count_below (issues_at ops x (low + k)) n) (λ k. lost_at ops early late (low + k)) m in
      let fits = sum_places Instructions (λ k. count_below (issues_at ops x (low + k)) n + lost_at ops early late (low + k)) m
      (λ k lt. (let holds = cycle_holds (low + k) in omega (arith, holds))) in
      omega (arith, each, swap, lost, plus, fits)

  pub keeps_mixed : mixed_room ops horizon early late ≡ true
  keeps_mixed = by (are_countless ops)
    where
      fit : mixes_fit ops horizon early late ≡ true
      fit = each_below (mixed_end_fits ops early late) horizon (λ high lt. each_below (mix_fits ops early late high) (high + 1)
          (λ low less. le_true (crowd Instructions ops early late low high + sum_from (lost_at ops early late) low (high + 1 - low))
          (places_of Instructions * (high + 1 - low)) (mix_room low high)))

      by : (b : Bool) → (b || mixes_fit ops horizon early late) ≡ true
      by true = refl
      by false = fit

-- Where none ends at a cycle it is so if it was before; and later cycles say no more

module _ (ops : List Task) (early late : ℕ → ℕ) (ordered : (i : ℕ) → i < length ops → early i ≤ late i) where
  pub quiet_mixed : (high : ℕ) → mixes_fit ops high early late ≡ true
      → ((i : ℕ) → i < length ops → ends_at Instructions ops late high i ≡ false) → mixed_end_fits ops early late high ≡ true
  quiet_mixed high before off = each_below (mix_fits ops early late high) (high + 1) (λ low lt. le_true
      (crowd Instructions ops early late low high + sum_from (lost_at ops early late) low (high + 1 - low))
      (places_of Instructions * (high + 1 - low)) (room low lt (cases_lt low high)))
    where
      room : (low : ℕ) → low < high + 1 → (low < high) ⊎ (high ≤ low)
          → crowd Instructions ops early late low high + sum_from (lost_at ops early late) low (high + 1 - low)
          ≤ places_of Instructions * (high + 1 - low)
      room low lt (inl less) = (
          let fewer = crowd_quiet Instructions ops early late ordered high off low less in
          let fit = true_le (crowd Instructions ops early late low (high - 1) + sum_from (lost_at ops early late) low (high - 1 + 1 - low))
          (places_of Instructions * (high - 1 + 1 - low)) (below_each (mix_fits ops early late (high - 1)) (high - 1 + 1)
          (below_each (mixed_end_fits ops early late) high before (high - 1) (omega (arith, less))) low (omega (arith, less))) in
          let last : high - 1 + 1 - low ≡ high - low = omega (arith, less) in
          let same = ap (λ (k : ℕ). places_of Instructions * k) last in
          let sums = ap (sum_from (lost_at ops early late) low) last in
          let m : high + 1 - low ≡ suc (high - low) = omega (arith, less) in
          let more = ap (λ (k : ℕ). places_of Instructions * k) m ∙ places_more Instructions (high - low) in
          let next = ap (sum_from (lost_at ops early late) low) m ∙ from_last (lost_at ops early late) low (high - low) in
          let most = lost_most ops early late (low + (high - low)) in
          omega (arith, fewer, fit, same, sums, more, next, most))
      room low lt (inr more) = (
          let none = crowd_lone Instructions ops early late ordered high off low more in
          let m : high + 1 - low ≡ suc zero = omega (arith, lt, more) in
          let all = ap (λ (k : ℕ). places_of Instructions * k) m ∙ places_more Instructions zero in
          let only = ap (sum_from (lost_at ops early late) low) m in
          let most = lost_most ops early late low in
          omega (arith, none, all, only, most))

  rest_mixed : (end horizon : ℕ) → ((i : ℕ) → i < length ops → late i < end) → mixes_fit ops end early late ≡ true → end ≤ horizon
      → mixes_fit ops horizon early late ≡ true
  rest_mixed end zero sooner fit le = (
      let is : end ≡ 0 = omega (arith, le) in subst (λ (k : ℕ). mixes_fit ops k early late ≡ true) is fit)
  rest_mixed end (suc h) sooner fit le = elim (cases_lt h end) [
    | inl less ↦ (
        let is : end ≡ suc h = omega (arith, le, less) in
        subst (λ (k : ℕ). mixes_fit ops k early late ≡ true) is fit)
    | inr more ↦ (
        let before = rest_mixed end h sooner fit more in
        both (mixes_fit ops h early late) (mixed_end_fits ops early late h) before (quiet_mixed h before (λ i lt. (
        let less = sooner i lt in
        let ne : nat_eq (late i) h ≡ false = grind (arith, nat_tests, less, more) in
        off (takes Instructions ops i) (nat_eq (late i) h) ne))))
  ]
    where
      off : (t g : Bool) → g ≡ false → (t && g) ≡ false
      off true g e = e
      off false g e = refl

  pub mixed_ended : (end horizon : ℕ) → ((i : ℕ) → i < length ops → late i < end) → end ≤ horizon
      → mixed_room ops end early late ≡ mixed_room ops horizon early late
  mixed_ended end horizon sooner le = ap (λ (b : Bool). are_countless ops || b) (same_test (mixes_fit ops end early late)
      (mixes_fit ops horizon early late) (λ fit. rest_mixed end horizon sooner fit le)
      (λ fit. each_below (mixed_end_fits ops early late) end
      (λ k lt. below_each (mixed_end_fits ops early late) horizon fit k (omega (arith, lt, le)))))

  -- What the code counts

  module _ (high : ℕ) (counts : List ℕ) (are : AreMixed ops early late (high + 1) counts) where
    sums : (low : ℕ) → low < high + 1 → sum_from (slice_index counts) low (high + 1 - low)
        ≡ crowd Instructions ops early late low high + sum_from (lost_at ops early late) low (high + 1 - low)
    sums low lt =
        let n : low + (high + 1 - low) ≡ high + 1 = omega (arith, lt) in
        from_same (slice_index counts)
        (λ k. count_below (starts Instructions ops early late (high + 1) k) (length ops) + lost_at ops early late k) low (high + 1 - low)
        (λ k less. are k ∙ ap (λ (b : Bool). count_below (starts Instructions ops early late (high + 1) k) (length ops)
        + (if b then lost_at ops early late k else 0))
        (let within : nat_lt k (high + 1) ≡ true = grind (arith, nat_tests, less, n) in within))
        ∙ (from_plus (λ k. count_below (starts Instructions ops early late (high + 1) k) (length ops)) (lost_at ops early late) low
        (high + 1 - low)
        ∙ ap (λ (m : ℕ). m + sum_from (lost_at ops early late) low (high + 1 - low))
        (crowd_sum Instructions ops early late ordered high (high + 1 - low) low n))

    pub whole_mixed : sum_from (slice_index counts) 0 (high + 1)
        ≤ count_below (ended Instructions ops late (high + 1)) (length ops) + sum_from (lost_at ops early late) 0 (high + 1)
    whole_mixed =
        let none : high + 1 - 0 ≡ high + 1 = omega arith in
        let same = ap (sum_from (slice_index counts) 0) none in
        let lost = ap (sum_from (lost_at ops early late) 0) none in
        let is = sums 0 (omega arith) in
        let le = crowd_ended Instructions ops early late ordered high in
        omega (arith, same, lost, is, le)

    pub fits_mixed : all_below (λ low. nat_le (sum_from (slice_index counts) low (high + 1 - low))
        (places_of Instructions * (high + 1 - low))) (high + 1) ≡ mixed_end_fits ops early late high
    fits_mixed = below_same
        (λ low. nat_le (sum_from (slice_index counts) low (high + 1 - low)) (places_of Instructions * (high + 1 - low)))
        (mix_fits ops early late high) (high + 1)
        (λ low lt. ap (λ (m : ℕ). nat_le m (places_of Instructions * (high + 1 - low))) (sums low lt))

-- one cycle more is counted, with what it loses
pub mixed_step : (ops : List Task) (early late : ℕ → ℕ) (high : ℕ) (old mid new : List ℕ) → AreMixed ops early late high old
    → ((c : ℕ) → slice_index mid c ≡ slice_index old c + count_below (adds Instructions ops early late high c) (length ops))
    → ((c : ℕ) → slice_index new c ≡ slice_index mid c + (if nat_eq high c then lost_at ops early late high else 0))
    → AreMixed ops early late (high + 1) new
mixed_step ops early late high old mid new are added lost c = (
    let before = are c in
    let more = starts_more Instructions ops early late high c in
    let here = added c in
    let gone = lost c in
    let one = by (cases_lt c high) in
    omega (arith, before, more, here, gone, one))
  where
    by : (c < high) ⊎ (high ≤ c) → (if nat_lt c (high + 1) then lost_at ops early late c else 0)
        ≡ (if nat_lt c high then lost_at ops early late c else 0) + (if nat_eq high c then lost_at ops early late high else 0)
    by (inl less) = (
        let a : nat_lt c (high + 1) ≡ true = grind (arith, nat_tests, less) in
        let b : nat_lt c high ≡ true = grind (arith, nat_tests, less) in
        let e : nat_eq high c ≡ false = grind (arith, nat_tests, less) in
        rw (a, b, e) (omega arith))
    by (inr more) = elim (cases_lt high c) [
      | inl above ↦ (
          let a : nat_lt c (high + 1) ≡ false = grind (arith, nat_tests, above) in
          let b : nat_lt c high ≡ false = grind (arith, nat_tests, above) in
          let e : nat_eq high c ≡ false = grind (arith, nat_tests, above) in
          rw (a, b, e) refl)
      | inr below ↦ (
          let is : c ≡ high = omega (arith, more, below) in
          let a : nat_lt c (high + 1) ≡ true = grind (arith, nat_tests, is) in
          let b : nat_lt c high ≡ false = grind (arith, nat_tests, is) in
          let e : nat_eq high c ≡ true = grind (arith, nat_tests, is) in
          let same = ap (lost_at ops early late) is in
          rw (a, b, e) (omega (arith, same)))
    ]

-- Room, with what cycles lose

pub fit_less : (ops : List Task) (horizon : ℕ) (early late early' late' : ℕ → ℕ) → ((i : ℕ) → i < length ops → early i ≤ early' i)
    → ((i : ℕ) → i < length ops → late' i ≤ late i) → fit_mixed ops horizon early' late' ≡ true → fit_mixed ops horizon early late ≡ true
fit_less ops horizon early late early' late' later sooner h =
    let two = firsts (have_room ops horizon early' late') (mixed_room ops horizon early' late') h in
    both (have_room ops horizon early late) (mixed_room ops horizon early late)
    (room_less ops horizon early late early' late' later sooner two.0) (mixed_less ops early late early' late' later sooner horizon two.1)

-- windows that are alike below the number of operations
pub fit_same : (ops : List Task) (horizon : ℕ) (early late early' late' : ℕ → ℕ) → ((i : ℕ) → i < length ops → early i ≡ early' i)
    → ((i : ℕ) → i < length ops → late i ≡ late' i) → fit_mixed ops horizon early late ≡ fit_mixed ops horizon early' late'
fit_same ops horizon early late early' late' e l = same_test (fit_mixed ops horizon early late) (fit_mixed ops horizon early' late')
    (fit_less ops horizon early' late' early late (λ i lt. (let same = e i lt in omega (arith, same)))
    (λ i lt. (let same = l i lt in omega (arith, same))))
    (fit_less ops horizon early late early' late' (λ i lt. (let same = e i lt in omega (arith, same)))
    (λ i lt. (let same = l i lt in omega (arith, same))))

-- cycles that keep all
pub keeps_fit : (ops : List Task) (horizon : ℕ) (x : List ℕ) (early late : ℕ → ℕ) → ((i : ℕ) → early i ≤ at_place (cycle_of x) ops i)
    → ((i : ℕ) → at_place (cycle_of x) ops i ≤ late i) → ((r : Resource) (c : ℕ) → taken r ops x c ≤ places_of r)
    → fit_mixed ops horizon early late ≡ true
keeps_fit ops horizon x early late from to room = both (have_room ops horizon early late) (mixed_room ops horizon early late)
    (keeps_room ops horizon x early late from to room) (keeps_mixed ops horizon x early late from to room)
