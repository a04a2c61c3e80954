-- Laws of counts of crowds.
use Rattle.std.proofs.Common.{ℕ, zero, suc, ◌≡◌, ◌≢◌, ◌<◌, ◌≤◌, ◌+◌, ◌-◌, ◌*◌, ◌^◌, ◌⊎◌, ◌∙◌, Bool, true, false, ◌&&◌, ◌||◌}
use Rattle.std.proofs.Common.{if◌then◌else◌, List, [], ◌∷◌, length, get_or, take, sum_by, min, nat_eq, nat_le, nat_lt, refl, sym, ap}
use Rattle.std.proofs.Common.{slice_index, slice_set, set, arith, inl, inr}
use Rattle.std.specs.List.{list_any, AllByRecursion}
use Rattle.std.proofs.lemmas.Bool.{cases_lt}
use Rattle.std.proofs.lemmas.Bool.Decides.{nat_tests}
use Rattle.std.proofs.Math.Nat.{mul-suc, mul-le-mul_left}
use Rattle.std.proofs.lemmas.List.{get_or-set_same, get_or-set_other}
use Rattle.std.proofs.lemmas.List.Sums.{sum_by-cons}
use Rattle.un_domains.specs.Sets.{Sets, set_at, least, greatest, NoneEmpty}
use Rattle.un_domains.specs.SetLaws.{has-fold_max}
use Rattle.un_domains.specs.OrderLaws.{same_test}
use Rattle.un_prop.specs.ChainLaws.{least_in}
use Rattle.un_prop.specs.LookLaws.{both, firsts}
use Rattle.un_slots.specs.declared.item.Item.{Item}
use Rattle.un_isa.specs.declared.packet_counts.Resource.{Resource}
use Rattle.un_base.specs.declared.ids.VarId.{VarId}
use Rattle.un_prop.specs.Rounds.{HasVars}
use Rattle.un_prop.specs.AmongLaws.{has_among}
use Rattle.std.proofs.lemmas.List.Elements.{recursion_from_All}
use Rattle.un_slots.specs.Slots.{ItemVars, SlotVars}
use Rattle.un_isa.specs.PacketCounts.{places_of}
use Rattle.un_slots.specs.SlotLaws.{map_each, sum_alike}
use Rattle.un_slots.specs.LoadLaws.{sum_le}
use Rattle.un_slots.specs.Crowds.{surely_takes, lies_in, crowded, crowd, crowd_fits, all_below, counted}
use Rattle.un_slots.specs.Counts.{AreCounts, ends_at, ending, adds, ended, starts, sum_from, end_fits}
use Rattle.un_slots.specs.CrowdLaws.{below_each, each_below, le_true, true_le, sum_plus, sum_none, places_more, take_each}

-- Numbers

pub least_most : (xs : List ℕ) → 0 < length xs → least xs ≤ greatest xs
least_most xs some = has-fold_max 0 xs (least xs) (least_in xs some)

pub few_below : {A : Type 0} (f : A → ℕ) (xs : List A) (j : ℕ) → ((a : A) → f a ≤ 1) → sum_by f (take j xs) ≤ j
few_below f xs zero h = omega arith
few_below f [] (suc j) h = omega arith
few_below f (x ∷ xs) (suc j) h = (let a = sum_by-cons f x (take j xs) in let b = few_below f xs j h in let c = h x in
    omega (arith, a, b, c))

take_long : {A : Type 0} (xs : List A) (n : ℕ) → length xs ≤ n → take n xs ≡ xs
take_long [] zero le = refl
take_long [] (suc n) le = refl
take_long (x ∷ xs) zero le = absurd (omega (arith, le))
take_long (x ∷ xs) (suc n) le = ap (λ (ys : List _). x ∷ ys) (take_long xs n (omega (arith, le)))

pub take_min : {A : Type 0} (xs : List A) (n m : ℕ) → n ≡ min (length xs) m → take n xs ≡ take m xs
take_min xs n m e = elim (cases_lt (length xs) m) [
  | inl less ↦ take_long xs n (omega (arith, e, less)) ∙ sym (take_long xs m (omega (arith, less)))
  | inr more ↦ (let is : n ≡ m = omega (arith, e, more) in ap (λ (k : ℕ). take k xs) is)
]

-- the sum up to a place and what stands there
pub sum_below : (f : Item → ℕ) (xs : List Item) (j n : ℕ) (d : Item) → j < length xs → j < n
    → sum_by f (take j xs) + f (get_or xs j d) ≤ sum_by f (take n xs)
sum_below f [] j n d within lt = absurd (omega (arith, within))
sum_below f (x ∷ xs) j zero d within lt = absurd (omega (arith, lt))
sum_below f (x ∷ xs) zero (suc n) d within lt = (let a = sum_by-cons f x (take n xs) in omega (arith, a))
sum_below f (x ∷ xs) (suc j) (suc n) d within lt = (
    let a = sum_by-cons f x (take j xs) in
    let b = sum_by-cons f x (take n xs) in
    let rest = sum_below f xs j n d (omega (arith, within)) (omega (arith, lt)) in
    omega (arith, a, b, rest))

pub not_below : (p : ℕ → Bool) (n k : ℕ) → k < n → p k ≡ false → false ≡ all_below p n
not_below p n k lt off = by (all_below p n) refl
  where
    by : (b : Bool) → all_below p n ≡ b → false ≡ b
    by false e = refl
    by true e = absurd (let bad : true ≡ false = sym (below_each p n e k lt) ∙ off in cc bad)

pub below_same : (p q : ℕ → Bool) (n : ℕ) → ((k : ℕ) → k < n → p k ≡ q k) → all_below p n ≡ all_below q n
below_same p q n h = same_test (all_below p n) (all_below q n)
    (λ e. each_below q n (λ k lt. sym (h k lt) ∙ below_each p n e k lt)) (λ e. each_below p n (λ k lt. h k lt ∙ below_each q n e k lt))

pub more_false : (a b : ℕ) → b < a → nat_le a b ≡ false
more_false a b lt = grind (arith, nat_tests, lt)

-- One cycle more

pub down_step : (f : ℕ → ℕ) (high c : ℕ) → 0 < c → c ≤ high + 1
    → sum_from f (c - 1) (high + 1 - (c - 1)) ≡ f (c - 1) + sum_from f c (high + 1 - c)
down_step f high c some le =
    let n : high + 1 - (c - 1) ≡ suc (high + 1 - c) = omega (arith, some, le) in
    let next : suc (c - 1) ≡ c = omega (arith, some) in
    ap (sum_from f (c - 1)) n ∙ ap (λ (k : ℕ). f (c - 1) + sum_from f k (high + 1 - c)) next

pub room_step : (places high c : ℕ) → 0 < c → c ≤ high + 1 → places * (high + 1 - (c - 1)) ≡ places * (high + 1 - c) + places
room_step places high c some le =
    let n : high + 1 - (c - 1) ≡ suc (high + 1 - c) = omega (arith, some, le) in
    ap (λ (k : ℕ). places * k) n ∙ mul-suc places (high + 1 - c)

pub from_same : (f g : ℕ → ℕ) (low n : ℕ) → ((c : ℕ) → c < low + n → f c ≡ g c) → sum_from f low n ≡ sum_from g low n
from_same f g low zero h = refl
from_same f g low (suc n) h = (
    let a = h low (omega arith) in
    let b = from_same f g (suc low) n (λ c lt. h c (omega (arith, lt))) in
    omega (arith, a, b))

-- a part of an interval has no more than the whole
pub from_less : (f : ℕ → ℕ) (a k m : ℕ) → sum_from f (a + k) m ≤ sum_from f a (k + m)
from_less f a zero m = (let z : a + 0 ≡ a = omega arith in let y : 0 + m ≡ m = omega arith in
    let e = ap (λ (i : ℕ). sum_from f i m) z in let d = ap (sum_from f a) y in omega (arith, e, d))
from_less f a (suc k) m =
    let z : a + suc k ≡ suc a + k = omega arith in
    let y : suc k + m ≡ suc (k + m) = omega arith in
    let e = ap (λ (i : ℕ). sum_from f i m) z in
    let d = ap (sum_from f a) y in
    let rest = from_less f (suc a) k m in
    omega (arith, e, d, rest)

-- where the packets of an interval have room for all, those of each longer one have
pub room_for_all : (f : ℕ → ℕ) (places end low at total : ℕ) → sum_from f 0 end ≤ total → total ≤ places * (end - at) → low ≤ at → at ≤ end
    → sum_from f low (end - low) ≤ places * (end - low)
room_for_all f places end low at total whole room le within =
    let part = from_less f 0 low (end - low) in
    let z : 0 + low ≡ low = omega arith in
    let y : low + (end - low) ≡ end = omega (arith, le, within) in
    let e = ap (λ (i : ℕ). sum_from f i (end - low)) z in
    let d = ap (sum_from f 0) y in
    let more = mul-le-mul_left {m = end - at} {n = end - low} places (omega (arith, le)) in
    omega (arith, part, e, d, more, whole, room)

-- What is counted is the crowd

pick : (t g : Bool) (low m : ℕ) → (if t && (nat_le low m && g) then 1 else 0) ≡ (if t && (nat_eq m low && g) then 1 else 0)
    + (if t && (nat_le (suc low) m && g) then 1 else 0)
pick false g low m = refl
pick true g low m = elim (cases_lt m low) [
  | inl less ↦ (
      let a : nat_le low m ≡ false = grind (arith, nat_tests, less) in
      let b : nat_eq m low ≡ false = grind (arith, nat_tests, less) in
      let c : nat_le (suc low) m ≡ false = grind (arith, nat_tests, less) in
      all_of false false false g a b c (by_none g))
  | inr more ↦ elim (cases_lt low m) [
    | inl above ↦ (
        let a : nat_le low m ≡ true = grind (arith, nat_tests, above) in
        let b : nat_eq m low ≡ false = grind (arith, nat_tests, above) in
        let c : nat_le (suc low) m ≡ true = grind (arith, nat_tests, above) in
        all_of true false true g a b c (by_last g))
    | inr same ↦ (
        let is : m ≡ low = omega (arith, more, same) in
        let a : nat_le low m ≡ true = grind (arith, nat_tests, is) in
        let b : nat_eq m low ≡ true = grind (arith, nat_tests, is) in
        let c : nat_le (suc low) m ≡ false = grind (arith, nat_tests, is) in
        all_of true true false g a b c (by_first g))
  ]
]
  where
    all_of : (a b c g : Bool) → nat_le low m ≡ a → nat_eq m low ≡ b → nat_le (suc low) m ≡ c
        → (if a && g then 1 else 0) ≡ (if b && g then 1 else 0) + (if c && g then 1 else 0)
        → (if nat_le low m && g then 1 else 0) ≡ (if nat_eq m low && g then 1 else 0) + (if nat_le (suc low) m && g then 1 else 0)
    all_of a b c g e h k done = rw (e, h, k) done

    by_none : (g : Bool) → (if false && g then 1 else 0) ≡ (if false && g then 1 else 0) + (if false && g then 1 else 0)
    by_none g = refl

    by_last : (g : Bool) → (if true && g then 1 else 0) ≡ (if false && g then 1 else 0) + (if true && g then 1 else 0)
    by_last true = refl
    by_last false = refl

    by_first : (g : Bool) → (if true && g then 1 else 0) ≡ (if true && g then 1 else 0) + (if false && g then 1 else 0)
    by_first true = refl
    by_first false = refl

bound_more : (g h : ℕ) → (if nat_lt g (h + 1) then 1 else 0) ≡ (if nat_lt g h then 1 else 0) + (if nat_eq g h then 1 else 0)
bound_more g h = elim (cases_lt g h) [
  | inl less ↦ (
      let a : nat_lt g (h + 1) ≡ true = grind (arith, nat_tests, less) in
      let b : nat_lt g h ≡ true = grind (arith, nat_tests, less) in
      let c : nat_eq g h ≡ false = grind (arith, nat_tests, less) in
      rw (a, b, c) refl)
  | inr more ↦ elim (cases_lt h g) [
    | inl above ↦ (
        let a : nat_lt g (h + 1) ≡ false = grind (arith, nat_tests, above) in
        let b : nat_lt g h ≡ false = grind (arith, nat_tests, above) in
        let c : nat_eq g h ≡ false = grind (arith, nat_tests, above) in
        rw (a, b, c) refl)
    | inr same ↦ (
        let is : g ≡ h = omega (arith, more, same) in
        let a : nat_lt g (h + 1) ≡ true = grind (arith, nat_tests, is) in
        let b : nat_lt g h ≡ false = grind (arith, nat_tests, is) in
        let c : nat_eq g h ≡ true = grind (arith, nat_tests, is) in
        rw (a, b, c) refl)
  ]
]

of_taker : (t : Bool) (g h : ℕ)
    → (if t && nat_lt g (h + 1) then 1 else 0) ≡ (if t && nat_lt g h then 1 else 0) + (if t && nat_eq g h then 1 else 0)
of_taker false g h = refl
of_taker true g h = bound_more g h

of_both : (t q : Bool) (g h : ℕ) → (if t && (q && nat_lt g (h + 1)) then 1 else 0) ≡ (if t && (q && nat_lt g h) then 1 else 0)
    + (if t && (q && nat_eq g h) then 1 else 0)
of_both false q g h = refl
of_both true q g h = of_taker q g h

one_at_most : (b : Bool) → (if b then 1 else 0) ≤ 1
one_at_most true = omega arith
one_at_most false = omega arith

pub always_each : (P : Item → Type 0) → ((i : Item) → P i) → (xs : List Item) → AllByRecursion P xs
always_each P h [] = tt
always_each P h (x ∷ xs) = (h x, always_each P h xs)

module _ (r : Resource) (s : Sets) (xs : List Item) where
  pub crowd_step : (low high : ℕ) → crowd r xs low high s ≡ sum_by (starts r (high + 1) s low) xs + crowd r xs (suc low) high s
  crowd_step low high = sum_alike (crowded r low high s) (λ i. starts r (high + 1) s low i + crowded r (suc low) high s i) xs
      (always_each (λ i. crowded r low high s i ≡ starts r (high + 1) s low i + crowded r (suc low) high s i)
      (λ i. pick (surely_takes r s i) (nat_le (greatest (set_at s i.at.0)) high) low (least (set_at s i.at.0))
      ∙ ap (λ (b : Bool). (if surely_takes r s i && (nat_eq (least (set_at s i.at.0)) low && b) then 1 else 0)
      + crowded r (suc low) high s i) (same_bound (greatest (set_at s i.at.0)) high)) xs)
      ∙ sum_plus (starts r (high + 1) s low) (crowded r (suc low) high s) xs
    where
      same_bound : (g h : ℕ) → nat_le g h ≡ nat_lt g (h + 1)
      same_bound g h = same_test (nat_le g h) (nat_lt g (h + 1)) (λ e. grind (arith, nat_tests, e)) (λ e. grind (arith, nat_tests, e))

  pub ended_more : (high : ℕ) → sum_by (ended r (high + 1) s) xs ≡ sum_by (ended r high s) xs + sum_by (ending r s high) xs
  ended_more high = sum_alike (ended r (high + 1) s) (λ i. ended r high s i + ending r s high i) xs
      (always_each (λ i. ended r (high + 1) s i ≡ ended r high s i + ending r s high i)
      (λ i. of_taker (surely_takes r s i) (greatest (set_at s i.at.0)) high) xs) ∙ sum_plus (ended r high s) (ending r s high) xs

  pub starts_more : (high c : ℕ) → sum_by (starts r (high + 1) s c) xs ≡ sum_by (starts r high s c) xs + sum_by (adds r high s c) xs
  starts_more high c = sum_alike (starts r (high + 1) s c) (λ i. starts r high s c i + adds r high s c i) xs
      (always_each (λ i. starts r (high + 1) s c i ≡ starts r high s c i + adds r high s c i)
      (λ i. of_both (surely_takes r s i) (nat_eq (least (set_at s i.at.0)) c) (greatest (set_at s i.at.0)) high) xs)
      ∙ sum_plus (starts r high s c) (adds r high s c) xs

  -- no cycle is after the last
  module _ (ordered : AllByRecursion (λ (i : Item). least (set_at s i.at.0) ≤ greatest (set_at s i.at.0)) xs) where
    pub crowd_none : (low high : ℕ) → high < low → crowd r xs low high s ≡ 0
    crowd_none low high lt = sum_alike (crowded r low high s) (λ i. 0) xs (map_each (λ (i : Item). least (set_at s i.at.0) ≤ greatest
        (set_at s i.at.0))
        (λ i. crowded r low high s i ≡ 0) one xs ordered) ∙ sum_none xs
      where
        one : (i : Item) → least (set_at s i.at.0) ≤ greatest (set_at s i.at.0) → crowded r low high s i ≡ 0
        one i le = by (surely_takes r s i && lies_in low high s i) refl
          where
            by : (b : Bool) → (surely_takes r s i && lies_in low high s i) ≡ b → ◌≡◌ {A = ℕ} (if b then 1 else 0) 0
            by false e = refl
            by true e =
                let lies = firsts (nat_le low (least (set_at s i.at.0))) _ (firsts (surely_takes r s i) _ e).1 in
                let from = true_le low (least (set_at s i.at.0)) lies.0 in
                let to = true_le (greatest (set_at s i.at.0)) high lies.1 in
                absurd (omega (arith, from, to, le, lt))

    pub crowd_sum : (high n low : ℕ) → low + n ≡ high + 1 → sum_from (λ c. sum_by (starts r (high + 1) s c) xs) low n
        ≡ crowd r xs low high s
    crowd_sum high zero low e = sym (crowd_none low high (omega (arith, e)))
    crowd_sum high (suc n) low e = (
        let rest = crowd_sum high n (suc low) (omega (arith, e)) in
        let step = crowd_step low high in
        omega (arith, rest, step))

    -- Where no item ends at a cycle, the intervals that end there have room where those before have

    none_ends : (high : ℕ) (ys : List Item) → list_any (ends_at r s (suc high)) ys ≡ false → (low : ℕ)
        → sum_by (crowded r low (suc high) s) ys ≤ sum_by (crowded r low high s) ys
    none_ends high [] off low = omega arith
    none_ends high (y ∷ ys) off low = by (surely_takes r s y && nat_eq (greatest (set_at s y.at.0)) (suc high)) refl off
        (λ rest. none_ends high ys rest low)
      where
        one : (surely_takes r s y && nat_eq (greatest (set_at s y.at.0)) (suc high)) ≡ false
            → crowded r low (suc high) s y ≤ crowded r low high s y
        one no_end = here (surely_takes r s y && lies_in low (suc high) s y) refl
          where
            here : (b : Bool) → (surely_takes r s y && lies_in low (suc high) s y) ≡ b → (if b then 1 else 0) ≤ crowded r low high s y
            here false e = omega arith
            here true e =
                let two = firsts (surely_takes r s y) _ e in
                let lies = firsts (nat_le low (least (set_at s y.at.0))) _ two.1 in
                let to = true_le (greatest (set_at s y.at.0)) (suc high) lies.1 in
                let differs : nat_eq (greatest (set_at s y.at.0)) (suc high)
                ≡ false = sym (ap (λ (b : Bool). b && nat_eq (greatest (set_at s y.at.0)) (suc high)) two.0) ∙ no_end in
                let other : greatest (set_at s y.at.0) ≢ suc high = grind (arith, nat_tests, differs) in
                let less : greatest (set_at s y.at.0) ≤ high = omega (arith, to, other) in
                let now : (surely_takes r s y && lies_in low high s y) ≡ true = both (surely_takes r s y) _ two.0
                (both (nat_le low (least (set_at s y.at.0))) _ lies.0 (le_true (greatest (set_at s y.at.0)) high less)) in
                let is : crowded r low high s y ≡ 1 = ap (λ (b : Bool). if b then 1 else 0) now in
                omega (arith, is)

        by : (b : Bool) → (surely_takes r s y && nat_eq (greatest (set_at s y.at.0)) (suc high)) ≡ b
            → (b || list_any (ends_at r s (suc high)) ys) ≡ false
            → (list_any (ends_at r s (suc high)) ys ≡ false → sum_by (crowded r low (suc high) s) ys ≤ sum_by (crowded r low high s) ys)
            → sum_by (crowded r low (suc high) s) (y ∷ ys) ≤ sum_by (crowded r low high s) (y ∷ ys)
        by true e rest more = absurd (cc rest)
        by false e rest more = (
            let a = sum_by-cons (crowded r low (suc high) s) y ys in
            let b = sum_by-cons (crowded r low high s) y ys in
            let c = more rest in
            let d = one e in
            omega (arith, a, b, c, d))

    -- an item of cycle 0 alone ends there
    none_first : (ys : List Item) → list_any (ends_at r s 0) ys ≡ false → sum_by (crowded r 0 0 s) ys ≡ 0
    none_first [] off = refl
    none_first (y ∷ ys) off = by (surely_takes r s y && nat_eq (greatest (set_at s y.at.0)) 0) refl off (none_first ys)
      where
        one : (surely_takes r s y && nat_eq (greatest (set_at s y.at.0)) 0) ≡ false → crowded r 0 0 s y ≡ 0
        one no_end = here (surely_takes r s y && lies_in 0 0 s y) refl
          where
            here : (b : Bool) → (surely_takes r s y && lies_in 0 0 s y) ≡ b → ◌≡◌ {A = ℕ} (if b then 1 else 0) 0
            here false e = refl
            here true e =
                let two = firsts (surely_takes r s y) _ e in
                let lies = firsts (nat_le 0 (least (set_at s y.at.0))) _ two.1 in
                let to = true_le (greatest (set_at s y.at.0)) 0 lies.1 in
                let is : greatest (set_at s y.at.0) ≡ 0 = omega (arith, to) in
                let now : (surely_takes r s y && nat_eq (greatest (set_at s y.at.0)) 0)
                ≡ true = both (surely_takes r s y) _ two.0 (grind (arith, nat_tests, is)) in
                absurd (let bad : true ≡ false = sym now ∙ no_end in cc bad)

        by : (b : Bool) → (surely_takes r s y && nat_eq (greatest (set_at s y.at.0)) 0) ≡ b → (b || list_any (ends_at r s 0) ys) ≡ false
            → (list_any (ends_at r s 0) ys ≡ false → sum_by (crowded r 0 0 s) ys ≡ 0) → sum_by (crowded r 0 0 s) (y ∷ ys) ≡ 0
        by true e rest more = absurd (cc rest)
        by false e rest more = (let a = sum_by-cons (crowded r 0 0 s) y ys in let c = more rest in let d = one e in omega (arith, a, c, d))

    pub quiet_end : (high : ℕ) → all_below (end_fits r xs s) high ≡ true → list_any (ends_at r s high) xs ≡ false
        → end_fits r xs s high ≡ true
    quiet_end zero before off = each_below (crowd_fits r xs s 0) (0 + 1)
        (λ low lt. le_true (crowd r xs low 0 s) (places_of r * (0 + 1 - low))
        (let first : low ≡ 0 = omega (arith, lt) in
        let same = ap (λ (k : ℕ). crowd r xs k 0 s) first in
        let none = none_first xs off in
        omega (arith, same, none)))
    quiet_end (suc high) before off = each_below (crowd_fits r xs s (suc high)) (suc high + 1)
        (λ low lt. le_true (crowd r xs low (suc high) s) (places_of r * (suc high + 1 - low)) (room low lt (cases_lt low (high + 1))))
      where
        room : (low : ℕ) → low < suc high + 1 → (low < high + 1) ⊎ (high + 1 ≤ low)
            → crowd r xs low (suc high) s ≤ places_of r * (suc high + 1 - low)
        room low lt (inl less) = (
            let fewer = none_ends high xs off low in
            let fit = true_le (crowd r xs low high s) (places_of r * (high + 1 - low)) (below_each (crowd_fits r xs s high)
            (high + 1) (below_each (end_fits r xs s) (suc high) before high (omega arith)) low less) in
            let n : suc high + 1 - low ≡ suc (high + 1 - low) = omega (arith, less) in
            let more = ap (λ (k : ℕ). places_of r * k) n ∙ places_more r (high + 1 - low) in
            omega (arith, fewer, fit, more))
        room low lt (inr last) = (
            let fewer = none_ends high xs off low in
            let none = crowd_none low high (omega (arith, last)) in
            omega (arith, fewer, none))

    -- Where the items that end before a cycle are counted, and none of them or more than the packets have, the intervals are known

    crowd_ended : (low high : ℕ) → crowd r xs low high s ≤ sum_by (ended r (high + 1) s) xs
    crowd_ended low high = sum_le (crowded r low high s) (ended r (high + 1) s) xs
        (always_each (λ i. crowded r low high s i ≤ ended r (high + 1) s i) one xs)
      where
        one : (i : Item) → crowded r low high s i ≤ ended r (high + 1) s i
        one i = by (surely_takes r s i && lies_in low high s i) refl
          where
            by : (b : Bool) → (surely_takes r s i && lies_in low high s i) ≡ b → (if b then 1 else 0) ≤ ended r (high + 1) s i
            by false e = omega arith
            by true e =
                let two = firsts (surely_takes r s i) _ e in
                let to = true_le (greatest (set_at s i.at.0)) high (firsts (nat_le low (least (set_at s i.at.0))) _ two.1).1 in
                let less : nat_lt (greatest (set_at s i.at.0)) (high + 1) ≡ true = grind (arith, nat_tests, to) in
                let is : ended r (high + 1) s i ≡ 1 = ap (λ (b : Bool). if b then 1 else 0) (both (surely_takes r s i) _ two.0 less) in
                omega (arith, is)

    module _ (high : ℕ) (cycles : List ℕ) (counts : AreCounts r xs (high + 1) s cycles) where
      sums : (low : ℕ) → low < high + 1 → sum_from (slice_index cycles) low (high + 1 - low) ≡ crowd r xs low high s
      sums low lt =
          let n : low + (high + 1 - low) ≡ high + 1 = omega (arith, lt) in
          from_same (slice_index cycles) (λ k. sum_by (starts r (high + 1) s k) xs) low (high + 1 - low)
          (λ k less. counts k (omega (arith, less, n))) ∙ crowd_sum high (high + 1 - low) low n

      pub whole_counted : sum_from (slice_index cycles) 0 (high + 1) ≤ sum_by (ended r (high + 1) s) xs
      whole_counted =
          let none : high + 1 - 0 ≡ high + 1 = omega arith in
          let same = ap (sum_from (slice_index cycles) 0) none in
          let is = sums 0 (omega arith) in
          let le = crowd_ended 0 high in
          omega (arith, same, is, le)

      pub fits_counted : all_below (λ low. nat_le (sum_from (slice_index cycles) low (high + 1 - low)) (places_of r * (high + 1 - low)))
          (high + 1)
          ≡ end_fits r xs s high
      fits_counted = below_same (λ low. nat_le (sum_from (slice_index cycles) low (high + 1 - low)) (places_of r * (high + 1 - low)))
          (crowd_fits r xs s high) (high + 1) (λ low lt. ap (λ (m : ℕ). nat_le m (places_of r * (high + 1 - low))) (sums low lt))

    -- One cycle more

    adds_late : (high c : ℕ) → high < c → sum_by (adds r high s c) xs ≡ 0
    adds_late high c lt = sum_alike (adds r high s c) (λ i. 0) xs (map_each (λ (i : Item). least (set_at s i.at.0) ≤ greatest
        (set_at s i.at.0))
        (λ i. adds r high s c i ≡ 0) (λ i le. apart (surely_takes r s i) (least (set_at s i.at.0)) (greatest (set_at s i.at.0)) le) xs
        ordered) ∙ sum_none xs
      where
        apart : (t : Bool) (l g : ℕ) → l ≤ g → ◌≡◌ {A = ℕ} (if t && (nat_eq l c && nat_eq g high) then 1 else 0) 0
        apart false l g le = refl
        apart true l g le = by (nat_eq l c) (nat_eq g high) refl refl
          where
            by : (a b : Bool) → nat_eq l c ≡ a → nat_eq g high ≡ b → ◌≡◌ {A = ℕ} (if nat_eq l c && nat_eq g high then 1 else 0) 0
            by false b e h = ap (λ (q : Bool). if q && nat_eq g high then 1 else 0) e
            by true false e h = rw (e, h) refl
            by true true e h = absurd (
                let x : l ≡ c = grind (arith, nat_tests, e) in
                let y : g ≡ high = grind (arith, nat_tests, h) in
                omega (arith, x, y, le, lt))

    starts_none : (c : ℕ) → sum_by (starts r c s c) xs ≡ 0
    starts_none c = sum_alike (starts r c s c) (λ i. 0) xs (map_each (λ (i : Item). least (set_at s i.at.0) ≤ greatest (set_at s i.at.0))
        (λ i. starts r c s c i ≡ 0) (λ i le. apart (surely_takes r s i) (least (set_at s i.at.0)) (greatest (set_at s i.at.0)) le) xs
        ordered) ∙ sum_none xs
      where
        apart : (t : Bool) (l g : ℕ) → l ≤ g → ◌≡◌ {A = ℕ} (if t && (nat_eq l c && nat_lt g c) then 1 else 0) 0
        apart false l g le = refl
        apart true l g le = by (nat_eq l c) (nat_lt g c) refl refl
          where
            by : (a b : Bool) → nat_eq l c ≡ a → nat_lt g c ≡ b → ◌≡◌ {A = ℕ} (if nat_eq l c && nat_lt g c then 1 else 0) 0
            by false b e h = ap (λ (q : Bool). if q && nat_lt g c then 1 else 0) e
            by true false e h = rw (e, h) refl
            by true true e h = absurd (
                let x : l ≡ c = grind (arith, nat_tests, e) in
                let y : g < c = grind (arith, nat_tests, h) in
                omega (arith, x, y, le))

    module _ (high : ℕ) (cycles : List ℕ) (within : high < length cycles) (counts : AreCounts r xs high s cycles) where
      pub next_counts : (c : ℕ) → c ≤ high
          → slice_index (slice_set cycles high 0) c + sum_by (adds r high s c) xs ≡ sum_by (starts r (high + 1) s c) xs
      next_counts c le = elim (cases_lt c high) [
        | inl less ↦ (
            let other = get_or-set_other cycles high c 0 0 (λ is. omega (arith, less, is)) in
            let was = counts c less in
            let more = starts_more high c in
            omega (arith, other, was, more))
        | inr last ↦ (
            let is : c ≡ high = omega (arith, le, last) in
            let same = ap (λ (k : ℕ). get_or (set cycles high 0) k 0) is ∙ get_or-set_same cycles high 0 0 within in
            let none = ap (λ (k : ℕ). sum_by (starts r high s k) xs) is ∙ starts_none high in
            let more = starts_more high c in
            omega (arith, same, none, more))
      ]

      pub next_later : (c : ℕ) → high < c → slice_index (slice_set cycles high 0) c + sum_by (adds r high s c) xs ≡ slice_index cycles c
      next_later c lt = (
          let other = get_or-set_other cycles high c 0 0 (λ is. omega (arith, lt, is)) in
          let none = adds_late high c lt in
          omega (arith, other, none))

  -- What ends at a cycle

  -- no item ends where none is counted
  pub none_ending : (high : ℕ) → sum_by (ending r s high) xs ≡ 0 → list_any (ends_at r s high) xs ≡ false
  none_ending high = go xs
    where
      go : (ys : List Item) → sum_by (ending r s high) ys ≡ 0 → list_any (ends_at r s high) ys ≡ false
      go [] e = refl
      go (y ∷ ys) e = by (ends_at r s high y) refl (go ys)
        where
          by : (b : Bool) → ends_at r s high y ≡ b → (sum_by (ending r s high) ys ≡ 0 → list_any (ends_at r s high) ys ≡ false)
              → (b || list_any (ends_at r s high) ys) ≡ false
          by false is rest = rest (let a = sum_by-cons (ending r s high) y ys in omega (arith, a, e))
          by true is rest = absurd (
              let a = sum_by-cons (ending r s high) y ys in
              let one : ending r s high y ≡ 1 = ap (λ (b : Bool). if b then 1 else 0) is in
              omega (arith, a, e, one))

  -- before the first cycle nothing is counted
  pub none_ended : sum_by (ended r 0 s) xs ≡ 0
  none_ended = sum_alike (ended r 0 s) (λ i. 0) xs (always_each (λ i. ended r 0 s i ≡ 0)
      (λ i. never (surely_takes r s i) (greatest (set_at s i.at.0))) xs) ∙ sum_none xs
    where
      never : (t : Bool) (g : ℕ) → ◌≡◌ {A = ℕ} (if t && nat_lt g 0 then 1 else 0) 0
      never false g = refl
      never true g = (let no : nat_lt g 0 ≡ false = grind (arith, nat_tests) in ap (λ (b : Bool). if b then 1 else 0) no)

  -- where no item surely takes some, all intervals have room
  pub untaken : (high low : ℕ) → list_any (surely_takes r s) xs ≡ false → crowd r xs low high s ≡ 0
  untaken high low = go xs
    where
      go : (ys : List Item) → list_any (surely_takes r s) ys ≡ false → sum_by (crowded r low high s) ys ≡ 0
      go [] e = refl
      go (y ∷ ys) e = by (surely_takes r s y) refl e (go ys)
        where
          by : (b : Bool) → surely_takes r s y ≡ b → (b || list_any (surely_takes r s) ys) ≡ false
              → (list_any (surely_takes r s) ys ≡ false → sum_by (crowded r low high s) ys ≡ 0)
              → sum_by (crowded r low high s) (y ∷ ys) ≡ 0
          by true is h rest = absurd (cc h)
          by false is h rest = (
              let a = sum_by-cons (crowded r low high s) y ys in
              let none : crowded r low high s y ≡ 0 = ap (λ (b : Bool). if b && lies_in low high s y then 1 else 0) is in
              let more = rest h in
              omega (arith, a, none, more))

pub any_taken : (p : Item → Bool) (items : List Item) (n : ℕ) → list_any p items ≡ false → list_any p (take n items) ≡ false
any_taken p items zero e = refl
any_taken p [] (suc n) e = refl
any_taken p (i ∷ rest) (suc n) e = by (p i) (any_taken p rest n) e
  where
    by : (b : Bool) → (list_any p rest ≡ false → list_any p (take n rest) ≡ false) → (b || list_any p rest) ≡ false
        → (b || list_any p (take n rest)) ≡ false
    by true more h = absurd (cc h)
    by false more h = more h

-- no item's least cycle is after its greatest
pub ordered_counted : (vs : List VarId) (items : List Item) (s : Sets) → SlotVars vs items → HasVars vs s → NoneEmpty s
    → AllByRecursion (λ (i : Item). least (set_at s i.at.0) ≤ greatest (set_at s i.at.0)) (counted items)
ordered_counted vs items s among_all known full = map_each (ItemVars vs) (λ (i : Item). least (set_at s i.at.0) ≤ greatest
    (set_at s i.at.0))
    (λ i h. least_most (set_at s i.at.0) (full i.at.0 (has_among vs i.at s h.of_at known))) (counted items)
    (take_each (ItemVars vs) (2 ^ 32 - 1) items (recursion_from_All _ _ among_all))

-- One item that ends at a cycle

pub starts_one : (r : Resource) (end : ℕ) (s : Sets) (c : ℕ) (i : Item) → starts r end s c i ≤ 1
starts_one r end s c i = one_at_most (surely_takes r s i && (nat_eq (least (set_at s i.at.0)) c && nat_lt (greatest (set_at s i.at.0)) end))

pub ended_one : (r : Resource) (end : ℕ) (s : Sets) (i : Item) → ended r end s i ≤ 1
ended_one r end s i = one_at_most (surely_takes r s i && nat_lt (greatest (set_at s i.at.0)) end)

pub ending_one : (r : Resource) (s : Sets) (high : ℕ) (i : Item) → ending r s high i ≤ 1
ending_one r s high i = one_at_most (ends_at r s high i)

pub end_is : (r : Resource) (s : Sets) (high : ℕ) (i : Item) → ends_at r s high i ≡ true → greatest (set_at s i.at.0) ≡ high
end_is r s high i e = (let two = (firsts (surely_takes r s i) _ e).1 in grind (arith, nat_tests, two))

pub end_of : (r : Resource) (s : Sets) (high : ℕ) (i : Item) → surely_takes r s i ≡ true
    → ends_at r s high i ≡ nat_eq (greatest (set_at s i.at.0)) high
end_of r s high i e = ap (λ (b : Bool). b && nat_eq (greatest (set_at s i.at.0)) high) e

pub no_end : (r : Resource) (s : Sets) (high : ℕ) (i : Item) → surely_takes r s i ≡ false → ends_at r s high i ≡ false
no_end r s high i e = ap (λ (b : Bool). b && nat_eq (greatest (set_at s i.at.0)) high) e

pub not_ending : (r : Resource) (s : Sets) (high : ℕ) (i : Item) → ends_at r s high i ≡ false → ending r s high i ≡ 0
not_ending r s high i e = ap (λ (b : Bool). if b then 1 else 0) e

pub adds_one : (r : Resource) (s : Sets) (high : ℕ) (i : Item) → ends_at r s high i ≡ true
    → adds r high s (least (set_at s i.at.0)) i ≡ 1
adds_one r s high i e =
    let two = firsts (surely_takes r s i) (nat_eq (greatest (set_at s i.at.0)) high) e in
    let own : nat_eq (least (set_at s i.at.0)) (least (set_at s i.at.0)) ≡ true = grind (arith, nat_tests) in
    ap (λ (b : Bool). if b then 1 else 0) (both (surely_takes r s i) _ two.0 (both
    (nat_eq (least (set_at s i.at.0)) (least (set_at s i.at.0))) (nat_eq (greatest (set_at s i.at.0)) high) own two.1))

pub adds_none : (r : Resource) (s : Sets) (high c : ℕ) (i : Item) → ends_at r s high i ≡ false → adds r high s c i ≡ 0
adds_none r s high c i = by (surely_takes r s i) (nat_eq (least (set_at s i.at.0)) c) (nat_eq (greatest (set_at s i.at.0)) high)
  where
    by : (t q g : Bool) → (t && g) ≡ false → ◌≡◌ {A = ℕ} (if t && (q && g) then 1 else 0) 0
    by false q g e = refl
    by true false g e = refl
    by true true g e = ap (λ (b : Bool). if b then 1 else 0) e

pub right_of : (a b : Bool) → (a || b) ≡ false → b ≡ false
right_of true b e = absurd (cc e)
right_of false b e = e
