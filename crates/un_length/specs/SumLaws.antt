-- Laws of sums over the numbers below n.
use Rattle.std.proofs.Common.{ℕ, zero, suc, ◌≡◌, ◌<◌, ◌≤◌, ◌+◌, ◌*◌, Bool, true, false, List, [], ◌∷◌, length}
use Rattle.std.proofs.Common.{sum_by, refl, sym, ap, arith, inl, inr}
use Rattle.std.proofs.lemmas.Bool.{cases_lt}
use Rattle.std.proofs.lemmas.List.Sums.{sum_by-cons}
use Rattle.un_isa.specs.declared.packet_counts.Resource.{Resource}
use Rattle.un_isa.specs.PacketCounts.{places_of}
use Rattle.un_slots.specs.CrowdLaws.{places_more}
use Rattle.un_length.specs.declared.block.Task.{Task}
use Rattle.un_length.specs.Places.{at_place}
use Rattle.un_length.specs.Sums.{sum_below, as_number, count_below}

pub sum_same : (f g : ℕ → ℕ) (n : ℕ) → ((i : ℕ) → i < n → f i ≡ g i) → sum_below f n ≡ sum_below g n
sum_same f g zero h = refl
sum_same f g (suc n) h = (
    let rest = sum_same f g n (λ i lt. h i (omega (arith, lt))) in
    let here = h n (omega arith) in
    omega (arith, rest, here))

pub sum_less : (f g : ℕ → ℕ) (n : ℕ) → ((i : ℕ) → i < n → f i ≤ g i) → sum_below f n ≤ sum_below g n
sum_less f g zero h = omega arith
sum_less f g (suc n) h = (
    let rest = sum_less f g n (λ i lt. h i (omega (arith, lt))) in
    let here = h n (omega arith) in
    omega (arith, rest, here))

pub sum_zero : (f : ℕ → ℕ) (n : ℕ) → ((i : ℕ) → i < n → f i ≡ 0) → sum_below f n ≡ 0
sum_zero f zero h = refl
sum_zero f (suc n) h = (
    let rest = sum_zero f n (λ i lt. h i (omega (arith, lt))) in
    let here = h n (omega arith) in
    omega (arith, rest, here))

pub sum_plus : (f g : ℕ → ℕ) (n : ℕ) → sum_below (λ i. f i + g i) n ≡ sum_below f n + sum_below g n
sum_plus f g zero = refl
sum_plus f g (suc n) = (let rest = sum_plus f g n in omega (arith, rest))

-- one of what is summed
pub sum_has : (f : ℕ → ℕ) (n i : ℕ) → i < n → f i ≤ sum_below f n
sum_has f zero i lt = absurd (omega (arith, lt))
sum_has f (suc n) i lt = elim (cases_lt i n) [
  | inl less ↦ (let rest = sum_has f n i less in omega (arith, rest))
  | inr more ↦ (let is : i ≡ n = omega (arith, lt, more) in let same = ap f is in omega (arith, same))
]

-- the sum so far and the next number
pub sum_part : (f : ℕ → ℕ) (n i : ℕ) → i < n → sum_below f i + f i ≤ sum_below f n
sum_part f zero i lt = absurd (omega (arith, lt))
sum_part f (suc n) i lt = elim (cases_lt i n) [
  | inl less ↦ (let rest = sum_part f n i less in omega (arith, rest))
  | inr more ↦ (let is : i ≡ n = omega (arith, lt, more) in let same = ap f is in let all = ap (sum_below f) is in omega (arith, same, all))
]

-- a sum of sums in the other order
pub sum_swap : (g : ℕ → ℕ → ℕ) (n m : ℕ) → sum_below (λ i. sum_below (g i) m) n ≡ sum_below (λ k. sum_below (λ i. g i k) n) m
sum_swap g zero m = sym (sum_zero (λ k. 0) m (λ k lt. refl))
sum_swap g (suc n) m = (
    let rest = sum_swap g n m in
    let plus = sum_plus (λ k. sum_below (λ i. g i k) n) (g n) m in
    omega (arith, rest, plus))

-- so many numbers, none above what a packet has
pub sum_places : (r : Resource) (f : ℕ → ℕ) (m : ℕ) → ((k : ℕ) → k < m → f k ≤ places_of r) → sum_below f m ≤ places_of r * m
sum_places r f zero h = omega arith
sum_places r f (suc m) h = (
    let rest = sum_places r f m (λ k lt. h k (omega (arith, lt))) in
    let here = h m (omega arith) in
    let more = places_more r m in
    omega (arith, rest, here, more))

pub sum_head : (g : ℕ → ℕ) (n : ℕ) → sum_below g (suc n) ≡ g 0 + sum_below (λ i. g (suc i)) n
sum_head g zero = omega arith
sum_head g (suc n) = (let rest = sum_head g n in omega (arith, rest))

-- the sum over a list by its places
pub sum_of_places : (f : Task → ℕ) (ops : List Task) → sum_by f ops ≡ sum_below (at_place f ops) (length ops)
sum_of_places f [] = refl
sum_of_places f (t ∷ ts) = (
    let head = sum_head (at_place f (t ∷ ts)) (length ts) in
    let cons = sum_by-cons f t ts in
    let rest = sum_of_places f ts in
    omega (arith, head, cons, rest))

-- Counts

pub one_at_most : (b : Bool) → as_number b ≤ 1
one_at_most true = omega arith
one_at_most false = omega arith

more_if : (b c : Bool) → (b ≡ true → c ≡ true) → as_number b ≤ as_number c
more_if false c h = omega arith
more_if true c h = (let is = ap as_number (h refl) in omega (arith, is))

pub count_same : (p q : ℕ → Bool) (n : ℕ) → ((i : ℕ) → i < n → p i ≡ q i) → count_below p n ≡ count_below q n
count_same p q n h = sum_same (λ i. as_number (p i)) (λ i. as_number (q i)) n
    (λ i lt. ap as_number (h i lt))

pub count_less : (p q : ℕ → Bool) (n : ℕ) → ((i : ℕ) → i < n → p i ≡ true → q i ≡ true) → count_below p n ≤ count_below q n
count_less p q n h = sum_less (λ i. as_number (p i)) (λ i. as_number (q i)) n (λ i lt. more_if (p i) (q i) (h i lt))

pub count_few : (p : ℕ → Bool) (n : ℕ) → count_below p n ≤ n
count_few p zero = omega arith
count_few p (suc n) = (let rest = count_few p n in let one = one_at_most (p n) in omega (arith, rest, one))

pub count_none : (p : ℕ → Bool) (n : ℕ) → ((i : ℕ) → i < n → p i ≡ false) → count_below p n ≡ 0
count_none p n h = sum_zero (λ i. as_number (p i)) n (λ i lt. ap as_number (h i lt))

-- where none is counted, none passes
pub none_counted : (p : ℕ → Bool) (n : ℕ) → count_below p n ≡ 0 → (i : ℕ) → i < n → p i ≡ false
none_counted p n e i lt = by (p i) refl
  where
    by : (b : Bool) → p i ≡ b → p i ≡ false
    by false is = is
    by true is = absurd (
        let has = sum_has (λ i. as_number (p i)) n i lt in
        let one = ap as_number is in
        omega (arith, has, one, e))
