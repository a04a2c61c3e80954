-- Registers that rise, read one after another into a mask.
use Rattle.std.proofs.Common.{ℕ, ◌≡◌, ◌<◌, ◌≤◌, ◌+◌, ◌*◌, ◌%◌, ◌^◌, List, [], ◌∷◌, ◌++◌, map, length, take, get_or, true, bit_or}
use Rattle.std.proofs.Common.{refl, sym, ap, subst, ◌∙◌, arith, inl, inr, lit<, All, Contains, ◌↔◌}
use Rattle.std.specs.Prelude.{nat_eq, nat_lt, ◌||◌}
use Rattle.std.specs.List.Sorted.{IsStrictlyIncreasing}
use Rattle.std.proofs.lemmas.Bool.{or_cases, or_left, or_right, eqb-true, eq-eqb, ltb-true, agree_below_at}
use Rattle.std.proofs.lemmas.Bool.Decides.{nat_tests}
use Rattle.std.proofs.lemmas.Grind.{common_steps}
use Rattle.std.proofs.lemmas.List.{map-append, take-map, length-map, length-take, get_or-map, get_or-take, get_or_default}
use Rattle.std.proofs.lemmas.List.Elements.{All-nil, All-push, All-weaker, All-contains, All-get_or, Contains-push}
use Rattle.std.proofs.lemmas.List.Elements.{Contains-push_cases, Contains-append_left}
use Rattle.std.proofs.lemmas.List.Kept.{AllPairs-from_increasing}
use Rattle.std.proofs.lemmas.Nat.{or_lt}
use Rattle.un_isa.specs.declared.reg.TheConstants.{REGISTERS}
use Rattle.un_isa.specs.Fit.{may_be_saved}
use Rattle.un_isa.specs.Hexagon.{is_saved}
use Rattle.un_isa.specs.Tables.{in_mask}
use Rattle.un_isa.proofs.RegisterBits.{inserted}
use Rattle.serde_json.specs.Data.{unsigned, Data, number}
use Rattle.serde_json.specs.View.{view, items_of, items_view}
use Rattle.serde_json.specs.declared.value.Value.{Value}
use Rattle.un_target.specs.Latencies.{IsNumber}
use Rattle.un_target.specs.Saved.{numbers, AreSaved}

abbrev digits : ℕ → Data
digits n = number (unsigned n)

-- lists of numbers that are written alike are one
pub digits_once : (xs ys : List ℕ) → map digits xs ≡ map digits ys → xs ≡ ys
digits_once [] [] e = refl
digits_once [] (y ∷ ys) e = cc e
digits_once (x ∷ xs) [] e = cc e
digits_once (x ∷ xs) (y ∷ ys) e =
    let rest : map digits xs ≡ map digits ys = cc e in
    let more : xs ≡ ys = digits_once xs ys rest in
    let head : x ≡ y = cc e in
    cc (more, head)

pub items_once : (xs ys : List Data) → items_of xs ≡ items_of ys → xs ≡ ys
items_once [] [] e = refl
items_once [] (y ∷ ys) e = cc e
items_once (x ∷ xs) [] e = cc e
items_once (x ∷ xs) (y ∷ ys) e =
    let rest : items_of xs ≡ items_of ys = cc e in
    let more : xs ≡ ys = items_once xs ys rest in
    let head : x ≡ y = cc e in
    cc (more, head)

pub numbers_once : (xs ys : List ℕ) → numbers xs ≡ numbers ys → xs ≡ ys
numbers_once xs ys e = digits_once xs ys (items_once (map digits xs) (map digits ys) e)

-- a reading of the first items: registers that rise and may be saved, the least number that the next one may have, the mask
pub record IsReadSoFar (items : List Value) (mask least : ℕ) : Type 0 where
  pub registers : List ℕ
  pub listed : map view items ≡ map digits registers
  pub rising : IsStrictlyIncreasing registers
  pub allowed : All (λ r. may_be_saved r ≡ true) registers
  pub below : All (λ r. r < least) registers
  pub above : (r : ℕ) → may_be_saved r ≡ true → All (λ q. q < r) registers → least ≤ r
  pub bits : (r : ℕ) → (in_mask mask r ≡ true) ↔ Contains registers r
  pub small : mask < 2 ^ REGISTERS

none_in_zero : (r : ℕ) → in_mask 0 r ≡ true → ⊥
none_in_zero r h = grind (arith, nat_tests, h)

not_in_nothing : (r : ℕ) → Contains [] r → ⊥
not_in_nothing r h = absurd (omega (arith, h.1))

from_six : (r : ℕ) → may_be_saved r ≡ true → 6 ≤ r
from_six r h = grind (arith, nat_tests, h)

to_last : (r : ℕ) → may_be_saved r ≡ true → r ≤ 28
to_last r h = grind (arith, nat_tests, h)

may_be : (r : ℕ) → 6 ≤ r → r ≤ 28 → may_be_saved r ≡ true
may_be r l h = grind (arith, nat_tests)

pub read_none : IsReadSoFar [] 0 6
read_none = record {
  registers = [];
  listed = refl;
  rising = λ k h. absurd (omega (arith, h));
  allowed = All-nil (λ (r : ℕ). may_be_saved r ≡ true);
  below = All-nil (λ (r : ℕ). r < 6);
  above = λ r h a. from_six r h;
  bits = λ r. (λ h. absurd (none_in_zero r h), λ h. absurd (not_in_nothing r h));
  small = lit< tt;
}

rising_push : (xs : List ℕ) (r : ℕ) → IsStrictlyIncreasing xs → All (λ q. q < r) xs → IsStrictlyIncreasing (xs ++ r ∷ [])
rising_push xs r h a = λ k lt. grind (arith, common_steps, h k, a k 0)

-- the mask with one register more
with_one : (xs : List ℕ) (mask r : ℕ) → r < 64 → ((q : ℕ) → (in_mask mask q ≡ true) ↔ Contains xs q)
    → (q : ℕ) → (in_mask (bit_or mask (1 * 2 ^ r % 2 ^ 64)) q ≡ true) ↔ Contains (xs ++ r ∷ []) q
with_one xs mask r lt bits q = (there, back)
  where
    is : in_mask (bit_or mask (1 * 2 ^ r % 2 ^ 64)) q ≡ (in_mask mask q || nat_eq r q)
    is = inserted mask r q lt

    there : in_mask (bit_or mask (1 * 2 ^ r % 2 ^ 64)) q ≡ true → Contains (xs ++ r ∷ []) q
    there h = elim (or_cases (in_mask mask q) (nat_eq r q) (sym is ∙ h)) [
      | inl old ↦ Contains-append_left xs (r ∷ []) q ((bits q).0 old)
      | inr new ↦ subst (λ (n : ℕ). Contains (xs ++ r ∷ []) n) (eqb-true r q new) (Contains-push xs r)
    ]

    back : Contains (xs ++ r ∷ []) q → in_mask (bit_or mask (1 * 2 ^ r % 2 ^ 64)) q ≡ true
    back h = is ∙ elim (Contains-push_cases xs r q h) [
      | inl old ↦ or_left (in_mask mask q) (nat_eq r q) ((bits q).1 old)
      | inr e ↦ or_right (in_mask mask q) (nat_eq r q) (eq-eqb r q e)
    ]

one_bit : (r : ℕ) → r ≤ 28 → 1 * 2 ^ r % 2 ^ 64 < 2 ^ REGISTERS
one_bit r h = ltb-true (1 * 2 ^ r % 2 ^ 64) (2 ^ REGISTERS)
    (agree_below_at (λ n. nat_lt (1 * 2 ^ n % 2 ^ 64) (2 ^ REGISTERS)) (λ n. true) 29 r refl (omega (arith, h)))

-- one item more
pub read_one : (items : List Value) (v : Value) (mask least r : ℕ) → IsReadSoFar items mask least → IsNumber (view v) r → least ≤ r → r ≤ 28
    → 6 ≤ least → IsReadSoFar (items ++ v ∷ []) (bit_or mask (1 * 2 ^ r % 2 ^ 64)) (r + 1)
read_one items v mask least r h is low high six = record {
  registers = h.registers ++ r ∷ [];
  listed = map-append view items (v ∷ []) ∙ ap (λ (ds : List Data). ds ++ view v ∷ []) h.listed
      ∙ ap (λ (d : Data). map digits h.registers ++ d ∷ []) is ∙ sym (map-append digits h.registers (r ∷ []));
  rising = rising_push h.registers r h.rising (All-weaker (λ q. q < least) (λ q. q < r) (λ q lt. omega (arith, lt)) h.registers h.below);
  allowed = All-push (λ q. may_be_saved q ≡ true) h.registers r h.allowed (may_be r (omega arith) high);
  below = All-push (λ q. q < r + 1) h.registers r
      (All-weaker (λ q. q < least) (λ q. q < r + 1) (λ q lt. omega (arith, lt)) h.registers h.below) (omega arith);
  above = λ q may all.
      let lt : r < q = All-contains (λ p. p < q) (h.registers ++ r ∷ []) r all (Contains-push h.registers r) in
      omega (arith, lt);
  bits = with_one h.registers mask r (omega arith) h.bits;
  small = or_lt REGISTERS mask (1 * 2 ^ r % 2 ^ 64) h.small (one_bit r high);
}

-- all items read, and r16 to r27 among them
pub read_all : (items : List Value) (mask least : ℕ) → IsReadSoFar items mask least → ((r : ℕ) → is_saved r ≡ true → in_mask mask r ≡ true)
    → AreSaved (items_view items) mask
read_all items mask least h kept = record {
  registers = h.registers;
  listed = ap items_of h.listed;
  rising = h.rising;
  kept = λ r is. (h.bits r).0 (kept r is);
  allowed = h.allowed;
  masked = record { bits = λ r lt. h.bits r; small = h.small };
}

same_listed : (items : List Value) (xs : List ℕ) → items_view items ≡ numbers xs → map view items ≡ map digits xs
same_listed items xs e = items_once (map view items) (map digits xs) e

-- where not all of r16 to r27 are read, no mask is that of the items
pub not_kept : (items : List Value) (mask least other : ℕ) → IsReadSoFar items mask least → AreSaved (items_view items) other
    → (r : ℕ) → is_saved r ≡ true → in_mask mask r ≡ true
not_kept items mask least other h saved r is =
    let same : saved.registers ≡ h.registers = digits_once saved.registers h.registers
    (sym (same_listed items saved.registers saved.listed) ∙ h.listed) in
    (h.bits r).1 (subst (λ (xs : List ℕ). Contains xs r) same (saved.kept r is))

-- where the next item is no register that may come next, no mask is that of the items
pub not_next : (items : List Value) (i : ℕ) (v : Value) (mask least : ℕ) → i < length items → get_or items i v ≡ v
    → IsReadSoFar (take i items) mask least → ((n : ℕ) → least ≤ n → n ≤ 28 → IsNumber (view v) n → ⊥) → (other : ℕ)
    → AreSaved (items_view items) other → ⊥
not_next items i v mask least lt at h none other saved = none r low high is
  where
    rs : List ℕ
    rs = saved.registers

    r : ℕ
    r = get_or rs i 0

    listed : map view items ≡ map digits rs
    listed = same_listed items rs saved.listed

    long : length items ≡ length rs
    long = sym (length-map items view) ∙ ap length listed ∙ length-map rs digits

    front : take i rs ≡ h.registers
    front = digits_once (take i rs) h.registers (sym (take-map digits i rs) ∙ ap (take i) (sym listed) ∙ take-map view i items ∙ h.listed)

    is : IsNumber (view v) r
    is = sym (ap view at) ∙ sym (get_or-map view items i v (view v) lt) ∙ ap (λ (ds : List Data). get_or ds i (view v)) listed
        ∙ get_or-map digits rs i 0 (view v) (omega (arith, long))

    earlier : All (λ q. q < r) (take i rs)
    earlier = λ k d less.
        let before : k < i = omega (arith, length-take i rs, less) in
        let lower : get_or rs k d < get_or rs i d = AllPairs-from_increasing rs saved.rising k i d before (omega (arith, long, lt)) in
        subst (λ (q : ℕ). q < r) (sym (get_or-take i rs k d before))
        (subst (λ (q : ℕ). get_or rs k d < q) (get_or_default rs i d 0 (omega (arith, long, lt))) lower)

    may : may_be_saved r ≡ true
    may = All-get_or (λ q. may_be_saved q ≡ true) rs i 0 (omega (arith, long)) saved.allowed

    low : least ≤ r
    low = h.above r may (subst (λ (xs : List ℕ). All (λ q. q < r) xs) front earlier)

    high : r ≤ 28
    high = to_last r may
