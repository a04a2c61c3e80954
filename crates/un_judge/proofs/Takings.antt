-- What is left of a box from which values are taken one by one.
use Rattle.std.proofs.Common.{ℕ, zero, suc, ◌≡◌, ◌≢◌, ◌+◌, ◌<◌, ◌≤◌, Bool, true, false, ◌&&◌, not, List, [], ◌∷◌, length, filter, min}
use Rattle.std.proofs.Common.{nat_eq, nat_lt}
use Rattle.std.proofs.Common.{refl, sym, ap, ◌∙◌, arith, ◌⊎◌, inl, inr}
use Rattle.std.specs.Prelude.{nat_le, slice_index, slice_set}
use Rattle.std.proofs.lemmas.Bool.{cases_lt}
use Rattle.std.proofs.lemmas.List.{length-set}
use Rattle.std.proofs.lemmas.Bool.Decides.{nat_tests}
use Rattle.un_domains.specs.Sets.{Sets, set_at, has, kept, IsIn}
use Rattle.un_domains.specs.OrderLaws.{filter_agree_on, filter_all, filter-filter}
use Rattle.un_domains.specs.SetLaws.{same_or_not}
use Rattle.un_steps.specs.Allowed.{is_taken, after}
use Rattle.un_steps.specs.declared.step.Step.{Step}
use Rattle.un_judge.specs.Judged.{HasEmpty}

-- ---- sets of one variable

set_own : (s : Sets) (v : ℕ) → slice_set s v (set_at s v) ≡ s
set_own [] v = refl
set_own (x ∷ s) zero = refl
set_own (x ∷ s) (suc v) = ap (λ (t : Sets). x ∷ t) (set_own s v)

set_twice : (s : Sets) (v : ℕ) (a b : List ℕ) → slice_set (slice_set s v a) v b ≡ slice_set s v b
set_twice [] v a b = refl
set_twice (x ∷ s) zero a b = refl
set_twice (x ∷ s) (suc v) a b = ap (λ (t : Sets). x ∷ t) (set_twice s v a b)

set_there : (s : Sets) (v : ℕ) (a : List ℕ) → v < length s → set_at (slice_set s v a) v ≡ a
set_there [] v a lt = absurd (omega (arith, lt))
set_there (x ∷ s) zero a lt = refl
set_there (x ∷ s) (suc v) a lt = set_there s v a (omega (arith, lt))

kept_agree : (p q : ℕ → Bool) (s : Sets) (v : ℕ) → ((x : ℕ) → has (set_at s v) x ≡ true → p x ≡ q x) → kept p s v ≡ kept q s v
kept_agree p q s v h = ap (slice_set s v) (filter_agree_on p q (set_at s v) h)

kept_all : (p : ℕ → Bool) (s : Sets) (v : ℕ) → ((x : ℕ) → has (set_at s v) x ≡ true → p x ≡ true) → kept p s v ≡ s
kept_all p s v h = ap (slice_set s v) (filter_all (set_at s v) p h) ∙ set_own s v

kept_twice : (p q : ℕ → Bool) (s : Sets) (v : ℕ) → v < length s → kept p (kept q s v) v ≡ kept (λ (x : ℕ). p x && q x) s v
kept_twice p q s v lt =
    ap (λ (ys : List ℕ). slice_set (kept q s v) v (filter p ys)) (set_there s v (filter q (set_at s v)) lt)
    ∙ (set_twice s v (filter q (set_at s v)) (filter p (filter q (set_at s v))) ∙ ap (slice_set s v) (filter-filter p q (set_at s v)))

-- a value that is not there is not taken
pub not_there : (s : Sets) (v y : ℕ) → has (set_at s v) y ≡ false → s ≡ kept (λ (k : ℕ). not (nat_eq k y)) s v
not_there s v y none = sym (kept_all (λ (k : ℕ). not (nat_eq k y)) s v (λ k h. by k h (nat_eq k y) refl))
  where
    by : (k : ℕ) → has (set_at s v) k ≡ true → (b : Bool) → nat_eq k y ≡ b → not (nat_eq k y) ≡ true
    by k h true e =
        let same : k ≡ y = grind (arith, nat_tests, e) in
        absurd (cc (sym h ∙ (ap (has (set_at s v)) same ∙ none)))
    by k h false e = ap not e

-- ---- one by one

-- the values from the first one on, before y
abbrev pub is_passed : ℕ → ℕ → ℕ → Bool
is_passed first y k = nat_le first k && nat_lt k y

-- the box without them
abbrev pub taken_to : Sets → ℕ → ℕ → ℕ → Sets
taken_to s v first y = kept (λ (k : ℕ). not (is_passed first y k)) s v

pub taken_long : (s : Sets) (v first y : ℕ) → length (taken_to s v first y) ≡ length s
taken_long s v first y = length-set s v (filter (λ (k : ℕ). not (is_passed first y k)) (set_at s v))

pub still_there : (s t : Sets) (v first y : ℕ) → t ≡ taken_to s v first y → v < length s → v < length t
still_there s t v first y is lt = let l : length t ≡ length s = ap length is ∙ taken_long s v first y in omega (arith, l, lt)

pub taken_none : (s : Sets) (v first y : ℕ) → y ≤ first → s ≡ taken_to s v first y
taken_none s v first y few = sym (kept_all (λ (k : ℕ). not (is_passed first y k)) s v (λ k h. by k (cases_lt k first)))
  where
    by : (k : ℕ) → (k < first) ⊎ (first ≤ k) → not (is_passed first y k) ≡ true
    by k (inl lt) = let e : nat_le first k ≡ false = grind (arith, nat_tests, lt) in rw e refl
    by k (inr le) =
        let e : nat_le first k ≡ true = grind (arith, nat_tests, le) in
        let f : nat_lt k y ≡ false = grind (arith, nat_tests, le, few) in
        rw (e, f) refl

one_more : (first y k : ℕ) → first ≤ y → (not (nat_eq k y) && not (is_passed first y k)) ≡ not (is_passed first (y + 1) k)
one_more first y k le = by (cases_lt k y)
  where
    by : (k < y) ⊎ (y ≤ k) → (not (nat_eq k y) && not (is_passed first y k)) ≡ not (is_passed first (y + 1) k)
    by (inl lt) =
        let e : nat_eq k y ≡ false = grind (arith, nat_tests, lt) in
        let f : nat_lt k y ≡ true = grind (arith, nat_tests, lt) in
        let g : nat_lt k (y + 1) ≡ true = grind (arith, nat_tests, lt) in
        rw (e, f, g) refl
    by (inr ge) = at_or_past (same_or_not k y)
      where
        at_or_past : (k ≡ y) ⊎ (k ≢ y) → (not (nat_eq k y) && not (is_passed first y k)) ≡ not (is_passed first (y + 1) k)
        at_or_past (inl is) =
            let e : nat_eq k y ≡ true = grind (arith, nat_tests, is) in
            let f : nat_le first k ≡ true = grind (arith, nat_tests, is, le) in
            let g : nat_lt k (y + 1) ≡ true = grind (arith, nat_tests, is) in
            rw (e, f, g) refl
        at_or_past (inr isnt) =
            let e : nat_eq k y ≡ false = grind (arith, nat_tests, isnt) in
            let f : nat_lt k y ≡ false = grind (arith, nat_tests, ge) in
            let g : nat_lt k (y + 1) ≡ false = grind (arith, nat_tests, ge, isnt) in
            rw (e, f, g) refl

pub taken_more : (s old new : Sets) (v first y : ℕ) → v < length s → first ≤ y → old ≡ taken_to s v first y
    → new ≡ kept (λ (k : ℕ). not (nat_eq k y)) old v → new ≡ taken_to s v first (y + 1)
taken_more s old new v first y there le was is =
    is ∙ (ap (λ (t : Sets). kept (λ (k : ℕ). not (nat_eq k y)) t v) was
    ∙ (kept_twice (λ (k : ℕ). not (nat_eq k y)) (λ (k : ℕ). not (is_passed first y k)) s v there
    ∙ kept_agree (λ (k : ℕ). not (nat_eq k y) && not (is_passed first y k)) (λ (k : ℕ). not (is_passed first (y + 1) k)) s v
    (λ k h. one_more first y k le)))

pub taken_all : (s : Sets) (step : Step) (end last y : ℕ) → ((k : ℕ) → has (set_at s step.var.0) k ≡ true → k < end)
    → last ≡ min end (step.last + 1) → last ≤ y → (step.first < y → y ≤ last) → taken_to s step.var.0 step.first y ≡ after s step
taken_all s step end last y above least past far =
    kept_agree (λ (k : ℕ). not (is_passed step.first y k)) (λ (k : ℕ). not (is_taken step k)) s step.var.0
    (λ k h. by k (above k h) (cases_lt k step.first) (cases_lt k y))
  where
    by : (k : ℕ) → k < end → (k < step.first) ⊎ (step.first ≤ k) → (k < y) ⊎ (y ≤ k)
        → not (is_passed step.first y k) ≡ not (is_taken step k)
    by k lt (inl before) at = let e : nat_le step.first k ≡ false = grind (arith, nat_tests, before) in rw e refl
    by k lt (inr from) (inl within) =
        let few = far (omega (arith, from, within)) in
        let le : k ≤ step.last = omega (arith, few, within, least) in
        let e : nat_lt k y ≡ true = grind (arith, nat_tests, within) in
        let f : nat_le k step.last ≡ true = grind (arith, nat_tests, le) in
        rw (e, f) refl
    by k lt (inr from) (inr beyond) =
        let gt : step.last < k = omega (arith, lt, past, beyond, least) in
        let e : nat_lt k y ≡ false = grind (arith, nat_tests, beyond) in
        let f : nat_le k step.last ≡ false = grind (arith, nat_tests, gt) in
        rw (e, f) refl

-- ---- empty sets

nil : (xs : List ℕ) → length xs ≡ 0 → xs ≡ []
nil [] e = refl
nil (x ∷ xs) e = absurd (omega (arith, e))

pub empty_at : (s : Sets) (v : ℕ) → v < length s → length (set_at s v) ≡ 0 → HasEmpty s
empty_at s v there none = record { var = v; there = there; none = nil (set_at s v) none }

pub empty_none : (s : Sets) → ((v : ℕ) → v < length s → 0 < length (set_at s v)) → HasEmpty s → ⊥
empty_none s some e = let n : length (set_at s e.var) ≡ 0 = ap length e.none in let h = some e.var e.there in omega (arith, n, h)

-- no assignment lies in a box with an empty set
pub empty_in : (s : Sets) (x : List ℕ) → HasEmpty s → IsIn x s → ⊥
empty_in s x e inside = cc (sym (inside.each e.var e.there) ∙ ap (λ (xs : List ℕ). has xs (slice_index x e.var)) e.none)
