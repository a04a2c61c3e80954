-- Laws of the order of stores.
use Rattle.std.proofs.Common.{ℕ, suc, ◌≡◌, ◌<◌, ◌≤◌, ◌+◌, Bool, true, false, ◌&&◌, cond, List, [], ◌∷◌, length, filter, fold, nat_eq, min}
use Rattle.std.proofs.Common.{max, refl, sym, ap, ◌∙◌, subst, arith, inl, inr}
use Rattle.std.proofs.lemmas.Bool.{cases_lt}
use Rattle.std.proofs.lemmas.Bool.Decides.{nat_tests}
use Rattle.std.proofs.lemmas.List.{ext_get_or}
use Rattle.std.proofs.lemmas.List.Sums.{sum_by-cons}
use Rattle.un_domains.specs.Sets.{Sets, set_at, has, total, least, greatest}
use Rattle.un_domains.specs.SetLaws.{has-cons, has-filter, least-le, has-fold_max}
use Rattle.un_domains.specs.CutLaws.{filter-le, filter_whole}
use Rattle.un_domains.specs.Order.{Below}

-- Tests

pub and_true : (b c : Bool) → (b && c) ≡ true → (b ≡ true) × (c ≡ true)
and_true true c h = (refl, h)
and_true false c h = absurd (cc h)

pub both_true : (b c : Bool) → b ≡ true → c ≡ true → (b && c) ≡ true
both_true true c h k = k
both_true false c h k = absurd (cc h)

-- tests that are true together are equal
pub same_test : (b c : Bool) → (b ≡ true → c ≡ true) → (c ≡ true → b ≡ true) → b ≡ c
same_test true true h k = refl
same_test false false h k = refl
same_test true false h k = absurd (cc (h refl))
same_test false true h k = absurd (cc (k refl))

-- Sets

cons_at : (b : Bool) (x : ℕ) (ys zs : List ℕ) → ys ≡ zs → cond b (x ∷ ys) ys ≡ cond b (x ∷ zs) zs
cons_at b x ys zs e = ap (λ (w : List ℕ). cond b (x ∷ w) w) e

pub has_here : (x : ℕ) (xs : List ℕ) → has (x ∷ xs) x ≡ true
has_here x xs = let e : nat_eq x x ≡ true = grind (arith, nat_tests) in rw e refl

pub has_later : (y x : ℕ) (xs : List ℕ) → has xs x ≡ true → has (y ∷ xs) x ≡ true
has_later y x xs h = by (nat_eq x y) refl
  where
    by : (b : Bool) → nat_eq x y ≡ b → has (y ∷ xs) x ≡ true
    by true e = rw e refl
    by false e = rw e h

-- tests that agree on the values keep the same
pub filter_agree_on : (p q : ℕ → Bool) (xs : List ℕ) → ((x : ℕ) → has xs x ≡ true → p x ≡ q x) → filter p xs ≡ filter q xs
filter_agree_on p q [] h = refl
filter_agree_on p q (x ∷ xs) h = ap (λ (b : Bool). cond b (x ∷ filter p xs) (filter p xs)) (h x (has_here x xs))
    ∙ cons_at (q x) x (filter p xs) (filter q xs) (filter_agree_on p q xs (λ y k. h y (has_later x y xs k)))

pub filter_all : (xs : List ℕ) (p : ℕ → Bool) → ((x : ℕ) → has xs x ≡ true → p x ≡ true) → filter p xs ≡ xs
filter_all [] p h = refl
filter_all (x ∷ xs) p h = rw (h x (has_here x xs)) (ap (λ (ys : List ℕ). x ∷ ys) (filter_all xs p (λ y k. h y (has_later x y xs k))))

filter_twice : (x : ℕ) (qs both : List ℕ) (p : ℕ → Bool) (b c : Bool) → p x ≡ c → filter p qs ≡ both
    → filter p (cond b (x ∷ qs) qs) ≡ cond (c && b) (x ∷ both) both
filter_twice x qs both p true true e h = rw e (ap (λ (ys : List ℕ). x ∷ ys) h)
filter_twice x qs both p true false e h = rw e h
filter_twice x qs both p false true e h = h
filter_twice x qs both p false false e h = h

pub filter-filter : (p q : ℕ → Bool) (xs : List ℕ) → filter p (filter q xs) ≡ filter (λ x. p x && q x) xs
filter-filter p q [] = refl
filter-filter p q (x ∷ xs) = filter_twice x (filter q xs) (filter (λ y. p y && q y) xs) p (q x) (p x) refl (filter-filter p q xs)

has_passes : (p : ℕ → Bool) (xs : List ℕ) (x : ℕ) → has (filter p xs) x ≡ true → (p x ≡ true) × (has xs x ≡ true)
has_passes p xs x h = and_true (p x) (has xs x) (sym (has-filter p x xs) ∙ h)

-- what a filter leaves is what it has of the whole
pub filter_own : (p : ℕ → Bool) (xs : List ℕ) → filter p xs ≡ filter (has (filter p xs)) xs
filter_own p xs =
    filter_agree_on p (has (filter p xs)) xs (λ x h. sym (has-filter p x xs ∙ (ap (λ (b : Bool). p x && b) h ∙ and_one (p x))))
  where
    and_one : (b : Bool) → (b && true) ≡ b
    and_one true = refl
    and_one false = refl

-- a smaller set by a stricter test
pub filter_below : (p q : ℕ → Bool) (ys xs : List ℕ) → ys ≡ filter (has ys) xs → ((x : ℕ) → has ys x ≡ true → p x ≡ true → q x ≡ true)
    → filter p ys ≡ filter (has (filter p ys)) (filter q xs)
filter_below p q ys xs e h =
    let left : filter p ys ≡ filter (λ x. p x && has ys x) xs = ap (filter p) e ∙ filter-filter p (has ys) xs in
    let right : filter (has (filter p ys)) (filter q xs) ≡ filter (λ x. has (filter p ys) x && q x) xs =
    filter-filter (has (filter p ys)) q xs in
    left ∙ (filter_agree_on (λ x. p x && has ys x) (λ x. has (filter p ys) x && q x) xs
    (λ x k. same_test (p x && has ys x) (has (filter p ys) x && q x) (to x) (from x)) ∙ sym right)
  where
    to : (x : ℕ) → (p x && has ys x) ≡ true → (has (filter p ys) x && q x) ≡ true
    to x k = let two = and_true (p x) (has ys x) k in both_true (has (filter p ys) x) (q x) (has-filter p x ys ∙ k) (h x two.1 two.0)

    from : (x : ℕ) → (has (filter p ys) x && q x) ≡ true → (p x && has ys x) ≡ true
    from x k = sym (has-filter p x ys) ∙ (and_true (has (filter p ys) x) (q x) k).0

-- Stores

pub has_below : (t s : Sets) (v x : ℕ) → Below t s → has (set_at t v) x ≡ true → has (set_at s v) x ≡ true
has_below t s v x b h = (has_passes (has (set_at t v)) (set_at s v) x (subst (λ (ys : List ℕ). has ys x ≡ true) (b.each v) h)).1

pub Below-refl : (s : Sets) → Below s s
Below-refl s = record { long = refl; each = λ v. sym (filter_all (set_at s v) (has (set_at s v)) (λ x h. h)) }

-- a filter of a filter
own_trans : (zs ys xs : List ℕ) → zs ≡ filter (has zs) ys → ys ≡ filter (has ys) xs → zs ≡ filter (has zs) xs
own_trans zs ys xs p q =
    p ∙ (ap (filter (has zs)) q
    ∙ (filter-filter (has zs) (has ys) xs
    ∙ filter_agree_on (λ x. has zs x && has ys x) (has zs) xs
    (λ x h. same_test (has zs x && has ys x) (has zs x) (λ k. (and_true (has zs x) (has ys x) k).0)
    (λ k. both_true (has zs x) (has ys x) k (has_passes (has zs) ys x (subst (λ (ws : List ℕ). has ws x ≡ true) p k)).1))))

pub Below-trans : (a b c : Sets) → Below a b → Below b c → Below a c
Below-trans a b c p q =
    record { long = p.long ∙ q.long; each = λ v. own_trans (set_at a v) (set_at b v) (set_at c v) (p.each v) (q.each v) }

pub Below-same : (a b : Sets) → Below a b → Below b a → a ≡ b
Below-same a b p q = ext_get_or [] a b p.long (λ v lt. p.each v ∙ filter_all (set_at b v) (has (set_at a v)) (λ x h. has_below b a v x q h))

pub shorter : (t s : Sets) (v : ℕ) → Below t s → length (set_at t v) ≤ length (set_at s v)
shorter t s v b = subst (λ (n : ℕ). n ≤ length (set_at s v)) (sym (ap length (b.each v))) (filter-le (has (set_at t v)) (set_at s v))

-- as many values are the same values
pub set_same : (t s : Sets) (v : ℕ) → Below t s → length (set_at t v) ≡ length (set_at s v) → set_at t v ≡ set_at s v
set_same t s v b e = b.each v ∙ filter_whole (has (set_at t v)) (set_at s v) (sym (ap length (b.each v)) ∙ e)

tail_below : (ys xs : List ℕ) (t s : Sets) → Below (ys ∷ t) (xs ∷ s) → Below t s
tail_below ys xs t s b = record { long = omega (arith, b.long); each = λ v. b.each (suc v) }

total-cons : (ys : List ℕ) (t : Sets) → total (ys ∷ t) ≡ length ys + total t
total-cons ys t = sum_by-cons length ys t

pub total_below : (t s : Sets) → Below t s → total t ≤ total s
total_below [] [] b = omega arith
total_below [] (xs ∷ s) b = absurd (omega (arith, b.long))
total_below (ys ∷ t) [] b = absurd (omega (arith, b.long))
total_below (ys ∷ t) (xs ∷ s) b =
    let first : length ys ≤ length xs = shorter (ys ∷ t) (xs ∷ s) 0 b in
    omega (arith, first, total_below t s (tail_below ys xs t s b), total-cons ys t, total-cons xs s)

pub total_same : (t s : Sets) → Below t s → total t ≡ total s → t ≡ s
total_same [] [] b e = refl
total_same [] (xs ∷ s) b e = absurd (omega (arith, b.long))
total_same (ys ∷ t) [] b e = absurd (omega (arith, b.long))
total_same (ys ∷ t) (xs ∷ s) b e =
    let tail = tail_below ys xs t s b in
    let first : length ys ≤ length xs = shorter (ys ∷ t) (xs ∷ s) 0 b in
    let rest = total_below t s tail in
    let as_long : length ys ≡ length xs = omega (arith, e, first, rest, total-cons ys t, total-cons xs s) in
    let same : ys ≡ xs = set_same (ys ∷ t) (xs ∷ s) 0 b as_long in
    ap (λ (zs : List ℕ). zs ∷ t) same
    ∙ ap (λ (u : Sets). xs ∷ u) (total_same t s tail (omega (arith, e, first, rest, total-cons ys t, total-cons xs s)))

-- What tests read

fold_min-ge : (a n : ℕ) (xs : List ℕ) → n ≤ a → ((x : ℕ) → has xs x ≡ true → n ≤ x) → n ≤ fold min a xs
fold_min-ge a n [] le all = le
fold_min-ge a n (x ∷ xs) le all =
    fold_min-ge (min a x) n xs (let here = all x (has_here x xs) in omega (arith, le, here)) (λ y h. all y (has_later x y xs h))

pub fold_max-le : (a n : ℕ) (xs : List ℕ) → a ≤ n → ((x : ℕ) → has xs x ≡ true → x ≤ n) → fold max a xs ≤ n
fold_max-le a n [] le all = le
fold_max-le a n (x ∷ xs) le all =
    fold_max-le (max a x) n xs (let here = all x (has_here x xs) in omega (arith, le, here)) (λ y h. all y (has_later x y xs h))

pub le_least : (n : ℕ) (xs : List ℕ) → 0 < length xs → ((x : ℕ) → has xs x ≡ true → n ≤ x) → n ≤ least xs
le_least n [] some all = absurd (omega arith)
le_least n (x ∷ xs) some all = fold_min-ge x n xs (all x (has_here x xs)) (λ y h. all y (has_later x y xs h))

pub least_below : (t s : Sets) (v : ℕ) → Below t s → 0 < length (set_at t v) → least (set_at s v) ≤ least (set_at t v)
least_below t s v b some = le_least (least (set_at s v)) (set_at t v) some (λ x h. least-le (set_at s v) x (has_below t s v x b h))

pub greatest_below : (t s : Sets) (v : ℕ) → Below t s → greatest (set_at t v) ≤ greatest (set_at s v)
greatest_below t s v b =
    fold_max-le 0 (greatest (set_at s v)) (set_at t v) (omega arith) (λ x h. has-fold_max 0 (set_at s v) x (has_below t s v x b h))

-- what has one value and keeps one keeps it
pub single_below : (t s : Sets) (v : ℕ) → Below t s → 0 < length (set_at t v) → length (set_at s v) ≡ 1 → set_at t v ≡ set_at s v
single_below t s v b some one = set_same t s v b (let le = shorter t s v b in omega (arith, le, some, one))

-- the least and the greatest value are values

fold_min-in : (a : ℕ) (xs : List ℕ) → has (a ∷ xs) (fold min a xs) ≡ true
fold_min-in a [] = has_here a []
fold_min-in a (y ∷ ys) = let r = fold min (min a y) ys in elim (has-cons (min a y) r ys (fold_min-in (min a y) ys)) [
  | inl e ↦ elim (cases_lt a y) [
    | inl lt ↦ (let is : r ≡ a = omega (arith, e, lt) in subst (λ (k : ℕ). has (a ∷ y ∷ ys) k ≡ true) (sym is) (has_here a (y ∷ ys)))
    | inr le ↦ (let is : r ≡ y = omega (arith, e, le) in
        subst (λ (k : ℕ). has (a ∷ y ∷ ys) k ≡ true) (sym is) (has_later a y (y ∷ ys) (has_here y ys)))
  ]
  | inr t ↦ has_later a r (y ∷ ys) (has_later y r ys t)
]

fold_max-in : (a : ℕ) (xs : List ℕ) → has (a ∷ xs) (fold max a xs) ≡ true
fold_max-in a [] = has_here a []
fold_max-in a (y ∷ ys) = let r = fold max (max a y) ys in elim (has-cons (max a y) r ys (fold_max-in (max a y) ys)) [
  | inl e ↦ elim (cases_lt a y) [
    | inl lt ↦ (let is : r ≡ y = omega (arith, e, lt) in
        subst (λ (k : ℕ). has (a ∷ y ∷ ys) k ≡ true) (sym is) (has_later a y (y ∷ ys) (has_here y ys)))
    | inr le ↦ (let is : r ≡ a = omega (arith, e, le) in subst (λ (k : ℕ). has (a ∷ y ∷ ys) k ≡ true) (sym is) (has_here a (y ∷ ys)))
  ]
  | inr t ↦ has_later a r (y ∷ ys) (has_later y r ys t)
]

pub has_least : (xs : List ℕ) → 0 < length xs → has xs (least xs) ≡ true
has_least [] some = absurd (omega arith)
has_least (x ∷ xs) some = fold_min-in x xs

pub has_greatest : (xs : List ℕ) → 0 < length xs → has xs (greatest xs) ≡ true
has_greatest [] some = absurd (omega arith)
has_greatest (x ∷ xs) some = let r = fold max (max 0 x) xs in elim (has-cons (max 0 x) r xs (fold_max-in (max 0 x) xs)) [
  | inl e ↦ (let is : r ≡ x = omega (arith, e) in subst (λ (k : ℕ). has (x ∷ xs) k ≡ true) (sym is) (has_here x xs))
  | inr t ↦ has_later x r xs t
]
