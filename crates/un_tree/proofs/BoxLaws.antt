-- Sides of boxes and numbers of assignments.
use Rattle.std.proofs.Common.{ℕ, zero, suc, ◌≡◌, ◌<◌, ◌≤◌, ◌+◌, ◌*◌, ◌⊎◌, Bool, true, false, ◌&&◌, nat_le, nat_lt, List, [], ◌∷◌, length}
use Rattle.std.proofs.Common.{set, filter, fold, min, max, refl, ap, ◌∙◌, inl, inr, arith}
use Rattle.std.proofs.lemmas.Bool.{cases_lt}
use Rattle.std.proofs.lemmas.Bool.Decides.{nat_tests}
use Rattle.un_base.specs.declared.ids.VarId.{VarId}
use Rattle.un_domains.specs.Sets.{Sets, set_at, has, least, greatest, NoneEmpty}
use Rattle.un_domains.specs.SetLaws.{has-filter}
use Rattle.un_domains.specs.CutLaws.{kept_full}
use Rattle.un_domains.specs.OrderLaws.{has_here, has_later}
use Rattle.un_domains.specs.declared.side.Side.{Side}
use Rattle.un_domains.specs.declared.side.Side.TheVariants.{AtMost, Above}
use Rattle.un_tree.specs.Boxes.{half, Splits, volume}

low_value : (a x : ℕ) (xs : List ℕ) → fold min a xs ≤ x → (a ≤ x) ⊎ ((y : ℕ) × (has xs y ≡ true) × (y ≤ x))
low_value a x [] h = inl h
low_value a x (z ∷ xs) h = elim (low_value (min a z) x xs h) [
  | inl le ↦ elim (cases_lt x a) [
    | inl lt ↦ inr (z, has_here z xs, omega (arith, le, lt))
    | inr ge ↦ inl ge
  ]
  | inr t ↦ inr (t.0, has_later z t.0 xs t.1, t.2)
]

high_value : (a x : ℕ) (xs : List ℕ) → x < fold max a xs → (x < a) ⊎ ((y : ℕ) × (has xs y ≡ true) × (x < y))
high_value a x [] h = inl h
high_value a x (z ∷ xs) h = elim (high_value (max a z) x xs h) [
  | inl lt ↦ elim (cases_lt x a) [
    | inl below ↦ inl below
    | inr ge ↦ inr (z, has_here z xs, omega (arith, lt, ge))
  ]
  | inr t ↦ inr (t.0, has_later z t.0 xs t.1, t.2)
]

-- a value at most x
pub left_value : (x : ℕ) (xs : List ℕ) → 0 < length xs → least xs ≤ x → (y : ℕ) × (has xs y ≡ true) × (y ≤ x)
left_value x [] some h = absurd (omega (arith, some))
left_value x (z ∷ xs) some h = elim (low_value z x xs h) [
  | inl le ↦ (z, has_here z xs, le)
  | inr t ↦ (t.0, has_later z t.0 xs t.1, t.2)
]

-- a value above x
pub right_value : (x : ℕ) (xs : List ℕ) → x < greatest xs → (y : ℕ) × (has xs y ≡ true) × (x < y)
right_value x xs h = elim (high_value 0 x xs h) [
  | inl lt ↦ absurd (omega (arith, lt))
  | inr t ↦ t
]

pub passes_some : (q : ℕ → Bool) (xs : List ℕ) (y : ℕ) → has xs y ≡ true → q y ≡ true → 0 < length (filter q xs)
passes_some q xs y h e = by (filter q xs) (has-filter q y xs ∙ (ap (λ (b : Bool). b && has xs y) e ∙ h))
  where
    by : (zs : List ℕ) → has zs y ≡ true → 0 < length zs
    by [] h = absurd (cc h)
    by (z ∷ zs) h = omega arith

-- a side of what is split has a value of each variable
pub half_full : (b : Sets) (v : VarId) (x : ℕ) (side : Side) → NoneEmpty b → Splits b v x → NoneEmpty (half b v x side)
half_full b v x AtMost full s =
    let y = left_value x (set_at b v.0) (full v.0 s.0) s.1 in
    kept_full (λ z. nat_le z x) b v.0 s.0 full (passes_some (λ z. nat_le z x) (set_at b v.0) y.0 y.1 (let h : y.0 ≤ x = y.2 in
    grind (arith, nat_tests)))
half_full b v x Above full s =
    let y = right_value x (set_at b v.0) s.2 in
    kept_full (λ z. nat_lt x z) b v.0 s.0 full (passes_some (λ z. nat_lt x z) (set_at b v.0) y.0 y.1 (let h : x < y.0 = y.2 in
    grind (arith, nat_tests)))

-- a value is on one side alone
filters_long : (x : ℕ) (xs : List ℕ) → length (filter (λ y. nat_le y x) xs) + length (filter (λ y. nat_lt x y) xs) ≡ length xs
filters_long x [] = refl
filters_long x (y ∷ ys) = elim (cases_lt x y) [
  | inl lt ↦ (let a : nat_le y x ≡ false = grind (arith, nat_tests) in let b : nat_lt x y ≡ true = grind (arith, nat_tests) in
      let h = filters_long x ys in rw (a, b) (omega (arith, h)))
  | inr ge ↦ (let a : nat_le y x ≡ true = grind (arith, nat_tests) in let b : nat_lt x y ≡ false = grind (arith, nat_tests) in
      let h = filters_long x ys in rw (a, b) (omega (arith, h)))
]

times_sum : (a b c d : ℕ) → a + b ≡ c → a * d + b * d ≡ c * d
times_sum a b c d e = omega (arith, ap (λ (n : ℕ). n * d) e)

times_each : (a b c n : ℕ) → a + b ≡ c → n * a + n * b ≡ n * c
times_each a b c n e = omega (arith, ap (λ (m : ℕ). n * m) e)

volume_sum : (b : Sets) (v : ℕ) (ps qs : List ℕ) → v < length b → length ps + length qs ≡ length (set_at b v)
    → volume (set b v ps) + volume (set b v qs) ≡ volume b
volume_sum [] v ps qs lt e = absurd (omega (arith, lt))
volume_sum (xs ∷ b) zero ps qs lt e = times_sum (length ps) (length qs) (length xs) (volume b) e
volume_sum (xs ∷ b) (suc v) ps qs lt e =
    times_each (volume (set b v ps)) (volume (set b v qs)) (volume b) (length xs) (volume_sum b v ps qs (omega (arith, lt)) e)

-- the sides share the assignments
pub volume_halves : (b : Sets) (v : VarId) (x : ℕ) → v.0 < length b → volume (half b v x AtMost) + volume (half b v x Above) ≡ volume b
volume_halves b v x lt = volume_sum b v.0 (filter (λ y. nat_le y x) (set_at b v.0)) (filter (λ y. nat_lt x y) (set_at b v.0)) lt
    (filters_long x (set_at b v.0))

some_times : (a b : ℕ) → 0 < a → 0 < b → 0 < a * b
some_times (suc a) b p q = omega (arith, q)
some_times zero b p q = absurd (omega (arith, p))

-- where no set is empty there is an assignment
pub volume_some : (b : Sets) → NoneEmpty b → 0 < volume b
volume_some [] full = omega arith
volume_some (xs ∷ b) full = some_times (length xs) (volume b) (full 0 (omega arith))
    (volume_some b (λ v lt. full (suc v) (omega (arith, lt))))
