-- Cuts of bounds and bits, as filters of the set.
use Rattle.std.proofs.Common.{ℕ, zero, suc, ◌≡◌, ◌≢◌, ◌<◌, ◌≤◌, ◌+◌, ◌-◌, ◌*◌, Bool, true, false, not, List, [], ◌∷◌, length, filter}
use Rattle.std.proofs.Common.{nat_eq, nat_le, nat_lt, max, min, refl, sym, ◌∙◌, subst, arith, inl, inr}
use Rattle.std.specs.List.{range_with_len}
use Rattle.std.proofs.lemmas.Bool.{cases_lt}
use Rattle.std.proofs.lemmas.Bool.Decides.{nat_tests}
use Rattle.std.proofs.lemmas.List.Elements.{filter_agree}
use Rattle.un_domains.specs.Sets.{has, least, greatest}
use Rattle.un_domains.specs.SetLaws.{has-filter, least-le, has-fold_max, same_or_not}
use Rattle.un_domains.specs.OrderLaws.{le_least, fold_max-le, has_here, has_later, same_test, and_true}
use Rattle.un_domains.specs.Bits.{bit, inside, members, IsTight}
use Rattle.un_domains.specs.BitLaws.{Inside, inside_of, of_inside, members_filter}

-- Look-ups

has_range : (a n i : ℕ) → a ≤ i → i < a + n → has (range_with_len a n) i ≡ true
has_range a zero i low high = absurd (omega (arith, low, high))
has_range a (suc n) i low high = elim (same_or_not i a) [
  | inl e ↦ subst (λ (k : ℕ). has (k ∷ range_with_len (a + 1) n) i ≡ true) e (has_here i (range_with_len (a + 1) n))
  | inr ne ↦ has_later a i (range_with_len (a + 1) n) (has_range (a + 1) n i (omega (arith, low, ne)) (omega (arith, high)))
]

module _ (ws : List ℕ) (lo end : ℕ) (tight : IsTight ws lo end) where
  pub has_members : (i : ℕ) → Inside ws lo end i → has (members ws lo end) i ≡ true
  has_members i h =
      let there : has (range_with_len 0 (64 * length ws)) i ≡ true =
      has_range 0 (64 * length ws) i (omega arith) (let a = h.high in omega (arith, a, tight.within)) in
      has-filter (inside ws lo end) i (range_with_len 0 (64 * length ws)) ∙ rw (of_inside ws lo end i h.low h.high h.set_bit, there) refl

  pub members_has : (i : ℕ) → has (members ws lo end) i ≡ true → Inside ws lo end i
  members_has i h =
      inside_of ws lo end i
      (and_true (inside ws lo end i) (has (range_with_len 0 (64 * length ws)) i)
      (sym (has-filter (inside ws lo end) i (range_with_len 0 (64 * length ws))) ∙ h)).0

  pub has_is : (i : ℕ) → has (members ws lo end) i ≡ inside ws lo end i
  has_is i = same_test (has (members ws lo end) i) (inside ws lo end i)
      (λ h. let r = members_has i h in of_inside ws lo end i r.low r.high r.set_bit) (λ h. has_members i (inside_of ws lo end i h))

  first_inside : lo < end → Inside ws lo end lo
  first_inside lt = record { low = omega arith; high = lt; set_bit = tight.first lt }

  some_has : (xs : List ℕ) (i : ℕ) → has xs i ≡ true → 0 < length xs
  some_has [] i h = absurd (cc h)
  some_has (x ∷ xs) i h = omega arith

  pub some_members : lo < end → 0 < length (members ws lo end)
  some_members lt = some_has (members ws lo end) lo (has_members lo (first_inside lt))

  has_first : (xs : List ℕ) → 0 < length xs → (i : ℕ) × (has xs i ≡ true)
  has_first [] some = absurd (omega arith)
  has_first (x ∷ xs) some = (x, has_here x xs)

  pub members_some : 0 < length (members ws lo end) → lo < end
  members_some some = let h = has_first (members ws lo end) some in let r = members_has h.0 h.1 in let a = r.low in let b = r.high in
      omega (arith, a, b)

  pub empty_is : nat_eq lo end ≡ nat_eq (length (members ws lo end)) 0
  empty_is = same_test (nat_eq lo end) (nat_eq (length (members ws lo end)) 0)
      (λ h. by (nat_eq (length (members ws lo end)) 0) refl
      (let e : lo ≡ end = grind (arith, nat_tests, h) in λ some. (let lt = members_some some in omega (arith, lt, e))))
      (λ h. let none : length (members ws lo end) ≡ 0 = grind (arith, nat_tests, h) in let no : (lo < end → ⊥) =
      λ lt. (let some = some_members lt in omega (arith, some, none)) in let e : lo ≡ end = omega (arith, no, tight.order) in
      grind (arith, nat_tests, e))
    where
      by : (b : Bool) → nat_eq (length (members ws lo end)) 0 ≡ b → (0 < length (members ws lo end) → ⊥)
          → nat_eq (length (members ws lo end)) 0 ≡ true
      by true e none = e
      by false e none = absurd (none (let ne : length (members ws lo end) ≢ 0 = grind (arith, nat_tests) in omega (arith, ne)))

  pub least_is : lo < end → least (members ws lo end) ≡ lo
  least_is lt =
      let a = least-le (members ws lo end) lo (has_members lo (first_inside lt)) in
      let b = le_least lo (members ws lo end) (some_members lt) (λ i h. (members_has i h).low) in
      omega (arith, a, b)

  pub greatest_is : lo < end → greatest (members ws lo end) ≡ end - 1
  greatest_is lt =
      let a = has-fold_max 0 (members ws lo end) (end - 1)
      (has_members (end - 1) (record { low = omega (arith, lt); high = omega (arith, lt); set_bit = tight.last lt })) in
      let b = fold_max-le 0 (end - 1) (members ws lo end) (omega arith) (λ i h. let c = (members_has i h).high in omega (arith, c)) in
      omega (arith, a, b)

-- Cuts

wrong : (b : Bool) → b ≡ false → b ≡ true → ⊥
wrong true e h = cc e
wrong false e h = cc h

module _ (ws : List ℕ) (lo end k : ℕ) (tight : IsTight ws lo end) where
  pub before_all : end ≤ k → members ws lo end ≡ filter (λ i. nat_lt i k) (members ws lo end)
  before_all le =
      members_filter (λ i. nat_lt i k) ws ws lo end lo end refl (λ i h. (let a = h.high in grind (arith, nat_tests, a, le), h)) (λ i p h. h)

  pub before_some : (stop end' : ℕ) → k < end → stop ≡ max k lo → end' ≤ stop → ((i : ℕ) → end' ≤ i → i < stop → bit ws i ≡ false)
      → members ws lo end' ≡ filter (λ i. nat_lt i k) (members ws lo end)
  before_some stop end' lt is high passed = members_filter (λ i. nat_lt i k) ws ws lo end lo end' refl
      (λ i h. let a = h.low in let b = h.high in let under : i < k = omega (arith, a, b, is, high) in
      (grind (arith, nat_tests, under), record { low = a; high = omega (arith, under, lt); set_bit = h.set_bit }))
      (λ i p h. let under : i < k = grind (arith, nat_tests, p) in
      record {
        low = h.low;
        high =
            elim (cases_lt i end') [ inl b ↦ b | inr b ↦ absurd (wrong (bit ws i) (passed i b (omega (arith, under, is))) h.set_bit) ];
        set_bit = h.set_bit;
      })

  pub from_all : k ≤ lo → members ws lo end ≡ filter (λ i. nat_le k i) (members ws lo end)
  from_all le = members_filter (λ i. nat_le k i) ws ws lo end lo end refl (λ i h. (let a = h.low in grind (arith, nat_tests, a, le), h))
      (λ i p h. h)

  pub from_some : (start lo' : ℕ) → lo < k → start ≡ min k end → start ≤ lo' → lo' ≤ end
      → ((i : ℕ) → start ≤ i → i < lo' → bit ws i ≡ false) → members ws lo' end ≡ filter (λ i. nat_le k i) (members ws lo end)
  from_some start lo' lt is low le passed = members_filter (λ i. nat_le k i) ws ws lo end lo' end refl
      (λ i h. let a = h.low in let b = h.high in let over : k ≤ i = omega (arith, a, b, is, low) in
      (grind (arith, nat_tests, over), record { low = omega (arith, over, lt); high = b; set_bit = h.set_bit }))
      (λ i p h. let over : k ≤ i = grind (arith, nat_tests, p) in let b = h.high in
      record {
        low =
            elim (cases_lt i lo') [ inr a ↦ a | inl a ↦ absurd (wrong (bit ws i) (passed i (omega (arith, over, is)) a) h.set_bit) ];
        high =
            b;
        set_bit = h.set_bit;
      })

  pub one_some : inside ws lo end k ≡ true → members ws k (k + 1) ≡ filter (λ i. nat_eq i k) (members ws lo end)
  one_some there = members_filter (λ i. nat_eq i k) ws ws lo end k (k + 1) refl
      (λ i h. let a = h.low in let b = h.high in let e : i ≡ k = omega (arith, a, b) in
      (grind (arith, nat_tests, e), subst (Inside ws lo end) (sym e) (inside_of ws lo end k there)))
      (λ i p h. let e : i ≡ k = grind (arith, nat_tests, p) in
      record { low = omega (arith, e); high = omega (arith, e); set_bit = h.set_bit })

  pub one_none : inside ws lo end k ≡ false → members ws lo lo ≡ filter (λ i. nat_eq i k) (members ws lo end)
  one_none out = members_filter (λ i. nat_eq i k) ws ws lo end lo lo refl
      (λ i h. absurd (let a = h.low in let b = h.high in omega (arith, a, b)))
      (λ i p h. absurd
      (let e : i ≡ k = grind (arith, nat_tests, p) in
      wrong (inside ws lo end k) out (subst (λ (j : ℕ). inside ws lo end j ≡ true) e (of_inside ws lo end i h.low h.high h.set_bit))))

  not_same : (i : ℕ) → i ≢ k → not (nat_eq i k) ≡ true
  not_same i ne = let e : nat_eq i k ≡ false = grind (arith, nat_tests, ne) in rw e refl

  same_not : (i : ℕ) → not (nat_eq i k) ≡ true → i ≢ k
  same_not i h e = let t : nat_eq i k ≡ true = grind (arith, nat_tests, e) in let bad : not true ≡ true =
      subst (λ (b : Bool). not b ≡ true) t h in cc bad

  pub drop_none : inside ws lo end k ≡ false → members ws lo end ≡ filter (λ i. not (nat_eq i k)) (members ws lo end)
  drop_none out = members_filter (λ i. not (nat_eq i k)) ws ws lo end lo end refl
      (λ i h. (
        not_same i
            (λ e. wrong (inside ws lo end k) out
            (subst (λ (j : ℕ). inside ws lo end j ≡ true) e (of_inside ws lo end i h.low h.high h.set_bit))),
        h,
      ))
      (λ i p h. h)

  pub drop_inner : (ws' : List ℕ) → length ws' ≡ length ws → bit ws' k ≡ false → ((j : ℕ) → (j ≡ k → ⊥) → bit ws' j ≡ bit ws j)
      → members ws' lo end ≡ filter (λ i. not (nat_eq i k)) (members ws lo end)
  drop_inner ws' long gone others = members_filter (λ i. not (nat_eq i k)) ws ws' lo end lo end long
      (λ i h. let ne : i ≢ k = λ e. wrong (bit ws' k) gone (subst (λ (j : ℕ). bit ws' j ≡ true) e h.set_bit) in
      (not_same i ne, record { low = h.low; high = h.high; set_bit = sym (others i ne) ∙ h.set_bit }))
      (λ i p h. record { low = h.low; high = h.high; set_bit = others i (same_not i p) ∙ h.set_bit })

-- bounds may leave out what has no bit
pub tightened : (ws : List ℕ) (lo end lo' end' : ℕ) → lo ≤ lo' → end' ≤ end → ((i : ℕ) → lo ≤ i → i < lo' → bit ws i ≡ false)
    → ((i : ℕ) → end' ≤ i → i < end → bit ws i ≡ false) → members ws lo' end' ≡ members ws lo end
tightened ws lo end lo' end' le_lo le_end low high = filter_agree (inside ws lo' end') (inside ws lo end)
    (λ i. same_test (inside ws lo' end' i) (inside ws lo end i)
    (λ h. let r = inside_of ws lo' end' i h in let a = r.low in let b = r.high in
    of_inside ws lo end i (omega (arith, a, le_lo)) (omega (arith, b, le_end)) r.set_bit)
    (λ h. let r = inside_of ws lo end i h in let a = r.low in let b = r.high in of_inside ws lo' end' i
    (elim (cases_lt i lo') [ inr c ↦ c | inl c ↦ absurd (wrong (bit ws i) (low i a c) r.set_bit) ])
    (elim (cases_lt i end') [ inl c ↦ c | inr c ↦ absurd (wrong (bit ws i) (high i c b) r.set_bit) ]) r.set_bit))
    (range_with_len 0 (64 * length ws))
