-- The values of a domain, as a test.
use Rattle.std.proofs.Common.{ℕ, zero, suc, ◌≡◌, ◌↔◌, ◌+◌, ◌-◌, ◌<◌, ◌≤◌, Bool, true, false, List, [], ◌∷◌, map, inl, inr}
use Rattle.std.proofs.Common.{refl, sym, ap, ◌∙◌, arith}
use Rattle.std.specs.Prelude.{Some, None, ◌||◌, nat_eq, nat_le, slice_get, Contains}
use Rattle.std.specs.List.{list_any, range_with_len}
use Rattle.std.proofs.lemmas.Bool.Decides.{nat_tests}
use Rattle.un_domains.specs.declared.domain.Domain.{Domain}
use Rattle.un_domains.specs.declared.domain.Domain.TheVariants.{Range, Set}
use Rattle.un_domains.specs.Domains.{values_of}
use Rattle.un_domains.specs.Sets.{set_at, has}
use Rattle.un_model.specs.Solutions.{InDomain}
use Rattle.un_lists.proofs.Lists.{Member}
use Rattle.un_model.proofs.Operations.{contains_member}
use Rattle.un_symm.proofs.Tests.{any_at}

-- a run of numbers has what is between its ends
has_run : (a n r : ℕ) → ((a ≤ r) × (r < a + n)) ↔ (has (range_with_len a n) r ≡ true)
has_run a zero r = (λ h. let lo = h.0 in let hi = h.1 in absurd (omega arith), λ h. absurd (cc h))
has_run a (suc n) r = go (has_run (a + 1) n r) (nat_eq r a) refl
  where
    go : ((a + 1 ≤ r) × (r < a + 1 + n)) ↔ (has (range_with_len (a + 1) n) r ≡ true) → (b : Bool) → nat_eq r a ≡ b
        → ((a ≤ r) × (r < a + suc n)) ↔ ((b || has (range_with_len (a + 1) n) r) ≡ true)
    go rest true q = (λ h. refl, λ h. let s : r ≡ a = grind (arith, nat_tests, q) in (omega arith, omega arith))
    go rest false q = (
      λ h. let lo = h.0 in let hi = h.1 in let more : a + 1 ≤ r = grind (arith, nat_tests, q, lo) in rest.0 (more, omega arith),
      λ h. let k = rest.1 h in let lo = k.0 in let hi = k.1 in (omega arith, omega arith),
    )

equal_any : (v : ℕ) (xs : List ℕ) → Member v xs → list_any (nat_eq v) xs ≡ true
equal_any v xs m = any_at (nat_eq v) xs v m (let same : nat_eq v v ≡ true = grind (arith, nat_tests) in same)

any_first : (v y : ℕ) (ys : List ℕ) (b : Bool) → nat_eq v y ≡ b → (list_any (nat_eq v) ys ≡ true → Member v ys)
    → (b || list_any (nat_eq v) ys) ≡ true → Member v (y ∷ ys)
any_first v y ys true e rest t = inl (grind (arith, nat_tests, e))
any_first v y ys false e rest t = inr (rest t)

any_equal : (v : ℕ) (xs : List ℕ) → list_any (nat_eq v) xs ≡ true → Member v xs
any_equal v [] h = absurd (cc h)
any_equal v (y ∷ ys) h = any_first v y ys (nat_eq v y) refl (λ t. any_equal v ys t) h

member_contains : {X : Type 0} (xs : List X) (x : X) → Member x xs → Contains xs x
member_contains [] x m = elim m [ ]
member_contains (y ∷ ys) x (inl e) = (0, omega arith, e)
member_contains (y ∷ ys) x (inr m) = let r = member_contains ys x m in let lt = r.1 in (suc r.0, omega arith, r.2)

-- a value in a domain is one of its values
pub value_in : (d : Domain) (v : ℕ) → InDomain v d ↔ (has (values_of d) v ≡ true)
value_in (Range lo hi) v =
    let run = has_run lo (hi + 1 - lo) v in (
      λ h. let a = h.0 in let b = h.1 in run.0 (a, omega arith),
      λ h. let r = run.1 h in let a = r.0 in let b = r.1 in (a, omega arith),
    )
value_in (Set values) v = (λ h. equal_any v values (contains_member values v h), λ h. member_contains values v (any_equal v values h))

-- the test of the code
both_same : (b c : Bool) → (b ≡ true → c ≡ true) → (c ≡ true → b ≡ true) → b ≡ c
both_same true true f g = refl
both_same true false f g = sym (f refl)
both_same false true f g = g refl
both_same false false f g = refl

pub range_has : (lo hi x : ℕ) → lo ≤ x → nat_le x hi ≡ has (values_of (Range lo hi)) x
range_has lo hi x le =
    let run = value_in (Range lo hi) x in
    both_same (nat_le x hi) (has (values_of (Range lo hi)) x)
    (λ e. run.0 (le, grind (arith, nat_tests, e)))
    (λ e. let r = run.1 e in let b = r.1 in grind (arith, nat_tests, b))

pub range_lacks : (lo hi x : ℕ) → x < lo → nat_le lo x ≡ has (values_of (Range lo hi)) x
range_lacks lo hi x lt =
    let run = value_in (Range lo hi) x in
    let none : nat_le lo x ≡ false = grind (arith, nat_tests, lt) in
    none ∙ both_same false (has (values_of (Range lo hi)) x) (λ e. absurd (cc e))
    (λ e. let r = run.1 e in let a = r.0 in absurd (omega (arith, a, lt)))

-- the values of a variable are those of its domain
pub values_here : (ds : List Domain) (k : ℕ) (d : Domain) → slice_get ds k ≡ Some d → set_at (map values_of ds) k ≡ values_of d
values_here [] k d e = absurd (cc e)
values_here (c ∷ cs) zero d e = let same : c ≡ d = cc e in ap values_of same
values_here (c ∷ cs) (suc k) d e = values_here cs k d e

pub no_values : (ds : List Domain) (k : ℕ) → slice_get ds k ≡ None → set_at (map values_of ds) k ≡ []
no_values [] k e = refl
no_values (c ∷ cs) zero e = absurd (cc e)
no_values (c ∷ cs) (suc k) e = no_values cs k e
