-- Open leaves and their number.
use Rattle.std.proofs.Common.{ℕ, zero, suc, ◌≡◌, ◌≢◌, ◌<◌, ◌↔◌, Bool, true, IsTrue, not, nat_eq, List, [], ◌∷◌, length, get_or, All, Contains, refl, sym, subst, ◌∙◌, arith}
use Rattle.std.proofs.lemmas.Bool.Decides.{nat_tests}
use Rattle.std.specs.List.{AllByRecursion}
use Rattle.std.proofs.lemmas.List.Elements.{All-from_recursion, All-contains}
use Rattle.un_tree.specs.Waits.{IsOdd, open_count}
use Rattle.un_tree.specs.declared.node.Node.{Node}
use Rattle.un_tree.specs.declared.node.Node.TheVariants.{Branch, Closed, Open, Split, Part}

none_by : (t : List Node) → open_count t ≡ 0 → AllByRecursion (λ (n : Node). n ≡ Open → ⊥) t
none_by [] e = tt
none_by (Branch v x ∷ ns) e = (λ h. cc h, none_by ns e)
none_by (Closed ∷ ns) e = (λ h. cc h, none_by ns e)
none_by (Open ∷ ns) e = absurd (omega (arith, e))
none_by (Split ∷ ns) e = (λ h. cc h, none_by ns e)
none_by (Part number ∷ ns) e = (λ h. cc h, none_by ns e)

-- no node is open where their number is 0
pub none_open : (t : List Node) → open_count t ≡ 0 → All (λ (n : Node). n ≢ Open) t
none_open t e = All-from_recursion (λ (n : Node). n ≡ Open → ⊥) t (none_by t e)

open_at : (t : List Node) (i : ℕ) → i < length t → get_or t i Open ≡ Open → 0 < open_count t
open_at [] i lt e = absurd (omega (arith, lt))
open_at (Branch v x ∷ ns) zero lt e = absurd (cc e)
open_at (Branch v x ∷ ns) (suc i) lt e = open_at ns i (omega (arith, lt)) e
open_at (Closed ∷ ns) zero lt e = absurd (cc e)
open_at (Closed ∷ ns) (suc i) lt e = open_at ns i (omega (arith, lt)) e
open_at (Open ∷ ns) i lt e = omega arith
open_at (Split ∷ ns) zero lt e = absurd (cc e)
open_at (Split ∷ ns) (suc i) lt e = open_at ns i (omega (arith, lt)) e
open_at (Part number ∷ ns) zero lt e = absurd (cc e)
open_at (Part number ∷ ns) (suc i) lt e = open_at ns i (omega (arith, lt)) e

pub open_some : (t : List Node) → Contains t Open → 0 < open_count t
open_some t h = open_at t h.0 h.1 h.2

-- and one is where it is not
pub some_open : (t : List Node) → 0 < open_count t → Contains t Open
some_open [] lt = absurd (omega (arith, lt))
some_open (Branch v x ∷ ns) lt = let h = some_open ns lt in (suc h.0, (let below = h.1 in omega (arith, below)), h.2)
some_open (Closed ∷ ns) lt = let h = some_open ns lt in (suc h.0, (let below = h.1 in omega (arith, below)), h.2)
some_open (Open ∷ ns) lt = (0, omega arith, refl)
some_open (Split ∷ ns) lt = let h = some_open ns lt in (suc h.0, (let below = h.1 in omega (arith, below)), h.2)
some_open (Part number ∷ ns) lt = let h = some_open ns lt in (suc h.0, (let below = h.1 in omega (arith, below)), h.2)

pub closed_none : (t : List Node) → All (λ (n : Node). n ≢ Open) t → open_count t ≡ 0
closed_none t h = by (open_count t) refl
  where
    by : (k : ℕ) → open_count t ≡ k → open_count t ≡ 0
    by zero e = e
    by (suc k) e = absurd (All-contains (λ (n : Node). n ≢ Open) t Open h (some_open t (omega (arith, e))) refl)

-- ---- the tests of their number

zero_true : (o : ℕ) → IsTrue (nat_eq o 0) → o ≡ 0
zero_true o e = grind (arith, nat_tests)

true_zero : (o : ℕ) → o ≡ 0 → IsTrue (nat_eq o 0)
true_zero o e = grind (arith, nat_tests)

true_some : (o : ℕ) → IsTrue (not (nat_eq o 0)) → 0 < o
true_some o e = grind (arith, nat_tests)

some_true : (o : ℕ) → 0 < o → IsTrue (not (nat_eq o 0))
some_true o lt = grind (arith, nat_tests)

module _ (o : ℕ) (t : List Node) (is : o ≡ open_count t) where
  pub none_test : IsTrue (nat_eq o 0) ↔ All (λ (n : Node). n ≢ Open) t
  none_test = (λ yes. none_open t (sym is ∙ zero_true o yes), λ closed. true_zero o (is ∙ closed_none t closed))

  pub some_test : IsTrue (not (nat_eq o 0)) ↔ Contains t Open
  some_test = (
    λ yes. some_open t (subst (λ (k : ℕ). 0 < k) is (true_some o yes)),
    λ some. some_true o (subst (λ (k : ℕ). 0 < k) (sym is) (open_some t some)),
  )

  -- where no leaf is open, nothing is asked of the number of nodes
  pub used_none : (count nodes : ℕ) → o ≡ 0 → IsTrue true ↔ (Contains t Open → IsOdd count nodes)
  used_none count nodes none =
      (λ yes some. absurd (let lt = open_some t some in omega (arith, lt, none, is)), λ h. refl)

  pub used_some : (count nodes : ℕ) (b : Bool) → (o ≡ 0 → ⊥) → IsTrue b ↔ IsOdd count nodes
      → IsTrue b ↔ (Contains t Open → IsOdd count nodes)
  used_some count nodes b some h = (
    λ yes there. h.0 yes,
    λ odd. h.1 (odd (some_open t (positive (open_count t) (λ e. some (is ∙ e))))),
  )
    where
      positive : (k : ℕ) → (k ≡ 0 → ⊥) → 0 < k
      positive zero never = absurd (never refl)
      positive (suc k) never = omega arith
