-- Laws of earliest and latest cycles.
use Rattle.std.proofs.Common.{ℕ, ◌≡◌, ◌<◌, ◌≤◌, ◌+◌, ◌-◌, ◌^◌, Bool, true, false, if◌then◌else◌, List, [], ◌∷◌}
use Rattle.std.proofs.Common.{max, min, nat_eq, refl, ap, arith}
use Rattle.std.specs.List.{AllByRecursion}
use Rattle.std.proofs.lemmas.Bool.Decides.{nat_tests}
use Rattle.un_length.specs.declared.block.Precedence.{Precedence}
use Rattle.un_length.specs.Places.{Leads}
use Rattle.un_length.specs.Windows.{raise, raised, lower, lowered}

-- cycles that keep a precedence
abbrev pub Keeps : (ℕ → ℕ) → Precedence → Type 0
Keeps x a = x a.from + a.gap ≤ x a.to

is_eq : (i j : ℕ) → nat_eq i j ≡ true → i ≡ j
is_eq i j e = grind (arith, nat_tests, e)

-- One precedence

raise_less : (a : Precedence) (f g : ℕ → ℕ) → ((i : ℕ) → f i ≤ g i) → (i : ℕ) → raise a f i ≤ raise a g i
raise_less a f g h i = by (nat_eq i a.to) (h i) (h a.from)
  where
    by : (b : Bool) → f i ≤ g i → f a.from ≤ g a.from → (if b then max (f i) (min (f a.from + a.gap) (2 ^ 32 - 1)) else f i)
        ≤ (if b then max (g i) (min (g a.from + a.gap) (2 ^ 32 - 1)) else g i)
    by true here from = omega (arith, here, from)
    by false here from = here

pub lower_less : (a : Precedence) (f g : ℕ → ℕ) → ((i : ℕ) → f i ≤ g i) → (i : ℕ) → lower a f i ≤ lower a g i
lower_less a f g h i = by (nat_eq i a.from) (h i) (h a.to)
  where
    by : (b : Bool) → f i ≤ g i → f a.to ≤ g a.to → (if b then min (f i) (f a.to - a.gap) else f i)
        ≤ (if b then min (g i) (g a.to - a.gap) else g i)
    by true here to = omega (arith, here, to)
    by false here to = here

raise_keeps : (a : Precedence) (f x : ℕ → ℕ) → Keeps x a → ((i : ℕ) → f i ≤ x i) → (i : ℕ) → raise a f i ≤ x i
raise_keeps a f x kept h i = by (nat_eq i a.to) refl (h i) (h a.from)
  where
    by : (b : Bool) → nat_eq i a.to ≡ b → f i ≤ x i → f a.from ≤ x a.from
        → (if b then max (f i) (min (f a.from + a.gap) (2 ^ 32 - 1)) else f i) ≤ x i
    by true e here from = (let same = ap x (is_eq i a.to e) in omega (arith, here, from, kept, same))
    by false e here from = here

lower_keeps : (a : Precedence) (f x : ℕ → ℕ) → Keeps x a → ((i : ℕ) → x i ≤ f i) → (i : ℕ) → x i ≤ lower a f i
lower_keeps a f x kept h i = by (nat_eq i a.from) refl (h i) (h a.to)
  where
    by : (b : Bool) → nat_eq i a.from ≡ b → x i ≤ f i → x a.to ≤ f a.to → x i ≤ (if b then min (f i) (f a.to - a.gap) else f i)
    by true e here to = (let same = ap x (is_eq i a.from e) in omega (arith, here, to, kept, same))
    by false e here to = here

module _ (n : ℕ) (a : Precedence) (leads : Leads n a) (f g : ℕ → ℕ) (same : (i : ℕ) → i < n → f i ≡ g i) where
  raise_same : (i : ℕ) → i < n → raise a f i ≡ raise a g i
  raise_same i lt = by (nat_eq i a.to) (same i lt) (same a.from leads.of_from)
    where
      by : (b : Bool) → f i ≡ g i → f a.from ≡ g a.from → (if b then max (f i) (min (f a.from + a.gap) (2 ^ 32 - 1)) else f i)
          ≡ (if b then max (g i) (min (g a.from + a.gap) (2 ^ 32 - 1)) else g i)
      by true here from = omega (arith, here, from)
      by false here from = here

  lower_same : (i : ℕ) → i < n → lower a f i ≡ lower a g i
  lower_same i lt = by (nat_eq i a.from) (same i lt) (same a.to leads.of_to)
    where
      by : (b : Bool) → f i ≡ g i → f a.to ≡ g a.to → (if b then min (f i) (f a.to - a.gap) else f i)
          ≡ (if b then min (g i) (g a.to - a.gap) else g i)
      by true here to = omega (arith, here, to)
      by false here to = here

-- All of them

-- raised from less, less; and lowered
pub raised_less : (arcs : List Precedence) (f g : ℕ → ℕ) → ((i : ℕ) → f i ≤ g i) → (i : ℕ) → raised arcs f i ≤ raised arcs g i
raised_less [] f g h i = h i
raised_less (a ∷ rest) f g h i = raised_less rest (raise a f) (raise a g) (raise_less a f g h) i

pub lowered_less : (arcs : List Precedence) (f g : ℕ → ℕ) → ((i : ℕ) → f i ≤ g i) → (i : ℕ) → lowered arcs f i ≤ lowered arcs g i
lowered_less [] f g h i = h i
lowered_less (a ∷ rest) f g h i = lower_less a (lowered rest f) (lowered rest g) (lowered_less rest f g h) i

-- cycles that keep the precedences stay at least what is raised to, and at most what is lowered to
pub raised_keeps : (arcs : List Precedence) (f x : ℕ → ℕ) → AllByRecursion (Keeps x) arcs → ((i : ℕ) → f i ≤ x i) → (i : ℕ)
    → raised arcs f i ≤ x i
raised_keeps [] f x all h i = h i
raised_keeps (a ∷ rest) f x all h i = raised_keeps rest (raise a f) x all.1 (raise_keeps a f x all.0 h) i

pub lowered_keeps : (arcs : List Precedence) (f x : ℕ → ℕ) → AllByRecursion (Keeps x) arcs → ((i : ℕ) → x i ≤ f i) → (i : ℕ)
    → x i ≤ lowered arcs f i
lowered_keeps [] f x all h i = h i
lowered_keeps (a ∷ rest) f x all h i = lower_keeps a (lowered rest f) x all.0 (lowered_keeps rest f x all.1 h) i

-- cycles alike below n stay alike
pub raised_same : (n : ℕ) (arcs : List Precedence) (f g : ℕ → ℕ) → AllByRecursion (Leads n) arcs → ((i : ℕ) → i < n → f i ≡ g i)
    → (i : ℕ) → i < n → raised arcs f i ≡ raised arcs g i
raised_same n [] f g all h i lt = h i lt
raised_same n (a ∷ rest) f g all h i lt = raised_same n rest (raise a f) (raise a g) all.1 (raise_same n a all.0 f g h) i lt

pub lowered_same : (n : ℕ) (arcs : List Precedence) (f g : ℕ → ℕ) → AllByRecursion (Leads n) arcs → ((i : ℕ) → i < n → f i ≡ g i)
    → (i : ℕ) → i < n → lowered arcs f i ≡ lowered arcs g i
lowered_same n [] f g all h i lt = h i lt
lowered_same n (a ∷ rest) f g all h i lt = lower_same n a all.0 (lowered rest f) (lowered rest g) (lowered_same n rest f g all.1 h) i lt

-- what is lowered is not above what it was
lower_falls : (a : Precedence) (f : ℕ → ℕ) (i : ℕ) → lower a f i ≤ f i
lower_falls a f i = by (nat_eq i a.from)
  where
    by : (b : Bool) → (if b then min (f i) (f a.to - a.gap) else f i) ≤ f i
    by true = omega arith
    by false = omega arith

pub lowered_falls : (arcs : List Precedence) (f : ℕ → ℕ) (i : ℕ) → lowered arcs f i ≤ f i
lowered_falls [] f i = omega arith
lowered_falls (a ∷ rest) f i = (
    let here = lower_falls a (lowered rest f) i in
    let more = lowered_falls rest f i in
    omega (arith, here, more))
