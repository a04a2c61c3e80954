-- Two registers exchanged in values: at each place, and step by step as the code does it.
use Rattle.std.proofs.Common.{ℕ, zero, suc, ◌≡◌, ◌≢◌, ◌+◌, ◌<◌, ◌≤◌, Bool, true, false, eqb, List, [], ◌∷◌, length, get_or, set, take}
use Rattle.std.proofs.Common.{◌⊎◌, inl, inr, refl, sym, ap, ◌∙◌, arith}
use Rattle.std.specs.Prelude.{◌||◌, if◌then◌else◌}
use Rattle.std.proofs.lemmas.Bool.{eqb-true, eqb-false, eq-eqb}
use Rattle.std.proofs.lemmas.Bool.Decides.{eqb_tells}
use Rattle.std.proofs.lemmas.Grind.{same_number_lists}
use Rattle.std.proofs.lemmas.List.{get_or-set_other, get_or-set_same, length-set}
use Rattle.std.proofs.lemmas.List.Folds.{list_any_more}
use Rattle.un_model.specs.declared.model.TempVars.{TempVars}
use Rattle.un_model.specs.declared.model.Model.{Model}
use Rattle.un_model.specs.declared.model.Solution.{Solution}
use Rattle.un_model.specs.Pairs.{places_from}
use Rattle.un_symm.specs.Exchanges.{exchanged, is_register_of, exchanged_at, exchanged_values, exchange_of}

-- ---- one register

-- what two registers are for each other
by_tests : (a b r : ℕ) (k l : Bool) → eqb r a ≡ k → eqb r b ≡ l → exchanged a b r ≡ (if k then b else if l then a else r)
by_tests a b r k l e f =
    ap (λ (k : Bool). if k then b else if eqb r b then a else r) e ∙ ap (λ (l : Bool). if k then b else if l then a else r) f

-- a register stands for itself, or is one of the two and stands for the other
pub exchanged_cases : (a b r : ℕ) → ((r ≡ a) × (exchanged a b r ≡ b)) ⊎ ((r ≡ b) × (exchanged a b r ≡ a))
    ⊎ ((r ≢ a) × (r ≢ b) × (exchanged a b r ≡ r))
exchanged_cases a b r = by (eqb r a) (eqb r b) refl refl
  where
    by : (k l : Bool) → eqb r a ≡ k → eqb r b ≡ l → ((r ≡ a) × (exchanged a b r ≡ b)) ⊎ ((r ≡ b) × (exchanged a b r ≡ a))
        ⊎ ((r ≢ a) × (r ≢ b) × (exchanged a b r ≡ r))
    by true l e f = inl (eqb-true r a e, by_tests a b r true l e f)
    by false true e f = inr (inl (eqb-true r b f, by_tests a b r false true e f))
    by false false e f = inr (inr (eqb-false r a e, eqb-false r b f, by_tests a b r false false e f))

pub exchanged_first : (a b : ℕ) → exchanged a b a ≡ b
exchanged_first a b = ap (λ (k : Bool). if k then b else if eqb a b then a else a) (eq-eqb a a refl)

pub exchanged_second : (a b : ℕ) → exchanged a b b ≡ a
exchanged_second a b = by (exchanged_cases a b b)
  where
    by : ((b ≡ a) × (exchanged a b b ≡ b)) ⊎ ((b ≡ b) × (exchanged a b b ≡ a)) ⊎ ((b ≢ a) × (b ≢ b) × (exchanged a b b ≡ b))
        → exchanged a b b ≡ a
    by (inl (q, e)) = e ∙ q
    by (inr (inl (q, e))) = e
    by (inr (inr (p, q, e))) = absurd (q refl)

-- a property of both or neither stays
pub stays_by : {X : Type 0} (f : ℕ → X) (a b r : ℕ) → f a ≡ f b → f (exchanged a b r) ≡ f r
stays_by f a b r same = by (exchanged_cases a b r)
  where
    by : ((r ≡ a) × (exchanged a b r ≡ b)) ⊎ ((r ≡ b) × (exchanged a b r ≡ a)) ⊎ ((r ≢ a) × (r ≢ b) × (exchanged a b r ≡ r))
        → f (exchanged a b r) ≡ f r
    by (inl (q, e)) = ap f e ∙ sym same ∙ ap f (sym q)
    by (inr (inl (q, e))) = ap f e ∙ same ∙ ap f (sym q)
    by (inr (inr (p, q, e))) = ap f e

pub exchanged_other : (a b r : ℕ) → r ≢ a → r ≢ b → exchanged a b r ≡ r
exchanged_other a b r p q = by (exchanged_cases a b r)
  where
    by : ((r ≡ a) × (exchanged a b r ≡ b)) ⊎ ((r ≡ b) × (exchanged a b r ≡ a)) ⊎ ((r ≢ a) × (r ≢ b) × (exchanged a b r ≡ r))
        → exchanged a b r ≡ r
    by (inl (e, k)) = absurd (p e)
    by (inr (inl (e, k))) = absurd (q e)
    by (inr (inr (e, f, k))) = k

-- exchanged twice, a register is itself
pub exchanged_back : (a b r : ℕ) → exchanged a b (exchanged a b r) ≡ r
exchanged_back a b r = by (exchanged_cases a b r)
  where
    by : ((r ≡ a) × (exchanged a b r ≡ b)) ⊎ ((r ≡ b) × (exchanged a b r ≡ a)) ⊎ ((r ≢ a) × (r ≢ b) × (exchanged a b r ≡ r))
        → exchanged a b (exchanged a b r) ≡ r
    by (inl (q, e)) = ap (exchanged a b) e ∙ exchanged_second a b ∙ sym q
    by (inr (inl (q, e))) = ap (exchanged a b) e ∙ exchanged_first a b ∙ sym q
    by (inr (inr (p, q, e))) = ap (exchanged a b) e ∙ e

pub exchanged_zero : (a b : ℕ) → 0 < a → 0 < b → exchanged a b 0 ≡ 0
exchanged_zero a b p q = exchanged_other a b 0 (λ e. omega (arith, e, p)) (λ e. omega (arith, e, q))

-- ---- each variable

pub register_moves : (temps : List TempVars) (a b v x : ℕ) → is_register_of temps v ≡ true → exchanged_at temps a b v x ≡ exchanged a b x
register_moves temps a b v x e = ap (λ (k : Bool). if k then exchanged a b x else x) e

pub other_stays : (temps : List TempVars) (a b v x : ℕ) → is_register_of temps v ≡ false → exchanged_at temps a b v x ≡ x
other_stays temps a b v x e = ap (λ (k : Bool). if k then exchanged a b x else x) e

by_register : (temps : List TempVars) (a b v : ℕ) (k : Bool) → is_register_of temps v ≡ k
    → exchanged_at temps a b v 0 ≡ (if k then exchanged a b 0 else 0)
by_register temps a b v k e = ap (λ (k : Bool). if k then exchanged a b 0 else 0) e

pub zero_stays : (temps : List TempVars) (a b v : ℕ) → 0 < a → 0 < b → exchanged_at temps a b v 0 ≡ 0
zero_stays temps a b v p q = by (is_register_of temps v) refl
  where
    by : (k : Bool) → is_register_of temps v ≡ k → exchanged_at temps a b v 0 ≡ 0
    by true e = by_register temps a b v true e ∙ exchanged_zero a b p q
    by false e = by_register temps a b v false e

-- ---- all values

pub length-places : {A B : Type 0} (f : ℕ → A → B) (i : ℕ) (xs : List A) → length (places_from f i xs) ≡ length xs
length-places f i [] = refl
length-places f i (x ∷ xs) = ap suc (length-places f (i + 1) xs)

get-places : (f : ℕ → ℕ → ℕ) (i k : ℕ) (xs : List ℕ) → k < length xs → get_or (places_from f i xs) k 0 ≡ f (i + k) (get_or xs k 0)
get-places f i k [] h = absurd (omega arith)
get-places f i zero (x ∷ xs) h = let e : i ≡ i + 0 = omega arith in ap (λ n. f n x) e
get-places f i (suc k) (x ∷ xs) h =
    let e : (i + 1) + k ≡ i + suc k = omega arith in
    get-places f (i + 1) k xs (omega arith) ∙ ap (λ n. f n (get_or xs k 0)) e

past-places : (f : ℕ → ℕ → ℕ) (i k : ℕ) (xs : List ℕ) → length xs ≤ k → get_or (places_from f i xs) k 0 ≡ 0
past-places f i k [] h = refl
past-places f i zero (x ∷ xs) h = absurd (omega arith)
past-places f i (suc k) (x ∷ xs) h = past-places f (i + 1) k xs (omega arith)

past : (k : ℕ) (xs : List ℕ) → length xs ≤ k → get_or xs k 0 ≡ 0
past k [] h = refl
past zero (x ∷ xs) h = absurd (omega arith)
past (suc k) (x ∷ xs) h = past k xs (omega arith)

module _ (temps : List TempVars) (a b : ℕ) (values : List ℕ) where
  -- the value of a variable, by its place
  pub value_below : (v : ℕ) → v < length values
      → get_or (exchanged_values temps a b values) v 0 ≡ exchanged_at temps a b v (get_or values v 0)
  value_below v lt = let e : 0 + v ≡ v = omega arith in
      get-places (exchanged_at temps a b) 0 v values lt ∙ ap (λ n. exchanged_at temps a b n (get_or values v 0)) e

  pub value_at : 0 < a → 0 < b → (v : ℕ)
      → get_or (exchanged_values temps a b values) v 0 ≡ exchanged_at temps a b v (get_or values v 0)
  value_at p q v = by (cases v (length values))
    where
      cases : (v n : ℕ) → (v < n) ⊎ (n ≤ v)
      cases v n = grind arith

      by : (v < length values) ⊎ (length values ≤ v)
          → get_or (exchanged_values temps a b values) v 0 ≡ exchanged_at temps a b v (get_or values v 0)
      by (inl lt) = value_below v lt
      by (inr le) = past-places (exchanged_at temps a b) 0 v values le ∙ sym (zero_stays temps a b v p q)
          ∙ ap (exchanged_at temps a b v) (sym (past v values le))

  pub same_length : length (exchanged_values temps a b values) ≡ length values
  same_length = length-places (exchanged_at temps a b) 0 values

-- a solution's values, one by one
pub value_exchanged : (m : Model) (a b : ℕ) (s : Solution) (v : ℕ) → 0 < a → 0 < b
    → get_or (exchange_of m a b s).values v 0 ≡ exchanged_at m.temps a b v (get_or s.values v 0)
unfolding exchange_of
value_exchanged m a b s v p q = value_at m.temps a b s.values p q v

pub length-exchange : (m : Model) (a b : ℕ) (s : Solution) → length (exchange_of m a b s).values ≡ length s.values
unfolding exchange_of
length-exchange m a b s = same_length m.temps a b s.values

-- ---- as the code makes them

pub none_yet : (a b : ℕ) (values : List ℕ) → values ≡ exchanged_values [] a b values
none_yet a b values = by 0 values
  where
    by : (i : ℕ) (xs : List ℕ) → xs ≡ places_from (exchanged_at [] a b) i xs
    by i [] = refl
    by i (x ∷ xs) = ap (λ ys. x ∷ ys) (by (i + 1) xs)

or_false : (b : Bool) → (b || false) ≡ b
or_false true = refl
or_false false = refl

or_true : (b : Bool) → (b || true) ≡ true
or_true true = refl
or_true false = refl

module _ (temps : List TempVars) (i a b : ℕ) (t d : TempVars) (old : List ℕ) (inside : i < length temps) (is : t ≡ get_or temps i d) where
  more : (v : ℕ) → is_register_of (take (i + 1) temps) v ≡ (is_register_of (take i temps) v || eqb t.reg.0 v)
  more v = list_any_more (λ (t : TempVars). eqb t.reg.0 v) temps i d inside
      ∙ ap (λ (u : TempVars). is_register_of (take i temps) v || eqb u.reg.0 v) (sym is)

  hits : (v x : ℕ) → t.reg.0 ≡ v → exchanged_at (take (i + 1) temps) a b v x ≡ exchanged a b x
  hits v x e = register_moves (take (i + 1) temps) a b v x
      (more v ∙ ap (λ k. is_register_of (take i temps) v || k) (eq-eqb t.reg.0 v e) ∙ or_true (is_register_of (take i temps) v))

  misses : (v x : ℕ) → eqb t.reg.0 v ≡ false → exchanged_at (take (i + 1) temps) a b v x ≡ exchanged_at (take i temps) a b v x
  misses v x e = ap (λ (k : Bool). if k then exchanged a b x else x)
      (more v ∙ ap (λ k. is_register_of (take i temps) v || k) e ∙ or_false (is_register_of (take i temps) v))

  -- the register of one more temporary
  pub one_more : (new : List ℕ) → t.reg.0 < length new → new ≡ exchanged_values (take i temps) a b old
      → set new t.reg.0 (exchanged a b (get_or old t.reg.0 0)) ≡ exchanged_values (take (i + 1) temps) a b old
  one_more new lt so_far = same_number_lists (set new t.reg.0 (exchanged a b (get_or old t.reg.0 0)))
      (exchanged_values (take (i + 1) temps) a b old)
      (length-set new t.reg.0 (exchanged a b (get_or old t.reg.0 0)) ∙ long ∙ sym (same_length (take (i + 1) temps) a b old))
      (λ v less. by v (let n = length-set new t.reg.0 (exchanged a b (get_or old t.reg.0 0)) in omega (arith, n, less, long))
      (eqb_tells t.reg.0 v))
    where
      long : length new ≡ length old
      long = ap length so_far ∙ same_length (take i temps) a b old

      by : (v : ℕ) → v < length old → ((eqb t.reg.0 v ≡ true) × (t.reg.0 ≡ v)) ⊎ ((eqb t.reg.0 v ≡ false) × (t.reg.0 ≢ v))
          → get_or (set new t.reg.0 (exchanged a b (get_or old t.reg.0 0))) v 0 ≡ get_or (exchanged_values (take (i + 1) temps) a b old) v 0
      by v below (inl (e, same)) =
          ap (λ j. get_or (set new t.reg.0 (exchanged a b (get_or old t.reg.0 0))) j 0) (sym same)
          ∙ get_or-set_same new t.reg.0 (exchanged a b (get_or old t.reg.0 0)) 0 lt
          ∙ ap (λ j. exchanged a b (get_or old j 0)) same
          ∙ sym (value_below (take (i + 1) temps) a b old v below ∙ hits v (get_or old v 0) same)
      by v below (inr (e, other)) =
          get_or-set_other new t.reg.0 v (exchanged a b (get_or old t.reg.0 0)) 0 (λ q. other (sym q))
          ∙ ap (λ (xs : List ℕ). get_or xs v 0) so_far
          ∙ value_below (take i temps) a b old v below ∙ sym (misses v (get_or old v 0) e)
          ∙ sym (value_below (take (i + 1) temps) a b old v below)

  -- a variable past the end is not there
  pub none_more : (new : List ℕ) → length new ≤ t.reg.0 → new ≡ exchanged_values (take i temps) a b old
      → new ≡ exchanged_values (take (i + 1) temps) a b old
  none_more new past so_far = same_number_lists new (exchanged_values (take (i + 1) temps) a b old)
      (long ∙ sym (same_length (take (i + 1) temps) a b old))
      (λ v less. by v (omega (arith, less, long)) (eqb_tells t.reg.0 v))
    where
      long : length new ≡ length old
      long = ap length so_far ∙ same_length (take i temps) a b old

      by : (v : ℕ) → v < length old → ((eqb t.reg.0 v ≡ true) × (t.reg.0 ≡ v)) ⊎ ((eqb t.reg.0 v ≡ false) × (t.reg.0 ≢ v))
          → get_or new v 0 ≡ get_or (exchanged_values (take (i + 1) temps) a b old) v 0
      by v below (inl (e, same)) = absurd (omega (arith, same, past, below, long))
      by v below (inr (e, other)) = ap (λ (xs : List ℕ). get_or xs v 0) so_far
          ∙ value_below (take i temps) a b old v below ∙ sym (misses v (get_or old v 0) e)
          ∙ sym (value_below (take (i + 1) temps) a b old v below)
