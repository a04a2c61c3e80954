-- Issues that rise: each active one comes at least the latency of the one before after it, but for Enter, which comes first.
use Rattle.std.proofs.Common.{◌≡◌, ◌≢◌, ℕ, suc, ◌+◌, ◌<◌, ◌≤◌, inl, inr, List, [], ◌∷◌, ◌++◌, get_or, Option, Some, None, refl, sym, ap}
use Rattle.std.proofs.Common.{subst, ◌∙◌, arith}
use Rattle.std.specs.Prelude.{All, AllPairs}
use Rattle.std.proofs.lemmas.List.Elements.{All-append, All-nil, All-cons, All-head, All-tail, All-weaker}
use Rattle.std.proofs.lemmas.List.Kept.{AllPairs-cons}
use Rattle.un_isa.specs.declared.op.Op.{Op}
use Rattle.un_isa.specs.declared.op.Op.TheVariants.{Load, Store, Call, Enter}
use Rattle.un_isa.specs.declared.table.Table.{Table}
use Rattle.un_isa.specs.Fit.{IsFit}
use Rattle.un_isa.specs.Tables.{latency_of}
use Rattle.un_model.specs.declared.schedule.Issue.{Issue}
use Rattle.un_model.specs.Solutions.{memory_distance}
use Rattle.un_baseline.proofs.OneAtATime.{AreSeparated, AreInOrder}

-- ---- pairs

pub pairs_append : {A : Type 0} (R : A → A → Type 0) (xs ys : List A) → AllPairs R xs → AllPairs R ys
    → All (λ (x : A). All (R x) ys) xs → AllPairs R (xs ++ ys)
pairs_append R [] ys h g cross = g
pairs_append {A} R (x ∷ xs) ys h g cross =
    AllPairs-cons R x (xs ++ ys)
    (All-append (R x) xs ys (λ k d lt. h 0 (suc k) d (omega arith) (omega arith)) (All-head (λ (z : A). All (R z) ys) x xs cross))
    (pairs_append R xs ys (λ i j d lt within. h (suc i) (suc j) d (omega arith) (omega arith)) g (All-tail (λ (z : A). All
    (R z) ys) x xs cross))

pub pairs_nil : {A : Type 0} (R : A → A → Type 0) → AllPairs R []
pairs_nil R i j d lt within = absurd (omega arith)

-- ---- rising issues

-- the active issues, but for Enter, rise from cycle `low` on and are done by `high`; Enter comes in cycle 1 or later and is done
-- by `first`
pub data Rise (t : Table) (first high : ℕ) : ℕ → List Issue → Type 0 where
  nothing : {low : ℕ} → low ≤ high → Rise t first high low []
  still : {low : ℕ} {i : Issue} {is : List Issue} → i.instr ≡ None → Rise t first high low is → Rise t first high low (i ∷ is)
  enters : {low : ℕ} {i : Issue} {is : List Issue} → i.instr ≡ Some Enter → 1 ≤ i.cycle → i.cycle + latency_of t Enter ≤ first
      → All (λ (j : Issue). j.instr ≢ Some Enter) is → Rise t first high low is
      → Rise t first high low (i ∷ is)
  issues : {low : ℕ} {i : Issue} {is : List Issue} (o : Op) → i.instr ≡ Some o → o ≢ Enter → low ≤ i.cycle
      → Rise t first high (i.cycle + latency_of t o) is → Rise t first high low (i ∷ is)

-- Enter is done by `first`, every other active issue comes between `low` and `high`
pub data IsBetween (t : Table) (first low high : ℕ) (i : Issue) : Type 0 where
  idle : i.instr ≡ None → IsBetween t first low high i
  entering : i.instr ≡ Some Enter → 1 ≤ i.cycle → i.cycle + latency_of t Enter ≤ first → IsBetween t first low high i
  within : (o : Op) → i.instr ≡ Some o → o ≢ Enter → low ≤ i.cycle → i.cycle + latency_of t o ≤ high → IsBetween t first low high i

between_from : (t : Table) (first low next high : ℕ) (i : Issue) → low ≤ next → IsBetween t first next high i → IsBetween t first low high i
between_from t first low next high i le (idle e) = idle e
between_from t first low next high i le (entering e one lt) = entering e one lt
between_from t first low next high i le (within o e ne lo hi) = within o e ne (omega arith) hi

pub rise_bound : (t : Table) (first high low : ℕ) (is : List Issue) → Rise t first high low is → low ≤ high
rise_bound t first high low [] (nothing le) = le
rise_bound t first high low (i ∷ is) (still e h) = rise_bound t first high low is h
rise_bound t first high low (i ∷ is) (enters e one lt other h) = rise_bound t first high low is h
rise_bound t first high low (i ∷ is) (issues o e ne le h) = let b = rise_bound t first high (i.cycle + latency_of t o) is h in omega arith

pub all_between : (t : Table) (first high low : ℕ) (is : List Issue) → Rise t first high low is → All (IsBetween t first low high) is
all_between t first high low [] h = All-nil (IsBetween t first low high)
all_between t first high low (i ∷ is) (still e h) = All-cons (IsBetween t first low high) i is (idle e) (all_between t first high low is h)
all_between t first high low (i ∷ is) (enters e one lt other h) = All-cons (IsBetween t first low high) i is (entering e one lt)
    (all_between t first high low is h)
all_between t first high low (i ∷ is) (issues o e ne le h) =
    All-cons (IsBetween t first low high) i is (within o e ne le (rise_bound t first high (i.cycle + latency_of t o) is h))
    (All-weaker (IsBetween t first (i.cycle + latency_of t o) high) (IsBetween t first low high) (λ j b. between_from t first low
    (i.cycle + latency_of t o) high j (omega arith) b) is
    (all_between t first high (i.cycle + latency_of t o) is h))

same_op : (i : Issue) (o q : Op) → i.instr ≡ Some o → i.instr ≡ Some q → o ≡ q
same_op i o q a b = let e : Some o ≡ Some q = sym a ∙ b in cc

no_op : (i : Issue) (o : Op) → i.instr ≡ None → i.instr ≡ Some o → ⊥
no_op i o a b = let e : None ≡ Some o = sym a ∙ b in cc

module _ (t : Table) (first : ℕ) where
  still_separated : (i j : Issue) → i.instr ≡ None → AreSeparated t i j
  still_separated i j e o q block io jq = absurd (no_op i o e io)

  -- Enter and what comes later
  enter_separated : (low high : ℕ) (i j : Issue) → first ≤ low → i.instr ≡ Some Enter → i.cycle + latency_of t Enter ≤ first
      → j.instr ≢ Some Enter → IsBetween t first low high j → AreSeparated t i j
  enter_separated low high i j le e lt other (idle n) o q block io jq = absurd (no_op j q n jq)
  enter_separated low high i j le e lt other (entering n one m) o q block io jq = absurd (other n)
  enter_separated low high i j le e lt other (within p n ne lo hi) o q block io jq =
      let same = same_op i o Enter io e in
      inl (subst (λ (x : Op). i.cycle + latency_of t x ≤ j.cycle) (sym same) (omega arith))

  -- an issue and what rises behind it
  issue_separated : (low high : ℕ) (i j : Issue) (p : Op) → first ≤ i.cycle → i.instr ≡ Some p → i.cycle + latency_of t p ≤ low
      → IsBetween t first low high j → AreSeparated t i j
  issue_separated low high i j p le e lt (idle n) o q block io jq = absurd (no_op j q n jq)
  issue_separated low high i j p le e lt (entering n one m) o q block io jq =
      let same = same_op j q Enter jq n in
      inr (subst (λ (x : Op). j.cycle + latency_of t x ≤ i.cycle) (sym same) (omega arith))
  issue_separated low high i j p le e lt (within r n ne lo hi) o q block io jq =
      let same = same_op i o p io e in
      inl (subst (λ (x : Op). i.cycle + latency_of t x ≤ j.cycle) (sym same) (omega arith))

  pub rise_separated : (high low : ℕ) (is : List Issue) → first ≤ low → Rise t first high low is → AllPairs (AreSeparated t) is
  rise_separated high low [] le h = pairs_nil (AreSeparated t)
  rise_separated high low (i ∷ is) le (still e h) =
      AllPairs-cons (AreSeparated t) i is (λ k d lt. still_separated i (get_or is k d) e) (rise_separated high low is le h)
  rise_separated high low (i ∷ is) le (enters e one lt other h) =
      AllPairs-cons (AreSeparated t) i is (λ k d in'. enter_separated low high i (get_or is k d) le e lt (other k d in')
      (all_between t first high low is h k d in')) (rise_separated high low is le h)
  rise_separated high low (i ∷ is) le (issues o e ne lo h) =
      AllPairs-cons (AreSeparated t) i is
      (λ k d in'. issue_separated (i.cycle + latency_of t o) high i (get_or is k d) o (omega arith) e (omega arith)
      (all_between t first high (i.cycle + latency_of t o) is h k d in'))
      (rise_separated high (i.cycle + latency_of t o) is (omega arith) h)

-- ---- memory

none_after : (instr : Option Op) → memory_distance instr None ≡ None
none_after (Some Load) = refl
none_after (Some Store) = refl
none_after (Some Call) = refl
none_after _ = refl

enter_after : (instr : Option Op) → memory_distance instr (Some Enter) ≡ None
enter_after (Some Load) = refl
enter_after (Some Store) = refl
enter_after (Some Call) = refl
enter_after _ = refl

not_some : {A : Type 0} (x : Option A) (a : A) → x ≡ None → x ≡ Some a → ⊥
not_some x a h g = let e : None ≡ Some a = sym h ∙ g in cc

idle_ordered : (i j : Issue) → i.instr ≡ None → AreInOrder i j
idle_ordered i j e n block some = absurd (not_some (memory_distance i.instr j.instr) n (ap (λ
    (x : Option Op). memory_distance x j.instr) e) some)

enter_ordered : (i j : Issue) → i.instr ≡ Some Enter → AreInOrder i j
enter_ordered i j e n block some = absurd (not_some (memory_distance i.instr j.instr) n (ap (λ
    (x : Option Op). memory_distance x j.instr) e) some)

pub before_idle : (i j : Issue) → j.instr ≡ None → AreInOrder i j
before_idle i j e n block some = absurd (not_some (memory_distance i.instr j.instr) n (ap (memory_distance i.instr) e
    ∙ none_after i.instr) some)

before_enter : (i j : Issue) → j.instr ≡ Some Enter → AreInOrder i j
before_enter i j e n block some = absurd (not_some (memory_distance i.instr j.instr) n (ap (memory_distance i.instr) e
    ∙ enter_after i.instr) some)

module _ (t : Table) (fit : IsFit t) (first : ℕ) where
  behind_ordered : (low high : ℕ) (i j : Issue) → i.cycle < low → IsBetween t first low high j → AreInOrder i j
  behind_ordered low high i j lt (idle e) = before_idle i j e
  behind_ordered low high i j lt (entering e one m) = before_enter i j e
  behind_ordered low high i j lt (within o e ne lo hi) = λ n block some. omega arith

  pub rise_ordered : (high low : ℕ) (is : List Issue) → Rise t first high low is → AllPairs AreInOrder is
  rise_ordered high low [] h = pairs_nil AreInOrder
  rise_ordered high low (i ∷ is) (still e h) = AllPairs-cons AreInOrder i is (λ k d in'. idle_ordered i (get_or is k d) e)
      (rise_ordered high low is h)
  rise_ordered high low (i ∷ is) (enters e one lt none h) = AllPairs-cons AreInOrder i is (λ k d in'. enter_ordered i (get_or is k d) e)
      (rise_ordered high low is h)
  rise_ordered high low (i ∷ is) (issues o e ne lo h) =
      let positive = (fit.latencies o).0 in
      AllPairs-cons AreInOrder i is
      (λ k d in'. behind_ordered (i.cycle + latency_of t o) high i (get_or is k d) (omega arith) (all_between t first high
      (i.cycle + latency_of t o) is h k d in'))
      (rise_ordered high (i.cycle + latency_of t o) is h)
