-- How far a pass over the packets of a solution has come.
use Rattle.std.proofs.Common.{◌≡◌, ℕ, ◌+◌, ◌-◌, ◌≤◌, ◌<◌, Bool, true, false, List, length, get_or}
use Rattle.std.proofs.Common.{take, All, sum, ◌⊎◌, inl, inr, refl, sym, ap, subst, arith}
use Rattle.std.proofs.lemmas.Bool.{false≢true}
use Rattle.std.proofs.Math.Nat.{eq-or-lt_of_le}
use Rattle.std.proofs.lemmas.List.Elements.{All-more}
use Rattle.un_model.specs.declared.model.BlockVars.{BlockVars}
use Rattle.un_model.specs.declared.model.Model.{Model}
use Rattle.un_model.specs.declared.model.Solution.{Solution}
use Rattle.un_model.specs.Cost.{value_of, cost_of}
use Rattle.un_model.specs.Solutions.{IsSolution}
use Rattle.un_merges.specs.Merges.{merged, HasNoMergeIn}
use Rattle.un_merges.proofs.Merging.{merged_cost, merged_sum, merged_end}

-- none of the merges before t is a solution
unfoldable pub NoneBefore : Model → BlockVars → Solution → ℕ → Type 0
NoneBefore m vars s t = (k : ℕ) → 0 < k → k < t → IsSolution m (merged vars k s) → ⊥

-- what merges at cycles before t have made of a solution
pub record IsTried (m : Model) (vars : BlockVars) (first s : Solution) (found : Bool) (t : ℕ) : Type 0 where
  pub solution : IsSolution m s
  pub no_dearer : cost_of m s ≤ cost_of m first
  pub falls : found ≡ true → sum s.values < sum first.values
  pub same : found ≡ false → s ≡ first
  pub none : found ≡ false → NoneBefore m vars first t
  pub sum_no_more : sum s.values ≤ sum first.values

pub tried_start : (m : Model) (vars : BlockVars) (s : Solution) → IsSolution m s → IsTried m vars s s false 1
unfolding NoneBefore
tried_start m vars s h = record {
  solution = h;
  no_dearer = omega arith;
  falls = λ e. absurd (false≢true e);
  same = λ e. refl;
  none = λ e k above below. absurd (omega (arith, above, below));
  sum_no_more = omega arith;
}

pub tried_found : (m : Model) (vars : BlockVars) (first s new : Solution) (found : Bool) (t : ℕ) → IsTried m vars first s found t
    → IsSolution m new → new ≡ merged vars t s → t < value_of s.values vars.end → IsTried m vars first new true t
tried_found m vars first s new found t h solution is up =
    let cost : cost_of m new ≤ cost_of m s = subst (λ x. cost_of m x ≤ cost_of m s) (sym is) (merged_cost m vars t s) in
    let less : sum new.values < sum s.values = subst (λ (x : Solution). sum x.values < sum s.values) (sym is) (merged_sum vars t s up) in
    record {
      solution = solution;
      no_dearer = omega (arith, cost, h.no_dearer);
      falls = λ e. omega (arith, less, h.sum_no_more);
      same = λ e. absurd (false≢true (sym e));
      none = λ e. absurd (false≢true (sym e));
      sum_no_more = omega (arith, less, h.sum_no_more);
    }

pub tried_none : (m : Model) (vars : BlockVars) (first s new : Solution) (found : Bool) (t : ℕ) → IsTried m vars first s found t
    → new ≡ s → (IsSolution m (merged vars t s) → ⊥) → IsTried m vars first new found (t + 1)
unfolding NoneBefore
tried_none m vars first s new found t h is none = subst (λ (x : Solution). IsTried m vars first x found (t + 1)) (sym is) (record {
  solution = h.solution;
  no_dearer = h.no_dearer;
  falls = h.falls;
  same = h.same;
  none = λ e k above below sol. let le : k ≤ t = omega (arith, below) in by e k above sol (eq-or-lt_of_le le);
  sum_no_more = h.sum_no_more;
})
  where
    by : found ≡ false → (k : ℕ) → 0 < k → IsSolution m (merged vars k first) → (k ≡ t) ⊎ (k < t) → ⊥
    by e k above sol (inr lt) = h.none e k above lt sol
    by e k above sol (inl at) = none (subst (λ (x : Solution). IsSolution m (merged vars t x)) (sym (h.same e))
        (subst (λ n. IsSolution m (merged vars n first)) at sol))

pub tried_end : (m : Model) (vars : BlockVars) (first s : Solution) (found : Bool) (t : ℕ) → IsTried m vars first s found t
    → value_of s.values vars.end ≤ t → found ≡ false → HasNoMergeIn m first vars
unfolding NoneBefore HasNoMergeIn
tried_end m vars first s found t h past e = λ k above below sol.
    let ends : value_of s.values vars.end ≡ value_of first.values vars.end = ap (λ (x : Solution). value_of x.values vars.end) (h.same e) in
    h.none e k above (omega (arith, ends, past, below)) sol

-- what a pass over some blocks has made of a solution
pub record IsPassed (m : Model) (blocks : List BlockVars) (first s : Solution) (found : Bool) : Type 0 where
  pub solution : IsSolution m s
  pub no_dearer : cost_of m s ≤ cost_of m first
  pub falls : found ≡ true → sum s.values < sum first.values
  pub same : found ≡ false → s ≡ first
  pub none : found ≡ false → All (HasNoMergeIn m first) blocks
  pub sum_no_more : sum s.values ≤ sum first.values

pub passed_start : (m : Model) (blocks : List BlockVars) (s : Solution) → IsSolution m s → IsPassed m (take 0 blocks) s s false
passed_start m blocks s h = record {
  solution = h;
  no_dearer = omega arith;
  falls = λ e. absurd (false≢true e);
  same = λ e. refl;
  none = λ e k d lt. absurd (omega (arith, lt));
  sum_no_more = omega arith;
}

-- a block with a merge that was taken
pub passed_found : (m : Model) (blocks more : List BlockVars) (first s new : Solution) (found : Bool) → IsPassed m blocks first s found
    → IsSolution m new → cost_of m new ≤ cost_of m s → sum new.values < sum s.values → IsPassed m more first new true
passed_found m blocks more first s new found h solution cost less = record {
  solution = solution;
  no_dearer = omega (arith, cost, h.no_dearer);
  falls = λ e. omega (arith, less, h.sum_no_more);
  same = λ e. absurd (false≢true (sym e));
  none = λ e. absurd (false≢true (sym e));
  sum_no_more = omega (arith, less, h.sum_no_more);
}

-- a block without one
pub passed_none : (m : Model) (blocks : List BlockVars) (i : ℕ) (vars : BlockVars) (first s new : Solution) (found : Bool)
    → i < length blocks → vars ≡ get_or blocks i vars → IsPassed m (take i blocks) first s found → new ≡ s → HasNoMergeIn m s vars
    → IsPassed m (take (i + 1) blocks) first new found
passed_none m blocks i vars first s new found lt at h is none =
    subst (λ (x : Solution). IsPassed m (take (i + 1) blocks) first x found) (sym is) (record {
      solution = h.solution;
      no_dearer = h.no_dearer;
      falls = h.falls;
      same = h.same;
      none = λ e. All-more (HasNoMergeIn m first) blocks i vars lt (h.none e)
          (subst (λ (v : BlockVars). HasNoMergeIn m first v) at (subst (λ (x : Solution). HasNoMergeIn m x vars) (h.same e) none));
      sum_no_more = h.sum_no_more;
    })

-- a merge makes the sum of the values smaller, and no end later
pub merged_smaller : (vars : BlockVars) (t : ℕ) (s new : Solution) → new ≡ merged vars t s → t < value_of s.values vars.end
    → sum new.values + (value_of new.values vars.end - t) < sum s.values + (value_of s.values vars.end - t)
merged_smaller vars t s new is up =
    let less : sum new.values < sum s.values = subst (λ (x : Solution). sum x.values < sum s.values) (sym is) (merged_sum vars t s up) in
    let ends : value_of new.values vars.end ≤ value_of s.values vars.end =
    subst (λ (x : Solution). value_of x.values vars.end ≤ value_of s.values vars.end) (sym is) (merged_end vars t s) in
    omega (arith, less, ends)
