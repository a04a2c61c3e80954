-- A solution costs at least what its blocks cost with the least ends that are left.
use Rattle.std.proofs.Common.{ℕ, ◌≡◌, ◌+◌, ◌*◌, ◌-◌, ◌<◌, ◌≤◌, Bool, true, false, List, [], ◌∷◌, refl, sym, ap, ◌∙◌, arith}
use Rattle.std.specs.Prelude.{Option, Some, None, IfSome, IsSomeAnd, slice_get, slice_index, ◌==◌, if◌then◌else◌}
use Rattle.std.proofs.lemmas.Bool.{eqb-true}
use Rattle.std.proofs.lemmas.Nat.{mul-le}
use Rattle.un_ir.specs.declared.extended.Ext.{Ext}
use Rattle.un_ir.specs.declared.extended.ExtBlock.{ExtBlock}
use Rattle.un_domains.specs.Sets.{Sets, set_at, has, IsIn}
use Rattle.un_model.specs.declared.model.BlockVars.{BlockVars}
use Rattle.un_model.specs.declared.model.Options.{Options}
use Rattle.un_model.specs.Cost.{value_of, block_cost, blocks_cost, cost_of}
use Rattle.un_model.specs.Variables.{model_of, block_count, blocks_vars, blocks_count, ops_count}
use Rattle.un_lists.proofs.Lists.{Each}
use Rattle.un_model.proofs.Readings.{Solved}
use Rattle.un_steps.specs.Rules.{IsTooDear, end_with, cost_at, cost_with}
use Rattle.un_steps.specs.Words.{least_of}
use Rattle.un_steps.proofs.Boxes.{some_of, least_below}
use Rattle.un_steps.proofs.Grounds.{there}

module _ (x : List ℕ) (s : Sets) (v y : ℕ) (is : slice_index x v ≡ y) where
  -- the end of a block is left
  abbrev EndLeft : BlockVars → Type 0
  EndLeft vars = has (set_at s vars.end.0) (value_of x vars.end) ≡ true

  -- an end is no less than what it is taken to be
  end_below : (vars : BlockVars) (a : ℕ) → EndLeft vars → end_with s v y vars ≡ Some a → a ≤ value_of x vars.end
  end_below vars a left h = by (vars.end.0 == v) refl
    where
      by : (b : Bool) → (vars.end.0 == v) ≡ b → a ≤ value_of x vars.end
      by true f =
          let k : Some y ≡ Some a = sym (ap (λ (b : Bool). if b then Some y else least_of (set_at s vars.end.0)) f) ∙ h in
          let same : y ≡ a = cc k in
          let var = eqb-true vars.end.0 v f in
          let value : value_of x vars.end ≡ y = ap (slice_index x) var ∙ is in
          omega (arith, same, value)
      by false f =
          let k : least_of (set_at s vars.end.0) ≡ Some a =
          sym (ap (λ (b : Bool). if b then Some y else least_of (set_at s vars.end.0)) f) ∙ h in
          least_below (set_at s vars.end.0) (value_of x vars.end) a left k

  cost_step : (block : ExtBlock) (vars : BlockVars) (end rest : Option ℕ) (n more : ℕ) → EndLeft vars → end_with s v y vars ≡ end
      → ((r : ℕ) → rest ≡ Some r → r ≤ more) → cost_at block end rest ≡ Some n → n ≤ block_cost x block vars + more
  cost_step block vars None rest n more left f below h = absurd (cc h)
  cost_step block vars (Some a) None n more left f below h = absurd (cc h)
  cost_step block vars (Some a) (Some r) n more left f below h =
      let le = end_below vars a left f in
      let times = mul-le block.freq (a - 1) block.freq (value_of x vars.end - 1) (omega arith) (omega (arith, le)) in
      let after = below r refl in
      let same : block.freq * (a - 1) + r ≡ n = cc h in
      omega (arith, times, after, same)

  cost_below : (blocks : List ExtBlock) (varss : List BlockVars) (n : ℕ) → Each EndLeft varss → cost_with s v y blocks varss ≡ Some n
      → n ≤ blocks_cost x blocks varss
  cost_below [] varss n left h = let same : 0 ≡ n = cc h in omega (arith, same)
  cost_below (block ∷ blocks) [] n left h = let same : 0 ≡ n = cc h in omega (arith, same)
  cost_below (block ∷ blocks) (vars ∷ more) n left h =
      cost_step block vars (end_with s v y vars) (cost_with s v y blocks more) n (blocks_cost x blocks more) left.0 refl
      (λ r k. cost_below blocks more r left.1 k) h

ends_left : (x : List ℕ) (s : Sets) (top first : ℕ) (blocks : List ExtBlock)
    → ((v : ℕ) → v ≤ top → has (set_at s v) (slice_index x v) ≡ true) → first + blocks_count blocks ≤ top
    → Each (λ (vars : BlockVars). has (set_at s vars.end.0) (value_of x vars.end) ≡ true) (blocks_vars first blocks)
ends_left x s top first [] left le = tt
ends_left x s top first (block ∷ blocks) left le = (
  left (first + ops_count block.ops) (omega (arith, le)),
  ends_left x s top (first + block_count block) blocks left (omega (arith, le)),
)

module _ (e : Ext) (o : Options) (x : List ℕ) (h : Solved e o x) (s : Sets) (inside : IsIn x s) where
  pub too_dear : (limit : Option ℕ) (n v y : ℕ) → IfSome limit (λ (c : ℕ). cost_of (model_of e o) (record { values = x }) < c)
      → IsSomeAnd (slice_get (blocks_vars 0 e.blocks) n) (λ (vars : BlockVars). IsTooDear (model_of e o) limit s vars v y)
      → slice_index x v ≡ y → ⊥
  too_dear None n v y cheap goes is = let b = some_of (slice_get (blocks_vars 0 e.blocks) n) _ goes in (b.2).1
  too_dear (Some c) n v y cheap goes is =
      let b = some_of (slice_get (blocks_vars 0 e.blocks) n) _ goes in
      let cost = some_of (cost_with s v y e.blocks (blocks_vars 0 e.blocks)) (λ (n : ℕ). c ≤ n) (b.2).1 in
      let left = ends_left x s (blocks_count e.blocks) 0 e.blocks (there e o x h s inside) (omega arith) in
      let below = cost_below x s v y is e.blocks (blocks_vars 0 e.blocks) cost.0 left cost.1 in
      let bad = cost.2 in
      omega (arith, cheap, below, bad)
