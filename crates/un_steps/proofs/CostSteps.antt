-- What blocks cost with given ends, block by block.
use Rattle.std.proofs.Common.{ℕ, ◌≡◌, ◌+◌, ◌*◌, ◌-◌, ◌≤◌, List, [], ◌∷◌, length, drop, min, refl, ap, ◌∙◌, arith, ◌⊎◌, inl, inr}
use Rattle.std.specs.Prelude.{Option, Some, None, slice_get}
use Rattle.un_ir.specs.declared.extended.ExtBlock.{ExtBlock}
use Rattle.un_domains.specs.Sets.{Sets}
use Rattle.un_model.specs.declared.model.BlockVars.{BlockVars}
use Rattle.un_model.proofs.Steps.{drop_at, drop_past, within_min}
use Rattle.un_steps.specs.Rules.{end_with, cost_at, cost_with}

-- a number more than a cost, where there is one
abbrev pub plus : ℕ → Option ℕ → Option ℕ
plus n None = None
plus n (Some r) = Some (n + r)

-- the sum so far and what blocks from k on cost
abbrev pub so_far : Sets → ℕ → ℕ → List ExtBlock → List BlockVars → ℕ → ℕ → Option ℕ
so_far s v y blocks vars k sum = plus sum (cost_with s v y (drop k blocks) (drop k vars))

step_is : (s : Sets) (v y k : ℕ) (blocks : List ExtBlock) (vars : List BlockVars) (block : ExtBlock) (b : BlockVars)
    → slice_get blocks k ≡ Some block → slice_get vars k ≡ Some b → cost_with s v y (drop k blocks) (drop k vars) ≡ cost_at block
    (end_with s v y b) (cost_with s v y (drop (k + 1) blocks) (drop (k + 1) vars))
step_is s v y k blocks vars block b p q = rw (drop_at blocks k block p, drop_at vars k b q) refl

pub cost_none : (s : Sets) (v y k sum : ℕ) (blocks : List ExtBlock) (vars : List BlockVars) (block : ExtBlock) (b : BlockVars)
    → slice_get blocks k ≡ Some block → slice_get vars k ≡ Some b → end_with s v y b ≡ None → so_far s v y blocks vars k sum ≡ None
cost_none s v y k sum blocks vars block b p q e =
    ap (plus sum) (step_is s v y k blocks vars block b p q
    ∙ ap (λ (end : Option ℕ). cost_at block end (cost_with s v y (drop (k + 1) blocks) (drop (k + 1) vars))) e)

pub cost_more : (s : Sets) (v y k sum end cost : ℕ) (blocks : List ExtBlock) (vars : List BlockVars) (block : ExtBlock) (b : BlockVars)
    → slice_get blocks k ≡ Some block → slice_get vars k ≡ Some b → end_with s v y b ≡ Some end → cost ≡ block.freq * (end - 1)
    → so_far s v y blocks vars k sum ≡ so_far s v y blocks vars (k + 1) (sum + cost)
cost_more s v y k sum end cost blocks vars block b p q e c =
    let rest = cost_with s v y (drop (k + 1) blocks) (drop (k + 1) vars) in
    ap (plus sum) (step_is s v y k blocks vars block b p q ∙ ap (λ (end : Option ℕ). cost_at block end rest) e) ∙ add rest
  where
    add : (rest : Option ℕ) → plus sum (cost_at block (Some end) rest) ≡ plus (sum + cost) rest
    add None = refl
    add (Some r) = ap (λ (n : ℕ). Some n) (omega (arith, c))

nothing_left : (s : Sets) (v y : ℕ) (blocks : List ExtBlock) (vars : List BlockVars) → (length blocks ≡ 0) ⊎ (length vars ≡ 0)
    → cost_with s v y blocks vars ≡ Some 0
nothing_left s v y [] vars h = refl
nothing_left s v y (b ∷ bs) [] h = refl
nothing_left s v y (b ∷ bs) (w ∷ ws) (inl e) = absurd (omega (arith, e))
nothing_left s v y (b ∷ bs) (w ∷ ws) (inr e) = absurd (omega (arith, e))

pub cost_all : (s : Sets) (v y k sum : ℕ) (blocks : List ExtBlock) (vars : List BlockVars) → min (length blocks) (length vars) ≤ k
    → so_far s v y blocks vars k sum ≡ Some sum
cost_all s v y k sum blocks vars le = ap (plus sum) (by (within_min k blocks vars le)) ∙ ap (λ (n : ℕ). Some n) (omega arith)
  where
    by : (length blocks ≤ k) ⊎ (length vars ≤ k) → cost_with s v y (drop k blocks) (drop k vars) ≡ Some 0
    by (inl a) = nothing_left s v y (drop k blocks) (drop k vars) (inl (ap length (drop_past k blocks a)))
    by (inr a) = nothing_left s v y (drop k blocks) (drop k vars) (inr (ap length (drop_past k vars a)))

pub from_start : (o : Option ℕ) → plus 0 o ≡ o
from_start None = refl
from_start (Some n) = ap (λ (n : ℕ). Some n) (omega arith)
