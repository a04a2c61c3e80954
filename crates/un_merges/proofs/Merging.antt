-- What a merge changes: values, sum and cost.
use Rattle.std.proofs.Common.{◌≡◌, ℕ, ◌+◌, ◌-◌, ◌≤◌, ◌<◌, Bool, true, false, List, get_or, set, sum, refl, ap, ◌∙◌, arith}
use Rattle.std.specs.Prelude.{◌||◌}
use Rattle.std.specs.List.{list_any}
use Rattle.std.proofs.lemmas.Bool.{eq-eqb}
use Rattle.un_model.specs.declared.model.OpVars.{OpVars}
use Rattle.un_model.specs.declared.model.BlockVars.{BlockVars}
use Rattle.un_model.specs.declared.model.Model.{Model}
use Rattle.un_model.specs.declared.model.Solution.{Solution}
use Rattle.un_model.specs.Cost.{value_of, cost_of}
use Rattle.un_model.specs.Pairs.{places_from}
use Rattle.un_merges.specs.Merges.{is_number, is_cycle, lowered, merged}
use Rattle.un_merges.specs.Lowered.{AreLowered}
use Rattle.un_merges.proofs.Lowering.{lower_step, places_same, lowered_below, inside, sum_falls, cost_no_more, ends_below}

-- the values whose cycles and end are lowered are those of the merge
pub block_lowered : (vars : BlockVars) (t : ℕ) (old new next : List ℕ) → AreLowered vars.ops t old new
    → (t < get_or old vars.end.0 0 → next ≡ set new vars.end.0 (get_or old vars.end.0 0 - 1))
    → (get_or old vars.end.0 0 ≤ t → next ≡ new) → next ≡ places_from (lowered (is_cycle vars) t) 0 old
unfolding AreLowered
block_lowered vars t old new next h up same =
    let all = lower_step (λ k. list_any (λ (o : OpVars). is_number k o.cycle) vars.ops) vars.end.0 t old new next h up same in
    places_same (lowered (is_cycle vars) t) old next all.long all.each

pub merged_cost : (m : Model) (vars : BlockVars) (t : ℕ) (s : Solution) → cost_of m (merged vars t s) ≤ cost_of m s
unfolding merged
merged_cost m vars t s = cost_no_more (places_from (lowered (is_cycle vars) t) 0 s.values) s.values m.ext.blocks m.blocks
    (ends_below (places_from (lowered (is_cycle vars) t) 0 s.values) s.values (lowered_below (is_cycle vars) t s.values) m.blocks)

or_true : (b : Bool) → (b || true) ≡ true
or_true true = refl
or_true false = refl

end_is_cycle : (vars : BlockVars) → is_cycle vars (0 + vars.end.0) ≡ true
end_is_cycle vars =
    let e : 0 + vars.end.0 ≡ vars.end.0 = omega arith in
    ap (is_cycle vars) e ∙
    ap (λ b. list_any (λ (o : OpVars). is_number vars.end.0 o.cycle) vars.ops || b) (eq-eqb vars.end.0 vars.end.0 refl) ∙
    or_true (list_any (λ (o : OpVars). is_number vars.end.0 o.cycle) vars.ops)

pub merged_sum : (vars : BlockVars) (t : ℕ) (s : Solution) → t < value_of s.values vars.end → sum (merged vars t s).values < sum s.values
unfolding merged
merged_sum vars t s h =
    sum_falls (is_cycle vars) t 0 vars.end.0 s.values (inside s.values vars.end.0 (omega (arith, h))) (end_is_cycle vars) h

pub merged_end : (vars : BlockVars) (t : ℕ) (s : Solution) → value_of (merged vars t s).values vars.end ≤ value_of s.values vars.end
unfolding merged
merged_end vars t s = lowered_below (is_cycle vars) t s.values vars.end.0
