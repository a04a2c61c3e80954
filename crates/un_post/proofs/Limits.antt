-- The cost is less than a limit exactly where the constraint of the limit is met.
use Rattle.std.proofs.Common.{ℕ, ◌≡◌, ◌↔◌, ◌+◌, ◌<◌, List, [], ◌∷◌, refl, ap}
use Rattle.std.specs.Prelude.{Option, Some, None, IfSome, nat_lt}
use Rattle.un_ir.specs.declared.extended.ExtBlock.{ExtBlock}
use Rattle.un_model.specs.declared.model.BlockVars.{BlockVars}
use Rattle.un_model.specs.declared.model.Model.{Model}
use Rattle.un_model.specs.declared.model.Solution.{Solution}
use Rattle.un_model.specs.Cost.{block_cost, blocks_cost, cost_of}
use Rattle.un_prec.specs.Below.{cost_at}
use Rattle.un_kinds.specs.Constraints.{AllMet, Below}
use Rattle.un_sites.specs.Postings.{ends_by, limit_of}
use Rattle.un_post.proofs.Meeting.{met_all, all_met}
use Rattle.un_post.proofs.Tests.{iff_then, lt_iff, met_one}

same_cost : (x : List ℕ) (blocks : List ExtBlock) (vars : List BlockVars) → cost_at (ends_by blocks vars) x ≡ blocks_cost x blocks vars
same_cost x [] vars = refl
same_cost x (block ∷ blocks) [] = refl
same_cost x (block ∷ blocks) (v ∷ vars) = ap (λ n. block_cost x block v + n) (same_cost x blocks vars)

pub limits : (m : Model) (s : Solution) (limit : Option ℕ) → IfSome limit (λ n. cost_of m s < n) ↔ AllMet (limit_of m limit) s.values
limits m s None = (λ h. all_met s.values [] tt, λ h. tt)
limits m s (Some n) =
    let ends = ends_by m.ext.blocks m.blocks in
    let one = met_one s.values (Below ends n) (nat_lt (cost_of m s) n) (ap (λ c. nat_lt c n) (same_cost s.values m.ext.blocks m.blocks)) in
    let whole = iff_then (lt_iff (cost_of m s) n) one in (
      λ h. all_met s.values (Below ends n ∷ []) (whole.0 h),
      λ h. whole.1 (met_all s.values (Below ends n ∷ []) h),
    )
