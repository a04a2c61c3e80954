-- The propagators of a limit, put in the places of those of a higher one: what is posted then is what is posted under the lower limit.
use Rattle.std.specs.Prelude.{ℕ, ◌≡◌, ◌+◌, ◌<◌, ◌≤◌, List, Option, Some, None, IfSome, All, length, map, slice_index_or, slice_set}
use Rattle.un_domains.specs.Sets.{Sets, NoneEmpty}
use Rattle.un_model.specs.declared.model.Model.{Model}
use Rattle.un_prop.specs.Rounds.{HasVars}
use Rattle.un_kinds.specs.AnyProps.{constraint_of, cut_of, scope_of, span_of}
use Rattle.un_kinds.specs.Constraints.{Constraint, Below}
use Rattle.un_kinds.specs.Scopes.{IsTight}
use Rattle.un_kinds.specs.declared.any.AnyProp.{AnyProp}
use Rattle.un_sites.specs.Postings.{ends_by, postings_of}
use Rattle.un_post.specs.Listed.{all_postings_of}
use Rattle.un_post.specs.declared.lower.Lowered.{Lowered}

-- the cost is less than a limit
abbrev pub cost_below : Model → ℕ → Constraint
cost_below m limit = Below (ends_by m.ext.blocks m.blocks) limit

-- where a limit's propagator stands: behind what is posted of single operations, edges and the frame
abbrev pub limit_place : Model → ℕ
limit_place m = length (postings_of m None)

-- in the place of another one in a list a propagator of the same variables, which leaves no sets as they are that the one there changes
pub record IsTighter (ps : List AnyProp) (at : ℕ) (p : AnyProp) : Type 0 where
  pub there : at < length ps
  pub scope : scope_of p ≡ scope_of (slice_index_or ps at p)
  pub span : span_of p ≤ span_of (slice_index_or ps at p)
  pub stricter : (s : Sets) → NoneEmpty s → HasVars (scope_of p) s → cut_of p s ≡ Some s → cut_of (slice_index_or ps at p) s ≡ Some s

-- a list with those of a limit, of which the cost's stands at this place, and the rows behind it
abbrev pub with_counted : List AnyProp → ℕ → Option AnyProp → List AnyProp
with_counted ps at None = ps
with_counted ps at (Some p) = slice_set ps at p

abbrev pub with_lower : List AnyProp → ℕ → Lowered → List AnyProp
with_lower ps at l = with_counted (slice_set ps at l.cost) (at + 1) l.counted

-- each of them may stand in its place
pub record AreTighter (ps : List AnyProp) (at : ℕ) (l : Lowered) : Type 0 where
  pub cost : IsTighter ps at l.cost
  pub counted : IfSome l.counted (IsTighter (slice_set ps at l.cost) (at + 1))

-- and with them the list is what is posted under a limit
pub record IsLowering (m : Model) (limit : ℕ) (ps : List AnyProp) (l : Lowered) : Type 0 where
  pub tighter : AreTighter ps (limit_place m) l
  pub asks : map constraint_of (with_lower ps (limit_place m) l) ≡ all_postings_of m (Some limit)
  pub tight : All IsTight (with_lower ps (limit_place m) l)
