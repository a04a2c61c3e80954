use Rattle.std.proofs.Common.{◌≡◌, [], ◌∷◌, ◌++◌, drop, map, None}
use Rattle.un_base.specs.declared.ids.VarId.{VarId}
use Rattle.un_kinds.specs.Constraints as constraint
use Rattle.un_sites.specs.Places.{registers_at}
use Rattle.un_sites.specs.Postings.{result_sets}
use Rattle.un_sites.specs.Sites.{definers_in}
use Rattle.un_single.proofs.post_spaces.post_results_of.Given as goal

abbrev pub invariant-loop-x : goal.invariant-loop-x
invariant-loop-x l = l.props ++ map (λ (r : VarId). constraint.Spaces l.on None (r ∷ []) (result_sets l.slots l.kind))
    (registers_at (definers_in l.sites) (drop l.x-index l.xs)) ≡ l.initial.props ++ map
    (λ (r : VarId). constraint.Spaces l.on None (r ∷ []) (result_sets l.slots l.kind)) (registers_at (definers_in l.sites) l.xs)
