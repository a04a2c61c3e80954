-- Where pressure is overfull: more values that cross a call than there is room for, and two values in a cycle that has room for one.
use Rattle.std.proofs.Common.{ℕ, ◌≡◌, List, [], ◌∷◌, length, refl, arith}
use Rattle.std.proofs.lemmas.List.Elements.{All-from_recursion}
use Rattle.un_base.specs.declared.ids.VarId.{VarId}
use Rattle.un_domains.specs.Sets.{Sets, set_at}
use Rattle.un_prop.specs.declared.act.At.TheVariants.{Var}
use Rattle.un_press.specs.declared.live.Span.{Span}
use Rattle.un_kinds.specs.Constraints.{Live, Across}
use Rattle.un_kinds.specs.Scopes.{vars_of}
use Rattle.un_post.specs.Posts.{AreSingle, IsOverfull}

abbrev v : ℕ → VarId
v n = record { 0 = n }

-- ---- a call

abbrev nothing : Sets
nothing = []

one_too_many : IsOverfull nothing (Across (v 0) 7 6)
one_too_many = refl

as_many_as_fit : IsOverfull nothing (Across (v 0) 6 6) → ⊥
as_many_as_fit full = cc full

-- ---- a block: two values are defined in cycles 1 and 2, and read in cycle 4

abbrev spans : List Span
spans = record { def = Var (v 0); uses = Var (v 2) ∷ [] } ∷ record { def = Var (v 1); uses = Var (v 2) ∷ [] } ∷ []

abbrev fixed : Sets
fixed = (1 ∷ []) ∷ (2 ∷ []) ∷ (4 ∷ []) ∷ []

all_fixed : AreSingle fixed (vars_of (Live spans 1 5))
all_fixed = All-from_recursion (λ (w : VarId). length (set_at fixed w.0) ≡ 1) (vars_of (Live spans 1 5))
    (refl, (refl, (refl, (refl, tt))))

-- both are there in cycle 2
two_in_one : IsOverfull fixed (Live spans 1 5)
two_in_one = (all_fixed, refl)

room_for_both : IsOverfull fixed (Live spans 2 5) → ⊥
room_for_both full = cc full.1

-- no cycle before it has both
too_early : IsOverfull fixed (Live spans 1 2) → ⊥
too_early full = cc full.1

-- nor is that known where the read may be later
not_fixed : IsOverfull ((1 ∷ []) ∷ (2 ∷ []) ∷ (4 ∷ 5 ∷ []) ∷ []) (Live spans 1 5) → ⊥
not_fixed full = omega (arith, full.0 1 (v 0) (omega arith))
