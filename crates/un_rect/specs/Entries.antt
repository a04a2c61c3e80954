-- Cuts by the entry at a place of a list, and cuts by the one place that a choice has left.
use Rattle.std.specs.Prelude.{ℕ, zero, suc, List, [], ◌∷◌, length, Some}
use Rattle.std.specs.declared.option.Option.{Option}
use Rattle.un_base.specs.declared.ids.VarId.{VarId}
use Rattle.un_domains.specs.Sets.{Sets, set_at}
use Rattle.un_prop.specs.Places.{each_place}

-- the cut of the entry at a place; past the end nothing is cut
abbrev pub entry_cut : {A : Type 0} → (A → Sets → Option Sets) → List A → ℕ → Sets → Option Sets
entry_cut f [] i s = Some s
entry_cut f (a ∷ rest) zero s = f a s
entry_cut f (a ∷ rest) (suc i) s = entry_cut f rest i s

-- the cut of each entry, in order
abbrev pub each_entry : {A : Type 0} → (A → Sets → Option Sets) → List A → Sets → Option Sets
each_entry f xs s = each_place (entry_cut f xs) (length xs) s

-- the cut of the one value, where there is one alone
abbrev pub at_only : (ℕ → Sets → Option Sets) → List ℕ → Sets → Option Sets
at_only f [] s = Some s
at_only f (i ∷ []) s = f i s
at_only f (i ∷ j ∷ is) s = Some s

abbrev pub where_fixed : (ℕ → Sets → Option Sets) → VarId → Sets → Option Sets
where_fixed f v s = at_only f (set_at s v.0) s
