-- A cut for each two places of a list of temporaries.
use Rattle.std.specs.Prelude.{ℕ, zero, suc, List, [], ◌∷◌, Some}
use Rattle.std.specs.declared.option.Option.{Option}
use Rattle.un_domains.specs.Sets.{Sets}
use Rattle.un_prop.specs.Places.{each_place}
use Rattle.un_prop.specs.declared.act.Temp.{Temp}

-- the cut of the item at a place; there is none past the end
abbrev pub at_place : {A : Type 0} → (A → Sets → Option Sets) → List A → ℕ → Sets → Option Sets
at_place f [] i s = Some s
at_place f (a ∷ rest) zero s = f a s
at_place f (a ∷ rest) (suc i) s = at_place f rest i s

-- the cut of each temporary before place j, with one
abbrev pub each_before : (Temp → Temp → Sets → Option Sets) → List Temp → Temp → ℕ → Sets → Option Sets
each_before f temps b j s = each_place (at_place (λ a. f a b) temps) j s

-- the cut of each two, the earlier one first, up to place n
abbrev pub each_pair : (Temp → Temp → Sets → Option Sets) → List Temp → ℕ → Sets → Option Sets
each_pair f temps n s = each_place (λ j. at_place (λ b. each_before f temps b j) temps j) n s
