-- The rounds of what is asked for: they follow from what propagators ask for alone, whichever propagators those are.
use Rattle.std.specs.Prelude.{List, [], ◌∷◌, cond, nat_eq, nat_lt}
use Rattle.std.specs.declared.option.Option.{Option}
use Rattle.un_base.specs.declared.ids.VarId.{VarId}
use Rattle.un_domains.specs.Sets.{Sets}
use Rattle.un_prop.specs.Rounds.{fix_of}
use Rattle.un_kinds.specs.Constraints.{Constraint}
use Rattle.un_kinds.specs.Cuts.{cut_with}
use Rattle.un_kinds.specs.Scopes.{vars_of}

-- a variable put among rising ones, once
abbrev pub put : VarId → List VarId → List VarId
put u [] = u ∷ []
put u (v ∷ vs) = cond (nat_lt u.0 v.0) (u ∷ v ∷ vs) (cond (nat_eq u.0 v.0) (v ∷ vs) (v ∷ put u vs))

-- these variables, rising, each once
abbrev pub rising : List VarId → List VarId
rising [] = []
rising (u ∷ us) = put u (rising us)

-- what something that is asked for leaves
abbrev pub cut_for : Constraint → Sets → Option Sets
cut_for c s = cut_with c (rising (vars_of c)) s

-- what the rounds of what is asked for leave
abbrev pub fix_by : List Constraint → Sets → Option Sets
fix_by cs s = fix_of cut_for cs s
