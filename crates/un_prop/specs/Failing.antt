-- Cuts that fail, by the first variable of a list.
use Rattle.std.specs.Prelude.{ℕ, Bool, false, List, [], ◌∷◌, Some}
use Rattle.std.specs.declared.option.Option.{Option}
use Rattle.un_base.specs.declared.ids.VarId.{VarId}
use Rattle.un_domains.specs.Sets.{Sets, cut_by}

-- the first variable keeps the values that pass
abbrev pub first_cut : (Sets → ℕ → Bool) → List VarId → Sets → Option Sets
first_cut q [] s = Some s
first_cut q (v ∷ vs) s = cut_by (q s) v.0 s

-- the first variable keeps no value
abbrev pub fail_cut : List VarId → Sets → Option Sets
fail_cut vs s = first_cut (λ s y. false) vs s
