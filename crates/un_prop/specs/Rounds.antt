-- What rounds of propagators do, by what each does.
use Rattle.std.specs.Prelude.{ℕ, zero, suc, ◌<◌, cond, List, [], ◌∷◌, length, nat_eq, Some, option_and_then, All}
use Rattle.std.specs.declared.option.Option.{Option}
use Rattle.un_domains.specs.Sets.{Sets, total}
use Rattle.un_base.specs.declared.ids.VarId.{VarId}

-- one round: each in its turn, until one fails
abbrev pub round : {P : Type 0} → (P → Sets → Option Sets) → List P → Sets → Option Sets
round cut [] s = Some s
round cut (p ∷ ps) s = option_and_then (round cut ps) (cut p s)

-- at most n rounds, until one changes nothing
abbrev pub rounds : {P : Type 0} → (P → Sets → Option Sets) → ℕ → List P → Sets → Option Sets
rounds cut zero ps s = Some s
rounds cut (suc n) ps s = option_and_then (λ t. cond (nat_eq (total t) (total s)) (Some s) (rounds cut n ps t)) (round cut ps s)

-- rounds until one fails or changes nothing
abbrev pub fix_of : {P : Type 0} → (P → Sets → Option Sets) → List P → Sets → Option Sets
fix_of cut ps s = rounds cut (suc (total s)) ps s

-- the sets have each of these variables
abbrev pub HasVars : List VarId → Sets → Type 0
HasVars vs s = All (λ v. v.0 < length s) vs
