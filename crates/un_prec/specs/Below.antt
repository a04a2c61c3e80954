-- Below: the cost is less than a limit.
use Rattle.std.specs.Prelude.{ℕ, ◌≡◌, ◌+◌, ◌-◌, ◌*◌, ◌<◌, Bool, true, List, [], ◌∷◌, nat_lt, slice_index, All, option_and_then}
use Rattle.std.specs.declared.option.Option.{Option}
use Rattle.un_base.specs.declared.ids.VarId.{VarId}
use Rattle.un_domains.specs.Sets.{Sets, set_at, least, cut_by}
use Rattle.un_prop.specs.Among.{among}
use Rattle.un_prop.specs.Failing.{first_cut}
use Rattle.un_prop.specs.Rounds.{round}
use Rattle.un_prec.specs.declared.below.Weighted.{Weighted}

-- the sum over the ends of frequency times the end less 1, the ends being these
abbrev pub cost_of : List Weighted → (VarId → ℕ) → ℕ
cost_of [] f = 0
cost_of (e ∷ es) f = e.freq * (f e.end - 1) + cost_of es f

-- the cost of an assignment, and of the least ends of a store
abbrev pub cost_at : List Weighted → List ℕ → ℕ
cost_at es x = cost_of es (λ v. slice_index x v.0)

abbrev pub least_cost : List Weighted → Sets → ℕ
least_cost es s = cost_of es (λ v. least (set_at s v.0))

abbrev pub below_holds : List Weighted → ℕ → List ℕ → Bool
below_holds es limit x = nat_lt (cost_at es x) limit

-- it fails where the cost of the least ends is not below the limit
abbrev pub below_test : List Weighted → ℕ → Sets → ℕ → Bool
below_test es limit s y = nat_lt (least_cost es s) limit

-- what an end with cycle y costs more than with its least
abbrev pub more_cost : Weighted → Sets → ℕ → ℕ
more_cost e s y = e.freq * (y - 1 - (least (set_at s e.end.0) - 1))

-- an end keeps the cycles with which it costs less than the limit, all other ends being at their least
abbrev pub end_test : List Weighted → ℕ → Weighted → Sets → ℕ → Bool
end_test es limit e s y = nat_lt (least_cost es s + more_cost e s y) limit

abbrev pub end_cut : List Weighted → ℕ → Weighted → Sets → Option Sets
end_cut es limit e s = cut_by (end_test es limit e s) e.end.0 s

-- it fails, or each end keeps what the limit leaves it
abbrev pub below_steps : List VarId → List Weighted → ℕ → Sets → Option Sets
below_steps vs es limit s = option_and_then (round (end_cut es limit) es) (first_cut (below_test es limit) vs s)

-- its variables stand in the list
abbrev pub BelowVars : List VarId → List Weighted → Type 0
BelowVars vs es = All (λ (e : Weighted). among vs e.end ≡ true) es

-- the cost of the least ends is less than the limit
abbrev pub BelowStrong : List Weighted → ℕ → Sets → Type 0
BelowStrong es limit s = least_cost es s < limit
