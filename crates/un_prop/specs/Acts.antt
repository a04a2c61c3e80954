-- What activities, times, users and temporaries mean.
use Rattle.std.specs.Prelude.{ℕ, ◌≡◌, ◌≤◌, ◌<◌, ◌⊎◌, Bool, true, not, ◌&&◌, List, [], ◌∷◌, length, nat_eq, slice_index}
use Rattle.std.specs.Prelude.{slice_index_or, Option, None, Some}
use Rattle.un_base.specs.declared.ids.VarId.{VarId}
use Rattle.un_prop.specs.declared.act.Act.{Act}
use Rattle.un_prop.specs.declared.act.Act.TheVariants.{Always, Var as ActVar}
use Rattle.un_prop.specs.declared.act.At.{At}
use Rattle.un_prop.specs.declared.act.At.TheVariants.{Const, Var}
use Rattle.un_prop.specs.declared.act.UserOf.{UserOf}
use Rattle.un_prop.specs.declared.act.Temp.{Temp}

-- the variable of an activity, if it has one
abbrev pub act_vars : Act → List VarId
act_vars Always = []
act_vars (ActVar v) = v ∷ []

-- its number: 1 for always, and else the variable's value
abbrev pub act_number : Act → List ℕ → ℕ
act_number Always x = 1
act_number (ActVar v) x = slice_index x v.0

-- it is active where its number is not 0
abbrev pub is_active : Act → List ℕ → Bool
is_active on x = not (nat_eq (act_number on x) 0)

-- the variable of a time, if it has one
abbrev pub at_vars : At → List VarId
at_vars (Const n) = []
at_vars (Var v) = v ∷ []

-- its value
abbrev pub at_value : At → List ℕ → ℕ
at_value (Const n) x = n
at_value (Var v) x = slice_index x v.0

-- whether a choice, where there is one, is the number
abbrev pub chooses : Option VarId → ℕ → List ℕ → Bool
chooses None n x = true
chooses (Some v) n x = nat_eq (slice_index x v.0) n

-- whether a user reads its temporary
abbrev pub is_user : UserOf → List ℕ → Bool
is_user u x = is_active u.on x && chooses u.choice u.value x

-- a temporary whose definer is active occupies its register at time t: at its definer's, or from then to before some user's
abbrev pub Occupies : Temp → ℕ → List ℕ → Type 0
Occupies a t x =
    (is_active a.on x ≡ true) × (at_value a.at x ≤ t)
    × ((t ≡ at_value a.at x) ⊎ ((i : ℕ) × (i < length a.users) × ((d : UserOf) → (is_user (slice_index_or a.users i d) x ≡ true)
    × (t < at_value (slice_index_or a.users i d).at x))))
