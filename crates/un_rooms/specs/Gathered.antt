-- A list of users for each of some temporaries that have consecutive numbers.
use Rattle.std.specs.Prelude.{ℕ, ◌≡◌, ◌+◌, ◌≤◌, ◌<◌, List, ◌++◌, map}
use Rattle.std.specs.List.{range_with_len}
use Rattle.un_base.specs.declared.ids.TempId.{TempId}
use Rattle.un_ir.specs.Extended.{temp}
use Rattle.un_prop.specs.declared.act.Temp.{Temp}
use Rattle.un_prop.specs.declared.act.UserOf.{UserOf}
use Rattle.un_sites.specs.Places.{Definer, act_of, time_of}

-- what f gives of each of n temporaries from `first` on
abbrev pub gathered : ℕ → ℕ → (TempId → List UserOf) → List (List UserOf)
gathered first n f = map (λ (k : ℕ). f (temp k)) (range_with_len first n)

-- the list of each temporary, from `first` on, has become longer by what g gives of it
abbrev pub Gathers : ℕ → (TempId → List UserOf) → List (List UserOf) → List (List UserOf) → Type 0
Gathers first g before after = (f : TempId → List UserOf) (n : ℕ) → before ≡ gathered first n f
    → after ≡ gathered first n (λ (t : TempId). f t ++ g t)

-- one of n temporaries from `first` on
abbrev pub IsAmong : ℕ → ℕ → TempId → Type 0
IsAmong first n t = (first ≤ t.0) × (t.0 < first + n)

-- a temporary with this definer and these users
abbrev pub temp_with : Definer → List UserOf → Temp
temp_with d users = record { on = act_of d.place; at = time_of d.place; reg = d.reg; users = users }
