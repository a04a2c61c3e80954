-- What a store says of times and activities.
use Rattle.std.specs.Prelude.{ℕ, ◌≡◌, ◌<◌, ◌^◌, Bool, true, not, List, [], ◌∷◌}
use Rattle.un_domains.specs.Sets.{Sets, set_at, has}
use Rattle.un_prop.specs.declared.act.Act.{Act}
use Rattle.un_prop.specs.declared.act.Act.TheVariants.{Always, Var as ActVar}
use Rattle.un_prop.specs.declared.act.At.{At}
use Rattle.un_prop.specs.declared.act.At.TheVariants.{Const, Var}

-- the values that a time has
abbrev pub at_set : At → Sets → List ℕ
at_set (Const n) s = n ∷ []
at_set (Var v) s = set_at s v.0

-- the numbers that an activity has
abbrev pub act_set : Act → Sets → List ℕ
act_set Always s = 1 ∷ []
act_set (ActVar v) s = set_at s v.0

-- an activity is sure where its number cannot be 0
abbrev pub sure : Act → Sets → Bool
sure Always s = true
sure (ActVar v) s = not (has (set_at s v.0) 0)

-- all values are below 2^32, as those of a store are
abbrev pub InWords : Sets → Type 0
InWords s = (v y : ℕ) → has (set_at s v) y ≡ true → y < 2 ^ 32
