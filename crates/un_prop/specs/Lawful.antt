-- What a cut owes to the order of stores.
use Rattle.std.specs.Prelude.{ℕ, ◌≡◌, ◌≢◌, Bool, true, List, length, None, Some, MatchOption, ⊤, All}
use Rattle.std.specs.declared.option.Option.{Option}
use Rattle.un_base.specs.declared.ids.VarId.{VarId}
use Rattle.un_domains.specs.Sets.{Sets, set_at, NoneEmpty}
use Rattle.un_domains.specs.Order.{Below}
use Rattle.un_prop.specs.Rounds.{HasVars}

-- what fails is below all
abbrev pub BelowOption : Option Sets → Option Sets → Type 0
BelowOption None d = ⊤
BelowOption (Some t) None = ⊥
BelowOption (Some t) (Some s) = Below t s

-- the stores have the same sets for these variables
abbrev pub Agree : List VarId → Sets → Sets → Type 0
Agree vs s t = All (λ v. set_at s v.0 ≡ set_at t v.0) vs

-- both fail, or both leave the same sets for these variables
abbrev pub AgreeOption : List VarId → Option Sets → Option Sets → Type 0
AgreeOption vs None None = ⊤
AgreeOption vs None (Some t) = ⊥
AgreeOption vs (Some s) None = ⊥
AgreeOption vs (Some s) (Some t) = Agree vs s t

-- a cut that takes values away, is monotone, and reads and cuts these variables alone
pub record Lawful (vs : List VarId) (f : Sets → Option Sets) : Type 0 where
  pub shrinks : (s : Sets) → HasVars vs s → NoneEmpty s → MatchOption (f s) ⊤ (λ t. Below t s × NoneEmpty t)
  pub monotone : (t s : Sets) → HasVars vs s → NoneEmpty t → NoneEmpty s → Below t s → BelowOption (f t) (f s)
  pub local : (s t : Sets) → HasVars vs s → NoneEmpty s → NoneEmpty t → length t ≡ length s → Agree vs s t → AgreeOption vs (f s) (f t)
  pub outside : (s : Sets) (w : ℕ) → All (λ v. w ≢ v.0) vs → MatchOption (f s) ⊤ (λ t. set_at t w ≡ set_at s w)

-- a test of one variable's values that reads the store passes less where less is left, and reads these variables alone
pub record LawfulTest (vs : List VarId) (q : Sets → ℕ → Bool) : Type 0 where
  pub monotone : (t s : Sets) (y : ℕ) → HasVars vs s → NoneEmpty t → Below t s → q t y ≡ true → q s y ≡ true
  pub local : (s t : Sets) (y : ℕ) → Agree vs s t → q s y ≡ q t y
