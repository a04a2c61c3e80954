-- Cuts of a variable where something is so of the store.
use Rattle.std.specs.Prelude.{ℕ, ◌≡◌, Bool, true, not, ◌&&◌, ◌||◌, List, length, nat_eq, nat_le}
use Rattle.std.specs.declared.option.Option.{Option}
use Rattle.un_base.specs.declared.ids.VarId.{VarId}
use Rattle.un_domains.specs.Sets.{Sets, set_at, least, cut_by, NoneEmpty}
use Rattle.un_domains.specs.Order.{Below}
use Rattle.un_prop.specs.Lawful.{Agree}
use Rattle.un_prop.specs.Rounds.{HasVars}

-- n is the only value left of v
abbrev pub is_only : VarId → ℕ → Sets → Bool
is_only v n s = nat_eq (length (set_at s v.0)) 1 && nat_eq (least (set_at s v.0)) n

-- where it is so, v keeps the values that pass
abbrev pub when_test : (Sets → Bool) → (Sets → ℕ → Bool) → Sets → ℕ → Bool
when_test so q s y = not (so s) || q s y

abbrev pub when_cut : (Sets → Bool) → (Sets → ℕ → Bool) → VarId → Sets → Option Sets
when_cut so q v s = cut_by (when_test so q s) v.0 s

-- the values other than n, and those up to n
abbrev pub other_than : ℕ → Sets → ℕ → Bool
other_than n s y = not (nat_eq y n)

abbrev pub up_to : ℕ → Sets → ℕ → Bool
up_to n s y = nat_le y n

-- what is so of a store is so where less is left, and is read off these variables alone
pub record LawfulFact (vs : List VarId) (so : Sets → Bool) : Type 0 where
  pub grows : (t s : Sets) → HasVars vs s → NoneEmpty t → Below t s → so s ≡ true → so t ≡ true
  pub local : (s t : Sets) → Agree vs s t → so s ≡ so t
