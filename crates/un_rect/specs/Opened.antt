-- Which variables of a list have other than one value: none, one alone, or more.
use Rattle.std.specs.Prelude.{◌≡◌, ◌≢◌, Bool, true, false, cond, List, [], ◌∷◌, nat_eq}
use Rattle.un_base.specs.declared.ids.VarId.{VarId}
use Rattle.un_domains.specs.Sets.{Sets}
use Rattle.un_prop.specs.Last.{is_open}
use Rattle.un_rect.specs.declared.opened.Opened.{Opened}
use Rattle.un_rect.specs.declared.opened.Opened.TheVariants.{Nothing, One, More}

-- with one more that is open
abbrev pub opened_with : Opened → VarId → Opened
opened_with Nothing v = One v
opened_with (One u) v = cond (nat_eq u.0 v.0) (One u) More
opened_with More v = More

-- with one more variable
abbrev pub opened_at : Sets → Opened → VarId → Opened
opened_at s o v = cond (is_open s v) (opened_with o v) o

-- with those of a list
abbrev pub opened_after : Sets → List VarId → Opened → Opened
opened_after s [] o = o
opened_after s (v ∷ vs) o = opened_after s vs (opened_at s o v)

-- whether there are more than one
abbrev pub is_more : Opened → Bool
is_more Nothing = false
is_more (One v) = false
is_more More = true

-- what it says of the variables that are meant
abbrev pub Says : (VarId → Bool) → Sets → Opened → Type 0
Says m s Nothing = (u : VarId) → m u ≡ true → is_open s u ≡ false
Says m s (One v) = (m v ≡ true) × (is_open s v ≡ true) × ((u : VarId) → m u ≡ true → is_open s u ≡ true → u.0 ≡ v.0)
Says m s More = (u : VarId) × (w : VarId) × (m u ≡ true) × (m w ≡ true) × (is_open s u ≡ true) × (is_open s w ≡ true) × (u.0 ≢ w.0)
