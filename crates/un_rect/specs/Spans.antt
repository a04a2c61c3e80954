-- When a temporary starts and ends by an assignment, and what a store says of it.
use Rattle.std.specs.Prelude.{ℕ, ◌≡◌, ◌≤◌, ◌<◌, ◌+◌, Bool, true, cond, ◌&&◌, List, [], ◌∷◌, length, max, nat_eq, All, Option, None, Some}
use Rattle.un_base.specs.declared.ids.VarId.{VarId}
use Rattle.un_domains.specs.Sets.{Sets, set_at, has, least, greatest}
use Rattle.un_prop.specs.Among.{among, AllAmong}
use Rattle.un_prop.specs.Acts.{act_vars, at_vars, at_value, is_user}
use Rattle.un_prop.specs.Looks.{at_set, sure}
use Rattle.un_prop.specs.declared.act.UserOf.{UserOf}
use Rattle.un_prop.specs.declared.act.Temp.{Temp}

-- By an assignment

-- a temporary starts at its definer's time
abbrev pub starts : Temp → List ℕ → ℕ
starts a x = at_value a.at x

-- the time of a user that reads it, or 0
abbrev pub use_time : List ℕ → UserOf → ℕ
use_time x u = cond (is_user u x) (at_value u.at x) 0

-- the largest time of the users that read it, or 0
abbrev pub last_use : List UserOf → List ℕ → ℕ
last_use [] x = 0
last_use (u ∷ us) x = max (use_time x u) (last_use us x)

-- it ends at the largest time of its users, and after its start
abbrev pub ends : Temp → List ℕ → ℕ
ends a x = max (starts a x + 1) (last_use a.users x)

-- By a store

abbrev pub least_start : Temp → Sets → ℕ
least_start a s = least (at_set a.at s)

abbrev pub greatest_start : Temp → Sets → ℕ
greatest_start a s = greatest (at_set a.at s)

-- the number is the one value that is left
abbrev pub is_only : List ℕ → ℕ → Bool
is_only xs n = nat_eq (length xs) 1 && nat_eq (least xs) n

-- a choice, where there is one, has this one value left
abbrev pub sure_choice : Option VarId → ℕ → Sets → Bool
sure_choice None n s = true
sure_choice (Some v) n s = is_only (set_at s v.0) n

-- a user surely reads its temporary
abbrev pub sure_user : UserOf → Sets → Bool
sure_user u s = sure u.on s && sure_choice u.choice u.value s

-- the least time of a sure user, or 0
abbrev pub sure_use : Sets → UserOf → ℕ
sure_use s u = cond (sure_user u s) (least (at_set u.at s)) 0

-- the largest of the least times of the sure users, or 0
abbrev pub last_sure_use : List UserOf → Sets → ℕ
last_sure_use [] s = 0
last_sure_use (u ∷ us) s = max (sure_use s u) (last_sure_use us s)

-- a choice, where there is one, may have this value
abbrev pub may_choose : Option VarId → ℕ → Sets → Bool
may_choose None n s = true
may_choose (Some v) n s = has (set_at s v.0) n

-- the time of an active user as far as it bears on what comes behind its temporary: the greatest where it surely reads it, the least
-- where it may
abbrev pub reading_time : Sets → UserOf → ℕ
reading_time s u = cond (sure_choice u.choice u.value s) (greatest (at_set u.at s))
    (cond (may_choose u.choice u.value s) (least (at_set u.at s)) 0)

-- the same, or 0 where it is not surely active
abbrev pub sure_reading : Sets → UserOf → ℕ
sure_reading s u = cond (sure u.on s) (reading_time s u) 0

-- the largest of these times, or 0
abbrev pub last_reading : List UserOf → Sets → ℕ
last_reading [] s = 0
last_reading (u ∷ us) s = max (sure_reading s u) (last_reading us s)

-- the least end
abbrev pub least_end : Temp → Sets → ℕ
least_end a s = max (least_start a s + 1) (last_sure_use a.users s)

-- the greatest time of a user that may choose its temporary, or 0
abbrev pub possible_use : Sets → UserOf → ℕ
possible_use s u = cond (may_choose u.choice u.value s) (greatest (at_set u.at s)) 0

-- the largest of these times, or 0
abbrev pub last_possible_use : List UserOf → Sets → ℕ
last_possible_use [] s = 0
last_possible_use (u ∷ us) s = max (possible_use s u) (last_possible_use us s)

-- the greatest end
abbrev pub greatest_end : Temp → Sets → ℕ
greatest_end a s = max (greatest_start a s + 1) (last_possible_use a.users s)

-- a sure temporary surely occupies the times from its greatest start to its least end. Where its start is fixed, that is one of them
abbrev pub SurelyOccupies : Temp → ℕ → Sets → Type 0
SurelyOccupies a t s = (sure a.on s ≡ true) × (greatest_start a s ≤ t) × (t < least_end a s)

-- Its variables

abbrev pub choice_vars : Option VarId → List VarId
choice_vars None = []
choice_vars (Some v) = v ∷ []

-- they stand in the list
pub record UserVars (vs : List VarId) (u : UserOf) : Type 0 where
  pub of_on : AllAmong vs (act_vars u.on)
  pub of_at : AllAmong vs (at_vars u.at)
  pub of_choice : AllAmong vs (choice_vars u.choice)

pub record TempVars (vs : List VarId) (a : Temp) : Type 0 where
  pub of_on : AllAmong vs (act_vars a.on)
  pub of_at : AllAmong vs (at_vars a.at)
  pub of_reg : among vs a.reg ≡ true
  pub of_users : All (UserVars vs) a.users
