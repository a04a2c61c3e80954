-- Reads: an active user issues late enough after the definer of the temporary that it chooses.
use Rattle.std.specs.Prelude.{ℕ, ◌≡◌, ◌+◌, ◌^◌, ◌≤◌, Bool, true, false, not, ◌&&◌, ◌||◌, List, [], ◌∷◌, nat_le, slice_index, slice_get}
use Rattle.std.specs.Prelude.{Some}
use Rattle.std.specs.Prelude.{option_and_then, All, None}
use Rattle.std.specs.declared.option.Option.{Option}
use Rattle.std.specs.List.{list_any}
use Rattle.un_base.specs.declared.ids.VarId.{VarId}
use Rattle.un_domains.specs.Sets.{Sets, set_at, has, least, greatest}
use Rattle.un_prop.specs.Among.{among, AllAmong}
use Rattle.un_prop.specs.Acts.{act_vars, act_number, is_active, at_vars, at_value}
use Rattle.un_prop.specs.Choices.{passes_at}
use Rattle.un_prop.specs.Looks.{at_set, act_set, sure}
use Rattle.un_prop.specs.Places.{places_in, choice_steps, each_place}
use Rattle.un_prop.specs.When.{is_only, when_test}
use Rattle.un_prop.specs.declared.act.Act.{Act}
use Rattle.un_prop.specs.declared.act.At.{At}
use Rattle.un_prec.specs.Links.{at_cut}
use Rattle.un_prec.specs.declared.reads.ReadAlt.{ReadAlt}

-- a user at t is late enough after a definer, by the gap of the definer's number
abbrev pub is_late : ℕ → List ℕ → ReadAlt → Bool
is_late t x a = passes_at (λ g. nat_le (at_value a.at x + g) t) a.gaps (act_number a.on x)

-- the user is not active, or late enough after the definer that it chooses
abbrev pub reads_holds : At → Act → VarId → List ReadAlt → List ℕ → Bool
reads_holds user on choice alts x = not (is_active on x) || passes_at (is_late (at_value user x) x) alts (slice_index x choice.0)

-- a user at t may be late enough after a definer, which issues as early as it can with a number that is left
abbrev pub may_be_late : Sets → ℕ → ReadAlt → Bool
may_be_late s t a = list_any (λ n. passes_at (λ g. nat_le (least (at_set a.at s) + g) t) a.gaps n) (act_set a.on s)

-- the definer at a place can be chosen, where the user may be late enough at its greatest time
abbrev pub reads_can : At → List ReadAlt → Sets → ℕ → Bool
reads_can user alts s i = passes_at (may_be_late s (greatest (at_set user s))) alts i

-- a user at t may be late enough after a definer that is left to choose
abbrev pub may_read : VarId → List ReadAlt → Sets → ℕ → Bool
may_read choice alts s t = list_any (passes_at (may_be_late s t) alts) (set_at s choice.0)

-- a sure user has such a time
abbrev pub soon_test : Act → VarId → List ReadAlt → Sets → ℕ → Bool
soon_test on choice alts s y = not (sure on s) || (nat_le (2 ^ 32) y || may_read choice alts s y)

-- so the time of a sure user and the places of its choice
abbrev pub user_steps : At → Act → VarId → List ReadAlt → Sets → Option Sets
user_steps user on choice alts s =
    option_and_then (choice_steps on choice (reads_can user alts) (places_in alts)) (at_cut (soon_test on choice alts) user s)

-- a definer at t is early enough for the greatest time of the user, by the gap of some number that it has left
abbrev pub is_in_time : At → ReadAlt → Sets → ℕ → Bool
is_in_time user a s t = list_any (λ n. passes_at (λ g. nat_le (t + g) (greatest (at_set user s))) a.gaps n) (act_set a.on s)

-- the user is sure, and place i alone is left to choose
abbrev pub must_read : Act → VarId → ℕ → Sets → Bool
must_read on choice i s = sure on s && is_only choice i s

-- then the definer there is in time
abbrev pub early_of : At → (Sets → Bool) → Option ReadAlt → Sets → Option Sets
early_of user so None s = Some s
early_of user so (Some a) s = at_cut (when_test so (is_in_time user a)) a.at s

abbrev pub early_cut : At → Act → VarId → List ReadAlt → ℕ → Sets → Option Sets
early_cut user on choice alts i s = early_of user (must_read on choice i) (slice_get alts i) s

abbrev pub reads_steps : At → Act → VarId → List ReadAlt → Sets → Option Sets
reads_steps user on choice alts s =
    option_and_then (each_place (early_cut user on choice alts) (places_in alts)) (user_steps user on choice alts s)

-- as the code has it: a time ends by high, by the least gap, where there is one
abbrev pub ends_by : Option ℕ → ℕ → ℕ → Bool
ends_by None high y = false
ends_by (Some g) high y = nat_le (y + g) high

-- its variables stand in the list
pub record ReadAltVars (vs : List VarId) (a : ReadAlt) : Type 0 where
  pub of_at : AllAmong vs (at_vars a.at)
  pub of_on : AllAmong vs (act_vars a.on)

pub record ReadsVars (vs : List VarId) (user : At) (on : Act) (choice : VarId) (alts : List ReadAlt) : Type 0 where
  pub of_user : AllAmong vs (at_vars user)
  pub of_on : AllAmong vs (act_vars on)
  pub of_choice : among vs choice ≡ true
  pub of_alts : All (ReadAltVars vs) alts

-- where the user is sure and its choice has one value, its least time is at least the definer's least time plus the gap of some
-- number that the definer has left, and so plus the least of these gaps
abbrev pub ReadsStrong : At → Act → VarId → List ReadAlt → Sets → Type 0
ReadsStrong user on choice alts s = sure on s ≡ true → (i : ℕ) (a : ReadAlt) → set_at s choice.0 ≡ i ∷ [] → slice_get alts i ≡ Some a
    → (n : ℕ) × (g : ℕ) × (has (act_set a.on s) n ≡ true) × (slice_get a.gaps n ≡ Some g) ×
    (least (at_set a.at s) + g ≤ least (at_set user s))
