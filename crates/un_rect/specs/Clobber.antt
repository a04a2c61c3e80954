-- Calls leave a temporary its register.
use Rattle.std.specs.Prelude.{ℕ, ◌≡◌, ◌<◌, Bool, true, false, not, ◌&&◌, ◌||◌, List, [], ◌∷◌, ◌++◌, length, filter, map, nat_eq, nat_le}
use Rattle.std.specs.Prelude.{nat_lt, slice_index, slice_index_or, slice_set, All, option_and_then, None, Some}
use Rattle.std.specs.declared.option.Option.{Option}
use Rattle.std.specs.List.{list_any, list_all}
use Rattle.un_base.specs.declared.ids.VarId.{VarId}
use Rattle.un_domains.specs.Sets.{Sets, set_at, has, cut_by, least, greatest}
use Rattle.un_isa.specs.Tables.{in_mask}
use Rattle.un_prop.specs.Acts.{is_active, is_user}
use Rattle.un_prop.specs.Among.{among}
use Rattle.un_prop.specs.Last.{last_cut, point}
use Rattle.un_prop.specs.Looks.{sure}
use Rattle.un_prop.specs.Parts.{Part}
use Rattle.un_prop.specs.Places.{act_cut}
use Rattle.un_prop.specs.declared.act.Temp.{Temp}
use Rattle.un_prop.specs.declared.act.UserOf.{UserOf}
use Rattle.un_rect.specs.Apart.{temp_vars, users_vars}
use Rattle.un_rect.specs.Entries.{each_entry}
use Rattle.un_rect.specs.Spans.{starts, ends, greatest_start, least_end, sure_user, SurelyOccupies, UserVars}
use Rattle.un_rect.specs.declared.clobber.ClobberCall.{ClobberCall}

-- a temporary does not live across a call: it starts after the call's cycle or ends by then and, where it is defined before the call
-- for sure, no user reads it that is behind the call for sure
abbrev pub avoids : Temp → ClobberCall → List ℕ → Bool
avoids a c x = (nat_lt (slice_index x c.at.0) (starts a x) || nat_le (ends a x) (slice_index x c.at.0))
    && not (c.before && list_any (λ (u : UserOf). is_user u x) c.behind)

-- a call spares a temporary: that is inactive, or has a register outside the mask, or does not live across the call
abbrev pub spares : ℕ → Temp → ClobberCall → List ℕ → Bool
spares mask a c x = not (is_active a.on x && in_mask mask (slice_index x a.reg.0)) || avoids a c x

-- each call of the list spares the temporary
abbrev pub clobber_holds : ℕ → Temp → List ClobberCall → List ℕ → Bool
clobber_holds mask a calls x = list_all (λ c. spares mask a c x) calls

-- Its variables and parts

-- they stand in the list
pub record CallVars (vs : List VarId) (c : ClobberCall) : Type 0 where
  pub of_at : among vs c.at ≡ true
  pub of_behind : All (UserVars vs) c.behind

-- of a list, those that tell whether a call spares a temporary
abbrev pub call_vars : List VarId → Temp → ClobberCall → List VarId
call_vars vs a c = filter (among (temp_vars a ++ (c.at ∷ users_vars c.behind))) vs

-- one part for each call
abbrev pub call_part : List VarId → ℕ → Temp → ClobberCall → Part
call_part vs mask a c = record { vars = call_vars vs a c; meets = spares mask a c }

abbrev pub clobber_parts : List VarId → ℕ → Temp → List ClobberCall → List Part
clobber_parts vs mask a calls = map (call_part vs mask a) calls

-- What a store says

-- some register is left outside the mask
abbrev pub may_survive : ℕ → Temp → Sets → Bool
may_survive mask a s = list_any (λ r. not (in_mask mask r)) (set_at s a.reg.0)

-- the call is in the temporary's time for sure
abbrev pub covers : Temp → ClobberCall → Sets → Bool
covers a c s = nat_le (greatest_start a s) (least (set_at s c.at.0)) && nat_lt (greatest (set_at s c.at.0)) (least_end a s)

-- it is defined before the call for sure, and read behind it for sure
abbrev pub is_read_behind : ClobberCall → Sets → Bool
is_read_behind c s = c.before && list_any (λ u. sure_user u s) c.behind

-- where it is active, it lives across the call for sure
abbrev pub lasts : Temp → ClobberCall → Sets → Bool
lasts a c s = covers a c s || is_read_behind c s

-- The cut

-- where it is active and lives across the call for sure, no register of the mask is left
abbrev pub hit_test : ℕ → Temp → ClobberCall → Sets → ℕ → Bool
hit_test mask a c s y = not (in_mask mask y && (sure a.on s && lasts a c s))

abbrev pub hit_cut : ℕ → Temp → ClobberCall → Sets → Option Sets
hit_cut mask a c s = cut_by (hit_test mask a c s) a.reg.0 s

-- where it lives across the call for sure and no register is left outside the mask, it is inactive
abbrev pub off_test : ℕ → Temp → ClobberCall → Sets → ℕ → Bool
off_test mask a c s y = not (not (nat_eq y 0) && (not (may_survive mask a s) && lasts a c s))

abbrev pub off_cut : ℕ → Temp → ClobberCall → Sets → Option Sets
off_cut mask a c s = act_cut (off_test mask a c) a.on s

-- where it is active and no register is left outside the mask, the call has no cycle that is in the temporary's time for sure
abbrev pub cycle_test : ℕ → Temp → Sets → ℕ → Bool
cycle_test mask a s y = not ((nat_le (greatest_start a s) y && nat_lt y (least_end a s)) && (sure a.on s && not (may_survive mask a s)))

abbrev pub cycle_cut : ℕ → Temp → ClobberCall → Sets → Option Sets
cycle_cut mask a c s = cut_by (cycle_test mask a s) c.at.0 s

-- and where it is defined before the call for sure, a user behind the call does not choose it
abbrev pub reader_test : ℕ → Temp → ClobberCall → UserOf → Sets → ℕ → Bool
reader_test mask a c u s y = not (nat_eq y u.value && (c.before && ((sure a.on s && sure u.on s) && not (may_survive mask a s))))

abbrev pub choice_cut : (Sets → ℕ → Bool) → Option VarId → Sets → Option Sets
choice_cut q None s = Some s
choice_cut q (Some v) s = cut_by (q s) v.0 s

abbrev pub reader_cut : ℕ → Temp → ClobberCall → UserOf → Sets → Option Sets
reader_cut mask a c u s = choice_cut (reader_test mask a c u) u.choice s

-- all that is known of a call, and of all
abbrev pub call_steps : ℕ → Temp → ClobberCall → Sets → Option Sets
call_steps mask a c s = option_and_then (each_entry (reader_cut mask a c) c.behind)
    (option_and_then (cycle_cut mask a c) (option_and_then (off_cut mask a c) (hit_cut mask a c s)))

-- where one variable of a part is left to decide, it keeps the values that meet the part
abbrev pub check_call : List VarId → ℕ → Temp → ClobberCall → Sets → Option Sets
check_call vs mask a c s = last_cut (call_vars vs a c) (spares mask a c) s

abbrev pub clobber_cut : List VarId → ℕ → Temp → List ClobberCall → Sets → Option Sets
clobber_cut vs mask a calls s = option_and_then (each_entry (check_call vs mask a) calls) (each_entry (call_steps mask a) calls s)

-- where the temporary is sure and a call's cycle has one value that it surely occupies, no register of the mask is left for it
abbrev pub ClobberStrong : ℕ → Temp → List ClobberCall → Sets → Type 0
ClobberStrong mask a calls s = (i t r : ℕ) (d : ClobberCall) → i < length calls → set_at s (slice_index_or calls i d).at.0 ≡ t ∷ []
    → SurelyOccupies a t s
    → has (set_at s a.reg.0) r ≡ true → in_mask mask r ≡ false

-- the variable of a call's part that is left to decide, or none where there is nothing to check
abbrev pub IsOpen : List VarId → ℕ → Temp → ClobberCall → Sets → Option VarId → Type 0
IsOpen vs mask a c s None = check_call vs mask a c s ≡ Some s
IsOpen vs mask a c s (Some v) =
    (among vs v ≡ true) × (check_call vs mask a c s ≡ cut_by (λ y. spares mask a c (slice_set (point s) v.0 y)) v.0 s)
