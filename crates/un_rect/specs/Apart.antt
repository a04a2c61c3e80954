-- Apart: two active temporaries with one register do not occupy it in one cycle.
use Rattle.std.specs.Prelude.{ℕ, ◌≡◌, ◌≢◌, ◌<◌, Bool, true, false, not, ◌&&◌, ◌||◌, List, [], ◌∷◌, ◌++◌, length, filter, map, nat_eq}
use Rattle.std.specs.Prelude.{nat_le, nat_lt, slice_index, slice_index_or, All, option_and_then}
use Rattle.std.specs.declared.option.Option.{Option}
use Rattle.std.specs.List.{list_all}
use Rattle.un_base.specs.declared.ids.VarId.{VarId}
use Rattle.un_domains.specs.Sets.{Sets, set_at, has, cut_by}
use Rattle.un_prop.specs.Among.{among}
use Rattle.un_prop.specs.Acts.{act_vars, at_vars, is_active, Occupies}
use Rattle.un_prop.specs.Last.{last_cut}
use Rattle.un_prop.specs.Looks.{sure}
use Rattle.un_prop.specs.Parts.{Part}
use Rattle.un_prop.specs.declared.act.UserOf.{UserOf}
use Rattle.un_prop.specs.declared.act.Temp.{Temp}
use Rattle.un_rect.specs.Spans.{starts, ends, greatest_start, is_only, least_end, SurelyOccupies, choice_vars, TempVars}
use Rattle.un_rect.specs.Pairs.{each_before, each_pair}
use Rattle.un_rect.specs.Orders.{orders_cut}

-- two temporaries are active and have one register
abbrev pub shares : Temp → Temp → List ℕ → Bool
shares a b x = is_active a.on x && (is_active b.on x && nat_eq (slice_index x a.reg.0) (slice_index x b.reg.0))

-- they do not, or one ends before the other starts
abbrev pub pair_holds : Temp → Temp → List ℕ → Bool
pair_holds a b x = not (shares a b x) || (nat_le (ends a x) (starts b x) || nat_le (ends b x) (starts a x))

-- so are each two of a list
abbrev pub apart_holds : List Temp → List ℕ → Bool
apart_holds [] x = true
apart_holds (a ∷ rest) x = list_all (λ b. pair_holds a b x) rest && apart_holds rest x

-- no two active temporaries with one register occupy it in one cycle
abbrev pub IsApart : List Temp → List ℕ → Type 0
IsApart temps x = (i j t : ℕ) (d : Temp) → i < j → j < length temps
    → slice_index x (slice_index_or temps i d).reg.0 ≡ slice_index x (slice_index_or temps j d).reg.0
    → Occupies (slice_index_or temps i d) t x → Occupies (slice_index_or temps j d) t x → ⊥

-- The variables of a temporary

abbrev pub user_vars : UserOf → List VarId
user_vars u = act_vars u.on ++ (at_vars u.at ++ choice_vars u.choice)

abbrev pub users_vars : List UserOf → List VarId
users_vars [] = []
users_vars (u ∷ us) = user_vars u ++ users_vars us

abbrev pub temp_vars : Temp → List VarId
temp_vars a = a.reg ∷ (act_vars a.on ++ (at_vars a.at ++ users_vars a.users))

-- of a list, those of either temporary
abbrev pub pair_vars : List VarId → Temp → Temp → List VarId
pair_vars vs a b = filter (among (temp_vars a ++ temp_vars b)) vs

-- one part for each two temporaries
abbrev pub pair_part : List VarId → Temp → Temp → Part
pair_part vs a b = record { vars = pair_vars vs a b; meets = pair_holds a b }

abbrev pub apart_parts : List VarId → List Temp → List Part
apart_parts vs [] = []
apart_parts vs (a ∷ rest) = map (pair_part vs a) rest ++ apart_parts vs rest

-- The cut

-- neither can end before the other starts
abbrev pub overlap : Temp → Temp → Sets → Bool
overlap a b s = nat_lt (greatest_start b s) (least_end a s) && nat_lt (greatest_start a s) (least_end b s)

-- and both are sure
abbrev pub sure_overlap : Temp → Temp → Sets → Bool
sure_overlap a b s = sure a.on s && (sure b.on s && overlap a b s)

-- where both are sure and overlap, the one register that is left of a goes from b
abbrev pub clash_test : Temp → Temp → Sets → ℕ → Bool
clash_test a b s y = not (is_only (set_at s a.reg.0) y && sure_overlap a b s)

abbrev pub clash_cut : Temp → Temp → Sets → Option Sets
clash_cut a b s = cut_by (clash_test a b s) b.reg.0 s

-- and the other way round
abbrev pub clash_pair : Temp → Temp → Sets → Option Sets
clash_pair a b s = option_and_then (clash_cut b a) (clash_cut a b s)

abbrev pub clashes_cut : List Temp → Sets → Option Sets
clashes_cut temps s = each_pair clash_pair temps (length temps) s

-- where one variable of two temporaries is left to decide, it keeps the values that meet their part
abbrev pub check_pair : List VarId → Temp → Temp → Sets → Option Sets
check_pair vs a b s = last_cut (pair_vars vs a b) (pair_holds a b) s

abbrev pub check_row : List VarId → List Temp → Temp → ℕ → Sets → Option Sets
check_row vs temps b n s = each_before (check_pair vs) temps b n s

abbrev pub checks_cut : List VarId → List Temp → Sets → Option Sets
checks_cut vs temps s = each_pair (check_pair vs) temps (length temps) s

-- all that is known of the bounds, and then the checks
abbrev pub bounds_cut : List Temp → Sets → Option Sets
bounds_cut temps s = option_and_then (orders_cut temps) (clashes_cut temps s)

abbrev pub apart_cut : List VarId → List Temp → Sets → Option Sets
apart_cut vs temps s = option_and_then (checks_cut vs temps) (bounds_cut temps s)

-- its variables stand in the list
abbrev pub ApartVars : List VarId → List Temp → Type 0
ApartVars vs temps = All (TempVars vs) temps

-- where two sure temporaries surely occupy a common cycle and one has one register left, the other has lost that register
abbrev pub ApartStrong : List Temp → Sets → Type 0
ApartStrong temps s = (i j t r : ℕ) (d : Temp) → i ≢ j → i < length temps → j < length temps
    → SurelyOccupies (slice_index_or temps i d) t s → SurelyOccupies (slice_index_or temps j d) t s
    → set_at s (slice_index_or temps i d).reg.0 ≡ r ∷ [] → has (set_at s (slice_index_or temps j d).reg.0) r ≡ false
