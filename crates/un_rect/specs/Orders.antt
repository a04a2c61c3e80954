-- Of two sure temporaries with the same one register left, where one cannot end before the other starts, the other comes first.
use Rattle.std.specs.Prelude.{ℕ, ◌-◌, Bool, cond, not, ◌&&◌, ◌||◌, List, length, nat_eq, nat_le, nat_lt, Option, None, Some}
use Rattle.std.specs.Prelude.{option_and_then}
use Rattle.un_base.specs.declared.ids.VarId.{VarId}
use Rattle.un_domains.specs.Sets.{Sets, set_at, cut_by, least}
use Rattle.un_prop.specs.Looks.{at_set, sure}
use Rattle.un_prop.specs.Places.{each_place}
use Rattle.un_prop.specs.declared.act.At.{At}
use Rattle.un_prop.specs.declared.act.At.TheVariants.{Const, Var}
use Rattle.un_prop.specs.declared.act.UserOf.{UserOf}
use Rattle.un_prop.specs.declared.act.Temp.{Temp}
use Rattle.un_rect.specs.Spans.{greatest_start, is_only, sure_user, least_end}
use Rattle.un_rect.specs.Pairs.{at_place, each_pair}

-- both have the same one register left
abbrev pub share_one : Temp → Temp → Sets → Bool
share_one a b s = nat_eq (length (set_at s a.reg.0)) 1 && is_only (set_at s b.reg.0) (least (set_at s a.reg.0))

-- the second cannot end before the first starts, so the first comes first
abbrev pub comes_first : Temp → Temp → Sets → Bool
comes_first a b s = share_one a b s && (sure a.on s && (sure b.on s && nat_lt (greatest_start a s) (least_end b s)))

-- a variable of a time or of a choice keeps the values that pass, where there is one
abbrev pub time_cut : (Sets → ℕ → Bool) → At → Sets → Option Sets
time_cut q (Const n) s = Some s
time_cut q (Var v) s = cut_by (q s) v.0 s

abbrev pub choice_cut : (Sets → ℕ → Bool) → Option VarId → Sets → Option Sets
choice_cut q None s = Some s
choice_cut q (Some v) s = cut_by (q s) v.0 s

-- the second starts no sooner than the first can end, and the first starts before the second
abbrev pub late_test : Temp → Sets → ℕ → Bool
late_test a s y = nat_le (least_end a s) y

abbrev pub early_test : Temp → Sets → ℕ → Bool
early_test b s y = nat_le y (greatest_start b s - 1)

-- a sure user of the first is no later than the start of the second
abbrev pub user_test : Temp → UserOf → Sets → ℕ → Bool
user_test b u s y = not (sure_user u s) || nat_le y (greatest_start b s)

-- a user is surely active, and later than the start of the second
abbrev pub sure_late : Temp → UserOf → Sets → Bool
sure_late b u s = sure u.on s && nat_lt (greatest_start b s) (least (at_set u.at s))

-- such a user does not read the first
abbrev pub reader_test : Temp → UserOf → Sets → ℕ → Bool
reader_test b u s y = not (sure u.on s && (nat_lt (greatest_start b s) (least (at_set u.at s)) && nat_eq y u.value))

abbrev pub reader_cut : Temp → UserOf → Sets → Option Sets
reader_cut b u s = choice_cut (reader_test b u) u.choice s

abbrev pub user_cut : Temp → UserOf → Sets → Option Sets
user_cut b u s = option_and_then (reader_cut b u) (time_cut (user_test b u) u.at s)

abbrev pub users_cut : Temp → List UserOf → ℕ → Sets → Option Sets
users_cut b us n s = each_place (at_place (user_cut b) us) n s

abbrev pub order_steps : Temp → Temp → Sets → Option Sets
order_steps a b s = option_and_then (users_cut b a.users (length a.users)) (option_and_then (time_cut (early_test b) a.at)
    (time_cut (late_test a) b.at s))

abbrev pub order_cut : Temp → Temp → Sets → Option Sets
order_cut a b s = cond (comes_first a b s) (order_steps a b s) (Some s)

-- and the other way round
abbrev pub order_pair : Temp → Temp → Sets → Option Sets
order_pair a b s = option_and_then (order_cut b a) (order_cut a b s)

abbrev pub orders_cut : List Temp → Sets → Option Sets
orders_cut temps s = each_pair order_pair temps (length temps) s
