-- What the code looks at, and what it says of it.
use Rattle.std.specs.Prelude.{ℕ, ◌≡◌, Bool, true, false, not, ◌&&◌, ◌||◌, List, length, nat_eq, slice_index, slice_set, All, None, Some}
use Rattle.std.specs.declared.option.Option.{Option}
use Rattle.un_base.specs.declared.ids.VarId.{VarId}
use Rattle.un_domains.specs.Sets.{Sets, set_at, has, least, greatest, cut_by}
use Rattle.un_prop.specs.Among.{among}
use Rattle.un_prop.specs.Last.{point}
use Rattle.un_rect.specs.Apart.{pair_holds, check_pair, clash_test}
use Rattle.un_prop.specs.declared.act.Act.{Act}
use Rattle.un_prop.specs.declared.act.Act.TheVariants.{Always, Var as ActVar}
use Rattle.un_prop.specs.declared.act.Temp.{Temp}

-- an activity is surely off
abbrev pub is_off : Act → Sets → Bool
is_off Always s = false
is_off (ActVar v) s = nat_eq (greatest (set_at s v.0)) 0

-- two variables have one value each, and not the same
abbrev pub differ : VarId → VarId → Sets → Bool
differ u v s = nat_eq (length (set_at s u.0)) 1 && (nat_eq (length (set_at s v.0)) 1 && not
    (nat_eq (least (set_at s u.0)) (least (set_at s v.0))))

-- one of two temporaries is off, or their registers differ
abbrev pub surely_apart : Temp → Temp → Sets → Bool
surely_apart a b s = is_off a.on s || (is_off b.on s || differ a.reg b.reg s)

-- the least value of each variable is written at its place
abbrev pub Written : List VarId → Sets → List ℕ → Type 0
Written vs s fixed = All (λ v. slice_index fixed v.0 ≡ least (set_at s v.0)) vs

-- the variable v keeps the values for which two temporaries are apart, the others having the least ones of a store
abbrev pub decide_cut : Temp → Temp → VarId → Sets → Sets → Option Sets
decide_cut a b v s t = cut_by (λ y. pair_holds a b (slice_set (point s) v.0 y)) v.0 t

-- it loses the value y, unless they are apart for it and the numbers that are written
abbrev pub try_cut : Temp → Temp → VarId → ℕ → List ℕ → Sets → Option Sets
try_cut a b v y fixed s = cut_by (λ z. not (nat_eq z y) || pair_holds a b (slice_set fixed v.0 y)) v.0 s

-- the variable that is left to decide, or none where there is nothing to check
abbrev pub IsUndecided : List VarId → Temp → Temp → Sets → Option VarId → Type 0
IsUndecided vs a b s None = check_pair vs a b s ≡ Some s
IsUndecided vs a b s (Some v) = (among vs v ≡ true) × (check_pair vs a b s ≡ decide_cut a b v s s)

-- the register that may not stay with b, or none where each may
abbrev pub IsClash : Temp → Temp → Sets → Option ℕ → Type 0
IsClash a b s None = (y : ℕ) → has (set_at s b.reg.0) y ≡ true → clash_test a b s y ≡ true
IsClash a b s (Some r) = (y : ℕ) → clash_test a b s y ≡ not (nat_eq y r)
