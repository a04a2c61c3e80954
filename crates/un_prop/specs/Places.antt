-- Filters of a choice, which names a place of a list: places whose entry cannot be chosen go.
use Rattle.std.specs.Prelude.{ℕ, zero, suc, ◌^◌, Bool, not, ◌||◌, List, length, min, nat_eq, Some, option_and_then}
use Rattle.std.specs.declared.option.Option.{Option}
use Rattle.std.specs.List.{list_any}
use Rattle.un_base.specs.declared.ids.VarId.{VarId}
use Rattle.un_domains.specs.Sets.{Sets, set_at, cut_by}
use Rattle.un_prop.specs.Looks.{sure}
use Rattle.un_prop.specs.declared.act.Act.{Act}
use Rattle.un_prop.specs.declared.act.Act.TheVariants.{Always, Var as ActVar}

-- a cut for each place below n, in order
abbrev pub each_place : (ℕ → Sets → Option Sets) → ℕ → Sets → Option Sets
each_place f zero s = Some s
each_place f (suc n) s = option_and_then (f n) (each_place f n s)

-- the places of a list that a word can name
abbrev pub places_in : {A : Type 0} → List A → ℕ
places_in xs = min (length xs) (2 ^ 32)

-- where the user is sure, place i goes unless it can be chosen
abbrev pub place_test : Act → (Sets → ℕ → Bool) → ℕ → Sets → ℕ → Bool
place_test on can i s y = not (nat_eq y i) || (not (sure on s) || can s i)

abbrev pub place_cut : Act → VarId → (Sets → ℕ → Bool) → ℕ → Sets → Option Sets
place_cut on choice can i s = cut_by (place_test on can i s) choice.0 s

-- where no place can be chosen, the user is inactive
abbrev pub idle_test : VarId → (Sets → ℕ → Bool) → Sets → ℕ → Bool
idle_test choice can s y = nat_eq y 0 || list_any (can s) (set_at s choice.0)

abbrev pub act_cut : (Sets → ℕ → Bool) → Act → Sets → Option Sets
act_cut q Always s = Some s
act_cut q (ActVar v) s = cut_by (q s) v.0 s

-- all that is known of a choice
abbrev pub choice_steps : Act → VarId → (Sets → ℕ → Bool) → ℕ → Sets → Option Sets
choice_steps on choice can n s = option_and_then (act_cut (idle_test choice can) on) (each_place (place_cut on choice can) n s)
