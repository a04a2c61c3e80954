-- An active operand chooses an active temporary.
use Rattle.std.specs.Prelude.{ℕ, Bool, not, ◌&&◌, ◌||◌, List, slice_index, slice_index_or, nat_lt, All, ◌≡◌, true, option_and_then}
use Rattle.std.specs.declared.option.Option.{Option}
use Rattle.un_base.specs.declared.ids.VarId.{VarId}
use Rattle.un_domains.specs.Sets.{Sets, greatest}
use Rattle.un_prop.specs.Places.{act_cut, each_place, choice_steps, places_in}
use Rattle.un_prop.specs.When.{is_only, when_test, other_than}
use Rattle.un_prop.specs.declared.act.Act.TheVariants.{Always}
use Rattle.un_prop.specs.Looks.{act_set, sure}
use Rattle.un_prop.specs.Among.{among, AllAmong}
use Rattle.un_prop.specs.Acts.{act_vars, is_active}
use Rattle.un_prop.specs.declared.act.Act.{Act}
use Rattle.un_prop.specs.Choices.{passes_at}

-- the user is not active, or the temporary at the chosen place is
abbrev pub chosen_holds : Act → VarId → List Act → List ℕ → Bool
chosen_holds user choice alts x = not (is_active user x) || passes_at (λ a. is_active a x) alts (slice_index x choice.0)

-- its variables stand in the list
pub record ChosenVars (vs : List VarId) (user : Act) (choice : VarId) (alts : List Act) : Type 0 where
  pub of_user : AllAmong vs (act_vars user)
  pub of_choice : among vs choice ≡ true
  pub of_alts : All (λ a. AllAmong vs (act_vars a)) alts

-- a definer can be active, where its greatest number is not 0
abbrev pub may_be_active : Sets → Act → Bool
may_be_active s a = nat_lt 0 (greatest (act_set a s))

-- what stands at a place can be chosen, where it can be active
abbrev pub chosen_can : List Act → Sets → ℕ → Bool
chosen_can alts s i = passes_at (may_be_active s) alts i

-- the user is sure, and place i alone is left to choose
abbrev pub must_choose : Act → VarId → ℕ → Sets → Bool
must_choose user choice i s = sure user s && is_only choice i s

-- then the definer there is active
abbrev pub definer_cut : Act → VarId → List Act → ℕ → Sets → Option Sets
definer_cut user choice alts i s = act_cut (when_test (must_choose user choice i) (other_than 0)) (slice_index_or alts i Always) s

-- places whose definer cannot be active go, and then the definer at the only place is active
abbrev pub chosen_steps : Act → VarId → List Act → Sets → Option Sets
chosen_steps user choice alts s =
    option_and_then (each_place (definer_cut user choice alts) (places_in alts)) (choice_steps user choice (chosen_can alts) (places_in
    alts) s)
