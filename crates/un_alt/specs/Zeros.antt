-- The variables of an inactive operation.
use Rattle.std.specs.Prelude.{ℕ, ◌≡◌, Bool, true, not, ◌&&◌, ◌||◌, List, [], ◌∷◌, nat_eq, slice_index, option_and_then, All}
use Rattle.std.specs.declared.option.Option.{Option}
use Rattle.std.specs.List.{list_any}
use Rattle.un_base.specs.declared.ids.VarId.{VarId}
use Rattle.un_domains.specs.Sets.{Sets, set_at, has}
use Rattle.un_prop.specs.Rounds.{round}
use Rattle.un_prop.specs.When.{is_only, when_cut, other_than, up_to}
use Rattle.un_prop.specs.Among.{among, AllAmong}

-- all of these are 0
abbrev pub all_zero : List VarId → List ℕ → Bool
all_zero [] x = true
all_zero (v ∷ vs) x = nat_eq (slice_index x v.0) 0 && all_zero vs x

-- the instruction is not 0, or all the others are 0
abbrev pub zeros_holds : VarId → List VarId → List ℕ → Bool
zeros_holds instr others x = not (nat_eq (slice_index x instr.0) 0) || all_zero others x

-- a variable that cannot be 0
abbrev pub is_live : VarId → Sets → Bool
is_live v s = not (has (set_at s v.0) 0)

abbrev pub some_live : List VarId → Sets → Bool
some_live others s = list_any (λ v. is_live v s) others

-- where 0 alone is left of the instruction, a variable is 0
abbrev pub zero_cut : VarId → VarId → Sets → Option Sets
zero_cut instr v s = when_cut (is_only instr 0) (up_to 0) v s

-- where another variable cannot be 0, the instruction is not 0; and where 0 alone is left of it, all others are 0
abbrev pub zeros_steps : VarId → List VarId → Sets → Option Sets
zeros_steps instr others s = option_and_then (round (zero_cut instr) others) (when_cut (some_live others) (other_than 0) instr s)

-- what is so of a store that it leaves as it is
pub record ZerosStrong (instr : VarId) (others : List VarId) (s : Sets) : Type 0 where
  pub idle : is_only instr 0 s ≡ true → All (λ v. (y : ℕ) → has (set_at s v.0) y ≡ true → y ≡ 0) others
  pub active : some_live others s ≡ true → is_live instr s ≡ true

-- its variables stand in the list
pub record ZerosVars (vs : List VarId) (instr : VarId) (others : List VarId) : Type 0 where
  pub of_instr : among vs instr ≡ true
  pub of_others : AllAmong vs others
