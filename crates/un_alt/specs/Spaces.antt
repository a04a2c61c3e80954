-- The registers of an active operand or result lie in the set that its activity's number names.
use Rattle.std.specs.Prelude.{ℕ, Bool, not, ◌||◌, List, Option}
use Rattle.un_base.specs.declared.ids.VarId.{VarId}
use Rattle.std.specs.List.{list_any}
use Rattle.un_domains.specs.Sets.{Sets, set_at, has}
use Rattle.un_prop.specs.Looks.{act_set}
use Rattle.un_prop.specs.Among.{AllAmong}
use Rattle.un_prop.specs.Acts.{act_vars, act_number, is_active}
use Rattle.un_prop.specs.declared.act.Act.{Act}
use Rattle.un_prop.specs.Choices.{passes_at}
use Rattle.un_alt.specs.Registers.{chosen_value, some_passes, choice_vars}

-- the operation is not active, or the chosen register is in the set of its number
abbrev pub spaces_holds : Act → Option VarId → List VarId → List (List ℕ) → List ℕ → Bool
spaces_holds on choice regs sets x =
    not (is_active on x) || some_passes (λ r. passes_at (λ set. has set r) sets (act_number on x)) (chosen_value choice regs x)

-- its variables stand in the list
pub record SpacesVars (vs : List VarId) (on : Act) (choice : Option VarId) (regs : List VarId) : Type 0 where
  pub of_on : AllAmong vs (act_vars on)
  pub of_choice : AllAmong vs (choice_vars choice)
  pub of_regs : AllAmong vs regs

-- a register can be in the set of some number that is left
abbrev pub may_lie : Act → List (List ℕ) → Sets → VarId → Bool
may_lie on sets s v = list_any (passes_at (list_any (has (set_at s v.0))) sets) (act_set on s)

-- what stands at a place can be chosen, where its register can be in such a set
abbrev pub spaces_can : Act → List VarId → List (List ℕ) → Sets → ℕ → Bool
spaces_can on regs sets s i = passes_at (may_lie on sets s) regs i
