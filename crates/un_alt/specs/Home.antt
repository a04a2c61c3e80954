-- A preassigned operand or result.
use Rattle.std.specs.Prelude.{ℕ, Bool, List, nat_eq, Option}
use Rattle.un_base.specs.declared.ids.VarId.{VarId}
use Rattle.un_domains.specs.Sets.{Sets, set_at, has}
use Rattle.un_prop.specs.Choices.{passes_at}
use Rattle.un_prop.specs.Among.{AllAmong}
use Rattle.un_alt.specs.Registers.{chosen_value, some_passes, choice_vars}

-- the chosen temporary has this register
abbrev pub home_holds : Option VarId → List VarId → ℕ → List ℕ → Bool
home_holds choice regs home x = some_passes (λ r. nat_eq r home) (chosen_value choice regs x)

-- its variables stand in the list
pub record HomeVars (vs : List VarId) (choice : Option VarId) (regs : List VarId) : Type 0 where
  pub of_choice : AllAmong vs (choice_vars choice)
  pub of_regs : AllAmong vs regs

-- what stands at a place can be chosen, where its register can be the home
abbrev pub home_can : List VarId → ℕ → Sets → ℕ → Bool
home_can regs home s i = passes_at (λ (v : VarId). has (set_at s v.0) home) regs i
