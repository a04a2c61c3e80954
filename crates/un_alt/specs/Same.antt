-- The register at the chosen place is that of another temporary.
use Rattle.std.specs.Prelude.{ℕ, ◌≡◌, Bool, true, List, nat_eq, slice_index, Some}
use Rattle.un_base.specs.declared.ids.VarId.{VarId}
use Rattle.std.specs.List.{list_any}
use Rattle.un_domains.specs.Sets.{Sets, set_at, has}
use Rattle.un_prop.specs.Choices.{passes_at}
use Rattle.un_prop.specs.Among.{among, AllAmong}
use Rattle.un_alt.specs.Registers.{chosen_value, some_passes}

-- the chosen temporary and the other have one register
abbrev pub same_holds : VarId → List VarId → VarId → List ℕ → Bool
same_holds choice regs to x = some_passes (λ r. nat_eq r (slice_index x to.0)) (chosen_value (Some choice) regs x)

-- its variables stand in the list
pub record SameVars (vs : List VarId) (choice : VarId) (regs : List VarId) (to : VarId) : Type 0 where
  pub of_choice : among vs choice ≡ true
  pub of_regs : AllAmong vs regs
  pub of_to : among vs to ≡ true

-- what stands at a place can be chosen, where its register can be that of the other
abbrev pub same_can : List VarId → VarId → Sets → ℕ → Bool
same_can regs to s i = passes_at (λ (v : VarId). list_any (has (set_at s to.0)) (set_at s v.0)) regs i
