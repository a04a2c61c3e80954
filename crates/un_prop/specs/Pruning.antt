-- What a pruning does to a store.
use Rattle.std.specs.Prelude.{ℕ, ◌≡◌, ◌≢◌, ◌<◌, ◌≤◌, List, length, All}
use Rattle.std.specs.declared.option.Option.{Option}
use Rattle.std.specs.Prelude.{None, Some}
use Rattle.un_base.specs.declared.ids.VarId.{VarId}
use Rattle.un_domains.specs.Sets.{Sets, set_at, total, NoneEmpty}
use Rattle.un_domains.specs.Cuts.{Contents}
use Rattle.un_prop.specs.declared.propagator.Pruned.{Pruned}
use Rattle.un_prop.specs.declared.propagator.Pruned.TheVariants.{Same, Tighter, Failed}
use Rattle.un_prop.specs.declared.propagator.Scratch.{Scratch}
use Rattle.un_prop.specs.declared.run.Fix.{Fix}
use Rattle.un_prop.specs.declared.run.Fix.TheVariants.{Stable, Failed as Lost}

-- the answer for the sets that are left
abbrev pub Answers : Pruned → Sets → Sets → Type 0
Answers Same old left = left ≡ old
Answers Tighter old left = total left < total old
Answers Failed old left = ⊥

-- the sets that are left
pub record Leaves (old new : Sets) (answer : Pruned) (left : Sets) : Type 0 where
  pub sets : new ≡ left
  pub live : NoneEmpty left
  pub answers : Answers answer old left

-- the answer, and the sets afterwards, are the cut's; where it fails, some set is empty
abbrev pub Ends : Option Sets → Sets → Sets → Pruned → Type 0
Ends None old new answer = (answer ≡ Failed) × (NoneEmpty new → ⊥)
Ends (Some left) old new answer = Leaves old new answer left

-- the other variables and the marked sets are as they were
pub record Untouched (vs : List VarId) (old new : Contents) : Type 0 where
  pub long : length new.sets ≡ length old.sets
  pub marked : new.marked ≡ old.marked
  pub others : (w : ℕ) → All (λ v. w ≢ v.0) vs → set_at new.sets w ≡ set_at old.sets w

-- a pruning of these variables by this cut
pub record IsPrune (vs : List VarId) (c : Option Sets) (old new : Contents) (answer : Pruned) : Type 0 where
  pub ends : Ends c old.sets new.sets answer
  pub untouched : Untouched vs old new

-- the rounds failed, or stopped at these sets
abbrev pub IsFix : Option Sets → Sets → Fix → Type 0
IsFix None new answer = (answer ≡ Lost) × (NoneEmpty new → ⊥)
IsFix (Some left) new answer = (answer ≡ Stable) × (new ≡ left) × NoneEmpty left

-- there is room for these variables and this span of cycles
pub record HasRoom (vars span : ℕ) (scratch : Scratch) : Type 0 where
  pub fixed : vars ≤ length scratch.fixed.items
  pub cycles : span ≤ length scratch.cycles.items

-- what two prunings did together
abbrev pub join : Pruned → Pruned → Pruned
join Same second = second
join Tighter Same = Tighter
join Tighter Tighter = Tighter
join Tighter Failed = Failed
join Failed second = Failed
