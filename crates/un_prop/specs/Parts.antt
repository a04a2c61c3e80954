-- The parts of a predicate, and what forward checking of one means.
use Rattle.std.specs.Prelude.{ℕ, ◌≡◌, ◌≢◌, Bool, true, ◌&&◌, List, [], ◌∷◌, length, All, Some, slice_index}
use Rattle.std.specs.declared.option.Option.{Option}
use Rattle.un_base.specs.declared.ids.VarId.{VarId}
use Rattle.un_domains.specs.Sets.{Sets, set_at, IsIn, NoneEmpty}
use Rattle.un_prop.specs.Rounds.{HasVars}

-- a part of a predicate: the variables that it reads, and whether an assignment meets it
pub record Part : Type 0 where
  pub vars : List VarId
  pub meets : List ℕ → Bool

-- an assignment meets all parts
abbrev pub all_meet : List Part → List ℕ → Bool
all_meet [] x = true
all_meet (p ∷ ps) x = p.meets x && all_meet ps x

-- the assignments take the same value for each of these variables
abbrev pub SameAt : List VarId → List ℕ → List ℕ → Type 0
SameAt vs x y = All (λ v. slice_index x v.0 ≡ slice_index y v.0) vs

-- where all variables of the part but v have one value, each value of v that is left meets the part. A part of a predicate
-- that reads no variable is met
abbrev pub ChecksForward : Part → List VarId → (Sets → Option Sets) → Type 0
ChecksForward part scope cut = (s t : Sets) (v : ℕ) (x : List ℕ) → HasVars scope s → NoneEmpty s
    → (length scope ≡ 0 → (y : List ℕ) → part.meets y ≡ true)
    → All (λ w. w.0 ≢ v → length (set_at s w.0) ≡ 1) part.vars → cut s ≡ Some t → IsIn x t → part.meets x ≡ true
