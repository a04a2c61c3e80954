-- The words of `gen`.
use Rattle.std.specs.Prelude.{ℕ, ◌≡◌, ◌<◌, ◌≤◌, ◌^◌, List, [], ◌∷◌, codes, decimal}
use Rattle.un_commands.specs.declared.command.TheConstants.{MOST_SIZE}
use Rattle.un_commands.specs.Places.{StandsAt}
use Rattle.un_commands.specs.Settings.{IsCountOfNodes}

-- how many blocks a function that is made may have
abbrev pub IsSize : ℕ → Type 0
IsSize size = (1 ≤ size) × (size ≤ MOST_SIZE)

-- `gen SEED SIZE`
pub record IsGenerate (words : List (List ℕ)) (seed size : ℕ) : Type 0 where
  pub seed_fits : seed < 2 ^ 64
  pub size_in : IsSize size
  pub spelled : words ≡ codes "gen" ∷ decimal seed ∷ decimal size ∷ []

-- `gen SEED SIZE --nodes N`
pub record IsGenerateAlloc (words : List (List ℕ)) (seed size nodes : ℕ) : Type 0 where
  pub seed_fits : seed < 2 ^ 64
  pub size_in : IsSize size
  pub nodes_in : IsCountOfNodes nodes
  pub spelled : words ≡ codes "gen" ∷ decimal seed ∷ decimal size ∷ codes "--nodes" ∷ decimal nodes ∷ []

-- the words begin with `gen`, a seed and a size
pub record AsksFor (words : List (List ℕ)) (seed size : ℕ) : Type 0 where
  pub gen : StandsAt words 0 (codes "gen")
  pub seed_at : StandsAt words 1 (decimal seed)
  pub size_at : StandsAt words 2 (decimal size)
  pub seed_fits : seed < 2 ^ 64
  pub size_in : IsSize size
