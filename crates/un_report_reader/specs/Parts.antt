-- Words and numbers at the front of a text.
use Rattle.std.specs.Prelude.{ℕ, ◌≡◌, ◌≢◌, ◌≤◌, List, ◌∷◌, ◌++◌, All, decimal}

-- what stands between first bytes and the first byte `end` behind them, and what stands behind that
pub record IsField (text start : List ℕ) (end : ℕ) (word rest : List ℕ) : Type 0 where
  pub whole : text ≡ start ++ (word ++ end ∷ rest)
  pub none : All (λ y. y ≢ end) word

-- the number between first bytes and a byte, and what stands behind that
abbrev pub IsNumber : List ℕ → List ℕ → ℕ → ℕ → List ℕ → Type 0
IsNumber text start end n rest = text ≡ start ++ (decimal n ++ end ∷ rest)

abbrev pub IsWithin : ℕ → ℕ → ℕ → Type 0
IsWithin least most n = (least ≤ n) × (n ≤ most)
