-- Entries of lists at a chosen place.
use Rattle.std.specs.Prelude.{ℕ, zero, suc, Bool, false, List, [], ◌∷◌}

-- whether the entry at a place passes; there is none past the end
abbrev pub passes_at : {A : Type 0} → (A → Bool) → List A → ℕ → Bool
passes_at p [] i = false
passes_at p (a ∷ rest) zero = p a
passes_at p (a ∷ rest) (suc i) = passes_at p rest i
