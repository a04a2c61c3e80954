-- The words of `steps`.
use Rattle.std.specs.Prelude.{ℕ, ◌≡◌, ◌+◌, ◌<◌, ◌≤◌, ◌⊎◌, Bool, true, false, List, [], ◌∷◌, codes, length}
use Rattle.un_commands.specs.Places.{StandsAt}

-- the flag where it is asked for
abbrev pub counts_words : Bool → List (List ℕ)
counts_words true = codes "--counts" ∷ []
counts_words false = []

-- the log of a report
abbrev pub steps_words : Bool → List (List ℕ)
steps_words counts = codes "steps" ∷ counts_words counts

-- whether it is accepted
abbrev pub steps_check_words : Bool → List (List ℕ)
steps_check_words counts = codes "steps" ∷ codes "--check" ∷ counts_words counts

-- from a place on the words are the flag alone, or there are none
abbrev pub EndsWith : List (List ℕ) → ℕ → Bool → Type 0
EndsWith words place true = StandsAt words place (codes "--counts") × (length words ≤ place + 1)
EndsWith words place false = length words ≤ place

-- the place at which they are neither: another word stands there, or one behind the flag
abbrev pub IsBadEnd : List (List ℕ) → ℕ → ℕ → Type 0
IsBadEnd words place bad = ((bad ≡ place) × (place < length words) × ¬ StandsAt words place (codes "--counts"))
    ⊎ ((bad ≡ place + 1) × (place + 1 < length words) × StandsAt words place (codes "--counts"))
