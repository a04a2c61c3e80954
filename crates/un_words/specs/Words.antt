-- The words of a line. Blanks separate words, and a comma and an equals sign each stand alone.
use Rattle.std.specs.Prelude.{ℕ, Bool, false, not, ◌||◌, ◌==◌, List, [], ◌∷◌, if◌then◌else◌}
use Rattle.std.specs.List.{onto_first}

-- a tab or a space
abbrev pub is_blank : ℕ → Bool
is_blank b = b == 9 || b == 32

-- a comma or an equals sign
abbrev pub is_mark : ℕ → Bool
is_mark b = b == 44 || b == 61

-- a byte of a longer word
abbrev pub is_inner : ℕ → Bool
is_inner b = not (is_blank b || is_mark b)

-- the line goes on with a byte of a longer word
abbrev pub goes_on : List ℕ → Bool
goes_on [] = false
goes_on (b ∷ bs) = is_inner b

-- the words of a line, from left to right
abbrev pub words_of : List ℕ → List (List ℕ)
words_of [] = []
words_of (b ∷ bs) =
    if is_blank b then words_of bs
    else (if is_mark b then (b ∷ []) ∷ words_of bs
    else (if goes_on bs then onto_first b (words_of bs)
    else (b ∷ []) ∷ words_of bs))
