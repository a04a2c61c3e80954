-- The words of `run` and `check`.
use Rattle.std.proofs.Common.{ℕ, ◌≡◌, ◌≤◌, List, [], ◌∷◌, ◌++◌, length, take, Some, sym, ap, ◌∙◌}
use Rattle.std.specs.List.{slice_get}
use Rattle.std.proofs.lemmas.List.{take_all}
use Rattle.un_commands.proofs.Firsts.{take_push}

-- a list of one word
pub one_word : (words : List (List ℕ)) (a : List ℕ) → slice_get words 0 ≡ Some a → length words ≤ 1 → words ≡ a ∷ []
one_word words a first short = sym (take_all 1 words short) ∙ take_push 0 words a first

-- a list that begins with two words
pub begins_two : (words : List (List ℕ)) (a b : List ℕ) → slice_get words 0 ≡ Some a → slice_get words 1 ≡ Some b
    → take 2 words ≡ a ∷ b ∷ []
begins_two words a b first second = take_push 1 words b second ∙ ap (λ front. front ++ b ∷ []) (take_push 0 words a first)

-- a list of two words
pub two_words : (words : List (List ℕ)) (a b : List ℕ) → slice_get words 0 ≡ Some a → slice_get words 1 ≡ Some b → length words ≤ 2
    → words ≡ a ∷ b ∷ []
two_words words a b first second short = sym (take_all 2 words short) ∙ begins_two words a b first second

-- a list of three words
pub begins_three : (words : List (List ℕ)) (a b d : List ℕ) → slice_get words 0 ≡ Some a → slice_get words 1 ≡ Some b
    → slice_get words 2 ≡ Some d → take 3 words ≡ a ∷ b ∷ d ∷ []
begins_three words a b d first second third =
    take_push 2 words d third ∙ ap (λ front. front ++ d ∷ []) (begins_two words a b first second)

pub three_words : (words : List (List ℕ)) (a b d : List ℕ) → slice_get words 0 ≡ Some a → slice_get words 1 ≡ Some b
    → slice_get words 2 ≡ Some d → length words ≤ 3 → words ≡ a ∷ b ∷ d ∷ []
three_words words a b d first second third short = sym (take_all 3 words short) ∙ begins_three words a b d first second third
