-- An input in two parts: what stands before the first line `---`, and what stands behind it. In three, the second is parted again.
use Rattle.std.specs.Prelude.{ℕ, Bool, ◌||◌, List, [], ◌∷◌, ◌++◌, codes, if◌then◌else◌}
use Rattle.std.specs.List.{concat}
use Rattle.std.specs.Str.{bytes_eq}
use Rattle.un_base.specs.Lines.{pieces_of}

-- the line, with its line feed; a carriage return before that does not count, and a last line may lack it
abbrev pub is_rule : List ℕ → Bool
is_rule line = bytes_eq line (codes "---" ++ 10 ∷ []) || bytes_eq line (codes "---" ++ 13 ∷ 10 ∷ []) || bytes_eq line (codes "---")

-- what stands before the first such line, all where there is none
abbrev pub before_rule : List (List ℕ) → List ℕ
before_rule [] = []
before_rule (line ∷ lines) = if is_rule line then [] else line ++ before_rule lines

-- what stands behind it, nothing where there is none
abbrev pub behind_rule : List (List ℕ) → List ℕ
behind_rule [] = []
behind_rule (line ∷ lines) = if is_rule line then concat lines else behind_rule lines

abbrev pub first_part : List ℕ → List ℕ
first_part input = before_rule (pieces_of input)

abbrev pub second_part : List ℕ → List ℕ
second_part input = behind_rule (pieces_of input)

-- of three parts, what stands between the first such line and the second
abbrev pub middle_part : List ℕ → List ℕ
middle_part input = first_part (second_part input)

-- and what stands behind the second, nothing where there is none
abbrev pub last_part : List ℕ → List ℕ
last_part input = second_part (second_part input)
