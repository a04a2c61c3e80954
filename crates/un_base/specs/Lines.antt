-- The lines of a text. A line feed is the byte 10.
use Rattle.std.specs.Prelude.{ℕ, Bool, ◌==◌, ◌≡◌, ◌≢◌, List, [], ◌∷◌, ◌++◌, if◌then◌else◌}
use Rattle.std.specs.List.{All, onto_first, flat_map}

abbrev pub is_line_feed : ℕ → Bool
is_line_feed b = b == 10

-- the lines, without their line feeds; the empty text has none
abbrev pub lines_of : List ℕ → List (List ℕ)
lines_of [] = []
lines_of (b ∷ bs) = if is_line_feed b then [] ∷ lines_of bs else onto_first b (lines_of bs)

-- the lines, each with its line feed; the last piece lacks it where the text does not end with one
abbrev pub pieces_of : List ℕ → List (List ℕ)
pieces_of [] = []
pieces_of (b ∷ bs) = if is_line_feed b then (b ∷ []) ∷ pieces_of bs else onto_first b (pieces_of bs)

-- the lines, each followed by a line feed
abbrev pub joined_lines : List (List ℕ) → List ℕ
joined_lines lines = flat_map (λ line. line ++ 10 ∷ []) lines

-- the text, with a line feed after its last line where it lacks one
abbrev pub with_last_feed : List ℕ → List ℕ
with_last_feed [] = []
with_last_feed (b ∷ []) = if is_line_feed b then b ∷ [] else b ∷ 10 ∷ []
with_last_feed (b ∷ c ∷ more) = b ∷ with_last_feed (c ∷ more)

-- no byte is a line feed
abbrev pub HasNoFeed : List ℕ → Type 0
HasNoFeed bs = All (λ b. b ≢ 10) bs

-- what stands before the first byte b, and what stands behind it
pub record IsCut (text : List ℕ) (b : ℕ) (first rest : List ℕ) : Type 0 where
  pub whole : text ≡ first ++ b ∷ rest
  pub none : All (λ y. y ≢ b) first
