-- Sets of labels, and what stands before a line.
use Rattle.std.specs.Prelude.{◌-◌, ◌^◌, min, ℕ, ◌≡◌, ◌≢◌, ◌↔◌, Bool, IsTrue, List, [], ◌∷◌, ◌++◌, Option, Contains, length, if◌then◌else◌}
use Rattle.std.specs.List.{list_any}
use Rattle.std.specs.Str.{bytes_eq}
use Rattle.un_listing_reader.specs.declared.line.Line.{Line}
use Rattle.un_listing_reader.specs.declared.labels.Before.{Before}
use Rattle.un_listing_reader.specs.Reading.{labels_in, packets_in}

abbrev pub has_label : List (List ℕ) → List ℕ → Bool
has_label labels label = list_any (bytes_eq label) labels

-- the label is there already, or comes to the end
abbrev pub add_label : List (List ℕ) → List ℕ → List (List ℕ)
add_label labels label = if has_label labels label then labels else labels ++ label ∷ []

-- the same labels are in both
abbrev pub SameLabels : List (List ℕ) → List (List ℕ) → Type 0
SameLabels labels others = (label : List ℕ) → Contains labels label ↔ Contains others label

-- what is known of the lines before a line
pub record IsBefore (before : Before) (lines : List (Option Line)) : Type 0 where
  pub labels : SameLabels before.labels (labels_in lines)
  pub blocks : before.blocks ≡ min (length (labels_in lines)) (2 ^ 32 - 1)
  pub packets : before.packets ≡ min (packets_in lines) (2 ^ 32 - 1)
  pub some : IsTrue before.some ↔ (lines ≢ [])
