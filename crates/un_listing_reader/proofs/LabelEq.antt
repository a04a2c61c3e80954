-- Equality of labels as the set of labels has it.
use Rattle.std.proofs.Common.{◌≡◌, ℕ, ◌++◌, ◌||◌, Bool, if◌then◌else◌, List, [], ◌∷◌, refl, ap, ◌∙◌}
use Rattle.std.specs.List.{list_any}
use Rattle.std.specs.Str.{bytes_eq}
use Rattle.un_base.specs.contracts.name.NamePartialEq.TheImpl.{ghosts as name_ghosts}
use Rattle.un_words.proofs.NameBytes.{padded_eq}
use Rattle.un_listing_reader.specs.LabelSets.{has_label, add_label}

pub any_same : (label : List ℕ) (labels : List (List ℕ)) → list_any (λ (y : List ℕ). name_ghosts.eq label y) labels ≡ has_label labels label
any_same label [] = refl
any_same label (n ∷ ns) =
    ap (λ (x : Bool). x || list_any (λ (y : List ℕ). name_ghosts.eq label y) ns) (padded_eq label n)
    ∙ ap (λ (x : Bool). bytes_eq label n || x) (any_same label ns)

pub add_same : (labels : List (List ℕ)) (label : List ℕ)
    → (if list_any (λ (y : List ℕ). name_ghosts.eq label y) labels then labels else labels ++ label ∷ []) ≡ add_label labels label
add_same labels label = ap (λ (b : Bool). if b then labels else labels ++ label ∷ []) (any_same label labels)
