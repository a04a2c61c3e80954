-- What stands before a line, one line further on.
use Rattle.std.proofs.Common.{◌≡◌, ◌+◌, ◌++◌, false, cond, List, [], ◌∷◌, if◌then◌else◌, Option, Some, None, refl, ap, ◌∙◌, zero-add}
use Rattle.std.proofs.Common.{append-nil, ◌≤◌, length}
use Rattle.std.specs.List.{filter_map, flat_map, count_by, fold}
use Rattle.std.specs.Option.{option_to_list, option_or}
use Rattle.std.proofs.lemmas.List.Elements.{filter_map-append}
use Rattle.std.proofs.lemmas.Grind.{flat_map-append, fold-append}
use Rattle.std.proofs.lemmas.List.Sums.{sum_by-append, count_by-le-length}
use Rattle.un_faults.specs.Vocabulary.{Line, Spelled}
use Rattle.un_faults.specs.Before.{add_name, label_on, name_on, name_of, is_operation, ended_after, labels_of, names_of, before_of}
use Rattle.un_words.specs.LineNames.{names_on}
use Rattle.un_faults.specs.Noted.{noted}

option_or_none : {X : Type 0} (o : Option X) → option_or o None ≡ o
option_or_none None = refl
option_or_none (Some x) = refl

option_or_assoc : {X : Type 0} (a b c : Option X) → option_or a (option_or b c) ≡ option_or (option_or a b) c
option_or_assoc None b c = refl
option_or_assoc (Some x) b c = refl

name-push : (lines : List Line) (line : Line) → name_of (lines ++ line ∷ []) ≡ option_or (name_of lines) (name_on line)
name-push [] line = option_or_none (name_on line)
name-push (first ∷ lines) line =
    ap (λ o. option_or (name_on first) o) (name-push lines line) ∙ option_or_assoc (name_on first) (name_of lines) (name_on line)

to_list : {X : Type 0} (o : Option X) → filter_map (λ (y : Option X). y) (o ∷ []) ≡ option_to_list o
to_list None = refl
to_list (Some x) = refl

labels-push : (lines : List Line) (line : Line) → labels_of (lines ++ line ∷ []) ≡ labels_of lines ++ option_to_list (label_on line)
labels-push lines line = filter_map-append label_on lines (line ∷ []) ∙ ap (λ ls. labels_of lines ++ ls) (to_list (label_on line))

names-push : (lines : List Line) (line : Line) → names_of (lines ++ line ∷ []) ≡ fold add_name (names_of lines) (names_on line)
names-push lines line =
    ap (λ (ns : List Spelled). fold add_name [] ns)
    (flat_map-append names_on lines (line ∷ [])
    ∙ ap (λ (ns : List Spelled). flat_map names_on lines ++ ns) (append-nil (names_on line)))
    ∙ fold-append add_name [] (flat_map names_on lines) (names_on line)

ops-push : (lines : List Line) (line : Line)
    → count_by is_operation (lines ++ line ∷ []) ≡ count_by is_operation lines + (if is_operation line then 1 else 0)
ops-push lines line =
    sum_by-append (λ x. cond (is_operation x) 1 0) lines (line ∷ []) ∙ ap (λ n. count_by is_operation lines + n) (zero-add _)

ended-push : (lines : List Line) (line : Line)
    → fold ended_after false (lines ++ line ∷ []) ≡ ended_after (fold ended_after false lines) line
ended-push lines line = fold-append ended_after false lines (line ∷ [])

pub before_of_push : (lines : List Line) (line : Line) → before_of (lines ++ line ∷ []) ≡ noted (before_of lines) line
before_of_push lines line =
    let name = name-push lines line in
    let labels = labels-push lines line in
    let names = names-push lines line in
    let ops = ops-push lines line in
    let ended = ended-push lines line in
    cc

pub few_ops : (lines : List Line) → (before_of lines).ops ≤ length lines
few_ops lines = count_by-le-length is_operation lines
