-- Operands with commas between them.
use Rattle.std.proofs.Common.{◌≡◌, ℕ, ◌-◌, ◌≤◌, List, [], ◌∷◌, ◌++◌, Some, map, codes, length, get_or, take, drop, ap, sym, ◌∙◌}
use Rattle.std.proofs.Common.{append_assoc, arith}
use Rattle.std.proofs.lemmas.Grind.{common_steps}
use Rattle.std.specs.List.{flat_map}
use Rattle.std.proofs.lemmas.List.Concat.{flat_map-append}
use Rattle.un_isa.specs.declared.facts.Range.TheVariants.{Offset}
use Rattle.un_ir.specs.Text.{comma_joined, spaced, with_literal}

-- each after a comma
abbrev pub after_commas : List (List ℕ) → List ℕ
after_commas xs = flat_map (λ x. codes ", " ++ x) xs

-- what `&xs[1..]` has
abbrev pub rest_of : {X : Type 0} → List X → List X
rest_of xs = take (length xs - 1) (drop 1 xs)

pub rest_of-cons : {X : Type 0} (x : X) (xs : List X) → rest_of (x ∷ xs) ≡ xs
rest_of-cons x xs = grind (arith, common_steps)

append-nil : (xs : List ℕ) → xs ≡ xs ++ []
append-nil xs = grind (arith, common_steps)

-- the first, then each other after a comma
pub comma_joined-cons : (x : List ℕ) (xs : List (List ℕ)) → comma_joined (x ∷ xs) ≡ x ++ after_commas xs
comma_joined-cons x [] = append-nil x
comma_joined-cons x (y ∷ ys) =
    ap (λ z. x ++ codes ", " ++ z) (comma_joined-cons y ys) ∙ append_assoc x (codes ", ") (y ++ after_commas ys)

-- the same for the texts of a list
pub spaced-map : {X : Type 0} (f : X → List ℕ) (xs : List X) (d : X) → 1 ≤ length xs
    → spaced (map f xs) ≡ codes " " ++ (f (get_or xs 0 d) ++ after_commas (map f (rest_of xs)))
spaced-map f [] d long = absurd (omega arith)
spaced-map f (x ∷ xs) d long =
    rw (rest_of-cons x xs) (ap (λ z. codes " " ++ z) (comma_joined-cons (f x) (map f xs)))

-- with a literal at the end
pub spaced-map-literal : {X : Type 0} (f : X → List ℕ) (xs : List X) (d : X) (literal : List ℕ) → 1 ≤ length xs
    → spaced (map f xs ++ literal ∷ []) ≡ codes " " ++ (f (get_or xs 0 d) ++ (after_commas (map f (rest_of xs)) ++ (codes ", " ++ literal)))
spaced-map-literal f [] d literal long = absurd (omega arith)
spaced-map-literal f (x ∷ xs) d literal long =
    rw (rest_of-cons x xs) (ap (λ z. codes " " ++ z)
    (comma_joined-cons (f x) (map f xs ++ literal ∷ [])
    ∙ ap (λ z. f x ++ z) (flat_map-append (λ y. codes ", " ++ y) (map f xs) (literal ∷ [])
    ∙ ap (λ z. after_commas (map f xs) ++ z) (sym (append-nil (codes ", " ++ literal))))))

-- with an offset behind the base
pub spaced-map-offset : {X : Type 0} (f : X → List ℕ) (xs : List X) (d : X) (literal : List ℕ) → 1 ≤ length xs
    → spaced (with_literal (Some Offset) literal (map f xs))
    ≡ codes " " ++ (f (get_or xs 0 d) ++ (codes ", " ++ (literal ++ after_commas (map f (rest_of xs)))))
spaced-map-offset f [] d literal long = absurd (omega arith)
spaced-map-offset f (x ∷ xs) d literal long =
    rw (rest_of-cons x xs) (ap (λ z. codes " " ++ z) (comma_joined-cons (f x) (literal ∷ map f xs)
    ∙ ap (λ z. f x ++ z) (append_assoc (codes ", ") literal (after_commas (map f xs)))))
