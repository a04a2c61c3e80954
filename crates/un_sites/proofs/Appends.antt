-- What is added to a list, one part after another.
use Rattle.std.proofs.Common.{ℕ, ◌≡◌, ◌+◌, ◌≤◌, List, [], ◌∷◌, ◌++◌, length, map, drop, Some, slice_get, ap, ◌∙◌, sym, append_assoc}
use Rattle.std.proofs.lemmas.List.{map-append}
use Rattle.un_model.specs.Pairs.{joined, places_from}
use Rattle.un_model.proofs.Steps.{drop_at, drop_past, append-nil}

-- what is added for each of a list, as far as a loop has come
pub each_added : {A B : Type 0} (f : A → List B) (i : ℕ) (xs : List A) (x : A) (made whole next : List B)
    → made ++ joined (map f (drop i xs)) ≡ whole → slice_get xs i ≡ Some x → next ≡ made ++ f x
    → next ++ joined (map f (drop (i + 1) xs)) ≡ whole
each_added {B = B} f i xs x made whole next h g e =
    let s = ap (λ zs. joined {A = B} (map f zs)) (drop_at xs i x g) in
    ap (λ zs. zs ++ joined (map f (drop (i + 1) xs))) e ∙ append_assoc made (f x) (joined (map f (drop (i + 1) xs)))
    ∙ ap (λ zs. made ++ zs) (sym s) ∙ h

pub all_added : {A B : Type 0} (f : A → List B) (i : ℕ) (xs : List A) (made whole : List B)
    → made ++ joined (map f (drop i xs)) ≡ whole → length xs ≤ i → made ≡ whole
all_added {B = B} f i xs made whole h le =
    let s = ap (λ zs. made ++ joined {A = B} (map f zs)) (drop_past i xs le) in
    sym (append-nil made) ∙ sym s ∙ h

-- what is added for what each place of a list gives
pub placed_added : {A B C : Type 0} (f : B → List C) (g : ℕ → A → B) (i : ℕ) (xs : List A) (x : A) (made whole next : List C)
    → made ++ joined (map f (places_from g i (drop i xs))) ≡ whole → slice_get xs i ≡ Some x → next ≡ made ++ f (g i x)
    → next ++ joined (map f (places_from g (i + 1) (drop (i + 1) xs))) ≡ whole
placed_added {C = C} f g i xs x made whole next h q e =
    let rest = joined {A = C} (map f (places_from g (i + 1) (drop (i + 1) xs))) in
    let s = ap (λ zs. joined {A = C} (map f (places_from g i zs))) (drop_at xs i x q) in
    ap (λ zs. zs ++ rest) e ∙ append_assoc made (f (g i x)) rest ∙ ap (λ zs. made ++ zs) (sym s) ∙ h

pub mapped_added : {A B : Type 0} (f : A → B) (xs next : List A) (x : A) → next ≡ xs ++ x ∷ [] → map f next ≡ map f xs ++ f x ∷ []
mapped_added f xs next x e = ap (map f) e ∙ map-append f xs (x ∷ [])
