-- Links and marks as loops find them.
use Rattle.std.proofs.Common.{ℕ, suc, ◌≡◌, ◌+◌, ◌-◌, ◌<◌, ◌≤◌, Bool, true, List, [], ◌∷◌, ◌++◌, drop, length, sym, ap, ◌∙◌, append_assoc, map}
use Rattle.std.proofs.Common.{arith}
use Rattle.std.proofs.lemmas.List.{set_past}
use Rattle.std.specs.Prelude.{Some, fold, slice_get, slice_set}
use Rattle.un_model.specs.Pairs.{joined, places_from}
use Rattle.un_model.proofs.Steps.{append-nil, drop_at}
use Rattle.un_saved.specs.Joined.{marked_by, marked_after}
use Rattle.un_saved.specs.declared.boundary.Link.{Link}
use Rattle.un_saved.specs.declared.boundary.Marks.{Marks}

pub one_edge : {A B : Type 0} (f : A → List B) (x : A) (old new : List B) → new ≡ old ++ f x → new ≡ old ++ joined (map f (x ∷ []))
one_edge f x old new h = h ∙ ap (λ zs. old ++ zs) (sym (append-nil (f x)))

pub two_edges : {A B : Type 0} (f : A → List B) (x y : A) (old mid new : List B) → mid ≡ old ++ f x → new ≡ mid ++ f y
    → new ≡ old ++ joined (map f (x ∷ y ∷ []))
two_edges f x y old mid new h k =
    k ∙ ap (λ zs. zs ++ f y) h ∙ append_assoc old (f x) (f y) ∙ ap (λ zs. old ++ (f x ++ zs)) (sym (append-nil (f y)))

pub both_added : {A : Type 0} (xs ys old mid new : List A) → mid ≡ old ++ xs → new ≡ mid ++ ys → new ≡ old ++ (xs ++ ys)
both_added xs ys old mid new h k = k ∙ ap (λ zs. zs ++ ys) h ∙ append_assoc old xs ys

-- what is added for each place of a list, as far as a loop has come
pub place_added : {A B : Type 0} (g : ℕ → A → List B) (i : ℕ) (xs : List A) (x : A) (made whole next : List B)
    → made ++ joined (places_from g i (drop i xs)) ≡ whole → slice_get xs i ≡ Some x → next ≡ made ++ g i x
    → next ++ joined (places_from g (i + 1) (drop (i + 1) xs)) ≡ whole
place_added {B = B} g i xs x made whole next h q e =
    let rest = joined {A = B} (places_from g (i + 1) (drop (i + 1) xs)) in
    let s = ap (λ zs. joined {A = B} (places_from g i zs)) (drop_at xs i x q) in
    ap (λ zs. zs ++ rest) e ∙ append_assoc made (g i x) rest ∙ ap (λ zs. made ++ zs) (sym s) ∙ h

-- where there is no such place nothing is marked
pub past_marked : (marks : List Bool) (k : ℕ) → length marks ≤ k → marks ≡ slice_set marks k true
past_marked marks k le = sym (set_past marks k true le)

-- one round of several, and none
pub round_on : (n i : ℕ) (links : List Link) (m next whole : Marks) → i < n → marked_after (n - i) links m ≡ whole
    → next ≡ fold marked_by m links → marked_after (n - (i + 1)) links next ≡ whole
round_on n i links m next whole lt h made =
    let less : n - i ≡ suc (n - (i + 1)) = omega (arith, lt) in
    ap (marked_after (n - (i + 1)) links) made ∙ sym (ap (λ (k : ℕ). marked_after k links m) less) ∙ h

pub rounds_done : (n i : ℕ) (links : List Link) (m whole : Marks) → n ≤ i → marked_after (n - i) links m ≡ whole → m ≡ whole
rounds_done n i links m whole le h =
    let none : n - i ≡ 0 = omega (arith, le) in sym (ap (λ (k : ℕ). marked_after k links m) none) ∙ h
