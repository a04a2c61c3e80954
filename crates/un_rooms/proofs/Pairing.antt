-- What is added for each two of a list, as loops add it.
use Rattle.std.proofs.Common.{ℕ, ◌≡◌, ◌+◌, ◌≤◌, Bool, true, false, List, [], ◌∷◌, ◌++◌}
use Rattle.std.proofs.Common.{length, drop, cond, Option, Some, slice_get, refl, ap, ◌∙◌, sym, append_assoc}
use Rattle.un_base.specs.declared.ids.VarId.{VarId}
use Rattle.un_ir.specs.declared.extended.ExtKind.{ExtKind}
use Rattle.un_ir.specs.declared.extended.ExtKind.TheVariants.{In, Out, Body, End, Copy, Enter, Leave}
use Rattle.un_ir.specs.declared.extended.Operand.{Operand}
use Rattle.un_model.specs.Pairs.{joined, places_from}
use Rattle.un_model.proofs.Steps.{drop_at, drop_past, append-nil}
use Rattle.un_sites.specs.Places.{Place, Definer}
use Rattle.un_sites.specs.Rooms.{each_two, one_value, two_at, two_by, twos_in}
use Rattle.un_ir.specs.Kinds.{is_source}

-- ---- one with each that follows

pub following_more : {A B : Type 0} (f : ℕ → A → List B) (i : ℕ) (xs : List A) (x : A) (made whole next : List B)
    → made ++ joined (places_from f i (drop i xs)) ≡ whole → slice_get xs i ≡ Some x → next ≡ made ++ f i x
    → next ++ joined (places_from f (i + 1) (drop (i + 1) xs)) ≡ whole
following_more {B = B} f i xs x made whole next h g e =
    let rest = joined {A = B} (places_from f (i + 1) (drop (i + 1) xs)) in
    let s = ap (λ zs. joined {A = B} (places_from f i zs)) (drop_at xs i x g) in
    ap (λ zs. zs ++ rest) e ∙ append_assoc made (f i x) rest ∙ ap (λ zs. made ++ zs) (sym s) ∙ h

pub following_all : {A B : Type 0} (f : ℕ → A → List B) (i : ℕ) (xs : List A) (made whole : List B)
    → made ++ joined (places_from f i (drop i xs)) ≡ whole → length xs ≤ i → made ≡ whole
following_all {B = B} f i xs made whole h le =
    let s = ap (λ zs. made ++ joined {A = B} (places_from f i zs)) (drop_past i xs le) in
    sym (append-nil made) ∙ sym s ∙ h

-- ---- each two

pub each_two_more : {A B : Type 0} (f : ℕ → A → ℕ → A → List B) (i : ℕ) (xs : List A) (x : A) (made whole next : List B)
    → made ++ each_two f i (drop i xs) ≡ whole → slice_get xs i ≡ Some x
    → next ≡ made ++ joined (places_from (f i x) (i + 1) (drop (i + 1) xs))
    → next ++ each_two f (i + 1) (drop (i + 1) xs) ≡ whole
each_two_more {B = B} f i xs x made whole next h g e =
    let rest = each_two f (i + 1) (drop (i + 1) xs) in
    let more = joined {A = B} (places_from (f i x) (i + 1) (drop (i + 1) xs)) in
    let s = ap (each_two f i) (drop_at xs i x g) in
    ap (λ zs. zs ++ rest) e ∙ append_assoc made more rest ∙ ap (λ zs. made ++ zs) (sym s) ∙ h

pub each_two_all : {A B : Type 0} (f : ℕ → A → ℕ → A → List B) (i : ℕ) (xs : List A) (made whole : List B)
    → made ++ each_two f i (drop i xs) ≡ whole → length xs ≤ i → made ≡ whole
each_two_all f i xs made whole h le =
    let s = ap (λ zs. made ++ each_two f i zs) (drop_past i xs le) in
    sym (append-nil made) ∙ sym s ∙ h

-- ---- nothing is posted but of operations of the source

joined-none : {A B : Type 0} (f : ℕ → A → List B) (i : ℕ) (xs : List A) → ((j : ℕ) (x : A) → f j x ≡ [])
    → joined (places_from f i xs) ≡ []
joined-none f i [] none = refl
joined-none f i (x ∷ xs) none = ap (λ zs. zs ++ joined (places_from f (i + 1) xs)) (none i x) ∙ joined-none f (i + 1) xs none

each-none : {A B : Type 0} (f : ℕ → A → ℕ → A → List B) (i : ℕ) (xs : List A) → ((i : ℕ) (x : A) (j : ℕ) (y : A) → f i x j y ≡ [])
    → each_two f i xs ≡ []
each-none f i [] none = refl
each-none f i (x ∷ xs) none =
    ap (λ zs. zs ++ each_two f (i + 1) xs) (joined-none (f i x) (i + 1) xs (none i x)) ∙ each-none f (i + 1) xs none

two-none : (k : ℕ) (ds : List Definer) (kind : ExtKind) (i : ℕ) (a : Operand) (c : Option VarId) (j : ℕ) (b : Operand) (d : Option VarId)
    → is_source kind ≡ false → two_by k ds kind i a c j b d ≡ []
two-none k ds In i a c j b d h = refl
two-none k ds Out i a c j b d h = refl
two-none k ds (Body o) i a c j b d h = absurd (cc h)
two-none k ds (End term) i a c j b d h = refl
two-none k ds (Copy node) i a c j b d h = refl
two-none k ds Enter i a c j b d h = refl
two-none k ds Leave i a c j b d h = refl

pub twos_none : (k : ℕ) (ds : List Definer) (p : Place) → is_source p.it.kind ≡ false → twos_in k ds p ≡ []
twos_none k ds p h =
    each-none (two_at k ds p) 0 p.it.operands
    (λ i a j b. elim (one_value a b) as (λ (same : Bool). cond same []
    (two_by k ds p.it.kind i a (slice_get p.vars.choices i) j b (slice_get p.vars.choices j)) ≡ [])
    [ true ↦ refl | false ↦ two-none k ds p.it.kind i a (slice_get p.vars.choices i) j b (slice_get p.vars.choices j) h ])
