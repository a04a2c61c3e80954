-- Loops over lists: what is made so far, and what is made of the rest, are the whole.
use Rattle.std.proofs.Common.{◌≡◌, ℕ, ◌+◌, ◌≤◌, ◌⊎◌, inl, inr, zero, suc, Bool, true, false, List, [], ◌∷◌, ◌++◌, length, map, drop, min}
use Rattle.std.proofs.Common.{Some, slice_get, refl, ap, ◌∙◌, sym, append_assoc, length-append, add-one, arith}
use Rattle.std.specs.Prelude.{◌||◌}
use Rattle.std.specs.List.{list_any}
use Rattle.std.proofs.lemmas.Bool.{cases_lt}
use Rattle.un_ir.specs.declared.extended.ExtBlock.{ExtBlock}
use Rattle.un_model.specs.declared.model.BlockVars.{BlockVars}
use Rattle.un_model.specs.Pairs.{places_from, any_from, pairs_from, joined, over_blocks}

-- ---- the rest of a list

pub drop_at : {A : Type 0} (xs : List A) (i : ℕ) (x : A) → slice_get xs i ≡ Some x → drop i xs ≡ x ∷ drop (i + 1) xs
drop_at [] i x h = absurd (cc h)
drop_at (y ∷ xs) zero x h = cc
drop_at (y ∷ xs) (suc i) x h = rw (add-one) (drop_at xs i x h ∙ rw add-one refl)

pub drop_past : {A : Type 0} (n : ℕ) (xs : List A) → length xs ≤ n → drop n xs ≡ []
drop_past zero [] h = refl
drop_past (suc n) [] h = refl
drop_past zero (x ∷ xs) h = absurd (omega arith)
drop_past (suc n) (x ∷ xs) h = drop_past n xs (omega arith)

pub append-nil : {A : Type 0} (xs : List A) → xs ++ [] ≡ xs
append-nil [] = refl
append-nil (x ∷ xs) = ap (λ ys. x ∷ ys) (append-nil xs)

pub longer : {A : Type 0} (made next more : List A) → next ≡ made ++ more → length next ≡ length made + length more
longer made next more h = ap length h ∙ length-append made more

pub within_min : {A B : Type 0} (i : ℕ) (xs : List A) (ys : List B) → min (length xs) (length ys) ≤ i → (length xs ≤ i) ⊎ (length ys ≤ i)
within_min i xs ys g = elim (cases_lt (length xs) (length ys)) [ inl a ↦ inl (omega arith) | inr b ↦ inr (omega arith) ]

-- ---- one list

pub map_more : {A B : Type 0} (f : A → B) (i : ℕ) (xs : List A) (x : A) (made whole next : List B) (y : B)
    → made ++ map f (drop i xs) ≡ whole → slice_get xs i ≡ Some x → y ≡ f x → next ≡ made ++ y ∷ []
    → next ++ map f (drop (i + 1) xs) ≡ whole
map_more f i xs x made whole next y h p e g =
    let s = ap (map f) (drop_at xs i x p) in
    rw (g, append_assoc, e, ← s) h

pub places_more : {A B : Type 0} (f : ℕ → A → B) (n i : ℕ) (xs : List A) (x : A) (made whole next : List B) (y : B)
    → made ++ places_from f n (drop i xs) ≡ whole → slice_get xs i ≡ Some x → y ≡ f n x → next ≡ made ++ y ∷ []
    → next ++ places_from f (n + 1) (drop (i + 1) xs) ≡ whole
places_more f n i xs x made whole next y h p e g =
    let s = ap (places_from f n) (drop_at xs i x p) in
    rw (g, append_assoc, e, ← s) h

pub places_all : {A B : Type 0} (f : ℕ → A → B) (n i : ℕ) (xs : List A) (made whole : List B)
    → made ++ places_from f n (drop i xs) ≡ whole → length xs ≤ i → made ≡ whole
places_all f n i xs made whole h le = sym (append-nil made) ∙ ap (λ zs. made ++ zs) (sym (ap (places_from f n) (drop_past i xs le))) ∙ h

-- ---- tests

or_assoc : (a b c : Bool) → ((a || b) || c) ≡ (a || (b || c))
or_assoc true b c = refl
or_assoc false b c = refl

pub or_false : (a : Bool) → (a || false) ≡ a
or_false true = refl
or_false false = refl

pub any_more : {A : Type 0} (p : A → Bool) (i : ℕ) (xs : List A) (x : A) (now next whole : Bool) → slice_get xs i ≡ Some x
    → (now || list_any p (drop i xs)) ≡ whole → next ≡ (now || p x) → (next || list_any p (drop (i + 1) xs)) ≡ whole
any_more p i xs x now next whole g h e =
    let s : list_any p (drop i xs) ≡ (p x || list_any p (drop (i + 1) xs)) = ap (list_any p) (drop_at xs i x g) in
    ap (λ (b : Bool). b || list_any p (drop (i + 1) xs)) e ∙ or_assoc now (p x) (list_any p (drop (i + 1) xs)) ∙ ap
    (λ (b : Bool). now || b) (sym s) ∙ h

pub any_all : {A : Type 0} (p : A → Bool) (i : ℕ) (xs : List A) (now whole : Bool) → (now || list_any p (drop i xs)) ≡ whole
    → length xs ≤ i → now ≡ whole
any_all p i xs now whole h le =
    let s : list_any p (drop i xs) ≡ false = ap (list_any p) (drop_past i xs le) in
    sym (or_false now) ∙ ap (λ (b : Bool). now || b) (sym s) ∙ h

pub any_from_more : {A : Type 0} (p : ℕ → A → Bool) (i : ℕ) (xs : List A) (x : A) (now next whole : Bool) → slice_get xs i ≡ Some x
    → (now || any_from p i (drop i xs)) ≡ whole → next ≡ (now || p i x) → (next || any_from p (i + 1) (drop (i + 1) xs)) ≡ whole
any_from_more p i xs x now next whole g h e =
    let s : any_from p i (drop i xs) ≡ (p i x || any_from p (i + 1) (drop (i + 1) xs)) = ap (any_from p i) (drop_at xs i x g) in
    ap (λ (b : Bool). b || any_from p (i + 1) (drop (i + 1) xs)) e ∙ or_assoc now (p i x) (any_from p (i + 1) (drop (i + 1) xs)) ∙ ap
    (λ (b : Bool). now || b) (sym s) ∙ h

pub any_from_all : {A : Type 0} (p : ℕ → A → Bool) (i : ℕ) (xs : List A) (now whole : Bool) → (now || any_from p i (drop i xs)) ≡ whole
    → length xs ≤ i → now ≡ whole
any_from_all p i xs now whole h le =
    let s : any_from p i (drop i xs) ≡ false = ap (any_from p i) (drop_past i xs le) in
    sym (or_false now) ∙ ap (λ (b : Bool). now || b) (sym s) ∙ h

-- ---- two lists

pairs-step : {A B C : Type 0} (f : ℕ → A → B → C) (n i : ℕ) (xs : List A) (ys : List B) (x : A) (y : B) → slice_get xs i ≡ Some x
    → slice_get ys i ≡ Some y
    → pairs_from f n (drop i xs) (drop i ys) ≡ f n x y ∷ pairs_from f (n + 1) (drop (i + 1) xs) (drop (i + 1) ys)
pairs-step f n i xs ys x y p q = rw (drop_at xs i x p, drop_at ys i y q) refl

pub pairs_more : {A B C : Type 0} (f : ℕ → A → B → C) (n i : ℕ) (xs : List A) (ys : List B) (x : A) (y : B) (made whole next : List C)
    (z : C) → made ++ pairs_from f n (drop i xs) (drop i ys) ≡ whole → slice_get xs i ≡ Some x → slice_get ys i ≡ Some y → z ≡ f n x y
    → next ≡ made ++ z ∷ [] → next ++ pairs_from f (n + 1) (drop (i + 1) xs) (drop (i + 1) ys) ≡ whole
pairs_more f n i xs ys x y made whole next z h p q e g =
    let s = pairs-step f n i xs ys x y p q in
    rw (g, append_assoc, e, ← s) h

pub joined_more : {A B C : Type 0} (f : ℕ → A → B → List C) (n i : ℕ) (xs : List A) (ys : List B) (x : A) (y : B)
    (made whole next : List C) → made ++ joined (pairs_from f n (drop i xs) (drop i ys)) ≡ whole → slice_get xs i ≡ Some x
    → slice_get ys i ≡ Some y → next ≡ made ++ f n x y → next ++ joined (pairs_from f (n + 1) (drop (i + 1) xs) (drop (i + 1) ys)) ≡ whole
joined_more {C = C} f n i xs ys x y made whole next h p q e =
    let s = ap (joined {A = C}) (pairs-step f n i xs ys x y p q) in
    rw (e, append_assoc, ← s) h

pairs-nil : {A B C : Type 0} (f : ℕ → A → B → C) (n : ℕ) (xs : List A) → pairs_from f n xs [] ≡ []
pairs-nil f n [] = refl
pairs-nil f n (x ∷ xs) = refl

pairs-end : {A B C : Type 0} (f : ℕ → A → B → C) (n i : ℕ) (xs : List A) (ys : List B) → (length xs ≤ i) ⊎ (length ys ≤ i)
    → pairs_from f n (drop i xs) (drop i ys) ≡ []
pairs-end f n i xs ys h = elim h [ inl a ↦ rw (drop_past i xs a) refl | inr b ↦ rw (drop_past i ys b) (pairs-nil f n (drop i xs)) ]

pub pairs_all : {A B C : Type 0} (f : ℕ → A → B → C) (n i : ℕ) (xs : List A) (ys : List B) (made whole : List C)
    → made ++ pairs_from f n (drop i xs) (drop i ys) ≡ whole → min (length xs) (length ys) ≤ i → made ≡ whole
pairs_all f n i xs ys made whole h g = sym (append-nil made) ∙ ap (λ zs. made ++ zs) (sym (pairs-end f n i xs ys (within_min i xs ys g)))
    ∙ h

pub joined_all : {A B C : Type 0} (f : ℕ → A → B → List C) (n i : ℕ) (xs : List A) (ys : List B) (made whole : List C)
    → made ++ joined (pairs_from f n (drop i xs) (drop i ys)) ≡ whole → min (length xs) (length ys) ≤ i → made ≡ whole
joined_all {C = C} f n i xs ys made whole h g = sym (append-nil made) ∙ ap (λ zs. made ++ joined {A = C} zs)
    (sym (pairs-end f n i xs ys (within_min i xs ys g))) ∙ h

-- ---- blocks

pub blocks_more : {A : Type 0} (f : ℕ → ℕ → ExtBlock → BlockVars → List A) (b n n2 i : ℕ) (blocks : List ExtBlock)
    (vars : List BlockVars) (block : ExtBlock) (v : BlockVars) (made whole next : List A)
    → made ++ over_blocks f b n (drop i blocks) (drop i vars) ≡ whole → slice_get blocks i ≡ Some block → slice_get vars i ≡ Some v
    → next ≡ made ++ f b n block v → n2 ≡ n + length block.ops
    → next ++ over_blocks f (b + 1) n2 (drop (i + 1) blocks) (drop (i + 1) vars) ≡ whole
blocks_more f b n n2 i blocks vars block v made whole next h p q e k =
    let s : over_blocks f b n (drop i blocks) (drop i vars) ≡ f b n block v ++ over_blocks f (b + 1) (n + length block.ops)
    (drop (i + 1) blocks) (drop (i + 1) vars) = rw (drop_at blocks i block p, drop_at vars i v q) refl in
    rw (e, append_assoc, k, ← s) h

over-nil : {A : Type 0} (f : ℕ → ℕ → ExtBlock → BlockVars → List A) (b n : ℕ) (blocks : List ExtBlock) → over_blocks f b n blocks [] ≡ []
over-nil f b n [] = refl
over-nil f b n (block ∷ blocks) = refl

over-end : {A : Type 0} (f : ℕ → ℕ → ExtBlock → BlockVars → List A) (b n i : ℕ) (blocks : List ExtBlock) (vars : List BlockVars)
    → (length blocks ≤ i) ⊎ (length vars ≤ i) → over_blocks f b n (drop i blocks) (drop i vars) ≡ []
over-end f b n i blocks vars h = elim h
    [ inl a ↦ rw (drop_past i blocks a) refl | inr c ↦ rw (drop_past i vars c) (over-nil f b n (drop i blocks)) ]

pub blocks_all : {A : Type 0} (f : ℕ → ℕ → ExtBlock → BlockVars → List A) (b n i : ℕ) (blocks : List ExtBlock) (vars : List BlockVars)
    (made whole : List A) → made ++ over_blocks f b n (drop i blocks) (drop i vars) ≡ whole → min (length blocks) (length vars) ≤ i
    → made ≡ whole
blocks_all f b n i blocks vars made whole h g = sym (append-nil made) ∙ ap (λ zs. made ++ zs)
    (sym (over-end f b n i blocks vars (within_min i blocks vars g))) ∙ h
