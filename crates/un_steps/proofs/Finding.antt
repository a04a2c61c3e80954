-- Operations found by their numbers, block by block, and variables found in lists.
use Rattle.std.proofs.Common.{ℕ, zero, suc, ◌≡◌, ◌+◌, ◌-◌, ◌<◌, ◌≤◌, Bool, true, false, ◌||◌, List, [], ◌∷◌, ◌++◌, length, map, drop, min, refl, sym, ap}
use Rattle.std.proofs.Common.{◌∙◌, arith, ◌⊎◌, inl, inr}
use Rattle.std.specs.Prelude.{Option, Some, None, slice_get}
use Rattle.std.specs.List.{flat_map, list_any}
use Rattle.std.proofs.lemmas.List.Folds.{list_any-append}
use Rattle.un_ir.specs.declared.extended.ExtBlock.{ExtBlock}
use Rattle.un_model.specs.declared.model.BlockVars.{BlockVars}
use Rattle.un_model.specs.Pairs.{pairs_from, joined}
use Rattle.un_model.proofs.OpDomains.{get_right}
use Rattle.un_model.proofs.Steps.{drop_at, drop_past, within_min}
use Rattle.un_steps.specs.Words.{Operation, operations_from, block_operations}

-- ---- two lists together

pub pairs_get : {A B C : Type 0} (f : ℕ → A → B → C) (i k : ℕ) (xs : List A) (ys : List B) (a : A) (b : B) → slice_get xs k ≡ Some a
    → slice_get ys k ≡ Some b → slice_get (pairs_from f i xs ys) k ≡ Some (f (i + k) a b)
pairs_get f i k [] ys a b p q = absurd (cc p)
pairs_get f i k (x ∷ xs) [] a b p q = absurd (cc q)
pairs_get f i zero (x ∷ xs) (y ∷ ys) a b p q =
    let e : x ≡ a = cc p in let g : y ≡ b = cc q in let z : i ≡ i + 0 = omega arith in
    ap (λ (x : _). Some (f i x y)) e ∙ ap (λ (y : _). Some (f i a y)) g ∙ ap (λ (n : ℕ). Some (f n a b)) z
pairs_get f i (suc k) (x ∷ xs) (y ∷ ys) a b p q =
    let z : (i + 1) + k ≡ i + suc k = omega arith in pairs_get f (i + 1) k xs ys a b p q ∙ ap (λ (n : ℕ). Some (f n a b)) z

pub pairs_length : {A B C : Type 0} (f : ℕ → A → B → C) (i : ℕ) (xs : List A) (ys : List B)
    → length (pairs_from f i xs ys) ≡ min (length xs) (length ys)
pairs_length f i [] ys = omega arith
pairs_length f i (x ∷ xs) [] = omega arith
pairs_length f i (x ∷ xs) (y ∷ ys) = let r = pairs_length f (i + 1) xs ys in omega (arith, r)

pub get_past : {X : Type 0} (xs : List X) (i : ℕ) → length xs ≤ i → slice_get xs i ≡ None
get_past [] i le = refl
get_past (x ∷ xs) zero le = absurd (omega (arith, le))
get_past (x ∷ xs) (suc i) le = get_past xs i (omega (arith, le))

get_left : {X : Type 0} (xs ys : List X) (i : ℕ) → i < length xs → slice_get (xs ++ ys) i ≡ slice_get xs i
get_left [] ys i lt = absurd (omega (arith, lt))
get_left (x ∷ xs) ys zero lt = refl
get_left (x ∷ xs) ys (suc i) lt = get_left xs ys i (omega (arith, lt))

-- ---- operations, block by block

-- what is left of the search from block k on
abbrev pub found_from : List ExtBlock → List BlockVars → ℕ → ℕ → Option Operation
found_from blocks vars k rest = slice_get (operations_from k (drop k blocks) (drop k vars)) rest

step_is : (blocks : List ExtBlock) (vars : List BlockVars) (k : ℕ) (block : ExtBlock) (v : BlockVars) → slice_get blocks k ≡ Some block
    → slice_get vars k ≡ Some v → operations_from k (drop k blocks) (drop k vars) ≡ block_operations k block v ++
    operations_from (k + 1) (drop (k + 1) blocks) (drop (k + 1) vars)
step_is blocks vars k block v p q = rw (drop_at blocks k block p, drop_at vars k v q) refl

-- in this block
pub found_here : (blocks : List ExtBlock) (vars : List BlockVars) (k rest : ℕ) (block : ExtBlock) (v : BlockVars)
    → slice_get blocks k ≡ Some block → slice_get vars k ≡ Some v → rest < min (length block.ops) (length v.ops)
    → found_from blocks vars k rest ≡ slice_get (block_operations k block v) rest
found_here blocks vars k rest block v p q lt =
    let l : length (block_operations k block v) ≡ min (length block.ops) (length v.ops) = pairs_length _ 0 block.ops v.ops in
    ap (λ (os : List Operation). slice_get os rest) (step_is blocks vars k block v p q)
    ∙ get_left (block_operations k block v) _ rest (omega (arith, l, lt))

-- in a later one
pub found_later : (blocks : List ExtBlock) (vars : List BlockVars) (k rest count : ℕ) (block : ExtBlock) (v : BlockVars)
    → slice_get blocks k ≡ Some block → slice_get vars k ≡ Some v → count ≡ min (length block.ops) (length v.ops) → count ≤ rest
    → found_from blocks vars k rest ≡ found_from blocks vars (k + 1) (rest - count)
found_later blocks vars k rest count block v p q c le =
    let l : length (block_operations k block v) ≡ min (length block.ops) (length v.ops) = pairs_length _ 0 block.ops v.ops in
    ap (λ (os : List Operation). slice_get os rest) (step_is blocks vars k block v p q)
    ∙ get_right (block_operations k block v) _ (rest - count) rest (omega (arith, l, c, le))

-- in none
operations_none : (k : ℕ) (blocks : List ExtBlock) (vars : List BlockVars) → (length blocks ≡ 0) ⊎ (length vars ≡ 0)
    → operations_from k blocks vars ≡ []
operations_none k [] vars h = refl
operations_none k (b ∷ bs) [] h = refl
operations_none k (b ∷ bs) (v ∷ vs) (inl e) = absurd (omega (arith, e))
operations_none k (b ∷ bs) (v ∷ vs) (inr e) = absurd (omega (arith, e))

pub found_none : (blocks : List ExtBlock) (vars : List BlockVars) (k rest : ℕ) → min (length blocks) (length vars) ≤ k
    → found_from blocks vars k rest ≡ None
found_none blocks vars k rest le = by (within_min k blocks vars le)
  where
    by : (length blocks ≤ k) ⊎ (length vars ≤ k) → found_from blocks vars k rest ≡ None
    by (inl a) = ap (λ (os : List Operation). slice_get os rest) (operations_none k (drop k blocks) (drop k vars)
        (inl (ap length (drop_past k blocks a))))
    by (inr a) = ap (λ (os : List Operation). slice_get os rest) (operations_none k (drop k blocks) (drop k vars)
        (inr (ap length (drop_past k vars a))))

-- ---- tests over lists

-- a test of what a function gives of the items, up to a place
pub flat_more : {A B : Type 0} (t : B → Bool) (f : A → List B) (xs : List A) (j : ℕ) (x : A) → slice_get xs j ≡ Some x
    → list_any t (flat_map f (drop j xs)) ≡ (list_any t (f x) || list_any t (flat_map f (drop (j + 1) xs)))
flat_more t f xs j x p = ap (λ (ys : List _). list_any t (flat_map f ys)) (drop_at xs j x p) ∙ list_any-append t (f x) (flat_map f (drop (j + 1) xs))

pub map_more : {A B : Type 0} (t : B → Bool) (f : A → B) (xs : List A) (j : ℕ) (x : A) → slice_get xs j ≡ Some x
    → list_any t (map f (drop j xs)) ≡ (t (f x) || list_any t (map f (drop (j + 1) xs)))
map_more t f xs j x p = ap (λ (ys : List _). list_any t (map f ys)) (drop_at xs j x p)

pub any_parts : {B : Type 0} (t : B → Bool) (xs ys zs : List B)
    → list_any t (xs ++ (ys ++ zs)) ≡ (list_any t xs || (list_any t ys || list_any t zs))
any_parts t xs ys zs = list_any-append t xs (ys ++ zs) ∙ ap (λ (b : Bool). list_any t xs || b) (list_any-append t ys zs)

pub hit : (a b c : Bool) → c ≡ (a || b) → a ≡ true → true ≡ c
hit true b c e h = sym e
hit false b c e h = absurd (cc h)

pub missed : (a b c : Bool) → c ≡ (a || b) → a ≡ false → b ≡ c
missed true b c e h = absurd (cc h)
missed false b c e h = sym e

pub first_hit : (a b c w : Bool) → w ≡ (a || (b || c)) → a ≡ true → true ≡ w
first_hit true b c w e h = sym e
first_hit false b c w e h = absurd (cc h)

pub second_hit : (a b c w : Bool) → w ≡ (a || (b || c)) → a ≡ false → b ≡ true → true ≡ w
second_hit true b c w e f h = absurd (cc f)
second_hit false true c w e f h = sym e
second_hit false false c w e f h = absurd (cc h)

pub third_hit : (a b c w : Bool) → w ≡ (a || (b || c)) → a ≡ false → b ≡ false → c ≡ w
third_hit true b c w e f h = absurd (cc f)
third_hit false true c w e f h = absurd (cc h)
third_hit false false c w e f h = sym e

-- ---- joined lists

pub joined_here : {A : Type 0} (xss : List (List A)) (k rest : ℕ) (xs : List A) → slice_get xss k ≡ Some xs → rest < length xs
    → slice_get (joined (drop k xss)) rest ≡ slice_get xs rest
joined_here xss k rest xs p lt = ap (λ (ys : List (List _)). slice_get (joined ys) rest) (drop_at xss k xs p)
    ∙ get_left xs (joined (drop (k + 1) xss)) rest lt

pub joined_later : {A : Type 0} (xss : List (List A)) (k rest count : ℕ) (xs : List A) → slice_get xss k ≡ Some xs → count ≡ length xs
    → count ≤ rest → slice_get (joined (drop k xss)) rest ≡ slice_get (joined (drop (k + 1) xss)) (rest - count)
joined_later xss k rest count xs p c le = ap (λ (ys : List (List _)). slice_get (joined ys) rest) (drop_at xss k xs p)
    ∙ get_right xs (joined (drop (k + 1) xss)) (rest - count) rest (omega (arith, c, le))

pub joined_none : {A : Type 0} (xss : List (List A)) (k rest : ℕ) → length xss ≤ k → slice_get (joined (drop k xss)) rest ≡ None
joined_none xss k rest le = ap (λ (ys : List (List _)). slice_get (joined ys) rest) (drop_past k xss le)
