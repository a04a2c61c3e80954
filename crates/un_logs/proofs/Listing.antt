-- Lists of turns by their places.
use Rattle.std.proofs.Common.{ℕ, zero, suc, ◌≡◌, ◌+◌, ◌<◌, ◌≤◌, List, [], ◌∷◌, ◌++◌, Some, None, length, map, take, get_or, add-one}
use Rattle.std.proofs.Common.{append_assoc, append-nil, refl, sym, ap, ◌∙◌, arith}
use Rattle.std.specs.Prelude.{⊤, slice_get}
use Rattle.std.specs.List.{flat_map, range_with_len}
use Rattle.std.proofs.Math.Seq.{take-suc}
use Rattle.std.proofs.lemmas.List.{map-append}
use Rattle.un_judge.specs.Lines.{rule_number}
use Rattle.un_steps.specs.declared.step.Rule.{Rule}
use Rattle.un_logs.specs.Rounds.{all_rules}
use Rattle.un_logs.specs.Vars.{vars_of}

-- ---- one more

flat_suc : {A B : Type 0} (f : A → List B) (xs : List A) (j : ℕ) (x : A) → slice_get xs j ≡ Some x
    → flat_map f (take (suc j) xs) ≡ flat_map f (take j xs) ++ f x
flat_suc f [] j x e = absurd (cc e)
flat_suc f (y ∷ ys) zero x e = let same : y ≡ x = cc e in append-nil (f y) ∙ ap f same
flat_suc f (y ∷ ys) (suc j) x e =
    ap (λ (zs : List _). f y ++ zs) (flat_suc f ys j x e) ∙ sym (append_assoc (f y) (flat_map f (take j ys)) (f x))

pub flat_take : {A B : Type 0} (f : A → List B) (xs : List A) (j : ℕ) (x : A) → slice_get xs j ≡ Some x
    → flat_map f (take (j + 1) xs) ≡ flat_map f (take j xs) ++ f x
flat_take f xs j x e = rw (add-one) (flat_suc f xs j x e)

-- the same, also behind the last
pub flat_next : {A : Type 0} (f : A → List ℕ) (xs : List A) (j : ℕ)
    → flat_map f (take (j + 1) xs) ≡ flat_map f (take j xs) ++ vars_of f (slice_get xs j)
flat_next f xs j = rw (add-one) (next f xs j)
  where
    next : {A : Type 0} (f : A → List ℕ) (xs : List A) (j : ℕ)
        → flat_map f (take (suc j) xs) ≡ flat_map f (take j xs) ++ vars_of f (slice_get xs j)
    next f [] zero = refl
    next f [] (suc j) = refl
    next f (y ∷ ys) zero = append-nil (f y)
    next f (y ∷ ys) (suc j) =
        ap (λ (zs : List ℕ). f y ++ zs) (next f ys j) ∙ sym (append_assoc (f y) (flat_map f (take j ys)) (vars_of f (slice_get ys j)))

pub map_take : {A B : Type 0} (f : A → B) (xs : List A) (j : ℕ) (d : A) → j < length xs
    → map f (take (j + 1) xs) ≡ map f (take j xs) ++ f (get_or xs j d) ∷ []
map_take f xs j d lt = rw (add-one) (ap (map f) (take-suc xs j d lt) ∙ map-append f (take j xs) (get_or xs j d ∷ []))

range_suc : (a n : ℕ) → range_with_len a (suc n) ≡ range_with_len a n ++ (a + n) ∷ []
range_suc a zero = let e : a ≡ a + 0 = omega arith in ap (λ (k : ℕ). k ∷ []) e
range_suc a (suc n) =
    let e : (a + 1) + n ≡ a + suc n = omega arith in
    ap (λ (ks : List ℕ). a ∷ ks) (range_suc (a + 1) n ∙ ap (λ (k : ℕ). range_with_len (a + 1) n ++ k ∷ []) e)

single : {B : Type 0} (f : ℕ → List B) (n : ℕ) → flat_map f (n ∷ []) ≡ f n
single f n = append-nil (f n)

flat_append : {A B : Type 0} (f : A → List B) (xs ys : List A) → flat_map f (xs ++ ys) ≡ flat_map f xs ++ flat_map f ys
flat_append f [] ys = refl
flat_append f (x ∷ xs) ys =
    ap (λ (zs : List _). f x ++ zs) (flat_append f xs ys) ∙ sym (append_assoc (f x) (flat_map f xs) (flat_map f ys))

pub flat_range : {B : Type 0} (f : ℕ → List B) (n : ℕ) → flat_map f (range_with_len 0 (n + 1)) ≡ flat_map f (range_with_len 0 n) ++ f n
flat_range f n =
    let e : 0 + n ≡ n = omega arith in
    rw (add-one)
    (ap (flat_map f) (range_suc 0 n ∙ ap (λ (k : ℕ). range_with_len 0 n ++ k ∷ []) e)
    ∙ (flat_append f (range_with_len 0 n) (n ∷ []) ∙ ap (λ (zs : List _). flat_map f (range_with_len 0 n) ++ zs) (single f n)))

-- ---- the rest

pub map_map : {A B C : Type 0} (f : A → B) (g : B → C) (xs : List A) → map g (map f xs) ≡ map (λ x. g (f x)) xs
map_map f g [] = refl
map_map f g (x ∷ xs) = ap (λ (ys : List _). g (f x) ∷ ys) (map_map f g xs)

pub take_all : {A : Type 0} (xs : List A) (n : ℕ) → length xs ≤ n → take n xs ≡ xs
take_all [] zero le = refl
take_all [] (suc n) le = refl
take_all (x ∷ xs) zero le = absurd (omega (arith, le))
take_all (x ∷ xs) (suc n) le = ap (λ (ys : List _). x ∷ ys) (take_all xs n (omega (arith, le)))

-- what is behind the first ones
pub record Rest {A : Type 0} (done all : List A) : Type 0 where
  pub behind : List A
  pub whole : all ≡ done ++ behind

pub take_rest : {A : Type 0} (k n : ℕ) (xs : List A) → k ≤ n → Rest (take k xs) (take n xs)
take_rest zero n xs le = record { behind = take n xs; whole = refl }
take_rest (suc k) zero xs le = absurd (omega (arith, le))
take_rest (suc k) (suc n) [] le = record { behind = []; whole = refl }
take_rest (suc k) (suc n) (x ∷ xs) le =
    let r = take_rest k n xs (omega (arith, le)) in
    record { behind = r.behind; whole = ap (λ (ys : List _). x ∷ ys) r.whole }

pub list_rest : {A : Type 0} (k : ℕ) (xs : List A) → Rest (take k xs) xs
list_rest zero xs = record { behind = xs; whole = refl }
list_rest (suc k) [] = record { behind = []; whole = refl }
list_rest (suc k) (x ∷ xs) =
    let r = list_rest k xs in record { behind = r.behind; whole = ap (λ (ys : List _). x ∷ ys) r.whole }

pub range_rest : (a k n : ℕ) → k ≤ n → Rest (range_with_len a k) (range_with_len a n)
range_rest a zero n le = record { behind = range_with_len a n; whole = refl }
range_rest a (suc k) zero le = absurd (omega (arith, le))
range_rest a (suc k) (suc n) le =
    let r = range_rest (a + 1) k n (omega (arith, le)) in
    record { behind = r.behind; whole = ap (λ (ys : List ℕ). a ∷ ys) r.whole }

pub map_rest : {A B : Type 0} (f : A → B) (done all : List A) → Rest done all → Rest (map f done) (map f all)
map_rest f done all r = record { behind = map f r.behind; whole = ap (map f) r.whole ∙ map-append f done r.behind }

pub flat_rest : {A B : Type 0} (f : A → List B) (done all : List A) → Rest done all → Rest (flat_map f done) (flat_map f all)
flat_rest f done all r = record { behind = flat_map f r.behind; whole = ap (flat_map f) r.whole ∙ flat_append f done r.behind }

-- ---- rules by their numbers

abbrev pub NumberedFrom : ℕ → List Rule → Type 0
NumberedFrom n [] = ⊤
NumberedFrom n (r ∷ rs) = (rule_number r ≡ n) × NumberedFrom (n + 1) rs

by_number : (n : ℕ) (xs : List Rule) (k : ℕ) (r : Rule) → NumberedFrom n xs → slice_get xs k ≡ Some r → rule_number r ≡ n + k
by_number n [] k r h e = absurd (cc e)
by_number n (x ∷ xs) zero r h e =
    let same : x ≡ r = cc e in
    let at : rule_number r ≡ n = sym (ap rule_number same) ∙ h.0 in omega (arith, at)
by_number n (x ∷ xs) (suc k) r h e = let at = by_number (n + 1) xs k r h.1 e in omega (arith, at)

pub rule_held : (k rules : ℕ) (r : Rule) → slice_get all_rules k ≡ Some r → k < rules → rule_number r ≤ rules
rule_held k rules r e lt =
    let at = by_number 1 all_rules k r
    (refl, (refl, (refl, (refl, (refl, (refl, (refl, (refl, (refl, (refl, (refl, (refl, (refl, tt))))))))))))) e in
    omega (arith, at, lt)

none_far : {A : Type 0} (xs : List A) (k : ℕ) → slice_get xs k ≡ None → length xs ≤ k
none_far [] k e = omega arith
none_far (x ∷ xs) zero e = absurd (cc e)
none_far (x ∷ xs) (suc k) e = let le = none_far xs k e in omega (arith, le)

-- behind the last rule there are no more
pub rules_all : (k rules : ℕ) → slice_get all_rules k ≡ None → k ≤ rules → take rules all_rules ≡ take k all_rules
rules_all k rules e le =
    let far = none_far all_rules k e in
    take_all all_rules rules (omega (arith, far, le)) ∙ sym (take_all all_rules k far)
