-- Lists that begin alike, and the first place at which something no longer holds.
use Rattle.std.proofs.Common.{ℕ, zero, suc, ◌≡◌, ◌+◌, ◌<◌, ◌≤◌, ◌⊎◌, inl, inr, List, [], ◌∷◌, ◌++◌, length, Some, take, refl, sym, ap, ◌∙◌, arith}
use Rattle.std.specs.List.{slice_get}
use Rattle.std.proofs.lemmas.Bool.{cases_lt}
use Rattle.std.proofs.lemmas.List.{take_more}
use Rattle.std.proofs.lemmas.Option.{slice_get_within, get_or_from_slice_get}

pub take_less : {X : Type 0} (j k : ℕ) (xs : List X) → j ≤ k → take j (take k xs) ≡ take j xs
take_less zero k xs h = refl
take_less (suc j) zero xs h = absurd (omega arith)
take_less (suc j) (suc k) [] h = refl
take_less (suc j) (suc k) (x ∷ xs) h = ap (λ (ys : List _). x ∷ ys) (take_less j k xs (omega arith))

-- lists that begin alike for k items begin alike for fewer
pub begin_alike : {X : Type 0} (j k : ℕ) (xs ys : List X) → j ≤ k → take k xs ≡ take k ys → take j xs ≡ take j ys
begin_alike j k xs ys h e = sym (take_less j k xs h) ∙ (ap (take j) e ∙ take_less j k ys h)

slice_get-take : {X : Type 0} (j k : ℕ) (xs : List X) → j < k → slice_get (take k xs) j ≡ slice_get xs j
slice_get-take j zero xs h = absurd (omega arith)
slice_get-take j (suc k) [] h = refl
slice_get-take zero (suc k) (x ∷ xs) h = refl
slice_get-take (suc j) (suc k) (x ∷ xs) h = slice_get-take j k xs (omega arith)

-- lists that begin alike have the same at each place there
pub alike_at : {X : Type 0} (j k : ℕ) (xs ys : List X) → j < k → take k xs ≡ take k ys → slice_get xs j ≡ slice_get ys j
alike_at j k xs ys h e = sym (slice_get-take j k xs h) ∙ (ap (λ zs. slice_get zs j) e ∙ slice_get-take j k ys h)

-- the items of a list at the places of its front, and of what stands behind that
pub front_at : {X : Type 0} (xs ys : List X) (j : ℕ) → j < length xs → slice_get (xs ++ ys) j ≡ slice_get xs j
front_at [] ys j h = absurd (omega arith)
front_at (x ∷ xs) ys zero h = refl
front_at (x ∷ xs) ys (suc j) h = front_at xs ys j (omega arith)

pub behind_at : {X : Type 0} (xs ys : List X) (j : ℕ) → slice_get (xs ++ ys) (length xs + j) ≡ slice_get ys j
behind_at [] ys j = let here : 0 + j ≡ j = omega arith in ap (λ k. slice_get ys k) here
behind_at (x ∷ xs) ys j = let next : length (x ∷ xs) + j ≡ suc (length xs + j) = omega arith in
    ap (λ k. slice_get ((x ∷ xs) ++ ys) k) next ∙ behind_at xs ys j

-- the beginning with one item more
pub take_push : {X : Type 0} (k : ℕ) (xs : List X) (x : X) → slice_get xs k ≡ Some x → take (k + 1) xs ≡ take k xs ++ x ∷ []
take_push k xs x h = take_more xs k x (slice_get_within xs k x h) ∙ ap (λ y. take k xs ++ y ∷ []) (get_or_from_slice_get xs k x x h)

-- what holds at k, and so at all places before, stops to hold at one place only
pub first_unique : (P : ℕ → Type 0) → ((j k : ℕ) → j ≤ k → P k → P j)
    → (p q : ℕ) → P p → (P (p + 1) → ⊥) → P q → (P (q + 1) → ⊥) → p ≡ q
first_unique P less p q good_p bad_p good_q bad_q = by (cases_lt p q)
  where
    by : (p < q) ⊎ (q ≤ p) → p ≡ q
    by (inl h) = absurd (bad_p (less (p + 1) q (omega arith) good_q))
    by (inr h) = by_other (cases_lt q p)
      where
        by_other : (q < p) ⊎ (p ≤ q) → p ≡ q
        by_other (inl k) = absurd (bad_q (less (q + 1) p (omega arith) good_p))
        by_other (inr k) = omega arith
