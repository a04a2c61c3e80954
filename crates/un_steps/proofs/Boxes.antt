-- Laws of the least and the greatest value of a set, and of the alternatives of operands.
use Rattle.std.proofs.Common.{ℕ, suc, ◌≡◌, ◌+◌, ◌<◌, ◌≤◌, Bool, true, false, ◌&&◌, ◌||◌, List, [], ◌∷◌, length, filter}
use Rattle.std.proofs.Common.{Contains, refl, sym, ap, ◌∙◌, subst, arith, inl, inr}
use Rattle.std.specs.Prelude.{Option, Some, None, IsSomeAnd, slice_get, if◌then◌else◌, ◌==◌}
use Rattle.std.specs.List.{list_any}
use Rattle.std.proofs.lemmas.Bool.{eqb-true}
use Rattle.std.proofs.lemmas.Bool.Decides.{nat_tests}
use Rattle.un_base.specs.declared.ids.TempId.{TempId}
use Rattle.un_base.specs.declared.ids.VarId.{VarId}
use Rattle.un_ir.specs.declared.extended.Operand.{Operand}
use Rattle.un_domains.specs.Sets.{has, least, greatest}
use Rattle.un_domains.specs.SetLaws.{has-filter, has-cons, least-le, has-fold_max}
use Rattle.un_lists.proofs.Lists.{Member}
use Rattle.un_steps.specs.Words.{least_of, greatest_of, is_positive, Alternative, alternative_by, alternative_in}

-- ---- what there is of an option

pub some_of : {A : Type 0} (o : Option A) (P : A → Type 0) → IsSomeAnd o P → (a : A) × (o ≡ Some a) × P a
some_of None P h = absurd h
some_of (Some a) P h = (a, refl, h)

-- it is the one that is known
pub some_is : {A : Type 0} (o : Option A) (P : A → Type 0) (a : A) → o ≡ Some a → IsSomeAnd o P → P a
some_is None P a e h = absurd h
some_is (Some b) P a e h = let same : b ≡ a = cc e in subst P same h

-- ---- least and greatest

empty_has : (xs : List ℕ) (y : ℕ) → length xs ≡ 0 → has xs y ≡ true → ⊥
empty_has [] y e h = cc h
empty_has (x ∷ xs) y e h = omega arith

pub least_below : (xs : List ℕ) (y a : ℕ) → has xs y ≡ true → least_of xs ≡ Some a → a ≤ y
least_below xs y a h e = by (length xs == 0) refl
  where
    by : (b : Bool) → (length xs == 0) ≡ b → a ≤ y
    by true f = let z : None ≡ Some a = sym (ap (λ (b : Bool). if b then None else Some (least xs)) f) ∙ e in absurd (cc z)
    by false f =
        let z : Some (least xs) ≡ Some a = sym (ap (λ (b : Bool). if b then None else Some (least xs)) f) ∙ e in
        let same : least xs ≡ a = cc z in
        let le = least-le xs y h in
        omega (arith, same, le)

pub greatest_above : (xs : List ℕ) (y a : ℕ) → has xs y ≡ true → greatest_of xs ≡ Some a → y ≤ a
greatest_above xs y a h e = by (length xs == 0) refl
  where
    by : (b : Bool) → (length xs == 0) ≡ b → y ≤ a
    by true f = let z : None ≡ Some a = sym (ap (λ (b : Bool). if b then None else Some (greatest xs)) f) ∙ e in absurd (cc z)
    by false f =
        let z : Some (greatest xs) ≡ Some a = sym (ap (λ (b : Bool). if b then None else Some (greatest xs)) f) ∙ e in
        let same : greatest xs ≡ a = cc z in
        let le = has-fold_max 0 xs y h in
        omega (arith, same, le)

-- a number that is not below the least of a set, nor above its greatest
pub at_least : (xs : List ℕ) (y : ℕ) (P : ℕ → Type 0) → has xs y ≡ true → IsSomeAnd (least_of xs) P → (a : ℕ) × (a ≤ y) × P a
at_least xs y P h i = let r = some_of (least_of xs) P i in (r.0, least_below xs y r.0 h r.1, r.2)

pub at_most : (xs : List ℕ) (y : ℕ) (P : ℕ → Type 0) → has xs y ≡ true → IsSomeAnd (greatest_of xs) P → (a : ℕ) × (y ≤ a) × P a
at_most xs y P h i = let r = some_of (greatest_of xs) P i in (r.0, greatest_above xs y r.0 h r.1, r.2)

-- ---- what a set has

pub has_positive : (xs : List ℕ) (y : ℕ) → has xs y ≡ true → 0 < y → has (filter is_positive xs) y ≡ true
has_positive xs y h lt = has-filter is_positive y xs ∙ ap (λ (b : Bool). b && has xs y) (positive y lt) ∙ h
  where
    positive : (y : ℕ) → 0 < y → is_positive y ≡ true
    positive y lt = grind (arith, nat_tests)

or_left : (a b : Bool) → a ≡ true → (a || b) ≡ true
or_left true b e = refl
or_left false b e = absurd (cc e)

or_right : (a b : Bool) → b ≡ true → (a || b) ≡ true
or_right true b e = refl
or_right false b e = e

-- ---- alternatives

-- what an alternative is of
pub record Picked (v y j : ℕ) (ws : List VarId) (operands : List Operand) (a : Alternative) : Type 0 where
  pub place : ℕ
  pub at : a.at ≡ j + place
  pub choice : VarId
  pub choice_at : slice_get ws place ≡ Some choice
  pub choice_is : choice.0 ≡ v
  pub operand_at : slice_get operands place ≡ Some a.operand
  pub temp_at : slice_get (let b = a.operand in b.alts) y ≡ Some a.temp

pub picked : (v y j : ℕ) (ws : List VarId) (operands : List Operand) (a : Alternative) → alternative_in v y j ws operands ≡ Some a
    → Picked v y j ws operands a
picked v y j [] operands a h = absurd (cc h)
picked v y j (w ∷ ws) [] a h = absurd (cc h)
picked v y j (w ∷ ws) (b ∷ bs) a h = by (w.0 == v) refl (λ k. picked v y (j + 1) ws bs a k)
  where
    one : (t : Option TempId) → slice_get b.alts y ≡ t → alternative_by j b t ≡ Some a → w.0 ≡ v → Picked v y j (w ∷ ws) (b ∷ bs) a
    one None f k e = absurd (cc k)
    one (Some x) f k e =
        let made : Alternative = record { at = j; operand = b; temp = x } in
        let same : made ≡ a = cc k in
        subst (Picked v y j (w ∷ ws) (b ∷ bs)) same (record {
          place = 0;
          at = omega arith;
          choice = w;
          choice_at = refl;
          choice_is = e;
          operand_at = refl;
          temp_at = f;
        })

    by : (t : Bool) → (w.0 == v) ≡ t → (alternative_in v y (j + 1) ws bs ≡ Some a → Picked v y (j + 1) ws bs a)
        → Picked v y j (w ∷ ws) (b ∷ bs) a
    by true e next =
        let k : alternative_by j b (slice_get b.alts y) ≡ Some a =
        sym (ap (λ (t : Bool). if t then alternative_by j b (slice_get b.alts y) else alternative_in v y (j + 1) ws bs) e) ∙ h in
        one (slice_get b.alts y) refl k (eqb-true w.0 v e)
    by false e next =
        let k : alternative_in v y (j + 1) ws bs ≡ Some a =
        sym (ap (λ (t : Bool). if t then alternative_by j b (slice_get b.alts y) else alternative_in v y (j + 1) ws bs) e) ∙ h in
        let r = next k in
        let n = r.at in
        record {
          place = suc r.place;
          at = omega (arith, n);
          choice = r.choice;
          choice_at = r.choice_at;
          choice_is = r.choice_is;
          operand_at = r.operand_at;
          temp_at = r.temp_at;
        }

-- ---- members

pub has_member : (xs : List ℕ) (y : ℕ) → has xs y ≡ true → Member y xs
has_member [] y h = absurd (cc h)
has_member (x ∷ xs) y h = elim (has-cons x y xs h) [ inl e ↦ inl (sym e) | inr t ↦ inr (has_member xs y t) ]

pub any_member : {X : Type 0} (t : X → Bool) (xs : List X) (a : X) → Member a xs → t a ≡ true → list_any t xs ≡ true
any_member t [] a m e = elim m [ ]
any_member t (y ∷ ys) a (inl q) e = or_left (t y) (list_any t ys) (ap t q ∙ e)
any_member t (y ∷ ys) a (inr m) e = or_right (t y) (list_any t ys) (any_member t ys a m e)

pub contains_at : {X : Type 0} (xs : List X) (a : X) → Member a xs → Contains xs a
contains_at [] a m = elim m [ ]
contains_at (y ∷ ys) a (inl e) = (0, omega arith, e)
contains_at (y ∷ ys) a (inr m) = let r = contains_at ys a m in let lt = r.1 in (suc r.0, omega (arith, lt), r.2)
