-- The laws of rows of least ends.
use Rattle.std.proofs.Common.{ℕ, ◌≡◌, ◌≤◌, ◌+◌, ◌-◌, ◌*◌, ◌∙◌, Bool, true, false, ◌&&◌, ◌||◌, List, [], ◌∷◌, max}
use Rattle.std.proofs.Common.{get_or, nat_le, nat_lt, refl, ap, arith}
use Rattle.std.specs.List.{list_all, list_any, AllByRecursion}
use Rattle.std.proofs.lemmas.Bool.Decides.{nat_tests}
use Rattle.std.proofs.lemmas.List.Elements.{recursion_from_All}
use Rattle.std.proofs.Math.Nat.{mul-le-mul_left}
use Rattle.un_base.specs.declared.ids.VarId.{VarId}
use Rattle.un_domains.specs.Sets.{Sets, set_at, least, greatest, IsIn, Kept}
use Rattle.un_domains.specs.SetLaws.{least-le, has-fold_max}
use Rattle.un_domains.specs.OrderLaws.{least_below, greatest_below}
use Rattle.un_prop.specs.Among.{among}
use Rattle.un_prop.specs.AmongLaws.{has_among, same_var}
use Rattle.un_prop.specs.FailLaws.{first_lawful, first_keeps}
use Rattle.un_prop.specs.Lawful.{Lawful, LawfulTest}
use Rattle.un_prop.specs.LookLaws.{both, firsts, set_alike}
use Rattle.un_prop.specs.Parts.{SameAt}
use Rattle.un_prop.specs.Rounds.{HasVars}
use Rattle.un_counted.specs.declared.counted.LeastEnd.{LeastEnd}
use Rattle.un_counted.specs.Counted.{value_at, lowest, highest, reaches, cost_of, row_holds, counted_holds, counted_test, counted_cut}
use Rattle.un_counted.specs.Counted.{RowVars, RowsVars}

-- ---- lists

any_more : {A : Type 0} (P : A → Type 0) (p q : A → Bool) → ((a : A) → P a → p a ≡ true → q a ≡ true) → (xs : List A)
    → AllByRecursion P xs → list_any p xs ≡ true → list_any q xs ≡ true
any_more P p q h [] all t = absurd (cc t)
any_more P p q h (x ∷ xs) all t = by (p x) refl t (any_more P p q h xs all.1)
  where
    later : list_any q xs ≡ true → (b : Bool) → (b || list_any q xs) ≡ true
    later e true = refl
    later e false = e

    by : (b : Bool) → p x ≡ b → (b || list_any p xs) ≡ true → (list_any p xs ≡ true → list_any q xs ≡ true) → list_any q (x ∷ xs) ≡ true
    by true e t rest = ap (λ (b : Bool). b || list_any q xs) (h x all.0 e)
    by false e t rest = later (rest t) (q x)

any_alike : {A : Type 0} (P : A → Type 0) (p q : A → Bool) → ((a : A) → P a → p a ≡ q a) → (xs : List A) → AllByRecursion P xs
    → list_any p xs ≡ list_any q xs
any_alike P p q h [] all = refl
any_alike P p q h (x ∷ xs) all = ap (λ (b : Bool). b || list_any p xs) (h x all.0)
    ∙ ap (λ (b : Bool). q x || b) (any_alike P p q h xs all.1)

all_more : {A : Type 0} (P : A → Type 0) (p q : A → Bool) → ((a : A) → P a → p a ≡ true → q a ≡ true) → (xs : List A)
    → AllByRecursion P xs → list_all p xs ≡ true → list_all q xs ≡ true
all_more P p q h [] all t = refl
all_more P p q h (x ∷ xs) all t =
    let two = firsts (p x) (list_all p xs) t in
    both (q x) (list_all q xs) (h x all.0 two.0) (all_more P p q h xs all.1 two.1)

all_alike : {A : Type 0} (P : A → Type 0) (p q : A → Bool) → ((a : A) → P a → p a ≡ q a) → (xs : List A) → AllByRecursion P xs
    → list_all p xs ≡ list_all q xs
all_alike P p q h [] all = refl
all_alike P p q h (x ∷ xs) all = ap (λ (b : Bool). b && list_all p xs) (h x all.0)
    ∙ ap (λ (b : Bool). q x && b) (all_alike P p q h xs all.1)

-- ---- a row

cost_le : (P : LeastEnd → Type 0) (f g : VarId → ℕ) → ((e : LeastEnd) → P e → f e.end ≤ g e.end) → (es : List LeastEnd)
    → AllByRecursion P es → cost_of es f ≤ cost_of es g
cost_le P f g h [] all = omega arith
cost_le P f g h (e ∷ es) all =
    let le = h e all.0 in
    let one : max (f e.end) e.least - 1 ≤ max (g e.end) e.least - 1 = omega (arith, le) in
    let more = mul-le-mul_left e.freq one in
    let rest = cost_le P f g h es all.1 in
    omega (arith, more, rest)

cost_alike : (P : LeastEnd → Type 0) (f g : VarId → ℕ) → ((e : LeastEnd) → P e → f e.end ≡ g e.end) → (es : List LeastEnd)
    → AllByRecursion P es → cost_of es f ≡ cost_of es g
cost_alike P f g h [] all = refl
cost_alike P f g h (e ∷ es) all =
    ap (λ (n : ℕ). e.freq * (max n e.least - 1) + cost_of es f) (h e all.0)
    ∙ ap (λ (n : ℕ). e.freq * (max (g e.end) e.least - 1) + n) (cost_alike P f g h es all.1)

module _ (vs : List VarId) where
  abbrev IsOne : LeastEnd → Type 0
  IsOne e = among vs e.end ≡ true

  -- what is met between ends is met between wider ones
  row_more : (limit : ℕ) (low high low' high' : VarId → ℕ) → ((e : LeastEnd) → IsOne e → low e.end ≤ low' e.end)
      → ((e : LeastEnd) → IsOne e → high' e.end ≤ high e.end) → (row : List LeastEnd) → RowVars vs row
      → row_holds limit low' high' row ≡ true → row_holds limit low high row ≡ true
  row_more limit low high low' high' down up row of_row h =
      let all = recursion_from_All _ _ of_row in
      let two = firsts (list_all (reaches high') row) (nat_lt (cost_of row low') limit) h in
      let cost = cost_le IsOne low low' down row all in
      let less = two.1 in
      both (list_all (reaches high) row) (nat_lt (cost_of row low) limit)
      (all_more IsOne (reaches high') (reaches high) (λ e there t. (let le = up e there in grind (arith, nat_tests, t, le))) row all two.0)
      (grind (arith, nat_tests, less, cost))

  row_alike : (limit : ℕ) (low high low' high' : VarId → ℕ) → ((e : LeastEnd) → IsOne e → low e.end ≡ low' e.end)
      → ((e : LeastEnd) → IsOne e → high e.end ≡ high' e.end) → (row : List LeastEnd) → RowVars vs row
      → row_holds limit low high row ≡ row_holds limit low' high' row
  row_alike limit low high low' high' l h row of_row =
      let all = recursion_from_All _ _ of_row in
      ap (λ (b : Bool). b && nat_lt (cost_of row low) limit)
      (all_alike IsOne (reaches high) (reaches high') (λ e there. ap (nat_le e.least) (h e there)) row all)
      ∙ ap (λ (n : ℕ). list_all (reaches high') row && nat_lt n limit) (cost_alike IsOne low low' l row all)

  module _ (rows : List (List LeastEnd)) (limit : ℕ) (among_all : RowsVars vs rows) where
    of_rows : AllByRecursion (RowVars vs) rows
    of_rows = recursion_from_All _ _ among_all

    pub counted_looks : (x y : List ℕ) → SameAt vs x y → counted_holds rows limit x ≡ counted_holds rows limit y
    counted_looks x y same = any_alike (RowVars vs) (row_holds limit (value_at x) (value_at x)) (row_holds limit (value_at y) (value_at y))
        (λ row h. row_alike limit (value_at x) (value_at x) (value_at y) (value_at y) (λ e there. same_var vs x y same e.end there)
        (λ e there. same_var vs x y same e.end there) row h) rows of_rows

    counted_lawful_test : LawfulTest vs (λ s y. counted_test rows limit s)
    counted_lawful_test = record {
      monotone = λ t s y k full le pass. any_more (RowVars vs) (row_holds limit (lowest t) (highest t))
          (row_holds limit (lowest s) (highest s))
          (λ row h. row_more limit (lowest s) (highest s) (lowest t) (highest t)
          (λ e there. least_below t s e.end.0 le (full e.end.0 (let here = has_among vs e.end s there k in omega (arith, here, le.long))))
          (λ e there. greatest_below t s e.end.0 le) row h) rows of_rows pass;
      local = λ s t y agree. any_alike (RowVars vs) (row_holds limit (lowest s) (highest s)) (row_holds limit (lowest t) (highest t))
          (λ row h. row_alike limit (lowest s) (highest s) (lowest t) (highest t)
          (λ e there. ap least (set_alike vs s t agree e.end there)) (λ e there. ap greatest (set_alike vs s t agree e.end there)) row h)
          rows of_rows;
    }

    pub counted_lawful : Lawful vs (counted_cut vs rows limit)
    counted_lawful = first_lawful (λ s y. counted_test rows limit s) vs counted_lawful_test

    -- a row that an assignment meets may be met in each store that has it
    pub counted_kept : (s : Sets) (x : List ℕ) → HasVars vs s → IsIn x s → counted_holds rows limit x ≡ true → counted_test rows limit s ≡ true
    counted_kept s x known there holds = any_more (RowVars vs) (row_holds limit (value_at x) (value_at x))
        (row_holds limit (lowest s) (highest s))
        (λ row h. row_more limit (lowest s) (highest s) (value_at x) (value_at x)
        (λ e one. least-le (set_at s e.end.0) (get_or x e.end.0 0) (there.each e.end.0 (has_among vs e.end s one known)))
        (λ e one. has-fold_max 0 (set_at s e.end.0) (get_or x e.end.0 0) (there.each e.end.0 (has_among vs e.end s one known))) row h)
        rows of_rows holds

    pub counted_keeps : (s : Sets) (x : List ℕ) → HasVars vs s → IsIn x s → counted_holds rows limit x ≡ true
        → Kept x (counted_cut vs rows limit s)
    counted_keeps s x known there holds = first_keeps (λ s y. counted_test rows limit s) vs s x known there
        (λ y. counted_kept s x known there holds)
