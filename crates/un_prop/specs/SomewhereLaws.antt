-- Laws of tests that some value passes.
use Rattle.std.proofs.Common.{ℕ, ◌≡◌, ◌<◌, ◌≤◌, ◌+◌, ◌⊎◌, Bool, true, false, ◌&&◌, ◌||◌, List, [], ◌∷◌, nat_lt, refl}
use Rattle.std.proofs.Common.{sym, ap, ◌∙◌, subst, arith, inl, inr}
use Rattle.std.specs.List.{list_any}
use Rattle.std.proofs.lemmas.Bool.Decides.{nat_tests}
use Rattle.un_domains.specs.Sets.{has, least, greatest}
use Rattle.un_domains.specs.SetLaws.{least-le, has-fold_max, has-cons}
use Rattle.un_domains.specs.OrderLaws.{has_here, has_later, same_test, and_true, both_true}
use Rattle.un_prop.specs.Somewhere.{any_before}

-- a value that passes
pub any_find : (p : ℕ → Bool) (xs : List ℕ) → list_any p xs ≡ true → (y : ℕ) × (has xs y ≡ true) × (p y ≡ true)
any_find p [] h = absurd (cc h)
any_find p (x ∷ xs) h = by (p x) refl h (any_find p xs)
  where
    by : (b : Bool) → p x ≡ b → (b || list_any p xs) ≡ true → (list_any p xs ≡ true → (y : ℕ) × (has xs y ≡ true) × (p y ≡ true))
        → (y : ℕ) × (has (x ∷ xs) y ≡ true) × (p y ≡ true)
    by true e h rest = (x, has_here x xs, e)
    by false e h rest = let r = rest h in (r.0, has_later x r.0 xs r.1, r.2)

pub any_has : (p : ℕ → Bool) (xs : List ℕ) (y : ℕ) → has xs y ≡ true → p y ≡ true → list_any p xs ≡ true
any_has p [] y h k = absurd (cc h)
any_has p (x ∷ xs) y h k = elim (has-cons x y xs h) [
  | inl e ↦ (let here : p x ≡ true = subst (λ (z : ℕ). p z ≡ true) e k in ap (λ (b : Bool). b || list_any p xs) here)
  | inr later ↦ or_true (p x) (list_any p xs) (any_has p xs y later k)
]
  where
    or_true : (b c : Bool) → c ≡ true → (b || c) ≡ true
    or_true true c h = refl
    or_true false c h = h

-- more pass in more values
pub any_more : (p q : ℕ → Bool) (xs ys : List ℕ) → ((y : ℕ) → has xs y ≡ true → p y ≡ true → (has ys y ≡ true) × (q y ≡ true)) →
    list_any p xs ≡ true → list_any q ys ≡ true
any_more p q xs ys h e = let r = any_find p xs e in let k = h r.0 r.1 r.2 in any_has q ys r.0 k.0 k.1

pub any_agree : (p q : ℕ → Bool) (xs : List ℕ) → ((y : ℕ) → p y ≡ q y) → list_any p xs ≡ list_any q xs
any_agree p q [] h = refl
any_agree p q (x ∷ xs) h = ap (λ (b : Bool). b || list_any p xs) (h x) ∙ ap (λ (b : Bool). q x || b) (any_agree p q xs h)

-- before the least value, after the greatest, and one value further
pub any_none : (p : ℕ → Bool) (xs : List ℕ) (n : ℕ) → n ≤ least xs → any_before p xs n ≡ false
any_none p xs n le = by (any_before p xs n) refl
  where
    by : (b : Bool) → any_before p xs n ≡ b → b ≡ false
    by false e = refl
    by true e =
        let r = any_find (λ z. nat_lt z n && p z) xs e in
        let lt : r.0 < n = (let t = (and_true (nat_lt r.0 n) (p r.0) r.2).0 in grind (arith, nat_tests, t)) in
        absurd (omega (arith, lt, le, least-le xs r.0 r.1))

pub any_whole : (p : ℕ → Bool) (xs : List ℕ) (n : ℕ) → greatest xs < n → any_before p xs n ≡ list_any p xs
any_whole p xs n lt = same_test (any_before p xs n) (list_any p xs)
    (any_more (λ z. nat_lt z n && p z) p xs xs (λ y h k. (h, (and_true (nat_lt y n) (p y) k).1)))
    (any_more p (λ z. nat_lt z n && p z) xs xs
    (λ y h k. (h, both_true (nat_lt y n) (p y) (let le = has-fold_max 0 xs y h in grind (arith, nat_tests, lt, le)) k)))

pub any_next : (p : ℕ → Bool) (xs : List ℕ) (n : ℕ) → any_before p xs (n + 1) ≡ (any_before p xs n || (has xs n && p n))
any_next p xs n = same_test (any_before p xs (n + 1)) (any_before p xs n || (has xs n && p n)) forth back
  where
    or_left : (b c : Bool) → b ≡ true → (b || c) ≡ true
    or_left true c h = refl
    or_left false c h = absurd (cc h)

    or_right : (b c : Bool) → c ≡ true → (b || c) ≡ true
    or_right true c h = refl
    or_right false c h = h

    or_cases : (b c : Bool) → (b || c) ≡ true → (b ≡ true) ⊎ (c ≡ true)
    or_cases true c h = inl refl
    or_cases false c h = inr h

    forth : any_before p xs (n + 1) ≡ true → (any_before p xs n || (has xs n && p n)) ≡ true
    forth e =
        let r = any_find (λ z. nat_lt z (n + 1) && p z) xs e in
        let two = and_true (nat_lt r.0 (n + 1)) (p r.0) r.2 in
        at r.0 r.1 two.1 (less r.0 two.0)
      where
        less : (y : ℕ) → nat_lt y (n + 1) ≡ true → (y < n) ⊎ (y ≡ n)
        less y t = grind (arith, nat_tests, t)

        at : (y : ℕ) → has xs y ≡ true → p y ≡ true → (y < n) ⊎ (y ≡ n) → (any_before p xs n || (has xs n && p n)) ≡ true
        at y h k (inl lt) = or_left (any_before p xs n) (has xs n && p n)
            (any_has (λ z. nat_lt z n && p z) xs y h (both_true (nat_lt y n) (p y) (grind (arith, nat_tests, lt)) k))
        at y h k (inr is) = or_right (any_before p xs n) (has xs n && p n)
            (both_true (has xs n) (p n) (subst (λ (z : ℕ). has xs z ≡ true) is h) (subst (λ (z : ℕ). p z ≡ true) is k))

    back : (any_before p xs n || (has xs n && p n)) ≡ true → any_before p xs (n + 1) ≡ true
    back e = elim (or_cases (any_before p xs n) (has xs n && p n) e) [
      | inl some ↦ any_more (λ z. nat_lt z n && p z) (λ z. nat_lt z (n + 1) && p z) xs xs
          (λ y h k. (let two = and_true (nat_lt y n) (p y) k in
          (h, both_true (nat_lt y (n + 1)) (p y) (let t = two.0 in grind (arith, nat_tests, t)) two.1))) some
      | inr here ↦ (let two = and_true (has xs n) (p n) here in any_has (λ z. nat_lt z (n + 1) && p z) xs n two.0
          (both_true (nat_lt n (n + 1)) (p n) (grind (arith, nat_tests)) two.1))
    ]

-- a value that is there joins what is known of those below it; one that is not there changes nothing
pub next_there : (p : ℕ → Bool) (xs : List ℕ) (n : ℕ) (r a b : Bool) → has xs n ≡ true → r ≡ (a || b) → a ≡ any_before p xs n → b ≡ p n
    → r ≡ any_before p xs (n + 1)
next_there p xs n r a b h e f g = e ∙ (ap (λ (c : Bool). c || b) f ∙
    (ap (λ (c : Bool). any_before p xs n || c) (g ∙ sym (ap (λ (c : Bool). c && p n) h)) ∙ sym (any_next p xs n)))

pub next_absent : (p : ℕ → Bool) (xs : List ℕ) (n : ℕ) (a : Bool) → has xs n ≡ false → a ≡ any_before p xs n → a ≡ any_before p xs (n + 1)
next_absent p xs n a h e = e ∙ (sym (or_none (any_before p xs n)) ∙
    (ap (λ (c : Bool). any_before p xs n || c) (sym (ap (λ (c : Bool). c && p n) h)) ∙ sym (any_next p xs n)))
  where
    or_none : (b : Bool) → (b || false) ≡ b
    or_none true = refl
    or_none false = refl

-- nothing passes below n + 1, where nothing does below n, and n is not there or does not pass
pub none_next : (p : ℕ → Bool) (xs : List ℕ) (n : ℕ) → any_before p xs n ≡ false → (has xs n ≡ false) ⊎ (p n ≡ false) → any_before p xs
    (n + 1) ≡ false
none_next p xs n e k = any_next p xs n ∙ (ap (λ (b : Bool). b || (has xs n && p n)) e ∙ neither k)
  where
    refused : (b : Bool) → (b && false) ≡ false
    refused true = refl
    refused false = refl

    neither : (has xs n ≡ false) ⊎ (p n ≡ false) → (has xs n && p n) ≡ false
    neither (inl h) = ap (λ (b : Bool). b && p n) h
    neither (inr h) = ap (λ (b : Bool). has xs n && b) h ∙ refused (has xs n)
