-- An operand that may have two registers.
use Rattle.std.proofs.Common.{ℕ, zero, suc, ◌≡◌, ◌<◌, Bool, true, false, not, ◌&&◌, ◌||◌, List, [], ◌∷◌, length, get_or, nat_eq, Some}
use Rattle.std.proofs.Common.{refl, ap, ◌∙◌, subst, arith}
use Rattle.std.specs.List.{list_any}
use Rattle.std.proofs.lemmas.Bool.Decides.{nat_tests}
use Rattle.un_base.specs.declared.ids.VarId.{VarId}
use Rattle.un_domains.specs.Sets.{Sets, set_at, has, NoneEmpty}
use Rattle.un_prop.specs.Choices.{passes_at}
use Rattle.un_prop.specs.LastLaws.{cut_all, passes_tested}
use Rattle.un_rect.specs.Entries.{entry_cut, each_entry}
use Rattle.un_rect.specs.Operands.{Side, may_have, avoids_at, may_avoid, other_test, other_cut}
use Rattle.un_rect.proofs.Survivors.{each_idle}

-- an item that passes
any_item : (p : ℕ → Bool) (xs : List ℕ) (k d : ℕ) → k < length xs → p (get_or xs k d) ≡ true → list_any p xs ≡ true
any_item p [] k d lt e = absurd (omega (arith, lt))
any_item p (x ∷ xs) zero d lt e = ap (λ (b : Bool). b || list_any p xs) e
any_item p (x ∷ xs) (suc k) d lt e = or_true (p x) (list_any p xs) (any_item p xs k d (omega (arith, lt)) e)
  where
    or_true : (b c : Bool) → c ≡ true → (b || c) ≡ true
    or_true true c h = refl
    or_true false c h = h

-- it may avoid each where it may have one and avoid that
pub free : (a : Side) (s : Sets) (k d r : ℕ) → k < length a.allowed → may_have a s (get_or a.allowed k d) ≡ true
    → may_avoid a s (get_or a.allowed k d) ≡ true → may_avoid a s r ≡ true
free a s k d r lt have avoid = by (nat_eq (get_or a.allowed k d) r) refl
  where
    by : (b : Bool) → nat_eq (get_or a.allowed k d) r ≡ b → may_avoid a s r ≡ true
    by true e = let same : get_or a.allowed k d ≡ r = grind (arith, nat_tests, e) in subst (λ (n : ℕ). may_avoid a s n ≡ true) same avoid
    by false e = any_item (λ q. not (nat_eq q r) && may_have a s q) a.allowed k d lt
        (ap (λ (c : Bool). not c && may_have a s (get_or a.allowed k d)) e ∙ have)

-- so it takes no register from the other
pub others_free : (a : Side) (v : VarId) (s : Sets) → v.0 < length s → NoneEmpty s → ((r : ℕ) → may_avoid a s r ≡ true)
    → each_entry (other_cut a v) a.allowed s ≡ Some s
others_free a v s within full h = each_idle (entry_cut (other_cut a v) a.allowed) s (length a.allowed) (each a.allowed)
  where
    one : (r : ℕ) → other_cut a v r s ≡ Some s
    one r = cut_all (other_test a r s) v.0 s within full (λ y there. passes_tested (not (nat_eq y r)) (may_avoid a s r) (h r))

    each : (xs : List ℕ) (i : ℕ) → entry_cut (other_cut a v) xs i s ≡ Some s
    each [] i = refl
    each (x ∷ xs) zero = one x
    each (x ∷ xs) (suc i) = each xs i

-- whether at some place some register serves, or some register at some place

any_never : (xs : List ℕ) → list_any (λ (i : ℕ). false) xs ≡ false
any_never [] = refl
any_never (x ∷ xs) = any_never xs

any_either : (f g : ℕ → Bool) (xs : List ℕ) → list_any (λ i. f i || g i) xs ≡ (list_any f xs || list_any g xs)
any_either f g [] = refl
any_either f g (x ∷ xs) = ap (λ (c : Bool). (f x || g x) || c) (any_either f g xs) ∙ mixed (f x) (g x) (list_any f xs) (list_any g xs)
  where
    mixed : (p q m n : Bool) → ((p || q) || (m || n)) ≡ ((p || m) || (q || n))
    mixed true q m n = refl
    mixed false true true n = refl
    mixed false true false n = refl
    mixed false false m n = refl

any_held : (c : Bool) (f : ℕ → Bool) (xs : List ℕ) → list_any (λ i. c && f i) xs ≡ (c && list_any f xs)
any_held true f xs = refl
any_held false f xs = any_never xs

any_turned : (p : ℕ → Bool) (g : ℕ → ℕ → Bool) (xs ys : List ℕ)
    → list_any (λ i. list_any (λ q. p q && g q i) ys) xs ≡ list_any (λ q. p q && list_any (g q) xs) ys
any_turned p g xs [] = any_never xs
any_turned p g xs (y ∷ ys) = any_either (λ i. p y && g y i) (λ i. list_any (λ q. p q && g q i) ys) xs
    ∙ (ap (λ (c : Bool). c || list_any (λ i. list_any (λ q. p q && g q i) ys) xs) (any_held (p y) (g y) xs)
    ∙ ap (λ (c : Bool). (p y && list_any (g y) xs) || c) (any_turned p g xs ys))

pub avoid_turned : (a : Side) (s : Sets) (r : ℕ) → list_any (avoids_at a s r) (set_at s a.choice.0) ≡ may_avoid a s r
avoid_turned a s r = any_turned (λ q. not (nat_eq q r)) (λ q. passes_at (λ (v : VarId). has (set_at s v.0) q) a.regs)
    (set_at s a.choice.0) a.allowed
