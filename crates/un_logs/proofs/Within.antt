-- Boxes from which values were taken.
use Rattle.std.proofs.Common.{ℕ, zero, suc, ◌≡◌, ◌≢◌, ◌+◌, ◌<◌, ◌≤◌, Bool, true, false, ◌&&◌, not, List, [], ◌∷◌, length, filter}
use Rattle.std.proofs.Common.{refl, sym, ap, ◌∙◌, subst, arith, ◌⊎◌, inl, inr}
use Rattle.std.specs.Prelude.{nat_le, slice_set}
use Rattle.std.specs.Bool.{OnTrue, OnFalse}
use Rattle.std.proofs.lemmas.Bool.Decides.{nat_tests}
use Rattle.std.proofs.lemmas.List.{length-set, get_or-set_other}
use Rattle.std.proofs.lemmas.List.Sums.{sum_by-cons}
use Rattle.un_domains.specs.CutLaws.{filter-le, filter_whole}
use Rattle.un_domains.specs.SetLaws.{has-filter, same_or_not}
use Rattle.un_domains.specs.Sets.{Sets, set_at, has, kept, NoneEmpty, total}
use Rattle.un_steps.specs.Allowed.{is_taken, after}
use Rattle.un_steps.specs.declared.step.Step.{Step}
use Rattle.un_judge.specs.Judged.{HasEmpty}

-- each variable is left as many values at most
pub record IsWithin (old new : Sets) : Type 0 where
  pub long : length new ≡ length old
  pub fewer : (v : ℕ) → length (set_at new v) ≤ length (set_at old v)

pub within_same : (old new : Sets) → new ≡ old → IsWithin old new
within_same old new is = subst (IsWithin old) (sym is) (record { long = refl; fewer = λ v. omega arith })

pub within_then : (a b c : Sets) → IsWithin a b → IsWithin b c → IsWithin a c
within_then a b c h k = record { long = k.long ∙ h.long; fewer = λ v. let x = h.fewer v in let y = k.fewer v in omega (arith, x, y) }

nil : (xs : List ℕ) → length xs ≤ 0 → xs ≡ []
nil [] e = refl
nil (x ∷ xs) e = absurd (omega (arith, e))

-- an empty set stays empty
pub still_empty : (old new : Sets) → IsWithin old new → HasEmpty old → HasEmpty new
still_empty old new h e = record {
  var = e.var;
  there = let l = h.long in let t = e.there in omega (arith, l, t);
  none = let f = h.fewer e.var in let n : length (set_at old e.var) ≡ 0 = ap length e.none in nil (set_at new e.var) (omega (arith, f, n));
}

pub not_both : (s : Sets) → NoneEmpty s → HasEmpty s → ⊥
not_both s full e = let n : length (set_at s e.var) ≡ 0 = ap length e.none in let h = full e.var e.there in omega (arith, n, h)

-- ---- one variable's set

set_fewer : (s : Sets) (v : ℕ) (xs : List ℕ) → length xs ≤ length (set_at s v) → (w : ℕ) → length (set_at (slice_set s v xs) w) ≤ length (set_at s w)
set_fewer [] v xs le w = omega arith
set_fewer (x ∷ s) zero xs le zero = le
set_fewer (x ∷ s) zero xs le (suc w) = omega arith
set_fewer (x ∷ s) (suc v) xs le zero = omega arith
set_fewer (x ∷ s) (suc v) xs le (suc w) = set_fewer s v xs le w

pub kept_within : (p : ℕ → Bool) (s : Sets) (v : ℕ) → IsWithin s (kept p s v)
kept_within p s v = record {
  long = length-set s v (filter p (set_at s v));
  fewer = set_fewer s v (filter p (set_at s v)) (filter-le p (set_at s v));
}

pub after_within : (s : Sets) (step : Step) → IsWithin s (after s step)
after_within s step = kept_within (λ (y : ℕ). not (is_taken step y)) s step.var.0

-- the other sets stay
pub after_other : (s : Sets) (step : Step) (v : ℕ) → v ≢ step.var.0 → set_at (after s step) v ≡ set_at s v
after_other s step v other = get_or-set_other s step.var.0 v (filter (λ (y : ℕ). not (is_taken step y)) (set_at s step.var.0)) [] other

-- a value that is left is that of a variable
pub is_there : (s : Sets) (v y : ℕ) → has (set_at s v) y ≡ true → v < length s
is_there [] v y h = absurd (cc h)
is_there (x ∷ s) zero y h = omega arith
is_there (x ∷ s) (suc v) y h = let lt = is_there s v y h in omega (arith, lt)

total_set : (s : Sets) (v : ℕ) (xs : List ℕ) → v < length s → total (slice_set s v xs) + length (set_at s v) ≡ total s + length xs
total_set [] v xs lt = absurd (omega (arith, lt))
total_set (x ∷ s) zero xs lt = omega (arith, sum_by-cons length xs s, sum_by-cons length x s)
total_set (x ∷ s) (suc v) xs lt =
    let rest = total_set s v xs (omega (arith, lt)) in
    omega (arith, rest, sum_by-cons length x (slice_set s v xs), sum_by-cons length x s)

filter_drops : (p : ℕ → Bool) (xs : List ℕ) (y : ℕ) → has xs y ≡ true → p y ≡ false → length (filter p xs) < length xs
filter_drops p xs y h out = by (same_or_not (length (filter p xs)) (length xs))
  where
    by : (length (filter p xs) ≡ length xs) ⊎ (length (filter p xs) ≢ length xs) → length (filter p xs) < length xs
    by (inl same) =
        let whole : has (filter p xs) y ≡ true = ap (λ (ys : List ℕ). has ys y) (filter_whole p xs same) ∙ h in
        let none : has (filter p xs) y ≡ false = has-filter p y xs ∙ ap (λ (b : Bool). b && has xs y) out in
        absurd (cc (sym whole ∙ none))
    by (inr other) = let le = filter-le p xs in omega (arith, le, other)

taken : (step : Step) (y : ℕ) → step.first ≤ y → y ≤ step.last → not (is_taken step y) ≡ false
taken step y lo hi =
    let e : nat_le step.first y ≡ true = grind (arith, nat_tests, lo) in
    let f : nat_le y step.last ≡ true = grind (arith, nat_tests, hi) in
    rw (e, f) refl

-- a step that takes a value leaves fewer
pub after_fewer : (s : Sets) (step : Step) (y : ℕ) → has (set_at s step.var.0) y ≡ true → step.first ≤ y → y ≤ step.last
    → total (after s step) < total s
after_fewer s step y h lo hi =
    let v = step.var.0 in
    let p : ℕ → Bool = λ (k : ℕ). not (is_taken step k) in
    let set = total_set s v (filter p (set_at s v)) (is_there s v y h) in
    let less = filter_drops p (set_at s v) y h (taken step y lo hi) in
    omega (arith, set, less)

-- ---- answers

pub on_true : (b : Bool) (P : Type 0) → b ≡ true → OnTrue b P → P
on_true b P is h = subst (λ (k : Bool). OnTrue k P) is h

pub on_false : (b : Bool) (P : Type 0) → b ≡ false → OnFalse b P → P
on_false b P is h = subst (λ (k : Bool). OnFalse k P) is h

-- what is left at most, whether some went or not
pub total_left : (b : Bool) (new old : Sets) (P : Type 0) → OnTrue b (P × (total new < total old)) → OnFalse b (new ≡ old) → total new ≤ total old
total_left true new old P h k = let lt = h.1 in omega (arith, lt)
total_left false new old P h k = let e : total new ≡ total old = ap total k in omega (arith, e)

pub on_false_map : (b : Bool) (P Q : Type 0) → (P → Q) → OnFalse b P → OnFalse b Q
on_false_map true P Q f h = tt
on_false_map false P Q f h = f h

-- no set is empty where none but one variable's is, and that is not
pub full_by : (s : Sets) (v : ℕ) → ((w : ℕ) → w ≢ v → w < length s → 0 < length (set_at s w)) → 0 < length (set_at s v) → NoneEmpty s
full_by s v others some w lt = by (same_or_not w v)
  where
    by : (w ≡ v) ⊎ (w ≢ v) → 0 < length (set_at s w)
    by (inl same) = subst (λ (k : ℕ). 0 < length (set_at s k)) (sym same) some
    by (inr other) = others w other lt
