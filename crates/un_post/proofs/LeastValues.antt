-- The least values of a store's sets meet what is posted of cycles and ends, where the propagators of these let the store stay as it is.
use Rattle.std.proofs.Common.{ℕ, zero, suc, ◌≡◌, ◌+◌, ◌-◌, ◌*◌, ◌<◌, ◌≤◌, Bool, true, false, List, [], ◌∷◌, length, map, fold, min}
use Rattle.std.proofs.Common.{inl, inr, ◌⊎◌, refl, sym, ap, ◌∙◌, subst, arith}
use Rattle.std.proofs.lemmas.Bool.Decides.{nat_tests}
use Rattle.std.proofs.lemmas.List.{length-map}
use Rattle.std.specs.Prelude.{not, ◌&&◌, ◌||◌, nat_eq, nat_le, slice_index}
use Rattle.un_domains.specs.Sets.{Sets, IsIn, NoneEmpty, has, set_at, least}
use Rattle.un_domains.specs.SetLaws.{least-le}
use Rattle.un_domains.specs.OrderLaws.{has_here, has_later}
use Rattle.un_prop.specs.declared.act.Act.{Act}
use Rattle.un_prop.specs.declared.act.Act.TheVariants.{Always, Var as ActVar}
use Rattle.un_prop.specs.declared.act.At.{At}
use Rattle.un_prop.specs.declared.act.At.TheVariants.{Const, Var}
use Rattle.un_prop.specs.Acts.{is_active, at_value}
use Rattle.un_prop.specs.Looks.{at_set, sure}
use Rattle.un_prec.specs.Before.{before_holds}
use Rattle.un_prec.specs.Below.{cost_of}
use Rattle.un_prec.specs.declared.below.Weighted.{Weighted}
use Rattle.un_kinds.specs.Constraints.{Constraint, meets, Before, Inside, Last, Below}
use Rattle.un_post.specs.Strength.{is_timing, Strong}
use Rattle.un_post.proofs.Tests.{le_iff, lt_iff, eq_iff, and_iff}

abbrev pub leasts : Sets → List ℕ
leasts s = map least s

-- ---- the least is a value

fold_reached : (a : ℕ) (xs : List ℕ) → (fold min a xs ≡ a) ⊎ (has xs (fold min a xs) ≡ true)
fold_reached a [] = inl refl
fold_reached a (x ∷ xs) = by (fold_reached (min a x) xs)
  where
    le_case : (b : Bool) → nat_le a x ≡ b → (min a x ≡ a) ⊎ (min a x ≡ x)
    le_case true e = let le : a ≤ x = (le_iff a x).1 e in inl (omega arith)
    le_case false e = let lt : x < a = grind (arith, nat_tests, e) in inr (omega arith)

    by : (fold min (min a x) xs ≡ min a x) ⊎ (has xs (fold min (min a x) xs) ≡ true)
        → (fold min (min a x) xs ≡ a) ⊎ (has (x ∷ xs) (fold min (min a x) xs) ≡ true)
    by (inr h) = inr (has_later x (fold min (min a x) xs) xs h)
    by (inl h) = elim (le_case (nat_le a x) refl) [
      | inl e ↦ inl (h ∙ e)
      | inr e ↦ inr (subst (λ n. has (x ∷ xs) n ≡ true) (sym (h ∙ e)) (has_here x xs))
    ]

has_least : (xs : List ℕ) → 0 < length xs → has xs (least xs) ≡ true
has_least [] lt = absurd (omega arith)
has_least (x ∷ xs) lt = elim (fold_reached x xs) [
  | inl e ↦ subst (λ n. has (x ∷ xs) n ≡ true) (sym e) (has_here x xs)
  | inr h ↦ has_later x (fold min x xs) xs h
]

pub least_at : (s : Sets) (v : ℕ) → slice_index (leasts s) v ≡ least (set_at s v)
least_at [] v = refl
least_at (xs ∷ s) zero = refl
least_at (xs ∷ s) (suc v) = least_at s v

pub leasts_in : (s : Sets) → NoneEmpty s → IsIn (leasts s) s
leasts_in s some = record {
  long = length-map s least;
  each = λ v lt. subst (λ n. has (set_at s v) n ≡ true) (sym (least_at s v)) (has_least (set_at s v) (some v lt));
}

-- ---- links

holds_where : (p q t : Bool) → (p ≡ true → q ≡ true → t ≡ true) → (not (p && q) || t) ≡ true
holds_where true true t h = h refl refl
holds_where true false t h = refl
holds_where false q t h = refl

module _ (s : Sets) where
  time_least : (a : At) → at_value a (leasts s) ≡ least (at_set a s)
  time_least (Const n) = refl
  time_least (Var v) = least_at s v.0

  -- what is active at the least values is sure
  active_sure : (on : Act) → is_active on (leasts s) ≡ true → sure on s ≡ true
  active_sure Always h = refl
  active_sure (ActVar v) h = by (has (set_at s v.0) 0) refl
    where
      by : (b : Bool) → has (set_at s v.0) 0 ≡ b → not (has (set_at s v.0) 0) ≡ true
      by false e = ap not e
      by true e =
          let le = least-le (set_at s v.0) 0 e in
          let at = least_at s v.0 in
          let none : slice_index (leasts s) v.0 ≡ 0 = omega (arith, le, at) in
          let z : false ≡ true = ap (λ n. not (nat_eq n 0)) (sym none) ∙ h in
          absurd (cc z)

  before_met : (a : At) (a_on : Act) (b : At) (b_on : Act) (gap : ℕ)
      → (sure a_on s ≡ true → sure b_on s ≡ true → least (at_set a s) + gap ≤ least (at_set b s))
      → before_holds a a_on b b_on gap (leasts s) ≡ true
  before_met a a_on b b_on gap h =
      let x = leasts s in
      holds_where (is_active a_on x) (is_active b_on x) (nat_le (at_value a x + gap) (at_value b x)) (λ p q.
      let le = h (active_sure a_on p) (active_sure b_on q) in
      let f = time_least a in let t = time_least b in
      (le_iff (at_value a x + gap) (at_value b x)).0 (omega (arith, le, f, t)))

  same_cost : (es : List Weighted) → cost_of es (λ v. slice_index (leasts s) v.0) ≡ cost_of es (λ v. least (set_at s v.0))
  same_cost [] = refl
  same_cost (w ∷ es) =
      ap (λ n. w.freq * (n - 1) + cost_of es (λ v. slice_index (leasts s) v.0)) (least_at s w.end.0)
      ∙ ap (λ n. w.freq * (least (set_at s w.end.0) - 1) + n) (same_cost es)

  pub strong_met : (c : Constraint) → is_timing c ≡ true → Strong s c → meets c (leasts s) ≡ true
  strong_met (Before a a_on b b_on gap) t h = before_met a a_on b b_on gap h
  strong_met (Inside at on end) t h =
      (and_iff (before_holds (Const 0) Always (Var at) on 1 (leasts s)) (before_holds (Var at) on (Var end) Always 1 (leasts s))).0 (
        before_met (Const 0) Always (Var at) on 1 (λ a b. let k = h b in let lo = k.0 in omega (arith, lo)),
        before_met (Var at) on (Var end) Always 1 (λ a b. (h a).1),
      )
  strong_met (Last at end) t h =
      let a = least_at s at.0 in let b = least_at s end.0 in
      (eq_iff (slice_index (leasts s) end.0) (slice_index (leasts s) at.0 + 1)).0 (omega (arith, a, b, h))
  strong_met (Below ends limit) t h =
      let same = same_cost ends in
      (lt_iff (cost_of ends (λ v. slice_index (leasts s) v.0)) limit).0
      (subst (λ n. n < limit) (sym same) h)
  strong_met _ t h = absurd (cc t)
