-- Lawful cuts: one test of one variable's values, and cuts one after another.
use Rattle.std.proofs.Common.{ℕ, suc, ◌≡◌, ◌≢◌, ◌<◌, ◌≤◌, ◌⊎◌, Bool, true, false, cond, List, [], ◌∷◌, length, get_or, set, filter, nat_eq}
use Rattle.std.proofs.Common.{None, Some, option_and_then, MatchOption, All, refl, sym, ap, ◌∙◌, subst, arith, inl, inr}
use Rattle.std.specs.declared.option.Option.{Option}
use Rattle.std.specs.Bool.{⊤}
use Rattle.std.specs.List.{Contains, AllByRecursion}
use Rattle.std.proofs.lemmas.Bool.Decides.{nat_tests}
use Rattle.std.proofs.lemmas.List.{get_or-set_same, get_or-set_other, length-set, ext_get_or}
use Rattle.std.proofs.lemmas.List.Elements.{filter_agree, All-contains, All-from_recursion}
use Rattle.un_base.specs.declared.ids.VarId.{VarId}
use Rattle.un_domains.specs.Sets.{Sets, set_at, has, kept, cut_by, NoneEmpty}
use Rattle.un_domains.specs.SetLaws.{same_or_not}
use Rattle.un_domains.specs.CutLaws.{filter-le}
use Rattle.un_prop.specs.Rounds.{HasVars, round}
use Rattle.un_domains.specs.Order.{Below}
use Rattle.un_prop.specs.Lawful.{BelowOption, Agree, AgreeOption, Lawful, LawfulTest}
use Rattle.un_domains.specs.OrderLaws.{Below-refl, Below-trans, filter_own, filter_below}

-- One cut

own_at : (zs ys xs : List ℕ) → zs ≡ ys → ys ≡ filter (has ys) xs → zs ≡ filter (has zs) xs
own_at zs ys xs e h = subst (λ (ws : List ℕ). ws ≡ filter (has ws) xs) (sym e) h

pub kept_below : (p : ℕ → Bool) (s : Sets) (v : ℕ) → v < length s → Below (kept p s v) s
kept_below p s v within = record {
  long = length-set s v _;
  each = λ w. elim (same_or_not w v) [
    | inl e ↦ subst (λ (u : ℕ). set_at (kept p s v) u ≡ filter (has (set_at (kept p s v) u)) (set_at s u)) (sym e)
        (own_at (set_at (kept p s v) v) (filter p (set_at s v)) (set_at s v) (get_or-set_same s v (filter p (set_at s v)) [] within)
        (filter_own p (set_at s v)))
    | inr ne ↦ own_at (set_at (kept p s v) w) (set_at s w) (set_at s w) (get_or-set_other s v w (filter p (set_at s v)) [] ne)
        ((Below-refl s).each w)
  ];
}

-- a stricter test of a smaller store
pub cut_below : (p q : ℕ → Bool) (v : ℕ) (t s : Sets) → v < length s → Below t s → ((y : ℕ) → p y ≡ true → q y ≡ true)
    → BelowOption (cut_by p v t) (cut_by q v s)
cut_below p q v t s within b imp = by (nat_eq (length (filter p (set_at t v))) 0) (nat_eq (length (filter q (set_at s v))) 0) refl refl
  where
    own : filter p (set_at t v) ≡ filter (has (filter p (set_at t v))) (filter q (set_at s v))
    own = filter_below p q (set_at t v) (set_at s v) (b.each v) (λ x h k. imp x k)

    fewer : length (filter p (set_at t v)) ≤ length (filter q (set_at s v))
    fewer = subst (λ (n : ℕ). n ≤ length (filter q (set_at s v))) (sym (ap length own))
        (filter-le (has (filter p (set_at t v))) (filter q (set_at s v)))

    there : v < length t
    there = omega (arith, within, b.long)

    left : Below (kept p t v) (kept q s v)
    left = record {
      long = length-set t v _ ∙ (b.long ∙ sym (length-set s v _));
      each = λ w. elim (same_or_not w v) [
        | inl e ↦ subst (λ (u : ℕ). set_at (kept p t v) u ≡ filter (has (set_at (kept p t v) u)) (set_at (kept q s v) u)) (sym e)
            (own_at (set_at (kept p t v) v) (filter p (set_at t v)) (set_at (kept q s v) v)
            (get_or-set_same t v (filter p (set_at t v)) [] there)
            (subst (λ (xs : List ℕ). filter p (set_at t v) ≡ filter (has (filter p (set_at t v))) xs)
            (sym (get_or-set_same s v (filter q (set_at s v)) [] within)) own))
        | inr ne ↦ own_at (set_at (kept p t v) w) (set_at t w) (set_at (kept q s v) w)
            (get_or-set_other t v w (filter p (set_at t v)) [] ne)
            (subst (λ (xs : List ℕ). set_at t w ≡ filter (has (set_at t w)) xs) (sym (get_or-set_other s v w (filter q (set_at s v)) [] ne))
            (b.each w))
      ];
    }

    by : (c d : Bool) → nat_eq (length (filter p (set_at t v))) 0 ≡ c → nat_eq (length (filter q (set_at s v))) 0 ≡ d
        → BelowOption (cond c None (Some (kept p t v))) (cond d None (Some (kept q s v)))
    by true d e h = tt
    by false true e h = absurd (let some : length (filter p (set_at t v)) ≢ 0 = grind (arith, nat_tests) in
        let none : length (filter q (set_at s v)) ≡ 0 = grind (arith, nat_tests) in omega (arith, some, none, fewer))
    by false false e h = left

agree_set : (vs : List VarId) (s t : Sets) (v : ℕ) (ys : List ℕ) → v < length s → v < length t → Agree vs s t
    → Agree vs (set s v ys) (set t v ys)
agree_set vs s t v ys ws wt a i d lt = elim (same_or_not (get_or vs i d).0 v) [
  | inl e ↦ subst (λ (u : ℕ). set_at (set s v ys) u ≡ set_at (set t v ys) u) (sym e)
      (get_or-set_same s v ys [] ws ∙ sym (get_or-set_same t v ys [] wt))
  | inr ne ↦ get_or-set_other s v (get_or vs i d).0 ys [] ne ∙ (a i d lt ∙ sym (get_or-set_other t v (get_or vs i d).0 ys [] ne))
]

-- the same test of the same values
pub cut_agree : (vs : List VarId) (p q : ℕ → Bool) (v : ℕ) (s t : Sets) → v < length s → v < length t → set_at s v ≡ set_at t v
    → ((y : ℕ) → p y ≡ q y) → Agree vs s t → AgreeOption vs (cut_by p v s) (cut_by q v t)
cut_agree vs p q v s t ws wt e h a = subst (λ (ys : List ℕ). AgreeOption vs (cond (nat_eq (length ys) 0) None (Some (set s v ys)))
    (cut_by q v t)) (sym same) (by (nat_eq (length (filter q (set_at t v))) 0))
  where
    same : filter p (set_at s v) ≡ filter q (set_at t v)
    same = filter_agree p q h (set_at s v) ∙ ap (filter q) e

    by : (b : Bool) → AgreeOption vs (cond b None (Some (set s v (filter q (set_at t v)))))
        (cond b None (Some (set t v (filter q (set_at t v)))))
    by true = tt
    by false = agree_set vs s t v (filter q (set_at t v)) ws wt a

kept_full : (p : ℕ → Bool) (s : Sets) (v : ℕ) → v < length s → NoneEmpty s → 0 < length (filter p (set_at s v)) → NoneEmpty (kept p s v)
kept_full p s v within full some w below = elim (same_or_not w v) [
  | inl e ↦ subst (λ (u : ℕ). 0 < length (set_at (kept p s v) u)) (sym e) (rw (get_or-set_same s v (filter p (set_at s v)) [] within) some)
  | inr ne ↦ rw (get_or-set_other s v w (filter p (set_at s v)) [] ne)
      (full w (omega (arith, below, length-set s v (filter p (set_at s v)))))
]

pub cut_shrinks : (p : ℕ → Bool) (v : ℕ) (s : Sets) → v < length s → NoneEmpty s
    → MatchOption (cut_by p v s) ⊤ (λ t. Below t s × NoneEmpty t)
cut_shrinks p v s within full = by (nat_eq (length (filter p (set_at s v))) 0) refl
  where
    by : (b : Bool) → nat_eq (length (filter p (set_at s v))) 0 ≡ b
        → MatchOption (cond b None (Some (kept p s v))) ⊤ (λ t. Below t s × NoneEmpty t)
    by true e = tt
    by false e = (
      kept_below p s v within,
      kept_full p s v within full
          (let ne : length (filter p (set_at s v)) ≢ 0 = grind (arith, nat_tests) in omega (arith, ne)),
    )

pub cut_outside : (p : ℕ → Bool) (v : ℕ) (s : Sets) (w : ℕ) → w ≢ v → MatchOption (cut_by p v s) ⊤ (λ t. set_at t w ≡ set_at s w)
cut_outside p v s w ne = by (nat_eq (length (filter p (set_at s v))) 0)
  where
    by : (b : Bool) → MatchOption (cond b None (Some (kept p s v))) ⊤ (λ t. set_at t w ≡ set_at s w)
    by true = tt
    by false = get_or-set_other s v w (filter p (set_at s v)) [] ne

pub has_var : (vs : List VarId) (v : VarId) (s : Sets) → Contains vs v → HasVars vs s → v.0 < length s
has_var vs v s c k = All-contains (λ u. u.0 < length s) vs v k c

-- one cut is lawful where its test is
pub lawful_cut_by : (vs : List VarId) (v : VarId) (q : Sets → ℕ → Bool) → Contains vs v → LawfulTest vs q
    → Lawful vs (λ s. cut_by (q s) v.0 s)
lawful_cut_by vs v q c h = record {
  shrinks = λ s k full. cut_shrinks (q s) v.0 s (has_var vs v s c k) full;
  monotone = λ t s k ft fs b. cut_below (q t) (q s) v.0 t s (has_var vs v s c k) b (λ y. h.monotone t s y k ft b);
  local = λ s t k fs ft e a. let at = has_var vs v s c k in cut_agree vs (q s) (q t) v.0 s t at (omega (arith, at, e))
      (All-contains (λ u. set_at s u.0 ≡ set_at t u.0) vs v a c) (λ y. h.local s t y a) a;
  outside = λ s w other. cut_outside (q s) v.0 s w (All-contains (λ u. w ≢ u.0) vs v other c);
}

-- Cuts one after another

-- nothing is cut
pub lawful_some : (vs : List VarId) → Lawful vs (λ s. Some s)
lawful_some vs = record {
  shrinks = λ s k full. (Below-refl s, full);
  monotone = λ t s k ft fs b. b;
  local = λ s t k fs ft e a. a;
  outside = λ s w other. refl;
}

vars_long : (vs : List VarId) (s t : Sets) → length t ≡ length s → HasVars vs s → HasVars vs t
vars_long vs s t e k i d lt = rw e (k i d lt)

module _ (vs : List VarId) (f g : Sets → Option Sets) (hf : Lawful vs f) (hg : Lawful vs g) where
  then_shrinks : (s : Sets) (c : Option Sets) → HasVars vs s → MatchOption c ⊤ (λ t. Below t s × NoneEmpty t)
      → MatchOption (option_and_then g c) ⊤ (λ t. Below t s × NoneEmpty t)
  then_shrinks s None k h = tt
  then_shrinks s (Some t) k h = by (g t) (hg.shrinks t (vars_long vs s t h.0.long k) h.1)
    where
      by : (d : Option Sets) → MatchOption d ⊤ (λ u. Below u t × NoneEmpty u) → MatchOption d ⊤ (λ u. Below u s × NoneEmpty u)
      by None i = tt
      by (Some u) i = (Below-trans u t s i.0 h.0, i.1)

  then_monotone : (t s : Sets) (c d : Option Sets) → HasVars vs s → MatchOption c ⊤ (λ u. Below u t × NoneEmpty u)
      → MatchOption d ⊤ (λ u. Below u s × NoneEmpty u) → BelowOption c d → BelowOption (option_and_then g c) (option_and_then g d)
  then_monotone t s None d k hc hd b = tt
  then_monotone t s (Some t') None k hc hd b = absurd b
  then_monotone t s (Some t') (Some s') k hc hd b = hg.monotone t' s' (vars_long vs s s' hd.0.long k) hc.1 hd.1 b

  then_local : (s t : Sets) (c d : Option Sets) → HasVars vs s → length t ≡ length s → MatchOption c ⊤ (λ u. Below u s × NoneEmpty u)
      → MatchOption d ⊤ (λ u. Below u t × NoneEmpty u) → AgreeOption vs c d → AgreeOption vs (option_and_then g c) (option_and_then g d)
  then_local s t None None k e hc hd a = tt
  then_local s t None (Some t') k e hc hd a = absurd a
  then_local s t (Some s') None k e hc hd a = absurd a
  then_local s t (Some s') (Some t') k e hc hd a = hg.local s' t' (vars_long vs s s' hc.0.long k) hc.1 hd.1
      (omega (arith, hd.0.long, hc.0.long, e)) a

  then_outside : (s : Sets) (w : ℕ) (c : Option Sets) → All (λ v. w ≢ v.0) vs → MatchOption c ⊤ (λ t. set_at t w ≡ set_at s w)
      → MatchOption (option_and_then g c) ⊤ (λ t. set_at t w ≡ set_at s w)
  then_outside s w None other h = tt
  then_outside s w (Some t) other h = by (g t) (hg.outside t w other)
    where
      by : (d : Option Sets) → MatchOption d ⊤ (λ u. set_at u w ≡ set_at t w) → MatchOption d ⊤ (λ u. set_at u w ≡ set_at s w)
      by None i = tt
      by (Some u) i = i ∙ h

  pub lawful_then : Lawful vs (λ s. option_and_then g (f s))
  lawful_then = record {
    shrinks = λ s k full. then_shrinks s (f s) k (hf.shrinks s k full);
    monotone = λ t s k ft fs b. then_monotone t s (f t) (f s) k (hf.shrinks t (vars_long vs s t b.long k) ft) (hf.shrinks s k fs)
        (hf.monotone t s k ft fs b);
    local = λ s t k fs ft e a. then_local s t (f s) (f t) k e (hf.shrinks s k fs) (hf.shrinks t (vars_long vs s t e k) ft)
        (hf.local s t k fs ft e a);
    outside = λ s w other. then_outside s w (f s) other (hf.outside s w other);
  }

-- a cut for each item of a list, in order
pub lawful_each : {A : Type 0} (vs : List VarId) (f : A → Sets → Option Sets) (xs : List A) → AllByRecursion (λ a. Lawful vs (f a)) xs
    → Lawful vs (round f xs)
lawful_each vs f [] h = lawful_some vs
lawful_each vs f (a ∷ xs) h = lawful_then vs (f a) (round f xs) h.0 (lawful_each vs f xs h.1)

-- What a queue needs

-- a variable is among these or not
pub find_var : (vs : List VarId) (w : ℕ) → ((v : VarId) × Contains vs v × (w ≡ v.0)) ⊎ AllByRecursion (λ v. w ≢ v.0) vs
find_var [] w = inr tt
find_var (v ∷ vs) w = elim (same_or_not w v.0) [
  | inl e ↦ inl (v, (0, omega arith, refl), e)
  | inr ne ↦ elim (find_var vs w) [
    | inl h ↦ inl (h.0, (suc (h.1.0), (let lt = h.1.1 in omega arith), h.1.2), h.2)
    | inr all ↦ inr (ne, all)
  ]
]

-- a store that agrees with a stable one on what the cut reads is stable
pub stable_local : (vs : List VarId) (f : Sets → Option Sets) → Lawful vs f → (s t : Sets) → HasVars vs s → NoneEmpty s → NoneEmpty t
    → length t ≡ length s → Agree vs s t → f s ≡ Some s → f t ≡ Some t
stable_local vs f h s t k fs ft e a is = by (f t) (subst (λ (c : Option Sets). AgreeOption vs c (f t)) is (h.local s t k fs ft e a))
    (h.shrinks t (vars_long vs s t e k) ft) (λ w other. h.outside t w other)
  where
    by : (c : Option Sets) → AgreeOption vs (Some s) c → MatchOption c ⊤ (λ u. Below u t × NoneEmpty u)
        → ((w : ℕ) → All (λ v. w ≢ v.0) vs → MatchOption c ⊤ (λ u. set_at u w ≡ set_at t w)) → c ≡ Some t
    by None agrees less other = absurd agrees
    by (Some u) agrees less other = ap (λ (x : Sets). Some x) (ext_get_or [] u t less.0.long (λ w lt. elim (find_var vs w) [
      | inl v ↦ subst (λ (i : ℕ). set_at u i ≡ set_at t i) (sym v.2)
          (sym (All-contains (λ i. set_at s i.0 ≡ set_at u i.0) vs v.0 agrees v.1)
          ∙ All-contains (λ i. set_at s i.0 ≡ set_at t i.0) vs v.0 a v.1)
      | inr all ↦ other w (All-from_recursion _ _ all)
    ]))
