-- Laws of the check of the last variable.
use Rattle.std.proofs.Common.{ℕ, zero, suc, ◌≡◌, ◌≢◌, ◌<◌, ◌≤◌, ◌+◌, ◌⊎◌, Bool, true, false, not, ◌&&◌, ◌||◌, cond, List, [], ◌∷◌, ◌++◌}
use Rattle.std.proofs.Common.{length, get_or, set, take, drop, drop-cons, filter, nat_eq, nat_le, None, Some, option_and_then}
use Rattle.std.proofs.Common.{MatchOption, All, refl, sym, ap, ◌∙◌, subst, arith, inl, inr}
use Rattle.std.specs.declared.option.Option.{Option}
use Rattle.std.specs.Bool.{⊤}
use Rattle.std.specs.Option.{is_some}
use Rattle.std.specs.List.{Contains, AllByRecursion}
use Rattle.std.proofs.lemmas.Bool.Decides.{nat_tests}
use Rattle.std.proofs.lemmas.List.{get_or-set_same, get_or-set_other, get_or-map, length-map, set-set, set-get_or}
use Rattle.std.proofs.lemmas.List.{get_or_default}
use Rattle.std.proofs.lemmas.List.Elements.{All-contains, recursion_from_All, All-from_recursion}
use Rattle.un_base.specs.declared.ids.VarId.{VarId}
use Rattle.un_domains.specs.Sets.{Sets, set_at, has, kept, cut_by, least, greatest, IsIn, NoneEmpty, Kept}
use Rattle.un_domains.specs.SetLaws.{same_or_not, has-filter, has-cons, least-le, has-fold_max}
use Rattle.un_domains.specs.CutLaws.{cut_by_kept}
use Rattle.un_domains.specs.Order.{Below}
use Rattle.un_domains.specs.OrderLaws.{Below-refl, Below-trans, and_true, same_test, filter_all, filter_agree_on, filter-filter}
use Rattle.un_domains.specs.OrderLaws.{single_below, has_below}
use Rattle.un_prop.specs.Rounds.{HasVars}
use Rattle.un_prop.specs.Parts.{SameAt}
use Rattle.un_prop.specs.Lawful.{BelowOption, Agree, AgreeOption, Lawful}
use Rattle.un_prop.specs.Steps.{has_var, kept_below, cut_below, cut_agree, cut_shrinks, cut_outside}
use Rattle.un_prop.specs.Last.{is_open, open_of, last_among, last_of, point, last_cut_at, last_cut}

-- Cuts of one variable

pub cut_same : (p q : ℕ → Bool) (v : ℕ) (s : Sets) → ((y : ℕ) → has (set_at s v) y ≡ true → p y ≡ q y) → cut_by p v s ≡ cut_by q v s
cut_same p q v s h = ap (λ (xs : List ℕ). cond (nat_eq (length xs) 0) None (Some (set s v xs))) (filter_agree_on p q (set_at s v) h)

pub cut_all : (p : ℕ → Bool) (v : ℕ) (s : Sets) → v < length s → NoneEmpty s → ((y : ℕ) → has (set_at s v) y ≡ true → p y ≡ true)
    → cut_by p v s ≡ Some s
cut_all p v s within full h =
    let whole : filter p (set_at s v) ≡ set_at s v = filter_all (set_at s v) p h in
    let some : 0 < length (set_at s v) = full v within in
    let no : nat_eq (length (set_at s v)) 0 ≡ false = grind (arith, nat_tests, some) in
    ap (λ (xs : List ℕ). cond (nat_eq (length xs) 0) None (Some (set s v xs))) whole
    ∙ (ap (λ (b : Bool). cond b None (Some (set s v (set_at s v)))) no ∙ ap (λ (u : Sets). Some u) (set-get_or s v []))

-- a stable cut passes all values
pub passes_all : (p : ℕ → Bool) (v : ℕ) (s : Sets) → v < length s → cut_by p v s ≡ Some s → (y : ℕ) → has (set_at s v) y ≡ true → p y ≡ true
passes_all p v s within e y h = by (nat_eq (length (filter p (set_at s v))) 0) refl
  where
    by : (b : Bool) → nat_eq (length (filter p (set_at s v))) 0 ≡ b → p y ≡ true
    by true is = absurd (let none : None ≡ Some s = sym (ap (λ (b : Bool). cond b None (Some (kept p s v))) is) ∙ e in cc none)
    by false is =
        let same : kept p s v ≡ s = (let some : Some (kept p s v) ≡ Some s = sym (ap (λ (b : Bool). cond b None (Some (kept p s v))) is)
        ∙ e in cc) in
        let left : filter p (set_at s v) ≡ set_at s v = sym (get_or-set_same s v (filter p (set_at s v)) [] within)
        ∙ ap (λ (u : Sets). set_at u v) same in
        (and_true (p y) (has (set_at s v) y) (sym (has-filter p y (set_at s v)) ∙ subst (λ (xs : List ℕ). has xs y ≡ true) (sym left) h)).0

no_value : (p : ℕ → Bool) (xs : List ℕ) → length xs ≡ 0 → length (filter p xs) ≡ 0
no_value p [] e = refl
no_value p (x ∷ xs) e = absurd (omega (arith, e))

-- two cuts of one variable are one
pub cut_twice : (p q : ℕ → Bool) (v : ℕ) (s : Sets) → v < length s
    → option_and_then (cut_by p v) (cut_by q v s) ≡ cut_by (λ y. p y && q y) v s
cut_twice p q v s within = by (nat_eq (length (filter q (set_at s v))) 0) refl
  where
    both : filter p (filter q (set_at s v)) ≡ filter (λ y. p y && q y) (set_at s v)
    both = filter-filter p q (set_at s v)

    by : (b : Bool) → nat_eq (length (filter q (set_at s v))) 0 ≡ b
        → option_and_then (cut_by p v) (cond b None (Some (kept q s v))) ≡ cut_by (λ y. p y && q y) v s
    by true e =
        let none : length (filter q (set_at s v)) ≡ 0 = grind (arith, nat_tests) in
        let gone : length (filter (λ y. p y && q y) (set_at s v)) ≡ 0 = ap length (sym both) ∙ no_value p (filter q (set_at s v)) none in
        let is : nat_eq (length (filter (λ y. p y && q y) (set_at s v))) 0 ≡ true = grind (arith, nat_tests, gone) in
        sym (ap (λ (b : Bool). cond b None (Some (kept (λ y. p y && q y) s v))) is)
    by false e =
        let at : set_at (kept q s v) v ≡ filter q (set_at s v) = get_or-set_same s v (filter q (set_at s v)) [] within in
        let xs : filter p (set_at (kept q s v) v) ≡ filter (λ y. p y && q y) (set_at s v) = ap (filter p) at ∙ both in
        ap (λ (ys : List ℕ). cond (nat_eq (length ys) 0) None (Some (set (kept q s v) v ys))) xs
        ∙ ap (λ (u : Sets). cond (nat_eq (length (filter (λ y. p y && q y) (set_at s v))) 0) None (Some u))
        (set-set s v (filter q (set_at s v)) (filter (λ y. p y && q y) (set_at s v)))

-- The code

filter-append : (p : VarId → Bool) (xs ys : List VarId) → filter p (xs ++ ys) ≡ filter p xs ++ filter p ys
filter-append p [] ys = refl
filter-append p (x ∷ xs) ys = by (p x) (filter-append p xs ys)
  where
    by : (b : Bool) → filter p (xs ++ ys) ≡ filter p xs ++ filter p ys
        → cond b (x ∷ filter p (xs ++ ys)) (filter p (xs ++ ys)) ≡ cond b (x ∷ filter p xs) (filter p xs) ++ filter p ys
    by true e = ap (λ (zs : List VarId). x ∷ zs) e
    by false e = e

take_drop : (k : ℕ) (xs : List VarId) → xs ≡ take k xs ++ drop k xs
take_drop zero xs = refl
take_drop (suc k) [] = refl
take_drop (suc k) (x ∷ xs) = ap (λ (ys : List VarId). x ∷ ys) (take_drop k xs)

-- a second open variable
pub two_open : (s : Sets) (vs : List VarId) (k : ℕ) (u : VarId) → k < length vs → is_open s (get_or vs k u) ≡ true
    → filter (is_open s) (take k vs) ≡ u ∷ [] → last_of vs s ≡ None
two_open s vs k u lt wide one =
    let v = get_or vs k u in
    let rest : filter (is_open s) (drop k vs) ≡ v ∷ filter (is_open s) (drop (suc k) vs) =
    ap (filter (is_open s)) (drop-cons vs k u lt) ∙ ap (λ (b : Bool). cond b (v ∷ filter (is_open s) (drop (suc k) vs))
    (filter (is_open s) (drop (suc k) vs))) wide in
    let whole : open_of vs s ≡ u ∷ v ∷ filter (is_open s) (drop (suc k) vs) =
    ap (filter (is_open s)) (take_drop k vs) ∙ (filter-append (is_open s) (take k vs) (drop k vs)
    ∙ (ap (λ (ys : List VarId). ys ++ filter (is_open s) (drop k vs)) one ∙ ap (λ (ys : List VarId). u ∷ ys) rest)) in
    ap (λ (ys : List VarId). last_among ys vs) whole

pub second_open : (s : Sets) (vs : List VarId) (k : ℕ) (d : VarId) (o : Option VarId) → k < length vs
    → nat_eq (length (set_at s (get_or vs k d).0)) 1 ≡ false
    → is_some o ≡ true → MatchOption o (filter (is_open s) (take k vs) ≡ []) (λ v. filter (is_open s) (take k vs) ≡ v ∷ [])
    → None ≡ last_of vs s
second_open s vs k d None lt wide some so_far = absurd (cc some)
second_open s vs k d (Some u) lt wide some so_far =
    sym (two_open s vs k u lt (subst (λ (v : VarId). is_open s v ≡ true) (get_or_default vs k d u lt) (ap not wide)) so_far)

or_true : (b : Bool) → (b || true) ≡ true
or_true true = refl
or_true false = refl

or_false : (b : Bool) → (b || false) ≡ b
or_false true = refl
or_false false = refl

pub passes_tested : (b c : Bool) → c ≡ true → (b || c) ≡ true
passes_tested b c e = ap (λ (d : Bool). b || d) e ∙ or_true b

pub dropped_tested : (b c : Bool) → c ≡ false → (b || c) ≡ b
dropped_tested b c e = ap (λ (d : Bool). b || d) e ∙ or_false b

-- The cut is lawful

single_open : (s : Sets) (v : VarId) → is_open s v ≡ false → length (set_at s v.0) ≡ 1
single_open s v e = by (nat_eq (length (set_at s v.0)) 1) refl
  where
    by : (b : Bool) → nat_eq (length (set_at s v.0)) 1 ≡ b → length (set_at s v.0) ≡ 1
    by true h = grind (arith, nat_tests)
    by false h = absurd (let bad : not false ≡ false = subst (λ (b : Bool). not b ≡ false) h e in cc bad)

open_single : (s : Sets) (v : VarId) → length (set_at s v.0) ≡ 1 → is_open s v ≡ false
open_single s v e = let is : nat_eq (length (set_at s v.0)) 1 ≡ true = grind (arith, nat_tests, e) in rw is refl

none_pass : (p : VarId → Bool) (vs : List VarId) → filter p vs ≡ [] → AllByRecursion (λ w. p w ≡ false) vs
none_pass p [] e = tt
none_pass p (v ∷ vs) e = by (p v) refl (none_pass p vs)
  where
    by : (b : Bool) → p v ≡ b → (filter p vs ≡ [] → AllByRecursion (λ w. p w ≡ false) vs) → AllByRecursion (λ w. p w ≡ false) (v ∷ vs)
    by true is rest = absurd (let bad : v ∷ filter p vs ≡ [] = sym (ap (λ (b : Bool). cond b (v ∷ filter p vs) (filter p vs)) is)
        ∙ e in cc bad)
    by false is rest = (is, rest (sym (ap (λ (b : Bool). cond b (v ∷ filter p vs) (filter p vs)) is) ∙ e))

here_in : (v : VarId) (vs : List VarId) → Contains (v ∷ vs) v
here_in v vs = (0, omega arith, refl)

later_in : (u v : VarId) (vs : List VarId) → Contains vs v → Contains (u ∷ vs) v
later_in u v vs c = (suc (c.0), (let lt = c.1 in omega arith), c.2)

-- one passes, and the others do not
one_passes : (p : VarId → Bool) (vs : List VarId) (u : VarId) → filter p vs ≡ u ∷ [] → Contains vs u
    × AllByRecursion (λ w. w.0 ≢ u.0 → p w ≡ false) vs
one_passes p [] u e = absurd (cc e)
one_passes p (v ∷ vs) u e = by (p v) refl (one_passes p vs u)
  where
    weak : (ws : List VarId) → AllByRecursion (λ w. p w ≡ false) ws → AllByRecursion (λ w. w.0 ≢ u.0 → p w ≡ false) ws
    weak [] all = tt
    weak (w ∷ ws) all = (λ ne. all.0, weak ws all.1)

    by : (b : Bool) → p v ≡ b → (filter p vs ≡ u ∷ [] → Contains vs u × AllByRecursion (λ w. w.0 ≢ u.0 → p w ≡ false) vs)
        → Contains (v ∷ vs) u × AllByRecursion (λ w. w.0 ≢ u.0 → p w ≡ false) (v ∷ vs)
    by true is more =
        let whole : v ∷ filter p vs ≡ u ∷ [] = sym (ap (λ (b : Bool). cond b (v ∷ filter p vs) (filter p vs)) is) ∙ e in
        let first : v ≡ u = cc whole in
        let rest : filter p vs ≡ [] = cc whole in
        (subst (Contains (v ∷ vs)) first (here_in v vs), (λ ne. absurd (ne (ap (λ (w : VarId). w.0) first)), weak vs (none_pass p vs rest)))
    by false is more =
        let r = more (sym (ap (λ (b : Bool). cond b (v ∷ filter p vs) (filter p vs)) is) ∙ e) in
        (later_in v u vs r.0, (λ ne. is, r.1))

singles : (s : Sets) (v : ℕ) (vs : List VarId) → AllByRecursion (λ w. w.0 ≢ v → is_open s w ≡ false) vs
    → All (λ w. w.0 ≢ v → length (set_at s w.0) ≡ 1) vs
singles s v vs all = All-from_recursion _ _ (by vs all)
  where
    by : (ws : List VarId) → AllByRecursion (λ w. w.0 ≢ v → is_open s w ≡ false) ws
        → AllByRecursion (λ w. w.0 ≢ v → length (set_at s w.0) ≡ 1) ws
    by [] a = tt
    by (w ∷ ws) a = (λ ne. single_open s w (a.0 ne), by ws a.1)

-- the variable that is left stands in the list, and the others have one value
pub last_single : (vs : List VarId) (s : Sets) (v : VarId) → last_of vs s ≡ Some v → Contains vs v
    × All (λ w. w.0 ≢ v.0 → length (set_at s w.0) ≡ 1) vs
last_single vs s v e = by (open_of vs s) refl e
  where
    first : (us : List VarId) → last_among [] us ≡ Some v → Contains us v
    first [] h = absurd (cc h)
    first (u ∷ us) h = let is : u ≡ v = cc h in subst (Contains (u ∷ us)) is (here_in u us)

    weak : (ws : List VarId) → AllByRecursion (λ w. is_open s w ≡ false) ws → AllByRecursion (λ w. w.0 ≢ v.0 → is_open s w ≡ false) ws
    weak [] all = tt
    weak (w ∷ ws) all = (λ ne. all.0, weak ws all.1)

    by : (us : List VarId) → open_of vs s ≡ us → last_among us vs ≡ Some v → Contains vs v
        × All (λ w. w.0 ≢ v.0 → length (set_at s w.0) ≡ 1) vs
    by [] is h = (first vs h, singles s v.0 vs (weak vs (none_pass (is_open s) vs is)))
    by (u ∷ []) is h =
        let same : u ≡ v = cc h in
        let r = one_passes (is_open s) vs u is in (
          subst (Contains vs) same r.0,
          subst (λ (x : VarId). All (λ w. w.0 ≢ x.0 → length (set_at s w.0) ≡ 1) vs) same
              (singles s u.0 vs r.1),
        )
    by (u ∷ w ∷ us) is h = absurd (cc h)

-- where each variable is less than the next, at most one that is open is alone
abbrev pub Ascend : List VarId → Type 0
Ascend vs = (i j : ℕ) (d : VarId) → i < j → j < length vs → (get_or vs i d).0 < (get_or vs j d).0

tail_ascends : (v : VarId) (vs : List VarId) → Ascend (v ∷ vs) → Ascend vs
tail_ascends v vs h i j d lt below = h (suc i) (suc j) d (omega (arith, lt)) (omega (arith, below))

none_open : (s : Sets) (vs : List VarId) → AllByRecursion (λ w. length (set_at s w.0) ≡ 1) vs → open_of vs s ≡ []
none_open s [] all = refl
none_open s (v ∷ vs) all = ap (λ (b : Bool). cond b (v ∷ open_of vs s) (open_of vs s)) (open_single s v all.0) ∙ none_open s vs all.1

after_first : (s : Sets) (v : VarId) (vs : List VarId) → Ascend (v ∷ vs) → AllByRecursion (λ w. w.0 ≢ v.0 → length (set_at s w.0) ≡ 1) vs
    → AllByRecursion (λ w. length (set_at s w.0) ≡ 1) vs
after_first s v [] h all = tt
after_first s v (u ∷ us) h all = (
  all.0 (let lt = h 0 1 u (omega arith) (omega arith) in λ e. omega (arith, lt, e)),
  after_first s v us (λ i j d lt below. skip i j d lt below) all.1,
)
  where
    skip : (i j : ℕ) (d : VarId) → i < j → j < length (v ∷ us) → (get_or (v ∷ us) i d).0 < (get_or (v ∷ us) j d).0
    skip i zero d lt below = absurd (omega (arith, lt))
    skip zero (suc j) d lt below = h 0 (suc (suc j)) d (omega arith) (omega (arith, below))
    skip (suc i) (suc j) d lt below = h (suc (suc i)) (suc (suc j)) d (omega (arith, lt)) (omega (arith, below))

-- with at most one variable open there are no two
few_open : (s : Sets) (v : ℕ) (ws : List VarId) → Ascend ws → AllByRecursion (λ w. w.0 ≢ v → length (set_at s w.0) ≡ 1) ws
    → (a b : VarId) (us : List VarId) → open_of ws s ≡ a ∷ b ∷ us → ⊥
few_open s v [] g l a b us is = absurd (cc is)
few_open s v (w ∷ ws) g l a b us is = at (is_open s w) refl (same_or_not w.0 v) (few_open s v ws (tail_ascends w ws g) l.1 a b us)
  where
    at : (o : Bool) → is_open s w ≡ o → (w.0 ≡ v) ⊎ (w.0 ≢ v) → (open_of ws s ≡ a ∷ b ∷ us → ⊥) → ⊥
    at false off c rest = rest (sym (ap (λ (o : Bool). cond o (w ∷ open_of ws s) (open_of ws s)) off) ∙ is)
    at true on (inr ne) rest = let bad : true ≡ false = sym on ∙ open_single s w (l.0 ne) in absurd (cc bad)
    at true on (inl e) rest =
        let none = none_open s ws (after_first s w ws g (subst (λ (k : ℕ). AllByRecursion (λ x. x.0 ≢ k → length (set_at s x.0) ≡ 1) ws)
        (sym e) l.1)) in
        let bad : w ∷ [] ≡ a ∷ b ∷ us = ap (λ (xs : List VarId). w ∷ xs) (sym none)
        ∙ (sym (ap (λ (o : Bool). cond o (w ∷ open_of ws s) (open_of ws s)) on) ∙ is) in
        absurd (cc bad)

-- **with at most one variable open, one is left to check**
pub one_left : (vs : List VarId) (s : Sets) (v : ℕ) → Ascend vs → 0 < length vs → All (λ w. w.0 ≢ v → length (set_at s w.0) ≡ 1) vs
    → last_of vs s ≢ None
one_left vs s v h some all e = by (open_of vs s) refl vs refl
  where
    by : (us : List VarId) → open_of vs s ≡ us → (ws : List VarId) → vs ≡ ws → ⊥
    by [] is [] same = absurd (omega (arith, some, ap length same))
    by [] is (w ∷ ws) same = let bad : Some w ≡ None = sym (ap (λ (us : List VarId). last_among us vs) is ∙ ap (last_among []) same)
        ∙ e in absurd (cc bad)
    by (u ∷ []) is ws same = let bad : Some u ≡ None = sym (ap (λ (us : List VarId). last_among us vs) is) ∙ e in absurd (cc bad)
    by (u ∷ w ∷ us) is ws same = few_open s v vs h (recursion_from_All _ _ all) u w us is

-- the variables that are read, and the point with another value for one
module _ (vs : List VarId) (t : List ℕ → Bool) (looks : (x y : List ℕ) → SameAt vs x y → t x ≡ t y) where
  -- points at stores that agree but for v
  same_points : (s u : Sets) (v : VarId) (y : ℕ) → HasVars vs s → HasVars vs u → All (λ w. w.0 ≢ v.0 → set_at s w.0 ≡ set_at u w.0) vs
      → SameAt vs (set (point s) v.0 y) (set (point u) v.0 y)
  same_points s u v y ks ku same i d lt =
      let w = get_or vs i d in
      let ls : w.0 < length s = ks i d lt in
      let lu : w.0 < length u = ku i d lt in
      elim (same_or_not w.0 v.0) [
        | inl e ↦ subst (λ (k : ℕ). get_or (set (point s) v.0 y) k 0 ≡ get_or (set (point u) v.0 y) k 0) (sym e)
            (get_or-set_same (point s) v.0 y 0 (omega (arith, e, ls, length-map s least))
            ∙ sym (get_or-set_same (point u) v.0 y 0 (omega (arith, e, lu, length-map u least))))
        | inr ne ↦ get_or-set_other (point s) v.0 w.0 y 0 ne ∙ (get_or-map least s w.0 [] 0 ls
            ∙ (ap least (same i d lt ne) ∙ (sym (get_or-map least u w.0 [] 0 lu) ∙ sym (get_or-set_other (point u) v.0 w.0 y 0 ne))))
      ]

  same_test_at : (s u : Sets) (v : VarId) (y : ℕ) → HasVars vs s → HasVars vs u → All (λ w. w.0 ≢ v.0 → set_at s w.0 ≡ set_at u w.0) vs
      → t (set (point s) v.0 y) ≡ t (set (point u) v.0 y)
  same_test_at s u v y ks ku same = looks (set (point s) v.0 y) (set (point u) v.0 y) (same_points s u v y ks ku same)

  -- an assignment that lies in the sets is the point, but for v
  in_point : (s : Sets) (v : VarId) (x : List ℕ) → HasVars vs s → IsIn x s → All (λ w. w.0 ≢ v.0 → length (set_at s w.0) ≡ 1) vs
      → SameAt vs (set (point s) v.0 (get_or x v.0 0)) x
  in_point s v x k there one i d lt =
      let w = get_or vs i d in
      let ls : w.0 < length s = k i d lt in
      elim (same_or_not w.0 v.0) [
        | inl e ↦ subst (λ (j : ℕ). get_or (set (point s) v.0 (get_or x v.0 0)) j 0 ≡ get_or x j 0) (sym e)
            (get_or-set_same (point s) v.0 (get_or x v.0 0) 0 (omega (arith, e, ls, length-map s least)))
        | inr ne ↦ get_or-set_other (point s) v.0 w.0 (get_or x v.0 0) 0 ne
            ∙ (get_or-map least s w.0 [] 0 ls ∙ only (set_at s w.0) (get_or x w.0 0) (one i d lt ne) (there.each w.0 ls))
      ]
    where
      only : (xs : List ℕ) (y : ℕ) → length xs ≡ 1 → has xs y ≡ true → least xs ≡ y
      only [] y e h = absurd (omega (arith, e))
      only (z ∷ []) y e h = elim (has-cons z y [] h) [ inl is ↦ sym is | inr more ↦ absurd (cc more) ]
      only (z ∷ w ∷ xs) y e h = absurd (omega (arith, e))

  pub last_keeps : (s : Sets) (x : List ℕ) → HasVars vs s → IsIn x s → t x ≡ true → Kept x (last_cut vs t s)
  last_keeps s x k there holds = by (last_of vs s) refl
    where
      by : (o : Option VarId) → last_of vs s ≡ o → Kept x (last_cut_at t s o)
      by None e = there
      by (Some v) e =
          let one = last_single vs s v e in
          cut_by_kept (λ y. t (set (point s) v.0 y)) v.0 s x (has_var vs v s one.0 k) there
          (looks (set (point s) v.0 (get_or x v.0 0)) x (in_point s v x k there one.1) ∙ holds)

  pub last_forward : (s u : Sets) (v : ℕ) (x : List ℕ) → Ascend vs → (length vs ≡ 0 → t x ≡ true) → HasVars vs s → NoneEmpty s
      → All (λ w. w.0 ≢ v → length (set_at s w.0) ≡ 1) vs → last_cut vs t s ≡ Some u → IsIn x u → t x ≡ true
  last_forward s u v x h grounded k full one is there = by (last_of vs s) refl is
    where
      some : (length vs ≡ 0) ⊎ (0 < length vs)
      some = elim (same_or_not (length vs) 0) [ inl e ↦ inl e | inr ne ↦ inr (omega (arith, ne)) ]

      by : (o : Option VarId) → last_of vs s ≡ o → last_cut_at t s o ≡ Some u → t x ≡ true
      by None e c = elim some [ inl none ↦ grounded none | inr more ↦ absurd (one_left vs s v h more one e) ]
      by (Some w) e c = passed w (last_single vs s w e) (nat_eq (length (filter (λ y. t (set (point s) w.0 y)) (set_at s w.0))) 0) refl c
        where
          passed : (w : VarId) → Contains vs w × All (λ a. a.0 ≢ w.0 → length (set_at s a.0) ≡ 1) vs → (b : Bool)
              → nat_eq (length (filter (λ y. t (set (point s) w.0 y)) (set_at s w.0))) 0 ≡ b
              → cut_by (λ y. t (set (point s) w.0 y)) w.0 s ≡ Some u → t x ≡ true
          passed w left true gone c = absurd (let bad : None ≡ Some u =
              sym (ap (λ (b : Bool). cond b None (Some (kept (λ y. t (set (point s) w.0 y)) s w.0))) gone) ∙ c in cc bad)
          passed w left false gone c =
              let q = λ (y : ℕ). t (set (point s) w.0 y) in
              let within = has_var vs w s left.0 k in
              let same : kept q s w.0 ≡ u = (let e : Some (kept q s w.0) ≡ Some u =
              sym (ap (λ (b : Bool). cond b None (Some (kept q s w.0))) gone) ∙ c in cc) in
              let below : Below u s = subst (λ (z : Sets). Below z s) same (kept_below q s w.0 within) in
              let inside : IsIn x s = record {
                long = there.long ∙ below.long;
                each =
                    λ i lt. has_below u s i (get_or x i 0) below (there.each i (omega (arith, lt, below.long)));
              } in
              let at : set_at u w.0 ≡ filter q (set_at s w.0) = sym (ap (λ (z : Sets). set_at z w.0) same)
              ∙ get_or-set_same s w.0 (filter q (set_at s w.0)) [] within in
              let has_it : has (filter q (set_at s w.0)) (get_or x w.0 0) ≡ true =
              subst (λ (ys : List ℕ). has ys (get_or x w.0 0) ≡ true) at (there.each w.0 (omega (arith, within, below.long))) in
              let pass = (and_true (q (get_or x w.0 0)) (has (set_at s w.0) (get_or x w.0 0))
              (sym (has-filter q (get_or x w.0 0) (set_at s w.0)) ∙ has_it)).0 in
              sym (looks (set (point s) w.0 (get_or x w.0 0)) x (in_point s w x k inside left.1)) ∙ pass

  -- where the list of what is open is no longer than v, the cut is that of v
  pub last_at : (s : Sets) (v : VarId) → HasVars vs s → NoneEmpty s → Contains vs v → ((open_of vs s ≡ []) ⊎ (open_of vs s ≡ v ∷ []))
      → last_cut vs t s ≡ cut_by (λ y. t (set (point s) v.0 y)) v.0 s
  last_at s v k full c (inr e) = ap (λ (us : List VarId). last_cut_at t s (last_among us vs)) e
  last_at s v k full c (inl e) = by vs refl
    where
      alone : (w : VarId) → Contains vs w → cut_by (λ y. t (set (point s) w.0 y)) w.0 s ≡ cond (t (point s)) (Some s) None
      alone w there =
          let one : length (set_at s w.0) ≡ 1 = single_open s w (All-contains (λ a. is_open s a ≡ false) vs w
          (All-from_recursion _ _ (none_pass (is_open s) vs e)) there) in
          let within = has_var vs w s there k in
          let ls : w.0 < length (point s) = omega (arith, within, length-map s least) in
          at (set_at s w.0) refl one (λ y is. sym (ap (λ (z : ℕ). t (set (point s) w.0 z))
          (get_or-map least s w.0 [] 0 within ∙ ap least is)) ∙ ap t (set-get_or (point s) w.0 0)) (t (point s)) refl
        where
          at : (xs : List ℕ) → set_at s w.0 ≡ xs → length xs ≡ 1 → ((y : ℕ) → set_at s w.0 ≡ y ∷ [] → t (set (point s) w.0 y) ≡ t (point s))
              → (b : Bool) → t (point s) ≡ b
              → cut_by (λ y. t (set (point s) w.0 y)) w.0 s ≡ cond b (Some s) None
          at [] is n same b tb = absurd (omega (arith, n))
          at (y ∷ z ∷ ys) is n same b tb = absurd (omega (arith, n))
          at (y ∷ []) is n same true tb = cut_all (λ z. t (set (point s) w.0 z)) w.0 s (has_var vs w s there k) full
              (λ z h. elim (has-cons y z [] (subst (λ (xs : List ℕ). has xs z ≡ true) is h)) [
                | inl e ↦ ap (λ (q : ℕ). t (set (point s) w.0 q)) e ∙ (same y is ∙ tb)
                | inr more ↦ absurd (cc more)
              ])
          at (y ∷ []) is n same false tb =
              let gone : filter (λ z. t (set (point s) w.0 z)) (set_at s w.0) ≡ [] = ap (filter (λ z. t (set (point s) w.0 z))) is
              ∙ ap (λ (b : Bool). cond b (y ∷ []) []) (same y is ∙ tb) in
              ap (λ (ys : List ℕ). cond (nat_eq (length ys) 0) None (Some (set s w.0 ys))) gone

      by : (ws : List VarId) → vs ≡ ws → last_cut vs t s ≡ cut_by (λ y. t (set (point s) v.0 y)) v.0 s
      by [] is = absurd (let lt = (subst (λ (ws : List VarId). Contains ws v) is c).1 in omega (arith, lt))
      by (w ∷ ws) is =
          ap (λ (us : List VarId). last_cut_at t s (last_among us vs)) e ∙ (ap (λ (us : List VarId). last_cut_at t s (last_among [] us)) is
          ∙ (alone w (subst (λ (us : List VarId). Contains us w) (sym is) (here_in w ws)) ∙ sym (alone v c)))

  known_below : (a s : Sets) → length a ≡ length s → HasVars vs s → HasVars vs a
  known_below a s e k i d lt = rw e (k i d lt)

  shrinks_at : (s : Sets) (o : Option VarId) → last_of vs s ≡ o → HasVars vs s → NoneEmpty s
      → MatchOption (last_cut_at t s o) ⊤ (λ u. Below u s × NoneEmpty u)
  shrinks_at s None e k full = (Below-refl s, full)
  shrinks_at s (Some v) e k full = cut_shrinks (λ y. t (set (point s) v.0 y)) v.0 s (has_var vs v s (last_single vs s v e).0 k) full

  -- what is open below is open above
  open_below : (a s : Sets) (v : VarId) → HasVars vs s → NoneEmpty a → Below a s → (ws : List VarId)
      → AllByRecursion (λ w. w.0 < length s) ws
      → ((open_of ws s ≡ []) → open_of ws a ≡ []) × ((open_of ws s ≡ v ∷ []) → (open_of ws a ≡ []) ⊎ (open_of ws a ≡ v ∷ []))
  open_below a s v k fa le [] known = (λ e. refl, λ e. absurd (cc e))
  open_below a s v k fa le (w ∷ ws) known = by (is_open s w) refl (open_below a s v k fa le ws known.1)
    where
      shut : is_open s w ≡ false → is_open a w ≡ false
      shut e = open_single a w (let one = single_open s w e in ap length
          (single_below a s w.0 le (fa w.0 (let here = known.0 in omega (arith, here, le.long))) one) ∙ one)

      Rest : Type 0
      Rest = ((open_of ws s ≡ []) → open_of ws a ≡ []) × ((open_of ws s ≡ v ∷ []) → (open_of ws a ≡ []) ⊎ (open_of ws a ≡ v ∷ []))

      skip : (u : Sets) → is_open u w ≡ false → open_of (w ∷ ws) u ≡ open_of ws u
      skip u e = ap (λ (b : Bool). cond b (w ∷ open_of ws u) (open_of ws u)) e

      by : (b : Bool) → is_open s w ≡ b → ((open_of ws s ≡ []) → open_of ws a ≡ [])
          × ((open_of ws s ≡ v ∷ []) → (open_of ws a ≡ []) ⊎ (open_of ws a ≡ v ∷ []))
          → ((open_of (w ∷ ws) s ≡ []) → open_of (w ∷ ws) a ≡ [])
          × ((open_of (w ∷ ws) s ≡ v ∷ []) → (open_of (w ∷ ws) a ≡ []) ⊎ (open_of (w ∷ ws) a ≡ v ∷ []))
      by false e rest = (
        λ none. skip a (shut e) ∙ rest.0 (sym (skip s e) ∙ none),
        λ one. elim (rest.1 (sym (skip s e) ∙ one)) [ inl x ↦ inl (skip a (shut e) ∙ x) | inr x ↦ inr (skip a (shut e) ∙ x) ],
      )
      by true e rest =
          let here : open_of (w ∷ ws) s ≡ w ∷ open_of ws s = ap (λ (b : Bool). cond b (w ∷ open_of ws s) (open_of ws s)) e in (
            λ none. absurd (let bad : w ∷ open_of ws s ≡ [] = sym here ∙ none in cc bad),
            λ one. (
                let whole : w ∷ open_of ws s ≡ v ∷ [] = sym here ∙ one in
                let first : w ≡ v = cc whole in
                let last : open_of ws s ≡ [] = cc whole in
                head (is_open a w) refl first (rest.0 last)),
          )
        where
          head : (b : Bool) → is_open a w ≡ b → w ≡ v → open_of ws a ≡ [] → (open_of (w ∷ ws) a ≡ []) ⊎ (open_of (w ∷ ws) a ≡ v ∷ [])
          head true o first none = inr (ap (λ (b : Bool). cond b (w ∷ open_of ws a) (open_of ws a)) o
              ∙ (ap (λ (us : List VarId). w ∷ us) none ∙ ap (λ (x : VarId). x ∷ []) first))
          head false o first none = inl (skip a o ∙ none)

  open_cases : (s : Sets) (v : VarId) → last_of vs s ≡ Some v → (open_of vs s ≡ []) ⊎ (open_of vs s ≡ v ∷ [])
  open_cases s v e = by (open_of vs s) refl
    where
      by : (us : List VarId) → open_of vs s ≡ us → (open_of vs s ≡ []) ⊎ (open_of vs s ≡ v ∷ [])
      by [] is = inl is
      by (u ∷ []) is = let same : Some u ≡ Some v = sym (ap (λ (us : List VarId). last_among us vs) is)
          ∙ e in inr (is ∙ ap (λ (x : VarId). x ∷ []) (let x : u ≡ v = cc same in x))
      by (u ∷ w ∷ us) is = let bad : None ≡ Some v = sym (ap (λ (us : List VarId). last_among us vs) is) ∙ e in absurd (cc bad)

  monotone_at : (a s : Sets) (o : Option VarId) → last_of vs s ≡ o → HasVars vs s → NoneEmpty a → NoneEmpty s → Below a s
      → BelowOption (last_cut vs t a) (last_cut_at t s o)
  monotone_at a s None e k fa fs le = by (last_cut vs t a) (shrinks_at a (last_of vs a) refl (known_below a s le.long k) fa)
    where
      by : (c : Option Sets) → MatchOption c ⊤ (λ u. Below u a × NoneEmpty u) → BelowOption c (Some s)
      by None h = tt
      by (Some u) h = Below-trans u a s h.0 le
  monotone_at a s (Some v) e k fa fs le =
      let one = last_single vs s v e in
      let ka = known_below a s le.long k in
      let opens : (open_of vs a ≡ []) ⊎ (open_of vs a ≡ v ∷ []) = (
      let both = open_below a s v k fa le vs (recursion_from_All _ _ k) in
      elim (open_cases s v e) [ inl none ↦ inl (both.0 none) | inr only ↦ both.1 only ]) in
      let same : All (λ w. w.0 ≢ v.0 → set_at a w.0 ≡ set_at s w.0) vs =
      λ i d lt ne. single_below a s (get_or vs i d).0 le (fa (get_or vs i d).0 (ka i d lt)) (one.1 i d lt ne) in
      subst (λ (c : Option Sets). BelowOption c (cut_by (λ y. t (set (point s) v.0 y)) v.0 s)) (sym (last_at a v ka fa one.0 opens))
      (cut_below (λ y. t (set (point a) v.0 y)) (λ y. t (set (point s) v.0 y)) v.0 a s (has_var vs v s one.0 k) le
      (λ y h. sym (same_test_at a s v y ka k same) ∙ h))

  local_at : (s u : Sets) (o : Option VarId) → last_of vs s ≡ o → HasVars vs s → NoneEmpty s → NoneEmpty u → length u ≡ length s
      → Agree vs s u
      → AgreeOption vs (last_cut_at t s o) (last_cut vs t u)
  local_at s u o e k fs fu long agree = subst (λ (x : Option VarId). AgreeOption vs (last_cut_at t s o) (last_cut_at t u x))
      (sym e ∙ same_last vs (recursion_from_All _ _ agree)) (by o e)
    where
      opens : (ws : List VarId) → AllByRecursion (λ w. set_at s w.0 ≡ set_at u w.0) ws → open_of ws s ≡ open_of ws u
      opens [] all = refl
      opens (w ∷ ws) all = ap (λ (xs : List ℕ). cond (not (nat_eq (length xs) 1)) (w ∷ open_of ws s) (open_of ws s)) all.0
          ∙ ap (λ (us : List VarId). cond (is_open u w) (w ∷ us) us) (opens ws all.1)

      same_last : (ws : List VarId) → AllByRecursion (λ w. set_at s w.0 ≡ set_at u w.0) ws
          → last_among (open_of ws s) ws ≡ last_among (open_of ws u) ws
      same_last ws all = ap (λ (us : List VarId). last_among us ws) (opens ws all)

      by : (x : Option VarId) → last_of vs s ≡ x → AgreeOption vs (last_cut_at t s x) (last_cut_at t u x)
      by None h = agree
      by (Some v) h =
          let one = last_single vs s v h in
          let ku = known_below u s long k in
          cut_agree vs (λ y. t (set (point s) v.0 y)) (λ y. t (set (point u) v.0 y)) v.0 s u (has_var vs v s one.0 k)
          (has_var vs v u one.0 ku)
          (All-contains (λ w. set_at s w.0 ≡ set_at u w.0) vs v agree one.0) (λ y. same_test_at s u v y k ku (λ i d lt ne. agree i d lt))
          agree

  outside_at : (s : Sets) (w : ℕ) (o : Option VarId) → last_of vs s ≡ o → All (λ v. w ≢ v.0) vs
      → MatchOption (last_cut_at t s o) ⊤ (λ u. set_at u w ≡ set_at s w)
  outside_at s w None e other = refl
  outside_at s w (Some v) e other = cut_outside (λ y. t (set (point s) v.0 y)) v.0 s w
      (All-contains (λ u. w ≢ u.0) vs v other (last_single vs s v e).0)

  -- **the check of the last variable is lawful**
  pub last_lawful : Lawful vs (last_cut vs t)
  last_lawful = record {
    shrinks = λ s k full. shrinks_at s (last_of vs s) refl k full;
    monotone = λ a s k fa fs le. monotone_at a s (last_of vs s) refl k fa fs le;
    local = λ s u k fs fu long agree. local_at s u (last_of vs s) refl k fs fu long agree;
    outside = λ s w other. outside_at s w (last_of vs s) refl other;
  }

  -- Trying the values of the last variable one by one

  -- a value that is tried, after those below it
  pub try_next : (s : Sets) (v : VarId) (y : ℕ) (q : ℕ → Bool) → v.0 < length s
      → option_and_then (cut_by (λ z. not (nat_eq z y) || q y) v.0) (cut_by (λ z. nat_le y z || q z) v.0 s) ≡ cut_by
      (λ z. nat_le (y + 1) z || q z) v.0 s
  try_next s v y q within = cut_twice (λ z. not (nat_eq z y) || q y) (λ z. nat_le y z || q z) v.0 s within
      ∙ cut_same (λ z. (not (nat_eq z y) || q y) && (nat_le y z || q z)) (λ z. nat_le (y + 1) z || q z) v.0 s
      (λ z h. at z (same_or_not z y))
    where
      at : (z : ℕ) → (z ≡ y) ⊎ (z ≢ y) → ((not (nat_eq z y) || q y) && (nat_le y z || q z)) ≡ (nat_le (y + 1) z || q z)
      at z (inl e) =
          let a : nat_eq z y ≡ true = grind (arith, nat_tests, e) in
          let b : nat_le y z ≡ true = grind (arith, nat_tests, e) in
          let c : nat_le (y + 1) z ≡ false = grind (arith, nat_tests, e) in
          rw (a, b, c) (and_one (q y) ∙ ap q (sym e))
        where
          and_one : (b : Bool) → (b && true) ≡ b
          and_one true = refl
          and_one false = refl
      at z (inr ne) =
          let a : nat_eq z y ≡ false = grind (arith, nat_tests, ne) in
          let b : nat_le y z ≡ nat_le (y + 1) z = same_test (nat_le y z) (nat_le (y + 1) z)
          (λ h. (let le : y ≤ z = grind (arith, nat_tests) in let more : y + 1 ≤ z = omega (arith, le, ne) in
          grind (arith, nat_tests, more))) (λ h. (let more : y + 1 ≤ z = grind (arith, nat_tests) in let le : y ≤ z =
          omega (arith, more) in grind (arith, nat_tests, le))) in
          rw a (ap (λ (x : Bool). x || q z) b)

  -- before the first value nothing is tried, and after the last all are
  pub try_first : (s : Sets) (v : VarId) (q : ℕ → Bool) → v.0 < length s → NoneEmpty s
      → cut_by (λ z. nat_le (least (set_at s v.0)) z || q z) v.0 s ≡ Some s
  try_first s v q within full = cut_all (λ z. nat_le (least (set_at s v.0)) z || q z) v.0 s within full
      (λ y h. let le = least-le (set_at s v.0) y h in let b : nat_le (least (set_at s v.0)) y ≡ true = grind (arith, nat_tests, le) in
      rw b refl)

  pub try_last : (s : Sets) (v : VarId) (q : ℕ → Bool) (n : ℕ) → greatest (set_at s v.0) < n
      → cut_by (λ z. nat_le n z || q z) v.0 s ≡ cut_by q v.0 s
  try_last s v q n lt = cut_same (λ z. nat_le n z || q z) q v.0 s
      (λ y h. let le = has-fold_max 0 (set_at s v.0) y h in let b : nat_le n y ≡ false = grind (arith, nat_tests, le, lt) in rw b refl)

  -- what is written of the other variables is the point
  pub same_tried : (s : Sets) (v : VarId) (y : ℕ) (fixed : List ℕ) → HasVars vs s → v.0 < length s → v.0 < length fixed
      → All (λ w. w.0 ≢ v.0 → get_or fixed w.0 0 ≡ least (set_at s w.0)) vs → t (set fixed v.0 y) ≡ t (set (point s) v.0 y)
  same_tried s v y fixed k within room written = looks (set fixed v.0 y) (set (point s) v.0 y) (λ i d lt.
      let w = get_or vs i d in
      elim (same_or_not w.0 v.0) [
        | inl e ↦ subst (λ (j : ℕ). get_or (set fixed v.0 y) j 0 ≡ get_or (set (point s) v.0 y) j 0) (sym e)
            (get_or-set_same fixed v.0 y 0 room ∙ sym (get_or-set_same (point s) v.0 y 0 (omega (arith, within, length-map s least))))
        | inr ne ↦ get_or-set_other fixed v.0 w.0 y 0 ne ∙ (written i d lt ne
            ∙ (sym (get_or-map least s w.0 [] 0 (k i d lt)) ∙ sym (get_or-set_other (point s) v.0 w.0 y 0 ne)))
      ])
