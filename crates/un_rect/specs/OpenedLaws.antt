-- Laws of what is open.
use Rattle.std.proofs.Common.{ℕ, suc, ◌≡◌, ◌≢◌, Bool, true, false, not, ◌||◌, cond, List, [], ◌∷◌, ◌++◌, length, set, filter, nat_eq, None}
use Rattle.std.proofs.Common.{Some, refl, sym, ap, ◌∙◌, subst, arith, inl, inr}
use Rattle.std.specs.declared.option.Option.{Option}
use Rattle.std.proofs.lemmas.Bool.Decides.{nat_tests}
use Rattle.std.proofs.lemmas.List.Elements.{All-contains}
use Rattle.un_base.specs.declared.ids.VarId.{VarId}
use Rattle.un_domains.specs.Sets.{Sets, set_at, cut_by, NoneEmpty}
use Rattle.un_domains.specs.SetLaws.{same_or_not}
use Rattle.un_prop.specs.Rounds.{HasVars}
use Rattle.un_prop.specs.Parts.{SameAt}
use Rattle.un_prop.specs.Among.{among}
use Rattle.un_prop.specs.AmongLaws.{in_list}
use Rattle.un_prop.specs.Last.{is_open, open_of, last_of, last_cut, last_cut_at, point}
use Rattle.un_prop.specs.LastLaws.{Ascend, last_single, last_at}
use Rattle.un_rect.specs.Opened.{opened_with, opened_at, opened_after, is_more, Says}
use Rattle.un_rect.specs.TempLaws.{among_here, among_later, among_filter}
use Rattle.un_rect.specs.declared.opened.Opened.{Opened}
use Rattle.un_rect.specs.declared.opened.Opened.TheVariants.{Nothing, One, More}

-- The fold

pub after_append : (s : Sets) (us vs : List VarId) (o : Opened) → opened_after s (us ++ vs) o ≡ opened_after s vs (opened_after s us o)
after_append s [] vs o = refl
after_append s (u ∷ us) vs o = after_append s us vs (opened_at s o u)

at_more : (s : Sets) (v : VarId) → opened_at s More v ≡ More
at_more s v = by (is_open s v)
  where
    by : (b : Bool) → cond b More More ≡ More
    by true = refl
    by false = refl

-- more stays more
pub after_more : (s : Sets) (vs : List VarId) → opened_after s vs More ≡ More
after_more s [] = refl
after_more s (v ∷ vs) = ap (opened_after s vs) (at_more s v) ∙ after_more s vs

pub more_is : (o : Opened) → is_more o ≡ true → o ≡ More
more_is Nothing e = absurd (cc e)
more_is (One v) e = absurd (cc e)
more_is More e = refl

-- What it says

same_id : (u v : VarId) → nat_eq u.0 v.0 ≡ true → u ≡ v
same_id u v e = let is : u.0 ≡ v.0 = grind (arith, nat_tests, e) in ap (λ (n : ℕ). record { 0 = n }) is

or_right : (b c : Bool) → c ≡ true → (b || c) ≡ true
or_right true c h = refl
or_right false c h = h

self_eq : (v : VarId) (b : Bool) → (nat_eq v.0 v.0 || b) ≡ true
self_eq v b = let e : nat_eq v.0 v.0 ≡ true = grind (arith, nat_tests) in rw e refl

says_closed : (m : VarId → Bool) (s : Sets) (o : Opened) (v : VarId) → is_open s v ≡ false → Says m s o → Says (λ u. nat_eq v.0 u.0 || m u)
    s o
says_closed m s Nothing v shut h = λ u t. by u (nat_eq v.0 u.0) refl t
  where
    by : (u : VarId) (b : Bool) → nat_eq v.0 u.0 ≡ b → (b || m u) ≡ true → is_open s u ≡ false
    by u true e t = subst (λ (w : VarId). is_open s w ≡ false) (same_id v u e) shut
    by u false e t = h u t
says_closed m s (One w) v shut h = (or_right (nat_eq v.0 w.0) (m w) h.0, h.1, λ u t wide. by u (nat_eq v.0 u.0) refl t wide)
  where
    by : (u : VarId) (b : Bool) → nat_eq v.0 u.0 ≡ b → (b || m u) ≡ true → is_open s u ≡ true → u.0 ≡ w.0
    by u true e t wide = absurd (let bad : true ≡ false = sym wide ∙ subst (λ (x : VarId). is_open s x ≡ false) (same_id v u e) shut in
        cc bad)
    by u false e t wide = h.2 u t wide
says_closed m s More v shut (u, w, mu, mw, ou, ow, ne) = (
  u,
  w,
  or_right (nat_eq v.0 u.0) (m u) mu,
  or_right (nat_eq v.0 w.0) (m w) mw,
  ou,
  ow,
  ne,
)

says_open : (m : VarId → Bool) (s : Sets) (o : Opened) (v : VarId) → is_open s v ≡ true → Says m s o → Says (λ u. nat_eq v.0 u.0 || m u) s
    (opened_with o v)
says_open m s Nothing v wide h = (self_eq v (m v), wide, λ u t also. by u (nat_eq v.0 u.0) refl t also)
  where
    by : (u : VarId) (b : Bool) → nat_eq v.0 u.0 ≡ b → (b || m u) ≡ true → is_open s u ≡ true → u.0 ≡ v.0
    by u true e t also = grind (arith, nat_tests, e)
    by u false e t also = absurd (let bad : true ≡ false = sym also ∙ h u t in cc bad)
says_open m s (One w) v wide h = at (nat_eq w.0 v.0) refl
  where
    by : (u : VarId) (b : Bool) → nat_eq v.0 u.0 ≡ b → w.0 ≡ v.0 → (b || m u) ≡ true → is_open s u ≡ true → u.0 ≡ w.0
    by u true e same t also = (let is : v.0 ≡ u.0 = grind (arith, nat_tests, e) in omega (arith, is, same))
    by u false e same t also = h.2 u t also

    at : (b : Bool) → nat_eq w.0 v.0 ≡ b → Says (λ u. nat_eq v.0 u.0 || m u) s (cond b (One w) More)
    at true e = (
      or_right (nat_eq v.0 w.0) (m w) h.0,
      h.1,
      λ u t also. by u (nat_eq v.0 u.0) refl
          (let is : w.0 ≡ v.0 = grind (arith, nat_tests, e) in is) t also,
    )
    at false e = (
      w,
      v,
      or_right (nat_eq v.0 w.0) (m w) h.0,
      self_eq v (m v),
      h.1,
      wide,
      (let ne : w.0 ≢ v.0 = grind (arith, nat_tests, e) in ne),
    )
says_open m s More v wide (u, w, mu, mw, ou, ow, ne) = (
  u,
  w,
  or_right (nat_eq v.0 u.0) (m u) mu,
  or_right (nat_eq v.0 w.0) (m w) mw,
  ou,
  ow,
  ne,
)

says_at : (m : VarId → Bool) (s : Sets) (o : Opened) (v : VarId) → Says m s o → Says (λ u. nat_eq v.0 u.0 || m u) s (opened_at s o v)
says_at m s o v h = by (is_open s v) refl
  where
    by : (b : Bool) → is_open s v ≡ b → Says (λ u. nat_eq v.0 u.0 || m u) s (cond b (opened_with o v) o)
    by true e = says_open m s o v e h
    by false e = says_closed m s o v e h

says_same : (m n : VarId → Bool) (s : Sets) (o : Opened) → ((u : VarId) → m u ≡ n u) → Says m s o → Says n s o
says_same m n s Nothing e h = λ u t. h u (e u ∙ t)
says_same m n s (One v) e h = (sym (e v) ∙ h.0, h.1, λ u t wide. h.2 u (e u ∙ t) wide)
says_same m n s More e (u, w, mu, mw, ou, ow, ne) = (u, w, sym (e u) ∙ mu, sym (e w) ∙ mw, ou, ow, ne)

pub says_more : (m n : VarId → Bool) (s : Sets) → ((u : VarId) → m u ≡ true → n u ≡ true) → Says m s More → Says n s More
says_more m n s f (u, w, mu, mw, ou, ow, ne) = (u, w, f u mu, f w mw, ou, ow, ne)

says_after : (m : VarId → Bool) (s : Sets) (vs : List VarId) (o : Opened) → Says m s o → Says (λ u. among vs u || m u) s
    (opened_after s vs o)
says_after m s [] o h = h
says_after m s (v ∷ vs) o h = says_same (λ u. among vs u || (nat_eq v.0 u.0 || m u)) (λ u. (nat_eq v.0 u.0 || among vs u) || m u) s
    (opened_after s vs (opened_at s o v)) (λ u. swap (among vs u) (nat_eq v.0 u.0) (m u))
    (says_after (λ u. nat_eq v.0 u.0 || m u) s vs (opened_at s o v) (says_at m s o v h))
  where
    swap : (a b c : Bool) → (a || (b || c)) ≡ ((b || a) || c)
    swap true true c = refl
    swap true false c = refl
    swap false true c = refl
    swap false false c = refl

-- **what is open of a list**
pub says_of : (s : Sets) (vs : List VarId) → Says (among vs) s (opened_after s vs Nothing)
says_of s vs = says_same (λ u. among vs u || false) (among vs) s (opened_after s vs Nothing) (λ u. or_false (among vs u))
    (says_after (λ u. false) s vs Nothing (λ u t. absurd (cc t)))
  where
    or_false : (b : Bool) → (b || false) ≡ b
    or_false true = refl
    or_false false = refl

-- one that is open stays the one, where no other is
pub after_same : (s : Sets) (u : VarId) (vs : List VarId) → ((w : VarId) → among vs w ≡ true → is_open s w ≡ true → w.0 ≡ u.0)
    → opened_after s vs (One u) ≡ One u
after_same s u [] h = refl
after_same s u (v ∷ vs) h = ap (opened_after s vs) (at (is_open s v) refl) ∙ after_same s u vs (λ w t wide. h w (among_later v w vs t) wide)
  where
    at : (b : Bool) → is_open s v ≡ b → cond b (opened_with (One u) v) (One u) ≡ One u
    at true e = (let is : v.0 ≡ u.0 = h v (among_here v vs) e in let same : nat_eq u.0 v.0 ≡ true = grind (arith, nat_tests, is) in
        ap (λ (b : Bool). cond b (One u) More) same)
    at false e = refl

-- The last variable of those that a list has of others

passes : (q : VarId → Bool) (vs : List VarId) (u : VarId) → among (filter q vs) u ≡ true → q u ≡ true
passes q [] u h = absurd (cc h)
passes q (v ∷ vs) u h = by (q v) refl h (passes q vs u)
  where
    or_cases : (b : Bool) → nat_eq v.0 u.0 ≡ b → (b || among (filter q vs) u) ≡ true → q v ≡ true
        → (among (filter q vs) u ≡ true → q u ≡ true) → q u ≡ true
    or_cases true e t on rest = subst (λ (w : VarId). q w ≡ true) (same_id v u e) on
    or_cases false e t on rest = rest t

    by : (b : Bool) → q v ≡ b → among (cond b (v ∷ filter q vs) (filter q vs)) u ≡ true → (among (filter q vs) u ≡ true → q u ≡ true)
        → q u ≡ true
    by true e t rest = or_cases (nat_eq v.0 u.0) refl t e rest
    by false e t rest = rest t

none_open : (s : Sets) (ws : List VarId) → ((u : VarId) → among ws u ≡ true → is_open s u ≡ false) → open_of ws s ≡ []
none_open s [] h = refl
none_open s (w ∷ ws) h = ap (λ (b : Bool). cond b (w ∷ open_of ws s) (open_of ws s)) (h w (among_here w ws))
    ∙ none_open s ws (λ u t. h u (among_later w u ws t))

tail_ascends : (v : VarId) (vs : List VarId) → Ascend (v ∷ vs) → Ascend vs
tail_ascends v vs h i j d lt below = h (suc i) (suc j) d (omega (arith, lt)) (omega (arith, below))

one_open : (s : Sets) (v : VarId) (ws : List VarId) → Ascend ws → among ws v ≡ true → is_open s v ≡ true → ((u : VarId) → among ws u ≡ true
    → is_open s u ≡ true → u.0 ≡ v.0)
    → open_of ws s ≡ v ∷ []
one_open s v [] g h wide only = absurd (cc h)
one_open s v (w ∷ ws) g h wide only = by (nat_eq w.0 v.0) refl h (one_open s v ws (tail_ascends w ws g))
  where
    shut : (u : VarId) → u.0 ≢ v.0 → among (w ∷ ws) u ≡ true → is_open s u ≡ false
    shut u ne t = at (is_open s u) refl
      where
        at : (b : Bool) → is_open s u ≡ b → b ≡ false
        at false e = refl
        at true e = absurd (ne (only u t e))

    by : (b : Bool) → nat_eq w.0 v.0 ≡ b → (b || among ws v) ≡ true
        → (among ws v ≡ true → is_open s v ≡ true → ((u : VarId) → among ws u ≡ true → is_open s u ≡ true → u.0 ≡ v.0)
        → open_of ws s ≡ v ∷ [])
        → open_of (w ∷ ws) s ≡ v ∷ []
    by true e t rest =
        let same : w ≡ v = same_id w v e in
        let none : open_of ws s ≡ [] = none_open s ws (λ u there. shut u (later u there same) (among_later w u ws there)) in
        ap (λ (b : Bool). cond b (w ∷ open_of ws s) (open_of ws s)) (subst (λ (x : VarId). is_open s x ≡ true) (sym same) wide)
        ∙ (ap (λ (us : List VarId). w ∷ us) none ∙ ap (λ (x : VarId). x ∷ []) same)
      where
        later : (u : VarId) → among ws u ≡ true → w ≡ v → u.0 ≢ v.0
        later u there same is =
            let c = in_list ws u there in
            let lt = c.1 in
            let less = g 0 (suc (c.0)) u (omega arith) (omega (arith, lt)) in
            let here = ap (λ (x : VarId). x.0) c.2 in
            let first = ap (λ (x : VarId). x.0) same in
            omega (arith, less, here, is, first)
    by false e t rest =
        let ne : w.0 ≢ v.0 = grind (arith, nat_tests, e) in
        ap (λ (b : Bool). cond b (w ∷ open_of ws s) (open_of ws s)) (shut w ne (among_here w ws))
        ∙ rest t wide (λ u there. only u (among_later w u ws there))

module _ (us vs : List VarId) (sub : (u : VarId) → among us u ≡ true → among vs u ≡ true) (ascend : Ascend (filter (among us) vs))
    (t : List ℕ → Bool) (looks : (x y : List ℕ) → SameAt (filter (among us) vs) x y → t x ≡ t y) (s : Sets) where
  inside : (u : VarId) → among us u ≡ true → among (filter (among us) vs) u ≡ true
  inside u h = among_filter us vs u h (sub u h)

  pub last_many : Says (among us) s More → last_cut (filter (among us) vs) t s ≡ Some s
  last_many (u, w, mu, mw, ou, ow, ne) = by (last_of (filter (among us) vs) s) refl
    where
      single : (x v : VarId) → among us x ≡ true → is_open s x ≡ true → last_of (filter (among us) vs) s ≡ Some v → x.0 ≡ v.0
      single x v m o is = elim (same_or_not x.0 v.0) [
        | inl e ↦ e
        | inr ne ↦ absurd (
            let one = All-contains (λ (w : VarId). w.0 ≢ v.0 → length (set_at s w.0) ≡ 1) (filter (among us) vs) x
            (last_single (filter (among us) vs) s v is).1 (in_list (filter (among us) vs) x (inside x m)) ne in
            let b : nat_eq (length (set_at s x.0)) 1 ≡ true = grind (arith, nat_tests, one) in
            let bad : true ≡ false = sym o ∙ ap not b in cc bad)
      ]

      by : (o : Option VarId) → last_of (filter (among us) vs) s ≡ o → last_cut_at t s o ≡ Some s
      by None is = refl
      by (Some v) is = absurd (ne (single u v mu ou is ∙ sym (single w v mw ow is)))

  pub last_more : opened_after s us Nothing ≡ More → last_cut (filter (among us) vs) t s ≡ Some s
  last_more e = last_many (subst (Says (among us) s) e (says_of s us))

  pub last_one : (v : VarId) → HasVars (filter (among us) vs) s → NoneEmpty s → opened_after s us Nothing ≡ One v
      → last_cut (filter (among us) vs) t s ≡ cut_by (λ y. t (set (point s) v.0 y)) v.0 s
  last_one v k full e =
      let h = subst (Says (among us) s) e (says_of s us) in
      last_at (filter (among us) vs) t looks s v k full (in_list (filter (among us) vs) v (inside v h.0))
      (inr (one_open s v (filter (among us) vs) ascend (inside v h.0) h.1 (λ u there wide. h.2 u (passes (among us) vs u there) wide)))

  pub last_none : (v : VarId) → among us v ≡ true → HasVars (filter (among us) vs) s → NoneEmpty s → opened_after s us Nothing ≡ Nothing
      → last_cut (filter (among us) vs) t s ≡ cut_by (λ y. t (set (point s) v.0 y)) v.0 s
  last_none v there k full e =
      let h = subst (Says (among us) s) e (says_of s us) in
      last_at (filter (among us) vs) t looks s v k full (in_list (filter (among us) vs) v (inside v there))
      (inl (none_open s (filter (among us) vs) (λ u at. h u (passes (among us) vs u at))))
