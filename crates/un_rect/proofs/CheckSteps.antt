-- Steps of the checks.
use Rattle.std.proofs.Common.{ℕ, not, ◌&&◌, ◌≡◌, ◌≢◌, ◌<◌, Bool, true, false, cond, ◌||◌, List}
use Rattle.std.proofs.Common.{◌++◌, length, get_or, set, Some, All, nat_eq}
use Rattle.std.proofs.Common.{refl, sym, ap, ◌∙◌, subst, arith, inl, inr, [], nat_le}
use Rattle.std.specs.declared.option.Option.{Option}
use Rattle.std.specs.List.{AllByRecursion}
use Rattle.std.proofs.lemmas.Bool.Decides.{nat_tests}
use Rattle.std.proofs.lemmas.List.{get_or-set_same, get_or-set_other, get_or-map, length-map}
use Rattle.un_base.specs.declared.ids.VarId.{VarId}
use Rattle.un_domains.specs.Sets.{Sets, set_at, least, cut_by, NoneEmpty}
use Rattle.un_domains.specs.SetLaws.{same_or_not}
use Rattle.un_domains.specs.Cuts.{Contents}
use Rattle.un_prop.specs.Rounds.{HasVars}
use Rattle.un_prop.specs.Parts.{SameAt}
use Rattle.un_prop.specs.Among.{among}
use Rattle.un_prop.specs.Acts.{is_active}
use Rattle.un_prop.specs.Going.{Stepped}
use Rattle.un_prop.specs.GoingLaws.{starts, stepped_then}
use Rattle.un_prop.specs.Last.{point}
use Rattle.un_prop.specs.LastLaws.{Ascend}
use Rattle.un_prop.specs.Pruning.{join}
use Rattle.un_prop.specs.declared.act.Temp.{Temp}
use Rattle.un_prop.specs.declared.propagator.Pruned.{Pruned}
use Rattle.un_prop.specs.declared.propagator.Pruned.TheVariants.{Same, Failed}
use Rattle.un_rect.specs.Spans.{starts as starts_at, ends, least_start, greatest_end, TempVars}
use Rattle.un_rect.specs.Apart.{temp_vars, pair_vars, pair_holds, check_pair}
use Rattle.un_rect.specs.ApartLaws.{pair_looks}
use Rattle.un_rect.specs.Checks.{is_off, differ, IsUndecided}
use Rattle.un_rect.specs.Extents.{left_opened, left_of, are_parted, opened_both, left_both, var_of}
use Rattle.un_rect.specs.CheckLaws.{check_apart, ends_outside, last_all}
use Rattle.un_rect.proofs.Parted.{parted_holds}
use Rattle.un_rect.specs.Opened.{opened_after, is_more, Says}
use Rattle.un_rect.specs.OpenedLaws.{after_append, after_same, more_is, says_of, says_more, last_many, last_more, last_one, last_none}
use Rattle.un_rect.specs.Pairs.{at_place, each_before}
use Rattle.un_rect.specs.PairLaws.{each_same, at_same}
use Rattle.un_rect.specs.TempLaws.{among_left, among_right, among_here, pair_first, pair_second, pair_all, part_all, filter_ascends}
use Rattle.un_rect.specs.declared.opened.Opened.{Opened}
use Rattle.un_rect.specs.declared.opened.Opened.TheVariants.{Nothing, One, More}

-- A step that starts anew, after others

pub step_after : (vs : List VarId) (f : Sets → Option Sets) (old new : Contents) (before did after : Pruned) → before ≢ Failed
    → after ≡ join before did
    → Stepped vs f old new Same did → Stepped vs f old new before after
step_after vs f old new before did after other is q = stepped_then vs f old new before did after other is q.long
    (λ live. let p = q.goes (Some old.sets) old (starts vs old live) in (p.ends, p.untouched))

-- what it leaves of other variables
pub step_outside : (vs : List VarId) (p : ℕ → Bool) (v : ℕ) (old new : Contents) (did : Pruned) → NoneEmpty old.sets
    → Stepped vs (cut_by p v) old new Same did → did ≢ Failed
    → (w : ℕ) → w ≢ v → set_at new.sets w ≡ set_at old.sets w
step_outside vs p v old new did live q other = ends_outside p v old.sets new.sets did (q.goes (Some old.sets) old (starts vs old live)).ends
    other

-- the least values, written again for v
pub written_after : (vs : List VarId) (v : ℕ) (old new : Sets) (first mid : List ℕ) (m : ℕ)
    → All (λ u. get_or first u.0 0 ≡ least (set_at old u.0)) vs
    → ((u : ℕ) → u ≢ v → get_or mid u 0 ≡ get_or first u 0) → ((w : ℕ) → w ≢ v → set_at new w ≡ set_at old w) → v < length mid
    → m ≡ least (set_at new v)
    → All (λ u. get_or (set mid v m) u.0 0 ≡ least (set_at new u.0)) vs
written_after vs v old new first mid m written others outside within is i d lt =
    let u = (get_or vs i d).0 in
    elim (same_or_not u v) [
      | inl e ↦ subst (λ (k : ℕ). get_or (set mid v m) k 0 ≡ least (set_at new k)) (sym e) (get_or-set_same mid v m 0 within ∙ is)
      | inr ne ↦ get_or-set_other mid v u m 0 ne ∙ (others u ne ∙ (written i d lt ∙ ap least (sym (outside u ne))))
    ]

-- One value alone is tried

pub tried_only : (q : ℕ → Bool) (y m : ℕ) (tried : Bool) → tried ≡ q y → y ≡ m → ((z : ℕ) → z ≢ m → q z ≡ true) → (z : ℕ)
    → q z ≡ (not (nat_eq z y) || tried)
tried_only q y m tried is same apart z = by (nat_eq z y) refl
  where
    by : (c : Bool) → nat_eq z y ≡ c → q z ≡ (not c || tried)
    by true e = let equal : z ≡ y = grind (arith, nat_tests, e) in ap q equal ∙ sym is
    by false e = let other : z ≢ y = grind (arith, nat_tests, e) in apart z (λ h. other (h ∙ sym same))

-- two registers that differ part two temporaries
module _ (a b : Temp) (s : Sets) (y : ℕ) (within_a : a.reg.0 < length s) (within_b : b.reg.0 < length s) (ne : a.reg.0 ≢ b.reg.0) where
  parted : (x : List ℕ) → nat_eq (get_or x a.reg.0 0) (get_or x b.reg.0 0) ≡ false → pair_holds a b x ≡ true
  parted x e = ap (λ (c : Bool). not (is_active a.on x && (is_active b.on x && c))
      || (nat_le (ends a x) (starts_at b x) || nat_le (ends b x) (starts_at a x))) e
      ∙ off (is_active a.on x) (is_active b.on x) (nat_le (ends a x) (starts_at b x) || nat_le (ends b x) (starts_at a x))
    where
      off : (c d r : Bool) → (not (c && (d && false)) || r) ≡ true
      off true true r = refl
      off true false r = refl
      off false d r = refl

  pub first_parted : y ≢ least (set_at s b.reg.0) → pair_holds a b (set (point s) a.reg.0 y) ≡ true
  first_parted other =
      let x = set (point s) a.reg.0 y in
      let here : get_or x a.reg.0 0 ≡ y = get_or-set_same (point s) a.reg.0 y 0 (omega (arith, within_a, length-map s least)) in
      let there : get_or x b.reg.0 0 ≡ least (set_at s b.reg.0) = get_or-set_other (point s) a.reg.0 b.reg.0 y 0 (λ h. ne (sym h))
      ∙ get_or-map least s b.reg.0 [] 0 within_b in
      let none : get_or x a.reg.0 0 ≢ get_or x b.reg.0 0 = λ h. other (sym here ∙ (h ∙ there)) in
      parted x (grind (arith, nat_tests, none))

  pub second_parted : y ≢ least (set_at s a.reg.0) → pair_holds a b (set (point s) b.reg.0 y) ≡ true
  second_parted other =
      let x = set (point s) b.reg.0 y in
      let here : get_or x b.reg.0 0 ≡ y = get_or-set_same (point s) b.reg.0 y 0 (omega (arith, within_b, length-map s least)) in
      let there : get_or x a.reg.0 0 ≡ least (set_at s a.reg.0) = get_or-set_other (point s) b.reg.0 a.reg.0 y 0 ne
      ∙ get_or-map least s a.reg.0 [] 0 within_a in
      let none : get_or x a.reg.0 0 ≢ get_or x b.reg.0 0 = λ h. other (sym here ∙ (sym h ∙ there)) in
      parted x (grind (arith, nat_tests, none))

-- what is left of one that is idle
pub idle_open : (c : Bool) (o : Opened) → is_more (cond c More o) ≡ (c || is_more o)
idle_open true o = refl
idle_open false o = refl

-- The variable that is left to decide

module _ (vs : List VarId) (a b : Temp) (ascend : Ascend vs) (ha : TempVars vs a) (hb : TempVars vs b) (s : Sets) (k : HasVars vs s)
    (full : NoneEmpty s) where
  sub : (u : VarId) → among (temp_vars a ++ temp_vars b) u ≡ true → among vs u ≡ true
  sub = pair_all vs a b ha hb

  rises : Ascend (pair_vars vs a b)
  rises = filter_ascends (among (temp_vars a ++ temp_vars b)) vs ascend

  looks : (x y : List ℕ) → SameAt (pair_vars vs a b) x y → pair_holds a b x ≡ pair_holds a b y
  looks = pair_looks (pair_vars vs a b) a b (pair_first vs a b ha) (pair_second vs a b hb)

  known : HasVars (pair_vars vs a b) s
  known = part_all (λ v. v.0 < length s) (among (temp_vars a ++ temp_vars b)) vs k

  whole : (first last : Opened) → first ≡ opened_after s (temp_vars a) Nothing → last ≡ opened_after s (temp_vars b) first
      → opened_after s (temp_vars a ++ temp_vars b) Nothing ≡ last
  whole first last p q = after_append s (temp_vars a) (temp_vars b) Nothing ∙ (ap (opened_after s (temp_vars b)) (sym p) ∙ sym q)

  pub left_nothing : (first last : Opened) → first ≡ opened_after s (temp_vars a) Nothing → last ≡ opened_after s (temp_vars b) first
      → last ≡ Nothing
      → check_pair vs a b s ≡ cut_by (λ y. pair_holds a b (set (point s) a.reg.0 y)) a.reg.0 s
  left_nothing first last p q e = last_none (temp_vars a ++ temp_vars b) vs sub rises (pair_holds a b) looks s a.reg
      (among_left (temp_vars a) (temp_vars b) a.reg (among_here a.reg _)) known full (whole first last p q ∙ e)

  pub left_one : (v : VarId) (first last : Opened) → first ≡ opened_after s (temp_vars a) Nothing → last ≡ opened_after s (temp_vars b)
      first → last ≡ One v
      → (among vs v ≡ true) × (check_pair vs a b s ≡ cut_by (λ y. pair_holds a b (set (point s) v.0 y)) v.0 s)
  left_one v first last p q e =
      let is = whole first last p q ∙ e in (
        sub v (subst (Says (among (temp_vars a ++ temp_vars b)) s) is (says_of s (temp_vars a ++ temp_vars b))).0,
        last_one (temp_vars a ++ temp_vars b) vs sub rises (pair_holds a b) looks s v known full is,
      )

  pub left_more : (first last : Opened) → first ≡ opened_after s (temp_vars a) Nothing → last ≡ opened_after s (temp_vars b) first
      → last ≡ More → check_pair vs a b s ≡ Some s
  left_more first last p q e = last_more (temp_vars a ++ temp_vars b) vs sub rises (pair_holds a b) looks s (whole first last p q ∙ e)

  -- nothing to check with any other
  pub check_idle : (is_off b.on s || is_more (opened_after s (temp_vars b) Nothing)) ≡ true → check_pair vs a b s ≡ Some s
  check_idle e = by (is_off b.on s) refl e
    where
      or_right : (c d : Bool) → d ≡ true → (c || d) ≡ true
      or_right true d h = refl
      or_right false d h = h

      by : (c : Bool) → is_off b.on s ≡ c → (c || is_more (opened_after s (temp_vars b) Nothing)) ≡ true → check_pair vs a b s ≡ Some s
      by true off t = check_apart vs a b ha hb s k full (or_right (is_off a.on s) _ (ap (λ (c : Bool). c || differ a.reg b.reg s) off))
      by false off t = last_many (temp_vars a ++ temp_vars b) vs sub rises (pair_holds a b) looks s
          (says_more (among (temp_vars b)) (among (temp_vars a ++ temp_vars b)) s (λ u. among_right (temp_vars a) (temp_vars b) u)
          (subst (Says (among (temp_vars b)) s) (more_is (opened_after s (temp_vars b) Nothing) t) (says_of s (temp_vars b))))

  pub check_idle_first : (is_off a.on s || is_more (opened_after s (temp_vars a) Nothing)) ≡ true → check_pair vs a b s ≡ Some s
  check_idle_first e = by (is_off a.on s) refl e
    where
      by : (c : Bool) → is_off a.on s ≡ c → (c || is_more (opened_after s (temp_vars a) Nothing)) ≡ true → check_pair vs a b s ≡ Some s
      by true off t = check_apart vs a b ha hb s k full (ap (λ (c : Bool). c || (is_off b.on s || differ a.reg b.reg s)) off)
      by false off t = last_many (temp_vars a ++ temp_vars b) vs sub rises (pair_holds a b) looks s
          (says_more (among (temp_vars a)) (among (temp_vars a ++ temp_vars b)) s (λ u. among_left (temp_vars a) (temp_vars b) u)
          (subst (Says (among (temp_vars a)) s) (more_is (opened_after s (temp_vars a) Nothing) t) (says_of s (temp_vars a))))

  -- a variable of each is open, and not the same
  check_two : (u v : VarId) → opened_after s (temp_vars a) Nothing ≡ One u → opened_after s (temp_vars b) Nothing ≡ One v
      → nat_eq u.0 v.0 ≡ false → check_pair vs a b s ≡ Some s
  check_two u v p q e =
      let first = subst (Says (among (temp_vars a)) s) p (says_of s (temp_vars a)) in
      let other = subst (Says (among (temp_vars b)) s) q (says_of s (temp_vars b)) in
      let ne : u.0 ≢ v.0 = grind (arith, nat_tests, e) in
      last_many (temp_vars a ++ temp_vars b) vs sub rises (pair_holds a b) looks s (
        u,
        v,
        among_left (temp_vars a) (temp_vars b) u first.0,
        among_right (temp_vars a) (temp_vars b) v other.0,
        first.1,
        other.1,
        ne,
      )

  -- what is open of both
  few : (o p : Opened) → opened_after s (temp_vars a) Nothing ≡ o → opened_after s (temp_vars b) Nothing ≡ p
      → IsUndecided vs a b s (var_of a.reg (opened_both o p))
  few o p is other = by o p is other
    where
      or_right : (c d : Bool) → d ≡ true → (c || d) ≡ true
      or_right true d h = refl
      or_right false d h = h

      idle_other : opened_after s (temp_vars b) Nothing ≡ More → check_pair vs a b s ≡ Some s
      idle_other q = check_idle (or_right (is_off b.on s) _ (ap is_more q))

      at : (u v : VarId) → opened_after s (temp_vars a) Nothing ≡ One u → opened_after s (temp_vars b) Nothing ≡ One v
          → (c : Bool) → nat_eq u.0 v.0 ≡ c → IsUndecided vs a b s (var_of a.reg (cond c (One u) More))
      at u v is other true e =
          let says = subst (Says (among (temp_vars b)) s) other (says_of s (temp_vars b)) in
          let same : u.0 ≡ v.0 = grind (arith, nat_tests, e) in
          left_one u (One u) (One u) (sym is) (sym (after_same s u (temp_vars b) (λ w t wide. says.2 w t wide ∙ sym same))) refl
      at u v is other false e = check_two u v is other e

      by : (o p : Opened) → opened_after s (temp_vars a) Nothing ≡ o → opened_after s (temp_vars b) Nothing ≡ p
          → IsUndecided vs a b s (var_of a.reg (opened_both o p))
      by Nothing Nothing is other = (ha.of_reg, left_nothing Nothing Nothing (sym is) (sym other) refl)
      by Nothing (One v) is other = left_one v Nothing (One v) (sym is) (sym other) refl
      by Nothing More is other = idle_other other
      by (One u) Nothing is other =
          let says = subst (Says (among (temp_vars b)) s) other (says_of s (temp_vars b)) in
          left_one u (One u) (One u) (sym is) (sym (after_same s u (temp_vars b)
          (λ w t wide. absurd (let bad : true ≡ false = sym wide ∙ says w t in cc bad)))) refl
      by (One u) (One v) is other = at u v is other (nat_eq u.0 v.0) refl
      by (One u) More is other = idle_other other
      by More p is other = check_idle_first (or_right (is_off a.on s) _ (ap is_more is))

  -- one ends before the other starts, or has more than one variable open
  ends_before : (p q : Bool) → is_more (left_opened a s) ≡ p → is_more (left_opened b s) ≡ q
      → (nat_le (cond p 0 (greatest_end a s)) (least_start b s) || nat_le (cond q 0 (greatest_end b s)) (least_start a s)) ≡ true
      → check_pair vs a b s ≡ Some s
  ends_before true q first other e = check_idle_first (sym (idle_open (is_off a.on s) (opened_after s (temp_vars a) Nothing)) ∙ first)
  ends_before false true first other e = check_idle (sym (idle_open (is_off b.on s) (opened_after s (temp_vars b) Nothing)) ∙ other)
  ends_before false false first other e = last_all (pair_vars vs a b) (pair_holds a b) s known full (parted_holds vs a b ha hb s k e)

  -- what is left of both
  pub check_both : IsUndecided vs a b s (var_of a.reg (left_both (left_of a s) (left_of b s)))
  check_both = by (differ a.reg b.reg s) refl
    where
      or_last : (c d : Bool) → (c || (d || true)) ≡ true
      or_last true d = refl
      or_last false true = refl
      or_last false false = refl

      both_more : (o : Opened) → opened_both o More ≡ More
      both_more Nothing = refl
      both_more (One u) = refl
      both_more More = refl

      on : (c d : Bool) → is_off a.on s ≡ c → is_off b.on s ≡ d
          → IsUndecided vs a b s (var_of a.reg (opened_both (cond c More (opened_after s (temp_vars a) Nothing))
          (cond d More (opened_after s (temp_vars b) Nothing))))
      on true d first other = check_idle_first (ap (λ (c : Bool). c || is_more (opened_after s (temp_vars a) Nothing)) first)
      on false true first other = subst (λ (o : Opened). IsUndecided vs a b s (var_of a.reg o))
          (sym (both_more (opened_after s (temp_vars a) Nothing)))
          (check_idle (ap (λ (c : Bool). c || is_more (opened_after s (temp_vars b) Nothing)) other))
      on false false first other = few _ _ refl refl

      split : (c : Bool) → are_parted (left_of a s) (left_of b s) ≡ c
          → IsUndecided vs a b s (var_of a.reg (cond c More (opened_both (left_opened a s) (left_opened b s))))
      split true e = ends_before (is_more (left_opened a s)) (is_more (left_opened b s)) refl refl e
      split false e = on (is_off a.on s) (is_off b.on s) refl refl

      by : (c : Bool) → differ a.reg b.reg s ≡ c
          → IsUndecided vs a b s (var_of a.reg (cond c More (cond (are_parted (left_of a s) (left_of b s)) More
          (opened_both (left_opened a s) (left_opened b s)))))
      by true e = check_apart vs a b ha hb s k full
          (ap (λ (c : Bool). is_off a.on s || (is_off b.on s || c)) e ∙ or_last (is_off a.on s) (is_off b.on s))
      by false e = split (are_parted (left_of a s) (left_of b s)) refl

pub checks_idle : (vs : List VarId) (temps : List Temp) (b : Temp) (s : Sets) → Ascend vs → AllByRecursion (TempVars vs) temps
    → TempVars vs b → HasVars vs s → NoneEmpty s
    → (is_off b.on s || is_more (opened_after s (temp_vars b) Nothing)) ≡ true → (n : ℕ) → each_before (check_pair vs) temps b n s ≡ Some s
checks_idle vs temps b s ascend all hb k full e n = each_same (at_place (λ a. check_pair vs a b) temps) n s
    (at_same (TempVars vs) (λ a. check_pair vs a b) temps s all (λ a ha. check_idle vs a b ascend ha hb s k full e))
