-- The laws of Below.
use Rattle.std.proofs.Common.{ℕ, zero, suc, ◌≡◌, ◌≤◌, ◌<◌, ◌+◌, ◌-◌, ◌*◌, ◌∙◌, true, List, [], ◌∷◌, length, get_or, map, nat_lt}
use Rattle.std.proofs.Common.{Some, refl}
use Rattle.std.proofs.Common.{ap, subst, arith}
use Rattle.std.proofs.lemmas.Bool.Decides.{nat_tests}
use Rattle.std.proofs.lemmas.List.{get_or-map, length-map}
use Rattle.std.proofs.Math.Nat.{mul-le-mul_left}
use Rattle.std.specs.List.{AllByRecursion, Contains}
use Rattle.std.proofs.lemmas.List.Elements.{recursion_from_All}
use Rattle.un_base.specs.declared.ids.VarId.{VarId}
use Rattle.un_domains.specs.Sets.{Sets, set_at, least, IsIn, NoneEmpty, Kept}
use Rattle.un_domains.specs.SetLaws.{least-le}
use Rattle.un_domains.specs.Order.{Below}
use Rattle.un_domains.specs.OrderLaws.{least_below}
use Rattle.un_prop.specs.Rounds.{HasVars, round}
use Rattle.un_prop.specs.Steps.{lawful_cut_by, lawful_then, lawful_each}
use Rattle.un_prop.specs.EachLaws.{each_kept, members}
use Rattle.un_domains.specs.CutLaws.{cut_by_kept}
use Rattle.un_prop.specs.Parts.{SameAt}
use Rattle.un_prop.specs.Lawful.{Agree, Lawful, LawfulTest}
use Rattle.un_prop.specs.Failing.{first_cut}
use Rattle.un_prop.specs.FailLaws.{first_lawful, first_keeps, first_passes}
use Rattle.un_prop.specs.Among.{among}
use Rattle.un_prop.specs.AmongLaws.{has_among, same_var, in_list}
use Rattle.std.proofs.lemmas.List.Elements.{All-contains}
use Rattle.un_prop.specs.Looks.{InWords}
use Rattle.un_prop.specs.ChainLaws.{least_in, then_kept, known_in, stable_then}
use Rattle.un_prec.specs.declared.below.Weighted.{Weighted}
use Rattle.un_prec.specs.Below.{cost_of, cost_at, least_cost, below_holds, below_test, more_cost, end_test, end_cut, below_steps}
use Rattle.un_prec.specs.Below.{BelowVars, BelowStrong}

-- ends alike cost alike, and no later ends cost no more
cost_alike : (es : List Weighted) (f g : VarId → ℕ) → AllByRecursion (λ (e : Weighted). f e.end ≡ g e.end) es → cost_of es f ≡ cost_of es g
cost_alike [] f g all = refl
cost_alike (e ∷ es) f g all = ap (λ (n : ℕ). e.freq * (n - 1) + cost_of es f) all.0
    ∙ ap (λ (n : ℕ). e.freq * (g e.end - 1) + n) (cost_alike es f g all.1)

cost_le : (es : List Weighted) (f g : VarId → ℕ) → AllByRecursion (λ (e : Weighted). f e.end ≤ g e.end) es → cost_of es f ≤ cost_of es g
cost_le [] f g all = omega arith
cost_le (e ∷ es) f g all =
    let one : f e.end - 1 ≤ g e.end - 1 = (let le = all.0 in omega (arith, le)) in
    omega (arith, mul-le-mul_left e.freq one, cost_le es f g all.1)

-- what one of the ends costs more is part of what later ends cost
cost_more : (es : List Weighted) (e : Weighted) (f g : VarId → ℕ) → Contains es e
    → AllByRecursion (λ (d : Weighted). f d.end ≤ g d.end) es
    → cost_of es f + e.freq * (g e.end - 1 - (f e.end - 1)) ≤ cost_of es g
cost_more [] e f g there all = absurd (let lt = there.1 in omega (arith, lt))
cost_more (d ∷ es) e f g (zero, lt, is) all =
    subst (λ (u : Weighted). cost_of (d ∷ es) f + u.freq * (g u.end - 1 - (f u.end - 1)) ≤ cost_of (d ∷ es) g) is
    (let one : g d.end - 1 ≡ f d.end - 1 + (g d.end - 1 - (f d.end - 1)) = (let le = all.0 in omega (arith, le)) in
    let split = ap (λ (n : ℕ). d.freq * n) one in
    let rest = cost_le es f g all.1 in
    omega (arith, split, rest))
cost_more (d ∷ es) e f g (suc k, lt, is) all =
    let one : f d.end - 1 ≤ g d.end - 1 = (let le = all.0 in omega (arith, le)) in
    let rest = cost_more es e f g (k, omega (arith, lt), is) all.1 in
    let first = mul-le-mul_left d.freq one in
    omega (arith, first, rest)

-- more is left of an end where less is left of the others
more_room : (f a b y m n : ℕ) → a ≤ b → m + f * (b - 1 - (a - 1)) ≤ n → m + f * (y - 1 - (a - 1)) ≤ n + f * (y - 1 - (b - 1))
more_room f a b y m n le more =
    let one : y - 1 - (a - 1) ≤ b - 1 - (a - 1) + (y - 1 - (b - 1)) = omega (arith, le) in
    let split = mul-le-mul_left f one in
    omega (arith, split, more)

each : (P Q : Weighted → Type 0) → ((e : Weighted) → P e → Q e) → (es : List Weighted) → AllByRecursion P es → AllByRecursion Q es
each P Q h [] all = tt
each P Q h (e ∷ es) all = (h e all.0, each P Q h es all.1)

module _ (vs : List VarId) (es : List Weighted) (limit : ℕ) (h : BelowVars vs es) where
  among_all : AllByRecursion (λ (e : Weighted). among vs e.end ≡ true) es
  among_all = recursion_from_All _ _ h

  pub below_looks : (x y : List ℕ) → SameAt vs x y → below_holds es limit x ≡ below_holds es limit y
  below_looks x y same = ap (λ (n : ℕ). nat_lt n limit) (cost_alike es (λ v. get_or x v.0 0) (λ v. get_or y v.0 0)
      (each (λ e. among vs e.end ≡ true) (λ e. get_or x e.end.0 0 ≡ get_or y e.end.0 0) (λ e there. same_var vs x y same e.end there) es
      among_all))

  below_lawful_test : LawfulTest vs (below_test es limit)
  below_lawful_test = record {
    monotone = λ t s y k full le pass.
        (let low = cost_le es (λ v. least (set_at s v.0)) (λ v. least (set_at t v.0))
        (each (λ e. among vs e.end ≡ true) (λ e. least (set_at s e.end.0) ≤ least (set_at t e.end.0))
        (λ e there. least_below t s e.end.0 le (full e.end.0 (let here = has_among vs e.end s there k in omega (arith, here, le.long)))) es
        among_all) in
        grind (arith, nat_tests, pass, low));
    local = λ s t y agree. ap (λ (n : ℕ). nat_lt n limit) (cost_alike es (λ v. least (set_at s v.0)) (λ v. least (set_at t v.0))
        (each (λ e. among vs e.end ≡ true) (λ e. least (set_at s e.end.0) ≡ least (set_at t e.end.0))
        (λ e there. ap least (All-contains (λ u. set_at s u.0 ≡ set_at t u.0) vs e.end agree (in_list vs e.end there))) es among_all));
  }

  pub fails_lawful : Lawful vs (first_cut (below_test es limit) vs)
  fails_lawful = first_lawful (below_test es limit) vs below_lawful_test

  -- the least ends of a smaller store are no sooner
  later : (t s : Sets) → HasVars vs s → NoneEmpty t → Below t s
      → AllByRecursion (λ (e : Weighted). least (set_at s e.end.0) ≤ least (set_at t e.end.0)) es
  later t s k full le = each (λ e. among vs e.end ≡ true) (λ e. least (set_at s e.end.0) ≤ least (set_at t e.end.0))
      (λ e there. least_below t s e.end.0 le (full e.end.0 (let here = has_among vs e.end s there k in omega (arith, here, le.long)))) es
      among_all

  alike : (s t : Sets) → Agree vs s t → AllByRecursion (λ (e : Weighted). least (set_at s e.end.0) ≡ least (set_at t e.end.0)) es
  alike s t agree = each (λ e. among vs e.end ≡ true) (λ e. least (set_at s e.end.0) ≡ least (set_at t e.end.0))
      (λ e there. ap least (All-contains (λ u. set_at s u.0 ≡ set_at t u.0) vs e.end agree (in_list vs e.end there))) es among_all

  pub among_end : (e : Weighted) → Contains es e → among vs e.end ≡ true
  among_end e there = All-contains (λ (d : Weighted). among vs d.end ≡ true) es e h there

  end_lawful_test : (e : Weighted) → Contains es e → LawfulTest vs (end_test es limit e)
  end_lawful_test e there = record {
    monotone = λ t s y k full le pass.
        (let at = has_among vs e.end s (among_end e there) k in
        let low = least_below t s e.end.0 le (full e.end.0 (omega (arith, at, le.long))) in
        let more = cost_more es e (λ v. least (set_at s v.0)) (λ v. least (set_at t v.0)) there (later t s k full le) in
        let room = more_room e.freq (least (set_at s e.end.0)) (least (set_at t e.end.0)) y (least_cost es s) (least_cost es t) low more in
        grind (arith, nat_tests, pass, room));
    local = λ s t y agree.
        (let cost = cost_alike es (λ v. least (set_at s v.0)) (λ v. least (set_at t v.0)) (alike s t agree) in
        let one = ap least (All-contains (λ u. set_at s u.0 ≡ set_at t u.0) vs e.end agree (in_list vs e.end (among_end e there))) in
        ap (λ (n : ℕ). nat_lt (n + more_cost e s y) limit) cost
        ∙ ap (λ (n : ℕ). nat_lt (least_cost es t + e.freq * (y - 1 - (n - 1))) limit) one);
  }

  pub end_lawful : (e : Weighted) → Contains es e → Lawful vs (end_cut es limit e)
  end_lawful e there = lawful_cut_by vs e.end (end_test es limit e) (in_list vs e.end (among_end e there)) (end_lawful_test e there)

  pub each_lawful_end : (ds : List Weighted) → AllByRecursion (Contains es) ds → AllByRecursion (λ e. Lawful vs (end_cut es limit e)) ds
  each_lawful_end ds all = each (Contains es) (λ e. Lawful vs (end_cut es limit e)) end_lawful ds all

  pub ends_lawful : Lawful vs (round (end_cut es limit) es)
  ends_lawful = lawful_each vs (end_cut es limit) es (each_lawful_end es (members es))

  pub below_lawful : Lawful vs (below_steps vs es limit)
  below_lawful = lawful_then vs (first_cut (below_test es limit) vs) (round (end_cut es limit) es) fails_lawful ends_lawful

  -- the ends of an assignment are no sooner than the least
  lows : (s : Sets) (x : List ℕ) → HasVars vs s → IsIn x s → AllByRecursion (λ (e : Weighted). least (set_at s e.end.0) ≤ get_or x
      e.end.0 0) es
  lows s x k there = each (λ e. among vs e.end ≡ true) (λ e. least (set_at s e.end.0) ≤ get_or x e.end.0 0)
      (λ e h. least-le (set_at s e.end.0) (get_or x e.end.0 0) (there.each e.end.0 (has_among vs e.end s h k))) es among_all

  low_cost : (s : Sets) (x : List ℕ) → HasVars vs s → IsIn x s → least_cost es s ≤ cost_at es x
  low_cost s x k there = cost_le es (λ v. least (set_at s v.0)) (λ v. get_or x v.0 0) (lows s x k there)

  end_keeps : (x : List ℕ) → below_holds es limit x ≡ true → (e : Weighted) → Contains es e → (m : Sets) → HasVars vs m → IsIn x m
      → Kept x (end_cut es limit e m)
  end_keeps x holds e there m k in_m = cut_by_kept (end_test es limit e m) e.end.0 m x (has_among vs e.end m (among_end e there) k) in_m
      (let more = cost_more es e (λ v. least (set_at m v.0)) (λ v. get_or x v.0 0) there (lows m x k in_m) in
      grind (arith, nat_tests, holds, more))

  pub below_keeps : (s : Sets) (x : List ℕ) → HasVars vs s → IsIn x s → below_holds es limit x ≡ true → Kept x (below_steps vs es limit s)
  below_keeps s x k there holds =
      then_kept (round (end_cut es limit) es) x (first_cut (below_test es limit) vs s)
      (first_keeps (below_test es limit) vs s x k there (λ y. let low = low_cost s x k there in grind (arith, nat_tests, holds, low)))
      (λ m in_m. each_kept vs (Contains es) (end_cut es limit) x (end_keeps x holds) es (members es) m (known_in vs s m x there in_m k)
      in_m)

  pub below_strong : (s : Sets) → HasVars vs s → NoneEmpty s → InWords s → (length vs ≡ 0 → (x : List ℕ) → below_holds es limit x ≡ true)
      → below_steps vs es limit s ≡ Some s → BelowStrong es limit s
  below_strong s k full words grounded e = by vs refl
    where
      two : (first_cut (below_test es limit) vs s ≡ Some s) × (round (end_cut es limit) es s ≡ Some s)
      two = stable_then vs (first_cut (below_test es limit) vs) (round (end_cut es limit) es) fails_lawful ends_lawful s k full e

      by : (us : List VarId) → vs ≡ us → least_cost es s < limit
      by (u ∷ us) is = let r = first_passes (below_test es limit) vs s (omega (arith, ap length is)) k full two.0 in let pass = r.1 in
          grind (arith, nat_tests, pass)
      by [] is =
          let x = map least s in
          let there : IsIn x s = record {
            long = length-map s least;
            each =
                λ v lt. rw (get_or-map least s v [] 0 lt) (least_in (set_at s v) (full v lt));
          } in
          let holds = grounded (ap length is) x in
          let low = low_cost s x k there in
          grind (arith, nat_tests, holds, low)
