-- What extents say of two temporaries.
use Rattle.std.proofs.Common.{ℕ, ◌≡◌, Bool, true, false, cond, not, ◌&&◌, ◌||◌, List, [], ◌∷◌, length, nat_eq, nat_lt, Some}
use Rattle.std.proofs.Common.{option_and_then, refl, sym, ap, ◌∙◌, subst, arith}
use Rattle.std.proofs.Common.{◌<◌, ◌≤◌, ◌⊎◌, All, None, get_or, nat_le, inl, inr}
use Rattle.std.specs.declared.option.Option.{Option}
use Rattle.std.proofs.lemmas.Bool.Decides.{nat_tests}
use Rattle.std.proofs.lemmas.List.{get_or_default}
use Rattle.un_base.specs.declared.ids.VarId.{VarId}
use Rattle.un_domains.specs.Sets.{Sets, set_at, has, least, NoneEmpty}
use Rattle.un_domains.specs.Cuts.{Contents}
use Rattle.un_domains.specs.OrderLaws.{same_test}
use Rattle.un_prop.specs.Going.{Stepped}
use Rattle.un_prop.specs.GoingLaws.{starts}
use Rattle.un_prop.specs.Pruning.{Answers, Ends}
use Rattle.un_prop.specs.declared.act.Act.TheVariants.{Always}
use Rattle.un_prop.specs.declared.act.At.TheVariants.{Const}
use Rattle.un_prop.specs.declared.propagator.Pruned.{Pruned}
use Rattle.un_prop.specs.declared.propagator.Pruned.TheVariants.{Same}
use Rattle.un_prop.specs.Rounds.{HasVars}
use Rattle.un_prop.specs.AmongLaws.{has_among}
use Rattle.un_prop.specs.LastLaws.{Ascend, cut_all}
use Rattle.un_rect.proofs.CheckSteps.{check_both}
use Rattle.un_rect.proofs.ClashLaws.{clash_lost, clash_many}
use Rattle.un_prop.specs.Looks.{sure}
use Rattle.un_prop.specs.LookLaws.{firsts}
use Rattle.un_prop.specs.declared.act.Temp.{Temp}
use Rattle.un_rect.specs.Extents.{extent_of, sure_extent, unsure_extent, left_of, left_both, var_of, may_clash, may_order}
use Rattle.un_rect.specs.Extents.{is_settled, may_lead}
use Rattle.un_rect.specs.Extents.{AreNoted, AreExtents, AreLeft, AreSpared}
use Rattle.un_rect.specs.Extents.{IsNoted}
use Rattle.un_rect.specs.Checks.{IsUndecided}
use Rattle.un_rect.specs.declared.opened.Opened.{Opened}
use Rattle.un_rect.specs.declared.left.Left.{Left}
use Rattle.un_rect.specs.declared.extents.Extent.{Extent}
use Rattle.un_rect.specs.Spans.{greatest_start, least_start, least_end, last_reading, TempVars}
use Rattle.un_rect.specs.Apart.{overlap, clash_test, clash_cut, clash_pair}
use Rattle.un_rect.specs.Orders.{share_one, order_cut, order_pair, order_steps}
use Rattle.un_rect.proofs.Settled.{steps_idle}

same_both : (m n : ℕ) → nat_eq m n ≡ nat_eq n m
same_both m n = same_test (nat_eq m n) (nat_eq n m) (λ h. let is : m ≡ n = grind (arith, nat_tests, h) in
    grind (arith, nat_tests, is)) (λ h. let is : n ≡ m = grind (arith, nat_tests, h) in grind (arith, nat_tests, is))

none_below : (n : ℕ) → nat_lt n 0 ≡ false
none_below n = grind (arith, nat_tests)

-- the one value that is left
only_has : (xs : List ℕ) (y : ℕ) → nat_eq (length xs) 1 ≡ true → has xs y ≡ true → y ≡ least xs
only_has [] y one there = absurd (cc there)
only_has (x ∷ []) y one there = by (nat_eq y x) refl there
  where
    by : (b : Bool) → nat_eq y x ≡ b → has (x ∷ []) y ≡ true → y ≡ x
    by true e h = grind (arith, nat_tests, e)
    by false e h = absurd (let no : has (x ∷ []) y ≡ false = rw e refl in cc (no, h))
only_has (x ∷ (z ∷ rest)) y one there = absurd (grind (arith, nat_tests, one))

second : (c d : Bool) → d ≡ false → (c && d) ≡ false
second true d e = e
second false d e = refl

-- an end that is 0 where it is not sure is after no start
both_sure : (p q : Bool) (m n u v : ℕ) → (nat_lt m (cond p u 0) && nat_lt n (cond q v 0)) ≡ (p && (q && (nat_lt m u && nat_lt n v)))
both_sure true true m n u v = refl
both_sure true false m n u v = second (nat_lt m u) (nat_lt n 0) (none_below n)
both_sure false q m n u v = ap (λ (c : Bool). c && nat_lt n (cond q v 0)) (none_below m)

turned : (p q o1 o2 : Bool) (m n : ℕ) → ((p && q) && cond (o1 && o2) (nat_eq m n) (o1 || o2)) ≡ false
    → ((q && p) && cond (o2 && o1) (nat_eq n m) (o2 || o1)) ≡ false
turned true true true true m n e = same_both n m ∙ e
turned true true true false m n e = e
turned true true false true m n e = e
turned true true false false m n e = refl
turned true false o1 o2 m n e = refl
turned false true o1 o2 m n e = refl
turned false false o1 o2 m n e = refl

-- a value of the second stays
stays : (o1 o2 : Bool) (ra rb y : ℕ) (over : Bool) → (o2 ≡ true → y ≡ rb)
    → (over && cond (o1 && o2) (nat_eq ra rb) (o1 || o2)) ≡ false → not ((o1 && nat_eq ra y) && over) ≡ true
stays false o2 ra rb y over is e = refl
stays true o2 ra rb y false is e = ap not (second (nat_eq ra y) false refl)
stays true false ra rb y true is e = absurd (cc e)
stays true true ra rb y true is e = ap (λ (n : ℕ). not (nat_eq ra n && true)) (is refl) ∙ ap (λ (c : Bool). not (c && true)) e

-- the same, where one that is not sure has an end at 0
abbrev whole_of : Temp → Sets → Extent
whole_of a s = record {
  start = greatest_start a s;
  first = least_start a s;
  last = cond (nat_eq (length (set_at s a.reg.0)) 1) (last_reading a.users s) 0;
  reg = least (set_at s a.reg.0);
  end = cond (sure a.on s) (least_end a s) 0;
  sure = sure a.on s;
  one = nat_eq (length (set_at s a.reg.0)) 1;
}

module _ (a b : Temp) (s : Sets) where
  abbrev ended : Bool → Temp → Extent
  ended p c = record {
    start = greatest_start c s;
    first = least_start c s;
    last = cond (nat_eq (length (set_at s c.reg.0)) 1) (last_reading c.users s) 0;
    reg = least (set_at s c.reg.0);
    end = cond p (least_end c s) 0;
    sure = p;
    one = nat_eq (length (set_at s c.reg.0)) 1;
  }

  abbrev noted_of : Bool → Temp → Extent
  noted_of p c = cond p (sure_extent c s) unsure_extent

  none_first : (x y : Extent) → x.end ≡ 0 → may_clash x y ≡ false
  none_first x y e = ap (λ (n : ℕ). (nat_lt y.start n && nat_lt x.start y.end) && cond (x.one && y.one) (nat_eq x.reg y.reg)
      (x.one || y.one)) e
      ∙ ap (λ (c : Bool). (c && nat_lt x.start y.end) && cond (x.one && y.one) (nat_eq x.reg y.reg) (x.one || y.one)) (none_below y.start)

  none_second : (x y : Extent) → y.end ≡ 0 → may_clash x y ≡ false
  none_second x y e = ap (λ (c : Bool). c && cond (x.one && y.one) (nat_eq x.reg y.reg) (x.one || y.one))
      (second (nat_lt y.start x.end) (nat_lt x.start y.end) (ap (nat_lt x.start) e ∙ none_below x.start))

  clash_alike : (p q : Bool) → may_clash (noted_of p a) (noted_of q b) ≡ may_clash (ended p a) (ended q b)
  clash_alike true true = refl
  clash_alike true false = none_second (noted_of true a) (noted_of false b) refl ∙ sym (none_second (ended true a) (ended false b) refl)
  clash_alike false q = none_first (noted_of false a) (noted_of q b) refl ∙ sym (none_first (ended false a) (ended q b) refl)

  clash_whole : may_clash (extent_of a s) (extent_of b s) ≡ false → may_clash (whole_of a s) (whole_of b s) ≡ false
  clash_whole e = sym (clash_alike (sure a.on s) (sure b.on s)) ∙ e

  -- no value of the second goes
  keeps_each : may_clash (whole_of a s) (whole_of b s) ≡ false → (y : ℕ) → has (set_at s b.reg.0) y ≡ true → clash_test a b s y ≡ true
  keeps_each e y there =
      let over = both_sure (sure a.on s) (sure b.on s) (greatest_start b s) (greatest_start a s) (least_end a s) (least_end b s) in
      stays (nat_eq (length (set_at s a.reg.0)) 1) (nat_eq (length (set_at s b.reg.0)) 1) (least (set_at s a.reg.0))
      (least (set_at s b.reg.0)) y (sure a.on s && (sure b.on s && overlap a b s)) (λ one. only_has (set_at s b.reg.0) y one there)
      (subst (λ (c : Bool). (c && cond (nat_eq (length (set_at s a.reg.0)) 1 && nat_eq (length (set_at s b.reg.0)) 1)
      (nat_eq (least (set_at s a.reg.0)) (least (set_at s b.reg.0)))
      (nat_eq (length (set_at s a.reg.0)) 1 || nat_eq (length (set_at s b.reg.0)) 1)) ≡ false) over e)

module _ (a b : Temp) (s : Sets) (vs : List VarId) (ha : TempVars vs a) (hb : TempVars vs b) (k : HasVars vs s) (full : NoneEmpty s) where
  -- two that cannot clash do not
  pub no_clash : may_clash (extent_of a s) (extent_of b s) ≡ false → clash_pair a b s ≡ Some s
  no_clash noted =
      let e = clash_whole a b s noted in
      let back : may_clash (whole_of b s) (whole_of a s) ≡ false = turned (nat_lt (greatest_start b s) (whole_of a s).end)
      (nat_lt (greatest_start a s) (whole_of b s).end) (nat_eq (length (set_at s a.reg.0)) 1) (nat_eq (length (set_at s b.reg.0)) 1)
      (least (set_at s a.reg.0)) (least (set_at s b.reg.0)) e in
      ap (option_and_then (clash_cut b a)) (cut_all (clash_test a b s) b.reg.0 s (has_among vs b.reg s hb.of_reg k) full
      (keeps_each a b s e))
      ∙ cut_all (clash_test b a s) a.reg.0 s (has_among vs a.reg s ha.of_reg k) full (keeps_each b a s back)

-- one has one register left, and the other has lost it

module _ (a b : Temp) (s : Sets) (vs : List VarId) (ha : TempVars vs a) (hb : TempVars vs b) (k : HasVars vs s) (full : NoneEmpty s) where
  both_stay : ((y : ℕ) → has (set_at s b.reg.0) y ≡ true → clash_test a b s y ≡ true)
      → ((y : ℕ) → has (set_at s a.reg.0) y ≡ true → clash_test b a s y ≡ true) → clash_pair a b s ≡ Some s
  both_stay first then' = ap (option_and_then (clash_cut b a)) (cut_all (clash_test a b s) b.reg.0 s (has_among vs b.reg s hb.of_reg k) full
      first)
      ∙ cut_all (clash_test b a s) a.reg.0 s (has_among vs a.reg s ha.of_reg k) full then'

  pub many_pass : nat_eq (length (set_at s a.reg.0)) 1 ≡ false → nat_eq (length (set_at s b.reg.0)) 1 ≡ false → clash_pair a b s ≡ Some s
  many_pass more other = both_stay (λ y there. clash_many a b s y more) (λ y there. clash_many b a s y other)

  pub lost_pass : (r : ℕ) → r ≡ least (set_at s a.reg.0) → nat_eq (length (set_at s b.reg.0)) 1 ≡ false → has (set_at s b.reg.0) r ≡ false
      → clash_pair a b s ≡ Some s
  lost_pass r is many gone = both_stay (λ y there. clash_lost a b s r y is gone there) (λ y there. clash_many b a s y many)

  pub lost_back : (r : ℕ) → r ≡ least (set_at s b.reg.0) → nat_eq (length (set_at s a.reg.0)) 1 ≡ false → has (set_at s a.reg.0) r ≡ false
      → clash_pair a b s ≡ Some s
  lost_back r is many gone = both_stay (λ y there. clash_many a b s y many) (λ y there. clash_lost b a s r y is gone there)

  module _ (x y : Extent) (is_x : x ≡ extent_of a s) (is_y : y ≡ extent_of b s) (may : may_clash x y ≡ true) where
    sure_ones : (p q : Bool) → sure a.on s ≡ p → sure b.on s ≡ q → (x ≡ sure_extent a s) × (y ≡ sure_extent b s)
    sure_ones false q ep eq =
        let is : x ≡ unsure_extent = is_x ∙ ap (λ (c : Bool). cond c (sure_extent a s) unsure_extent) ep in
        absurd (let no = none_first a b s x y (ap (λ (e : Extent). e.end) is) in cc (sym may ∙ no))
    sure_ones true false ep eq =
        let is : y ≡ unsure_extent = is_y ∙ ap (λ (c : Bool). cond c (sure_extent b s) unsure_extent) eq in
        absurd (let no = none_second a b s x y (ap (λ (e : Extent). e.end) is) in cc (sym may ∙ no))
    sure_ones true true ep eq = (
      is_x ∙ ap (λ (c : Bool). cond c (sure_extent a s) unsure_extent) ep,
      is_y ∙ ap (λ (c : Bool). cond c (sure_extent b s) unsure_extent) eq,
    )

    pub lost_by_second : y.one ≡ false → has (set_at s b.reg.0) x.reg ≡ false → clash_pair a b s ≡ Some s
    lost_by_second many gone =
        let are = sure_ones (sure a.on s) (sure b.on s) refl refl in
        lost_pass x.reg (ap (λ (e : Extent). e.reg) are.0) (sym (ap (λ (e : Extent). e.one) are.1) ∙ many) gone

    pub lost_by_first : x.one ≡ false → has (set_at s a.reg.0) y.reg ≡ false → clash_pair a b s ≡ Some s
    lost_by_first many gone =
        let are = sure_ones (sure a.on s) (sure b.on s) refl refl in
        lost_back y.reg (ap (λ (e : Extent). e.reg) are.1) (sym (ap (λ (e : Extent). e.one) are.0) ∙ many) gone

-- neither may be cut where it comes first

swapped : (p q o1 o2 : Bool) (m n : ℕ) (c d : Bool) → (p && (q && (o1 && (o2 && (nat_eq m n && (c || d)))))) ≡ false
    → (q && (p && (o2 && (o1 && (nat_eq n m && (d || c)))))) ≡ false
swapped false false o1 o2 m n c d e = refl
swapped false true o1 o2 m n c d e = refl
swapped true false o1 o2 m n c d e = refl
swapped true true false false m n c d e = refl
swapped true true false true m n c d e = refl
swapped true true true false m n c d e = refl
swapped true true true true m n c d e = ap (λ (x : Bool). x && (d || c)) (same_both n m) ∙ (ap (λ (x : Bool). nat_eq m n && x) (or_swap d c)
    ∙ e)
  where
    or_swap : (x y : Bool) → (x || y) ≡ (y || x)
    or_swap true true = refl
    or_swap true false = refl
    or_swap false true = refl
    or_swap false false = refl

-- the first does not come first, or is settled
first_or_settled : (o1 o2 : Bool) (m n : ℕ) (late settled other : Bool)
    → (o1 && (o2 && (nat_eq m n && ((late && not settled) || other)))) ≡ false
    → (((o1 && (o2 && nat_eq n m)) && late) ≡ false) ⊎ ((settled ≡ true) × (o1 ≡ true))
first_or_settled false o2 m n late settled other e = inl refl
first_or_settled true false m n late settled other e = inl refl
first_or_settled true true m n false settled other e = inl (second (nat_eq n m) false refl)
first_or_settled true true m n true true other e = inr (refl, refl)
first_or_settled true true m n true false other e = inl (ap (λ (c : Bool). c && true) (same_both n m) ∙ by (nat_eq m n) e)
  where
    by : (c : Bool) → (c && true) ≡ false → (c && true) ≡ false
    by c h = h

module _ (a b : Temp) (s : Sets) (vs : List VarId) (ha : TempVars vs a) (hb : TempVars vs b) (k : HasVars vs s) (full : NoneEmpty s) where
  settled_steps : is_settled (sure_extent a s) (sure_extent b s) ≡ true → nat_eq (length (set_at s a.reg.0)) 1 ≡ true
      → order_steps a b s ≡ Some s
  settled_steps settled one =
      let all = firsts (nat_le (least_end a s) (least_start b s)) _ settled in
      let rest = firsts (nat_lt (greatest_start a s) (greatest_start b s)) _ all.1 in
      let late : least_end a s ≤ least_start b s = (let h = all.0 in grind (arith, nat_tests, h)) in
      let early : greatest_start a s < greatest_start b s = (let h = rest.0 in grind (arith, nat_tests, h)) in
      let read : nat_le (last_reading a.users s) (greatest_start b s) ≡ true = subst (λ (c : Bool).
      nat_le (cond c (last_reading a.users s) 0) (greatest_start b s) ≡ true) one rest.1 in
      let reads : last_reading a.users s ≤ greatest_start b s = grind (arith, nat_tests, read) in
      steps_idle vs s k full a b ha hb late early reads

  order_stays : (p q : Bool) → sure a.on s ≡ p → sure b.on s ≡ q
      → may_order (cond p (sure_extent a s) unsure_extent) (cond q (sure_extent b s) unsure_extent) ≡ false → order_cut a b s ≡ Some s
  order_stays false q ep eq e = ap (λ (c : Bool). cond (share_one a b s && (c && (sure b.on s
      && nat_lt (greatest_start a s) (least_end b s)))) (order_steps a b s) (Some s)) ep
      ∙ ap (λ (c : Bool). cond c (order_steps a b s) (Some s)) (second (share_one a b s) false refl)
  order_stays true false ep eq e = ap (λ (c : Bool). cond (share_one a b s && (sure a.on s && (c
      && nat_lt (greatest_start a s) (least_end b s)))) (order_steps a b s) (Some s)) eq
      ∙ ap (λ (c : Bool). cond c (order_steps a b s) (Some s)) (second (share_one a b s) (sure a.on s && false)
      (second (sure a.on s) false refl))
  order_stays true true ep eq e = ap (λ (c : Bool). cond (share_one a b s && (c && (sure b.on s
      && nat_lt (greatest_start a s) (least_end b s)))) (order_steps a b s) (Some s)) ep
      ∙ (ap (λ (c : Bool). cond (share_one a b s && (c && nat_lt (greatest_start a s) (least_end b s))) (order_steps a b s) (Some s)) eq
      ∙ elim (first_or_settled (nat_eq (length (set_at s a.reg.0)) 1) (nat_eq (length (set_at s b.reg.0)) 1) (least (set_at s a.reg.0))
      (least (set_at s b.reg.0)) (nat_lt (greatest_start a s) (least_end b s)) (is_settled (sure_extent a s) (sure_extent b s))
      (may_lead (sure_extent b s) (sure_extent a s)) e) [
        | inl missed ↦ ap (λ (c : Bool). cond c (order_steps a b s) (Some s)) missed
        | inr done ↦ stays_both (share_one a b s && nat_lt (greatest_start a s) (least_end b s)) (settled_steps done.0 done.1)
      ])
    where
      stays_both : (c : Bool) → order_steps a b s ≡ Some s → cond c (order_steps a b s) (Some s) ≡ Some s
      stays_both true h = h
      stays_both false h = refl

module _ (a b : Temp) (s : Sets) (vs : List VarId) (ha : TempVars vs a) (hb : TempVars vs b) (k : HasVars vs s) (full : NoneEmpty s) where
  turned_noted : (p q : Bool) → may_order (cond p (sure_extent a s) unsure_extent) (cond q (sure_extent b s) unsure_extent) ≡ false
      → may_order (cond q (sure_extent b s) unsure_extent) (cond p (sure_extent a s) unsure_extent) ≡ false
  turned_noted false false e = refl
  turned_noted false true e = refl
  turned_noted true false e = refl
  turned_noted true true e = swapped true true (nat_eq (length (set_at s a.reg.0)) 1) (nat_eq (length (set_at s b.reg.0)) 1)
      (least (set_at s a.reg.0)) (least (set_at s b.reg.0)) (may_lead (sure_extent a s) (sure_extent b s))
      (may_lead (sure_extent b s) (sure_extent a s)) e

  -- two of which neither may be cut where it comes first are not ordered
  pub no_order : may_order (extent_of a s) (extent_of b s) ≡ false → order_pair a b s ≡ Some s
  no_order noted = ap (option_and_then (order_cut b a)) (order_stays a b s vs ha hb k full (sure a.on s) (sure b.on s) refl refl noted)
      ∙ order_stays b a s vs hb ha k full (sure b.on s) (sure a.on s) refl refl (turned_noted (sure a.on s) (sure b.on s) noted)

-- steps from the start

module _ (vs : List VarId) (f : Sets → Option Sets) (old new : Contents) (did : Pruned) (h : Stepped vs f old new Same did) where
  -- that changed nothing
  pub same_sets : NoneEmpty old.sets → did ≡ Same → new.sets ≡ old.sets
  same_sets full e = by (f old.sets) ((h.goes (Some old.sets) old (starts vs old full)).ends)
    where
      by : (c : Option Sets) → Ends c old.sets new.sets did → new.sets ≡ old.sets
      by None p = absurd (cc (sym e ∙ p.0))
      by (Some left) p = p.sets ∙ subst (λ (d : Pruned). Answers d old.sets left) e p.answers

-- the place of a list, whatever stands for one past its end
pub some_temp : Temp
some_temp = record { on = Always; at = Const 0; reg = record { 0 = 0 }; users = [] }

pub at_place_is : (temps : List Temp) (j : ℕ) (a b : Temp) → j < length temps → a ≡ get_or temps j a → get_or temps j b ≡ a
at_place_is temps j a b lt is = get_or_default temps j b a lt ∙ sym is

-- of what was noted at the start
module _ (A : Type 0) (of : Temp → Sets → A) (temps : List Temp) (a b : Temp) (xs : List A) (i j : ℕ) (is_a : a ≡ get_or temps i a)
    (is_b : b ≡ get_or temps j b) (lt_a : i < length temps) (lt_b : j < length temps) (s : Sets) (are : AreNoted A of temps s xs)
    (did : Pruned) where
  noted : (may : A → A → Bool) → AreSpared may xs did i j → may (of a s) (of b s) ≡ false
  noted may spared =
      let first : get_or xs i (of a s) ≡ of a s = are i a (of a s) lt_a spared.first ∙ ap (λ (t : Temp). of t s) (sym is_a) in
      let second' : get_or xs j (of b s) ≡ of b s = are j b (of b s) lt_b spared.second ∙ ap (λ (t : Temp). of t s) (sym is_b) in
      subst (λ (x : A). may x (of b s) ≡ false) first
      (subst (λ (y : A). may (get_or xs i (of a s)) y ≡ false) second' (spared.none (of a s) (of b s)))

module _ (vs us : List VarId) (temps : List Temp) (a b : Temp) where
  of_place : (i : ℕ) → a ≡ get_or temps i a → i < length temps → All (TempVars vs) temps → TempVars vs a
  of_place i is lt all = subst (λ (t : Temp). TempVars vs t) (sym is) (all i a lt)

  other_place : (j : ℕ) → b ≡ get_or temps j b → j < length temps → All (TempVars vs) temps → TempVars vs b
  other_place j is lt all = subst (λ (t : Temp). TempVars vs t) (sym is) (all j b lt)

  pub order_spared : (xs : List Extent) (i j : ℕ) → us ≡ vs → a ≡ get_or temps i a → b ≡ get_or temps j b → i < length temps
      → j < length temps → All (TempVars vs) temps → (old mid : Contents) → HasVars vs old.sets → NoneEmpty old.sets
      → AreExtents temps old.sets xs → (f : Sets → Option Sets) (did : Pruned) → Stepped vs f old mid Same did
      → AreSpared may_order xs did i j → order_pair a b mid.sets ≡ Some mid.sets
  order_spared xs i j e is_a is_b lt_a lt_b all old mid k full are f did h spared =
      subst (λ (s : Sets). order_pair a b s ≡ Some s) (sym (same_sets vs f old mid did h full spared.same))
      (no_order a b old.sets vs (of_place i is_a lt_a all) (other_place j is_b lt_b all) k full
      (noted Extent extent_of temps a b xs i j is_a is_b lt_a lt_b old.sets are did may_order spared))

  both_of : (xs : List Left) (i j : ℕ) (s : Sets) → a ≡ get_or temps i a → b ≡ get_or temps j b → i < length temps → j < length temps
      → AreLeft temps s xs → (did : Pruned) (o : Opened) → IsNoted xs did i j o → left_both (left_of a s) (left_of b s) ≡ o
  both_of xs i j s is_a is_b lt_a lt_b are did o noted =
      let first : get_or xs i (left_of a s) ≡ left_of a s = are i a (left_of a s) lt_a noted.first
      ∙ ap (λ (t : Temp). left_of t s) (sym is_a) in
      let other : get_or xs j (left_of b s) ≡ left_of b s = are j b (left_of b s) lt_b noted.second
      ∙ ap (λ (t : Temp). left_of t s) (sym is_b) in
      subst (λ (x : Left). left_both x (left_of b s) ≡ o) first
      (subst (λ (y : Left). left_both (get_or xs i (left_of a s)) y ≡ o) other (noted.is (left_of a s) (left_of b s)))

  pub check_noted : (xs : List Left) (i j : ℕ) → us ≡ vs → a ≡ get_or temps i a → b ≡ get_or temps j b → i < length temps
      → j < length temps → All (TempVars vs) temps → (old mid : Contents) → HasVars vs old.sets → NoneEmpty old.sets
      → AreLeft temps old.sets xs → (f : Sets → Option Sets) (did : Pruned) → Stepped vs f old mid Same did → Ascend vs
      → (o : Opened) → IsNoted xs did i j o → IsUndecided us a b mid.sets (var_of a.reg o)
  check_noted xs i j e is_a is_b lt_a lt_b all old mid k full are f did h ascend o noted =
      subst (λ (ws : List VarId). IsUndecided ws a b mid.sets (var_of a.reg o)) (sym e)
      (subst (λ (s : Sets). IsUndecided vs a b s (var_of a.reg o)) (sym (same_sets vs f old mid did h full noted.same))
      (subst (λ (p : Opened). IsUndecided vs a b old.sets (var_of a.reg p))
      (both_of xs i j old.sets is_a is_b lt_a lt_b are did o noted)
      (check_both vs a b ascend (of_place i is_a lt_a all) (other_place j is_b lt_b all) old.sets k full)))
