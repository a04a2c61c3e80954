-- Laws of the order of two temporaries.
use Rattle.std.proofs.Common.{ℕ, zero, suc, ◌≡◌, ◌<◌, ◌≤◌, ◌-◌, ◌⊎◌, Bool, true, false, cond, not, ◌&&◌, ◌||◌, List, [], ◌∷◌, length}
use Rattle.std.proofs.Common.{get_or, nat_eq, nat_le, nat_lt, None, Some, option_and_then, MatchOption, refl, sym, ap, ◌∙◌, subst, arith}
use Rattle.std.proofs.Common.{inl, inr}
use Rattle.std.specs.declared.option.Option.{Option}
use Rattle.std.specs.Bool.{⊤}
use Rattle.std.specs.List.{AllByRecursion}
use Rattle.std.proofs.lemmas.Bool.Decides.{nat_tests}
use Rattle.std.proofs.lemmas.List.Elements.{recursion_from_All}
use Rattle.un_base.specs.declared.ids.VarId.{VarId}
use Rattle.un_domains.specs.Sets.{Sets, set_at, least, cut_by, IsIn, NoneEmpty, Kept}
use Rattle.un_domains.specs.CutLaws.{cut_by_kept}
use Rattle.un_domains.specs.Order.{Below}
use Rattle.un_domains.specs.OrderLaws.{Below-refl, Below-trans}
use Rattle.un_prop.specs.Rounds.{HasVars}
use Rattle.un_prop.specs.Lawful.{Lawful, LawfulTest, Agree, AgreeOption, BelowOption}
use Rattle.un_prop.specs.Steps.{lawful_cut_by, lawful_some, lawful_then}
use Rattle.un_prop.specs.ChainLaws.{then_kept, known_in, each_lawful, each_keeps}
use Rattle.un_prop.specs.LastLaws.{cut_all, cut_same}
use Rattle.un_prop.specs.Among.{AllAmong}
use Rattle.un_prop.specs.AmongLaws.{in_list, has_among}
use Rattle.un_prop.specs.Acts.{at_vars, at_value, is_active, is_user, chooses}
use Rattle.un_prop.specs.Looks.{at_set, sure}
use Rattle.un_prop.specs.LookLaws.{both, firsts, not_or, or_not, not_true, not_from, set_alike, at_alike, sure_alike, sure_below}
use Rattle.un_prop.specs.LookLaws.{sure_active, known_below, least_at_below, value_in}
use Rattle.un_prop.specs.declared.act.At.{At}
use Rattle.un_prop.specs.declared.act.At.TheVariants.{Const, Var}
use Rattle.un_prop.specs.declared.act.UserOf.{UserOf}
use Rattle.un_prop.specs.declared.act.Temp.{Temp}
use Rattle.un_rect.specs.Spans.{starts, ends, use_time, last_use, greatest_start, is_only, sure_user, least_end, choice_vars, UserVars}
use Rattle.un_rect.specs.Spans.{TempVars}
use Rattle.un_rect.specs.SpansLaws.{only_is, only_below, greatest_start_below, least_end_below, greatest_start_alike, least_end_alike}
use Rattle.un_rect.specs.SpansLaws.{starts_in, ends_in, sure_user_below, sure_user_alike, sure_user_reads}
use Rattle.un_rect.specs.Pairs.{at_place}
use Rattle.un_rect.specs.PairLaws.{at_lawful}
use Rattle.un_rect.specs.Orders.{share_one, comes_first, time_cut, choice_cut, late_test, early_test, user_test, reader_test, user_cut}
use Rattle.un_rect.specs.Orders.{users_cut, order_steps, order_cut, order_pair}

-- A cut under a condition that stays

pub lawful_when : (vs : List VarId) (c : Sets → Bool) (f : Sets → Option Sets) → ((t s : Sets) → HasVars vs s → NoneEmpty t → Below t s
    → c s ≡ true → c t ≡ true)
    → ((s t : Sets) → Agree vs s t → c s ≡ c t) → Lawful vs f → Lawful vs (λ s. cond (c s) (f s) (Some s))
lawful_when vs c f grows alike h = record {
  shrinks = λ s k full. shrinks_by s (c s) full (h.shrinks s k full);
  monotone = λ t s k ft fs le. monotone_by t s (c t) (c s) le (λ e. grows t s k ft le e) refl refl (h.monotone t s k ft fs le)
      (h.shrinks t (known_below vs t s le k) ft);
  local = λ s t k fs ft e agree. subst (λ (b : Bool). AgreeOption vs (cond (c s) (f s) (Some s)) (cond b (f t) (Some t))) (alike s t agree)
      (local_by s t (c s) agree (h.local s t k fs ft e agree));
  outside = λ s w other. outside_by s w (c s) (h.outside s w other);
}
  where
    shrinks_by : (s : Sets) (b : Bool) → NoneEmpty s → MatchOption (f s) ⊤ (λ t. Below t s × NoneEmpty t)
        → MatchOption (cond b (f s) (Some s)) ⊤ (λ t. Below t s × NoneEmpty t)
    shrinks_by s true full m = m
    shrinks_by s false full m = (Below-refl s, full)

    monotone_by : (t s : Sets) (b d : Bool) → Below t s → (c s ≡ true → c t ≡ true) → c t ≡ b → c s ≡ d → BelowOption (f t) (f s)
        → MatchOption (f t) ⊤ (λ u. Below u t × NoneEmpty u) → BelowOption (cond b (f t) (Some t)) (cond d (f s) (Some s))
    monotone_by t s true true le g p q m sh = m
    monotone_by t s true false le g p q m sh = lower (f t) sh
      where
        lower : (o : Option Sets) → MatchOption o ⊤ (λ u. Below u t × NoneEmpty u) → BelowOption o (Some s)
        lower None e = tt
        lower (Some u) e = Below-trans u t s e.0 le
    monotone_by t s false true le g p q m sh = absurd (let bad : true ≡ false = sym (g q) ∙ p in cc bad)
    monotone_by t s false false le g p q m sh = le

    local_by : (s t : Sets) (b : Bool) → Agree vs s t → AgreeOption vs (f s) (f t) → AgreeOption vs (cond b (f s) (Some s))
        (cond b (f t) (Some t))
    local_by s t true agree a = a
    local_by s t false agree a = agree

    outside_by : (s : Sets) (w : ℕ) (b : Bool) → MatchOption (f s) ⊤ (λ t. set_at t w ≡ set_at s w) → MatchOption (cond b (f s) (Some s)) ⊤
        (λ t. set_at t w ≡ set_at s w)
    outside_by s w true m = m
    outside_by s w false m = refl

-- Cuts of a time and of a choice

module _ (vs : List VarId) (q : Sets → ℕ → Bool) where
  pub time_lawful : (at : At) → AllAmong vs (at_vars at) → LawfulTest vs q → Lawful vs (time_cut q at)
  time_lawful (Const n) all h = lawful_some vs
  time_lawful (Var v) all h = lawful_cut_by vs v q (in_list vs v (all 0 v (omega arith))) h

  pub time_keeps : (at : At) → AllAmong vs (at_vars at) → (s : Sets) (x : List ℕ) → HasVars vs s → IsIn x s → q s (at_value at x) ≡ true
      → Kept x (time_cut q at s)
  time_keeps (Const n) all s x k there h = there
  time_keeps (Var v) all s x k there h = cut_by_kept (q s) v.0 s x (has_among vs v s (all 0 v (omega arith)) k) there h

  pub time_same : (at : At) (s : Sets) → AllAmong vs (at_vars at) → HasVars vs s → NoneEmpty s → ((y : ℕ) → q s y ≡ true)
      → time_cut q at s ≡ Some s
  time_same (Const n) s all k full h = refl
  time_same (Var v) s all k full h = cut_all (q s) v.0 s (has_among vs v s (all 0 v (omega arith)) k) full (λ y there. h y)

  pub choice_lawful : (o : Option VarId) → AllAmong vs (choice_vars o) → LawfulTest vs q → Lawful vs (choice_cut q o)
  choice_lawful None all h = lawful_some vs
  choice_lawful (Some v) all h = lawful_cut_by vs v q (in_list vs v (all 0 v (omega arith))) h

  pub choice_keeps : (o : Option VarId) → AllAmong vs (choice_vars o) → (s : Sets) (x : List ℕ) → HasVars vs s → IsIn x s
      → ((v : VarId) → o ≡ Some v → q s (get_or x v.0 0) ≡ true) → Kept x (choice_cut q o s)
  choice_keeps None all s x k there h = there
  choice_keeps (Some v) all s x k there h = cut_by_kept (q s) v.0 s x (has_among vs v s (all 0 v (omega arith)) k) there (h v refl)

  pub choice_same : (o : Option VarId) (s : Sets) → AllAmong vs (choice_vars o) → HasVars vs s → NoneEmpty s → ((y : ℕ) → q s y ≡ true)
      → choice_cut q o s ≡ Some s
  choice_same None s all k full h = refl
  choice_same (Some v) s all k full h = cut_all (q s) v.0 s (has_among vs v s (all 0 v (omega arith)) k) full (λ y there. h y)

pub time_is : (q : Sets → ℕ → Bool) (p : ℕ → Bool) (at : At) (v : VarId) (s : Sets) → at ≡ Var v → ((y : ℕ) → q s y ≡ p y)
    → time_cut q at s ≡ cut_by p v.0 s
time_is q p at v s e h = ap (λ (a : At). time_cut q a s) e ∙ cut_same (q s) p v.0 s (λ y there. h y)

pub choice_is : (q : Sets → ℕ → Bool) (p : ℕ → Bool) (o : Option VarId) (v : VarId) (s : Sets) → o ≡ Some v → ((y : ℕ) → q s y ≡ p y)
    → choice_cut q o s ≡ cut_by p v.0 s
choice_is q p o v s e h = ap (λ (a : Option VarId). choice_cut q a s) e ∙ cut_same (q s) p v.0 s (λ y there. h y)

-- A user that reads is no later than the end

reads_before : (x : List ℕ) (n : ℕ) (us : List UserOf) → last_use us x ≤ n → AllByRecursion (λ u. is_user u x ≡ true → at_value u.at x ≤ n)
    us
reads_before x n [] le = tt
reads_before x n (u ∷ us) le = (
  λ e. (let is : use_time x u ≡ at_value u.at x = ap (λ (b : Bool). cond b (at_value u.at x) 0) e in omega (arith, is, le)),
  reads_before x n us (omega (arith, le)),
)

zipped : (P Q : UserOf → Type 0) (us : List UserOf) → AllByRecursion P us → AllByRecursion Q us → AllByRecursion (λ u. P u × Q u) us
zipped P Q [] p q = tt
zipped P Q (u ∷ us) p q = ((p.0, q.0), zipped P Q us p.1 q.1)

at_keeps : (vs : List VarId) (P : UserOf → Type 0) (f : UserOf → Sets → Option Sets) (x : List ℕ) (us : List UserOf) → AllByRecursion P us
    → ((u : UserOf) (m : Sets) → P u → HasVars vs m → IsIn x m → Kept x (f u m)) → (i : ℕ) (m : Sets) → HasVars vs m → IsIn x m
    → Kept x (at_place f us i m)
at_keeps vs P f x [] all h i m k there = there
at_keeps vs P f x (u ∷ us) all h zero m k there = h u m all.0 k there
at_keeps vs P f x (u ∷ us) all h (suc i) m k there = at_keeps vs P f x us all.1 h i m k there

and_alike : (a b c d : Bool) → a ≡ c → b ≡ d → (a && b) ≡ (c && d)
and_alike a b c d h k = ap (λ (x : Bool). x && b) h ∙ ap (λ (x : Bool). c && x) k

num_alike : (f : ℕ → ℕ → Bool) (a b c d : ℕ) → a ≡ c → b ≡ d → f a b ≡ f c d
num_alike f a b c d h k = ap (λ (n : ℕ). f n b) h ∙ ap (f c) k

only_least : (xs : List ℕ) → nat_eq (length xs) 1 ≡ true → is_only xs (least xs) ≡ true
only_least xs one = let here : nat_eq (least xs) (least xs) ≡ true = grind (arith, nat_tests) in rw (one, here) refl

-- The order

module _ (vs : List VarId) (a b : Temp) (ha : TempVars vs a) (hb : TempVars vs b) where
  share_grows : (t s : Sets) → HasVars vs s → NoneEmpty t → Below t s → share_one a b s ≡ true → share_one a b t ≡ true
  share_grows t s k full le e =
      let two = firsts (nat_eq (length (set_at s a.reg.0)) 1) (is_only (set_at s b.reg.0) (least (set_at s a.reg.0))) e in
      let kt = known_below vs t s le k in
      let only_a = only_below t s a.reg.0 (least (set_at s a.reg.0)) le (full a.reg.0 (has_among vs a.reg t ha.of_reg kt))
      (only_least (set_at s a.reg.0) two.0) in
      let only_b = only_below t s b.reg.0 (least (set_at s a.reg.0)) le (full b.reg.0 (has_among vs b.reg t hb.of_reg kt)) two.1 in
      let parts = firsts (nat_eq (length (set_at t a.reg.0)) 1) (nat_eq (least (set_at t a.reg.0)) (least (set_at s a.reg.0))) only_a in
      let same : least (set_at s a.reg.0) ≡ least (set_at t a.reg.0) = (let p = parts.1 in grind (arith, nat_tests, p)) in
      both _ _ parts.0 (subst (λ (n : ℕ). is_only (set_at t b.reg.0) n ≡ true) same only_b)

  comes_grows : (t s : Sets) → HasVars vs s → NoneEmpty t → Below t s → comes_first a b s ≡ true → comes_first a b t ≡ true
  comes_grows t s k full le e =
      let one = firsts (share_one a b s) (sure a.on s && (sure b.on s && nat_lt (greatest_start a s) (least_end b s))) e in
      let two = firsts (sure a.on s) (sure b.on s && nat_lt (greatest_start a s) (least_end b s)) one.1 in
      let three = firsts (sure b.on s) (nat_lt (greatest_start a s) (least_end b s)) two.1 in
      let p : greatest_start a s < least_end b s = (let t = three.1 in grind (arith, nat_tests, t)) in
      let up = least_end_below vs t s k full le b hb in
      let down = greatest_start_below vs t s le a in
      let p' : greatest_start a t < least_end b t = omega (arith, p, up, down) in
      let u : nat_lt (greatest_start a t) (least_end b t) ≡ true = grind (arith, nat_tests, p') in
      both _ _ (share_grows t s k full le one.0) (both _ _ (sure_below vs t s le a.on two.0) (both _ _ (sure_below vs t s le b.on three.0)
      u))

  comes_alike : (s t : Sets) → Agree vs s t → comes_first a b s ≡ comes_first a b t
  comes_alike s t agree =
      let ea = set_alike vs s t agree a.reg ha.of_reg in
      let eb = set_alike vs s t agree b.reg hb.of_reg in
      and_alike _ _ _ _ (and_alike _ _ _ _ (ap (λ (xs : List ℕ). nat_eq (length xs) 1) ea)
      (ap (λ (xs : List ℕ). is_only xs (least (set_at s a.reg.0))) eb ∙ ap (λ (xs : List ℕ). is_only (set_at t b.reg.0) (least xs)) ea))
      (and_alike _ _ _ _ (sure_alike vs s t agree a.on ha.of_on) (and_alike _ _ _ _ (sure_alike vs s t agree b.on hb.of_on)
      (num_alike nat_lt _ _ _ _ (greatest_start_alike vs s t agree a ha) (least_end_alike vs s t agree b hb))))

  late_lawful : LawfulTest vs (late_test a)
  late_lawful = record {
    monotone = λ t s y k full le e. (let p : least_end a t ≤ y = grind (arith, nat_tests, e) in
        let up = least_end_below vs t s k full le a ha in let p' : least_end a s ≤ y = omega (arith, p, up) in
        grind (arith, nat_tests, p'));
    local = λ s t y agree. ap (λ (n : ℕ). nat_le n y) (least_end_alike vs s t agree a ha);
  }

  early_lawful : LawfulTest vs (early_test b)
  early_lawful = record {
    monotone = λ t s y k full le e. (let p : y ≤ greatest_start b t - 1 = grind (arith, nat_tests, e) in
        let down = greatest_start_below vs t s le b in let p' : y ≤ greatest_start b s - 1 = omega (arith, p, down) in
        grind (arith, nat_tests, p'));
    local = λ s t y agree. ap (λ (n : ℕ). nat_le y (n - 1)) (greatest_start_alike vs s t agree b hb);
  }

  module _ (u : UserOf) (hu : UserVars vs u) where
    user_lawful : LawfulTest vs (user_test b u)
    user_lawful = record {
      monotone = λ t s y k full le e. not_or (sure_user u s) (nat_le y (greatest_start b s)) (λ is.
          let r = or_not (sure_user u t) (nat_le y (greatest_start b t)) e (sure_user_below vs t s k full le u hu is) in
          let p : y ≤ greatest_start b t = grind (arith, nat_tests, r) in
          let down = greatest_start_below vs t s le b in
          let p' : y ≤ greatest_start b s = omega (arith, p, down) in
          grind (arith, nat_tests, p'));
      local = λ s t y agree. ap (λ (c : Bool). not c || nat_le y (greatest_start b s)) (sure_user_alike vs s t agree u hu)
          ∙ ap (λ (n : ℕ). not (sure_user u t) || nat_le y n) (greatest_start_alike vs s t agree b hb);
    }

    reader_lawful : LawfulTest vs (reader_test b u)
    reader_lawful = record {
      monotone = λ t s y k full le e. not_from (sure u.on s && (nat_lt (greatest_start b s) (least (at_set u.at s)) && nat_eq y u.value))
          (λ is. not_true _ e (grows t s y k full le is));
      local = λ s t y agree. ap not (and_alike _ _ _ _ (sure_alike vs s t agree u.on hu.of_on)
          (ap (λ (c : Bool). c && nat_eq y u.value) (num_alike nat_lt _ _ _ _ (greatest_start_alike vs s t agree b hb)
          (ap least (at_alike vs s t agree u.at hu.of_at)))));
    }
      where
        grows : (t s : Sets) (y : ℕ) → HasVars vs s → NoneEmpty t → Below t s
            → (sure u.on s && (nat_lt (greatest_start b s) (least (at_set u.at s)) && nat_eq y u.value)) ≡ true
            → (sure u.on t && (nat_lt (greatest_start b t) (least (at_set u.at t)) && nat_eq y u.value)) ≡ true
        grows t s y k full le is =
            let one = firsts (sure u.on s) (nat_lt (greatest_start b s) (least (at_set u.at s)) && nat_eq y u.value) is in
            let two = firsts (nat_lt (greatest_start b s) (least (at_set u.at s))) (nat_eq y u.value) one.1 in
            let p : greatest_start b s < least (at_set u.at s) = (let t = two.0 in grind (arith, nat_tests, t)) in
            let down = greatest_start_below vs t s le b in
            let up = least_at_below vs t s full le u.at hu.of_at k in
            let p' : greatest_start b t < least (at_set u.at t) = omega (arith, p, down, up) in
            let v : nat_lt (greatest_start b t) (least (at_set u.at t)) ≡ true = grind (arith, nat_tests, p') in
            both _ _ (sure_below vs t s le u.on one.0) (both _ _ v two.1)

    user_cut_lawful : Lawful vs (user_cut b u)
    user_cut_lawful = lawful_then vs (time_cut (user_test b u) u.at) (choice_cut (reader_test b u) u.choice)
        (time_lawful vs (user_test b u) u.at hu.of_at user_lawful) (choice_lawful vs (reader_test b u) u.choice hu.of_choice reader_lawful)

  users_lawful : (n : ℕ) → Lawful vs (users_cut b a.users n)
  users_lawful n = each_lawful vs (at_place (user_cut b) a.users)
      (at_lawful vs (UserVars vs) (user_cut b) (λ u hu. user_cut_lawful u hu) a.users (recursion_from_All (UserVars vs) a.users
      ha.of_users)) n

  pub order_lawful : Lawful vs (order_cut a b)
  order_lawful = lawful_when vs (comes_first a b) (order_steps a b) comes_grows comes_alike
      (lawful_then vs (λ s. option_and_then (time_cut (early_test b) a.at) (time_cut (late_test a) b.at s))
      (users_cut b a.users (length a.users))
      (lawful_then vs (time_cut (late_test a) b.at) (time_cut (early_test b) a.at) (time_lawful vs (late_test a) b.at hb.of_at late_lawful)
      (time_lawful vs (early_test b) a.at ha.of_at early_lawful))
      (users_lawful (length a.users)))

  -- an assignment in which the first ends before the second starts
  module _ (x : List ℕ) (before : ends a x ≤ starts b x) where
    user_keeps : (u : UserOf) (m : Sets) → UserVars vs u × (is_user u x ≡ true → at_value u.at x ≤ ends a x) → HasVars vs m → IsIn x m
        → Kept x (user_cut b u m)
    user_keeps u m p k there =
        let hu = p.0 in
        let reads = p.1 in
        then_kept (choice_cut (reader_test b u) u.choice) x (time_cut (user_test b u) u.at m)
        (time_keeps vs (user_test b u) u.at hu.of_at m x k there (not_or (sure_user u m) (nat_le (at_value u.at x) (greatest_start b m))
        (λ e.
        let early = reads (sure_user_reads vs m x there k u hu e) in
        let high = (starts_in vs m x there k b hb).1 in
        let le : at_value u.at x ≤ greatest_start b m = omega (arith, early, before, high) in
        grind (arith, nat_tests, le))))
        (λ n in_n. (let kn = known_in vs m n x there in_n k in choice_keeps vs (reader_test b u) u.choice hu.of_choice n x kn in_n
        (λ v is. not_from _ (λ e. late n kn in_n hu reads v is e))))
      where
        late : (n : Sets) → HasVars vs n → IsIn x n → UserVars vs u → (is_user u x ≡ true → at_value u.at x ≤ ends a x) → (v : VarId)
            → u.choice ≡ Some v
            → (sure u.on n && (nat_lt (greatest_start b n) (least (at_set u.at n)) && nat_eq (get_or x v.0 0) u.value)) ≡ true → ⊥
        late n kn in_n hu reads v is e =
            let one = firsts (sure u.on n) (nat_lt (greatest_start b n) (least (at_set u.at n)) && nat_eq (get_or x v.0 0) u.value) e in
            let two = firsts (nat_lt (greatest_start b n) (least (at_set u.at n))) (nat_eq (get_or x v.0 0) u.value) one.1 in
            let less : greatest_start b n < least (at_set u.at n) = (let t = two.0 in grind (arith, nat_tests, t)) in
            let picks : chooses u.choice u.value x ≡ true = ap (λ (o : Option VarId). chooses o u.value x) is ∙ two.1 in
            let early = reads (both _ _ (sure_active vs n x in_n kn u.on hu.of_on one.0) picks) in
            let low = (value_in vs n x in_n kn u.at hu.of_at).0 in
            let high = (starts_in vs n x in_n kn b hb).1 in
            omega (arith, less, early, low, high, before)

    steps_keep : (s : Sets) → HasVars vs s → IsIn x s → Kept x (order_steps a b s)
    steps_keep s k there = then_kept (users_cut b a.users (length a.users)) x (option_and_then (time_cut (early_test b) a.at)
        (time_cut (late_test a) b.at s))
        (then_kept (time_cut (early_test b) a.at) x (time_cut (late_test a) b.at s)
        (time_keeps vs (late_test a) b.at hb.of_at s x k there (let low = ends_in vs s x there k a ha in
        let le : least_end a s ≤ starts b x = omega (arith, low, before) in grind (arith, nat_tests, le)))
        (λ m in_m. (let km = known_in vs s m x there in_m k in time_keeps vs (early_test b) a.at ha.of_at m x km in_m
        (let high = (starts_in vs m x in_m km b hb).1 in let le : starts a x ≤ greatest_start b m - 1 = omega (arith, high, before) in
        grind (arith, nat_tests, le)))))
        (λ m in_m. each_keeps vs (at_place (user_cut b) a.users) x
        (at_keeps vs (λ u. UserVars vs u × (is_user u x ≡ true → at_value u.at x ≤ ends a x)) (user_cut b) x a.users
        (zipped (UserVars vs) (λ u. is_user u x ≡ true → at_value u.at x ≤ ends a x) a.users (recursion_from_All (UserVars vs) a.users
        ha.of_users) (reads_before x (ends a x) a.users (omega arith))) user_keeps)
        (length a.users) m (known_in vs s m x there in_m k) in_m)

  pub order_keeps : (s : Sets) (x : List ℕ) → HasVars vs s → IsIn x s
      → (is_active a.on x ≡ true → is_active b.on x ≡ true → get_or x a.reg.0 0 ≡ get_or x b.reg.0 0 → (ends a x ≤ starts b x)
      ⊎ (ends b x ≤ starts a x))
      → Kept x (order_cut a b s)
  order_keeps s x k there h = by (comes_first a b s) refl
    where
      first : comes_first a b s ≡ true → ends a x ≤ starts b x
      first e =
          let one = firsts (share_one a b s) (sure a.on s && (sure b.on s && nat_lt (greatest_start a s) (least_end b s))) e in
          let regs = firsts (nat_eq (length (set_at s a.reg.0)) 1) (is_only (set_at s b.reg.0) (least (set_at s a.reg.0))) one.0 in
          let two = firsts (sure a.on s) (sure b.on s && nat_lt (greatest_start a s) (least_end b s)) one.1 in
          let three = firsts (sure b.on s) (nat_lt (greatest_start a s) (least_end b s)) two.1 in
          let less : greatest_start a s < least_end b s = (let t = three.1 in grind (arith, nat_tests, t)) in
          let ra = only_is (set_at s a.reg.0) (least (set_at s a.reg.0)) (get_or x a.reg.0 0) (only_least (set_at s a.reg.0) regs.0)
          (there.each a.reg.0 (has_among vs a.reg s ha.of_reg k)) in
          let rb = only_is (set_at s b.reg.0) (least (set_at s a.reg.0)) (get_or x b.reg.0 0) regs.1
          (there.each b.reg.0 (has_among vs b.reg s hb.of_reg k)) in
          let high = (starts_in vs s x there k a ha).1 in
          let low = ends_in vs s x there k b hb in
          elim (h (sure_active vs s x there k a.on ha.of_on two.0) (sure_active vs s x there k b.on hb.of_on three.0) (ra ∙ sym rb))
          [ inl le ↦ le | inr le ↦ absurd (omega (arith, le, less, high, low)) ]

      by : (c : Bool) → comes_first a b s ≡ c → Kept x (cond c (order_steps a b s) (Some s))
      by true e = steps_keep x (first e) s k there
      by false e = there

pub order_pair_lawful : (vs : List VarId) (a b : Temp) → TempVars vs a → TempVars vs b → Lawful vs (order_pair a b)
order_pair_lawful vs a b ha hb = lawful_then vs (order_cut a b) (order_cut b a) (order_lawful vs a b ha hb) (order_lawful vs b a hb ha)
