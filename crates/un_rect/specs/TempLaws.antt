-- Laws of the variables of temporaries, and of cuts that look at some of the variables.
use Rattle.std.proofs.Common.{ℕ, zero, suc, ◌≡◌, ◌≢◌, ◌<◌, Bool, true, false, ◌||◌, cond, List, [], ◌∷◌, ◌++◌, length, get_or, filter}
use Rattle.std.proofs.Common.{nat_eq, None, Some, MatchOption, All, refl, sym, ap, ◌∙◌, subst, arith, inl, inr}
use Rattle.std.specs.declared.option.Option.{Option}
use Rattle.std.specs.Bool.{⊤}
use Rattle.std.specs.List.{AllByRecursion, Contains}
use Rattle.std.proofs.lemmas.Bool.Decides.{nat_tests}
use Rattle.std.proofs.lemmas.List.Folds.{list_any-append}
use Rattle.std.proofs.lemmas.List.Elements.{recursion_from_All, All-from_recursion, All-contains, All-append}
use Rattle.un_base.specs.declared.ids.VarId.{VarId}
use Rattle.un_domains.specs.Sets.{Sets, set_at}
use Rattle.un_prop.specs.Lawful.{Lawful, Agree, AgreeOption}
use Rattle.un_prop.specs.Steps.{find_var}
use Rattle.un_prop.specs.LastLaws.{Ascend}
use Rattle.un_prop.specs.Among.{among, AllAmong}
use Rattle.un_prop.specs.AmongLaws.{in_list}
use Rattle.un_prop.specs.Acts.{act_vars, at_vars}
use Rattle.un_prop.specs.declared.act.UserOf.{UserOf}
use Rattle.un_prop.specs.declared.act.Temp.{Temp}
use Rattle.un_rect.specs.Spans.{choice_vars, UserVars, TempVars}
use Rattle.un_rect.specs.Apart.{user_vars, users_vars, temp_vars, pair_vars}

-- Standing in a list

pub among_here : (v : VarId) (vs : List VarId) → among (v ∷ vs) v ≡ true
among_here v vs = let e : nat_eq v.0 v.0 ≡ true = grind (arith, nat_tests) in rw e refl

or_right : (b c : Bool) → c ≡ true → (b || c) ≡ true
or_right true c h = refl
or_right false c h = h

or_left : (b c : Bool) → b ≡ true → (b || c) ≡ true
or_left true c h = refl
or_left false c h = absurd (cc h)

pub among_later : (u v : VarId) (vs : List VarId) → among vs v ≡ true → among (u ∷ vs) v ≡ true
among_later u v vs h = or_right (nat_eq u.0 v.0) (among vs v) h

pub among_left : (us vs : List VarId) (v : VarId) → among us v ≡ true → among (us ++ vs) v ≡ true
among_left us vs v h = list_any-append (λ (u : VarId). nat_eq u.0 v.0) us vs ∙ or_left (among us v) (among vs v) h

pub among_right : (us vs : List VarId) (v : VarId) → among vs v ≡ true → among (us ++ vs) v ≡ true
among_right us vs v h = list_any-append (λ (u : VarId). nat_eq u.0 v.0) us vs ∙ or_right (among us v) (among vs v) h

same_among : (us : List VarId) (u v : VarId) → nat_eq u.0 v.0 ≡ true → among us v ≡ true → among us u ≡ true
same_among us u v e h = let is : v.0 ≡ u.0 = grind (arith, nat_tests, e) in
    subst (λ (w : VarId). among us w ≡ true) (ap (λ (n : ℕ). record { 0 = n }) is) h

-- what stands in both stands in what one has of the other
pub among_filter : (us vs : List VarId) (v : VarId) → among us v ≡ true → among vs v ≡ true → among (filter (among us) vs) v ≡ true
among_filter us [] v h k = absurd (cc k)
among_filter us (w ∷ ws) v h k = by (nat_eq w.0 v.0) refl (among us w) refl k (among_filter us ws v h)
  where
    by : (b : Bool) → nat_eq w.0 v.0 ≡ b → (c : Bool) → among us w ≡ c → (b || among ws v) ≡ true
        → (among ws v ≡ true → among (filter (among us) ws) v ≡ true)
        → among (cond c (w ∷ filter (among us) ws) (filter (among us) ws)) v ≡ true
    by true e true f t rest = or_left (nat_eq w.0 v.0) (among (filter (among us) ws) v) e
    by true e false f t rest = absurd (let bad : true ≡ false = sym (same_among us w v e h) ∙ f in cc bad)
    by false e true f t rest = among_later w v (filter (among us) ws) (rest t)
    by false e false f t rest = rest t

-- what a filter leaves of a list
pub filter_from : (q : VarId → Bool) (vs : List VarId) (j : ℕ) (d : VarId) → j < length (filter q vs)
    → Contains vs (get_or (filter q vs) j d)
filter_from q [] j d lt = absurd (omega (arith, lt))
filter_from q (v ∷ vs) j d lt = by (q v) (λ k. filter_from q vs k d) j lt
  where
    later : (u : VarId) → Contains vs u → Contains (v ∷ vs) u
    later u c = (suc (c.0), (let below = c.1 in omega (arith, below)), c.2)

    by : (b : Bool) → ((k : ℕ) → k < length (filter q vs) → Contains vs (get_or (filter q vs) k d)) → (j : ℕ)
        → j < length (cond b (v ∷ filter q vs) (filter q vs)) → Contains (v ∷ vs) (get_or (cond b (v ∷ filter q vs) (filter q vs)) j d)
    by false rest j lt = later (get_or (filter q vs) j d) (rest j lt)
    by true rest zero lt = (0, omega arith, refl)
    by true rest (suc j) lt = later (get_or (filter q vs) j d) (rest j (omega (arith, lt)))

-- a part of a rising list rises
pub filter_ascends : (q : VarId → Bool) (vs : List VarId) → Ascend vs → Ascend (filter q vs)
filter_ascends q [] h = λ i j d lt below. absurd (omega (arith, below))
filter_ascends q (v ∷ vs) h = by (q v) (filter_ascends q vs (λ i j d lt below. h (suc i) (suc j) d (omega (arith, lt))
    (omega (arith, below))))
  where
    first : All (λ u. v.0 < u.0) vs
    first i d lt = h 0 (suc i) d (omega arith) (omega (arith, lt))

    by : (b : Bool) → Ascend (filter q vs) → Ascend (cond b (v ∷ filter q vs) (filter q vs))
    by false rest i j d lt below = rest i j d lt below
    by true rest i zero d lt below = absurd (omega (arith, lt))
    by true rest zero (suc j) d lt below = All-contains (λ u. v.0 < u.0) vs (get_or (filter q vs) j d) first
        (filter_from q vs j d (omega (arith, below)))
    by true rest (suc i) (suc j) d lt below = rest i j d (omega (arith, lt)) (omega (arith, below))

-- The variables of a temporary

-- they stand in each list that has what two lists with them share
shared : (us vs ws xs : List VarId) → ((v : VarId) → among us v ≡ true → among vs v ≡ true → among ws v ≡ true) → AllAmong us xs
    → AllAmong vs xs → AllAmong ws xs
shared us vs ws xs f h k i d lt = f (get_or xs i d) (h i d lt) (k i d lt)

pub users_shared : (us vs ws : List VarId) → ((v : VarId) → among us v ≡ true → among vs v ≡ true → among ws v ≡ true) → (xs : List UserOf)
    → AllByRecursion (UserVars us) xs → AllByRecursion (UserVars vs) xs → AllByRecursion (UserVars ws) xs
users_shared us vs ws f [] h k = tt
users_shared us vs ws f (u ∷ xs) h k = (
  record {
    of_on = shared us vs ws (act_vars u.on) f (h.0).of_on (k.0).of_on;
    of_at = shared us vs ws (at_vars u.at) f (h.0).of_at (k.0).of_at;
    of_choice = shared us vs ws (choice_vars u.choice) f (h.0).of_choice (k.0).of_choice;
  },
  users_shared us vs ws f xs h.1 k.1,
)

pub temp_shared : (us vs ws : List VarId) (a : Temp) → ((v : VarId) → among us v ≡ true → among vs v ≡ true → among ws v ≡ true)
    → TempVars us a → TempVars vs a → TempVars ws a
temp_shared us vs ws a f h k = record {
  of_on = shared us vs ws (act_vars a.on) f h.of_on k.of_on;
  of_at = shared us vs ws (at_vars a.at) f h.of_at k.of_at;
  of_reg = f a.reg h.of_reg k.of_reg;
  of_users = All-from_recursion (UserVars ws) a.users (users_shared us vs ws f a.users (recursion_from_All (UserVars us) a.users h.of_users)
      (recursion_from_All (UserVars vs) a.users k.of_users));
}

pub own_all : (vs : List VarId) → AllAmong vs vs
own_all [] i d lt = absurd (omega (arith, lt))
own_all (v ∷ vs) zero d lt = among_here v vs
own_all (v ∷ vs) (suc i) d lt = among_later v (get_or vs i d) vs (own_all vs i d (omega (arith, lt)))

wider : (us vs xs : List VarId) → ((v : VarId) → among us v ≡ true → among vs v ≡ true) → AllAmong us xs → AllAmong vs xs
wider us vs xs f h i d lt = f (get_or xs i d) (h i d lt)

user_wider : (us vs : List VarId) (u : UserOf) → ((v : VarId) → among us v ≡ true → among vs v ≡ true) → UserVars us u → UserVars vs u
user_wider us vs u f h = record {
  of_on = wider us vs (act_vars u.on) f h.of_on;
  of_at = wider us vs (at_vars u.at) f h.of_at;
  of_choice = wider us vs (choice_vars u.choice) f h.of_choice;
}

own_user : (u : UserOf) → UserVars (user_vars u) u
own_user u = record {
  of_on = wider (act_vars u.on) (user_vars u) (act_vars u.on) (λ v. among_left (act_vars u.on) (at_vars u.at ++ choice_vars u.choice) v)
      (own_all (act_vars u.on));
  of_at = wider (at_vars u.at) (user_vars u) (at_vars u.at) (λ v h. among_right (act_vars u.on) (at_vars u.at ++ choice_vars u.choice) v
      (among_left (at_vars u.at) (choice_vars u.choice) v h)) (own_all (at_vars u.at));
  of_choice = wider (choice_vars u.choice) (user_vars u) (choice_vars u.choice) (λ v h. among_right (act_vars u.on)
      (at_vars u.at ++ choice_vars u.choice) v (among_right (at_vars u.at) (choice_vars u.choice) v h)) (own_all (choice_vars u.choice));
}

pub users_wider : (us vs : List VarId) → ((v : VarId) → among us v ≡ true → among vs v ≡ true) → (xs : List UserOf)
    → AllByRecursion (UserVars us) xs → AllByRecursion (UserVars vs) xs
users_wider us vs f [] h = tt
users_wider us vs f (u ∷ xs) h = (user_wider us vs u f h.0, users_wider us vs f xs h.1)

pub own_users : (xs : List UserOf) → AllByRecursion (UserVars (users_vars xs)) xs
own_users [] = tt
own_users (u ∷ xs) = (
  user_wider (user_vars u) (users_vars (u ∷ xs)) u (λ v. among_left (user_vars u) (users_vars xs) v) (own_user u),
  users_wider (users_vars xs) (users_vars (u ∷ xs)) (λ v. among_right (user_vars u) (users_vars xs) v) xs (own_users xs),
)

pub own_temp : (a : Temp) → TempVars (temp_vars a) a
own_temp a = record {
  of_on = wider (act_vars a.on) (temp_vars a) (act_vars a.on)
      (λ v h. among_later a.reg v rest (among_left (act_vars a.on) (at_vars a.at ++ users_vars a.users) v h)) (own_all (act_vars a.on));
  of_at = wider (at_vars a.at) (temp_vars a) (at_vars a.at)
      (λ v h. among_later a.reg v rest (among_right (act_vars a.on) (at_vars a.at ++ users_vars a.users) v
      (among_left (at_vars a.at) (users_vars a.users) v h))) (own_all (at_vars a.at));
  of_reg = among_here a.reg rest;
  of_users = All-from_recursion (UserVars (temp_vars a)) a.users (users_wider (users_vars a.users) (temp_vars a)
      (λ v h. among_later a.reg v rest (among_right (act_vars a.on) (at_vars a.at ++ users_vars a.users) v
      (among_right (at_vars a.at) (users_vars a.users) v h))) a.users (own_users a.users));
}
  where
    rest : List VarId
    rest = act_vars a.on ++ (at_vars a.at ++ users_vars a.users)

pub temp_wider : (us vs : List VarId) (a : Temp) → ((v : VarId) → among us v ≡ true → among vs v ≡ true) → TempVars us a → TempVars vs a
temp_wider us vs a f h = temp_shared us us vs a (λ v p q. f v p) h h

-- they stand in each list in which its parts do
pub users_all : (vs : List VarId) (xs : List UserOf) → AllByRecursion (UserVars vs) xs → AllAmong vs (users_vars xs)
users_all vs [] h = λ i d lt. absurd (omega (arith, lt))
users_all vs (u ∷ xs) h = All-append (λ v. among vs v ≡ true) (user_vars u) (users_vars xs)
    (All-append (λ v. among vs v ≡ true) (act_vars u.on) (at_vars u.at ++ choice_vars u.choice) (h.0).of_on
    (All-append (λ v. among vs v ≡ true) (at_vars u.at) (choice_vars u.choice) (h.0).of_at (h.0).of_choice)) (users_all vs xs h.1)

pub temp_all : (vs : List VarId) (a : Temp) → TempVars vs a → AllAmong vs (temp_vars a)
temp_all vs a h = by
    (All-append (λ v. among vs v ≡ true) (act_vars a.on) (at_vars a.at ++ users_vars a.users) h.of_on
    (All-append (λ v. among vs v ≡ true) (at_vars a.at) (users_vars a.users) h.of_at
    (users_all vs a.users (recursion_from_All (UserVars vs) a.users h.of_users))))
  where
    by : AllAmong vs (act_vars a.on ++ (at_vars a.at ++ users_vars a.users)) → AllAmong vs (temp_vars a)
    by rest zero d lt = h.of_reg
    by rest (suc i) d lt = rest i d (omega (arith, lt))

pub pair_all : (vs : List VarId) (a b : Temp) → TempVars vs a → TempVars vs b → (u : VarId) → among (temp_vars a ++ temp_vars b) u ≡ true
    → among vs u ≡ true
pair_all vs a b ha hb u h = All-contains (λ v. among vs v ≡ true) (temp_vars a ++ temp_vars b) u
    (All-append (λ v. among vs v ≡ true) (temp_vars a) (temp_vars b) (temp_all vs a ha) (temp_all vs b hb))
    (in_list (temp_vars a ++ temp_vars b) u h)

-- both stand among those of the pair
pub pair_first : (vs : List VarId) (a b : Temp) → TempVars vs a → TempVars (pair_vars vs a b) a
pair_first vs a b h = temp_shared (temp_vars a ++ temp_vars b) vs (pair_vars vs a b) a (λ v p q. among_filter (temp_vars a ++ temp_vars b)
    vs v p q)
    (temp_wider (temp_vars a) (temp_vars a ++ temp_vars b) a (λ v. among_left (temp_vars a) (temp_vars b) v) (own_temp a)) h

pub pair_second : (vs : List VarId) (a b : Temp) → TempVars vs b → TempVars (pair_vars vs a b) b
pair_second vs a b h = temp_shared (temp_vars a ++ temp_vars b) vs (pair_vars vs a b) b (λ v p q. among_filter (temp_vars a ++ temp_vars b)
    vs v p q)
    (temp_wider (temp_vars b) (temp_vars a ++ temp_vars b) b (λ v. among_right (temp_vars a) (temp_vars b) v) (own_temp b)) h

-- Cuts that look at a part of the variables

pub part_all : (P : VarId → Type 0) (q : VarId → Bool) (vs : List VarId) → All P vs → All P (filter q vs)
part_all P q vs h i d lt = All-contains P vs (get_or (filter q vs) i d) h (filter_from q vs i d lt)

pub lawful_part : (q : VarId → Bool) (vs : List VarId) (f : Sets → Option Sets) → Lawful (filter q vs) f → Lawful vs f
lawful_part q vs f h = record {
  shrinks = λ s k full. h.shrinks s (part_all (λ v. v.0 < length s) q vs k) full;
  monotone = λ t s k ft fs le. h.monotone t s (part_all (λ v. v.0 < length s) q vs k) ft fs le;
  local = λ s t k fs ft e agree. by s t agree (f s) (f t)
      (h.local s t (part_all (λ v. v.0 < length s) q vs k) fs ft e (part_all (λ v. set_at s v.0 ≡ set_at t v.0) q vs agree))
      (λ w other. h.outside s w other) (λ w other. h.outside t w other);
  outside = λ s w other. h.outside s w (part_all (λ v. w ≢ v.0) q vs other);
}
  where
    by : (s t : Sets) → Agree vs s t → (c d : Option Sets) → AgreeOption (filter q vs) c d
        → ((w : ℕ) → All (λ v. w ≢ v.0) (filter q vs) → MatchOption c ⊤ (λ u. set_at u w ≡ set_at s w))
        → ((w : ℕ) → All (λ v. w ≢ v.0) (filter q vs) → MatchOption d ⊤ (λ u. set_at u w ≡ set_at t w)) → AgreeOption vs c d
    by s t agree None None a os ot = tt
    by s t agree None (Some u) a os ot = absurd a
    by s t agree (Some m) None a os ot = absurd a
    by s t agree (Some m) (Some u) a os ot = λ i d lt. elim (find_var (filter q vs) (get_or vs i d).0) [
      | inl v ↦ subst (λ (w : ℕ). set_at m w ≡ set_at u w) (sym v.2) (All-contains (λ w. set_at m w.0 ≡ set_at u w.0) (filter q vs) v.0 a
          v.1)
      | inr none ↦ (let other = All-from_recursion _ _ none in
          os (get_or vs i d).0 other ∙ (agree i d lt ∙ sym (ot (get_or vs i d).0 other)))
    ]
