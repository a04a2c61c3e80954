-- The laws of Clobber.
use Rattle.std.proofs.Common.{ℕ, zero, suc, ◌≡◌, ◌<◌, ◌≤◌, ◌⊎◌, Bool, true, false, not, ◌&&◌, ◌||◌, List, [], ◌∷◌, ◌++◌, length, get_or}
use Rattle.std.proofs.Common.{nat_eq, nat_le, nat_lt, None, Some, option_and_then, All, refl, sym, ap, ◌∙◌, subst, arith, inl, inr}
use Rattle.std.specs.declared.option.Option.{Option}
use Rattle.std.specs.List.{AllByRecursion, Contains, list_any, list_all}
use Rattle.std.proofs.lemmas.Bool.Decides.{nat_tests}
use Rattle.std.proofs.lemmas.List.Elements.{recursion_from_All, All-from_recursion}
use Rattle.un_base.specs.declared.ids.VarId.{VarId}
use Rattle.un_domains.specs.Sets.{Sets, set_at, has, least, greatest, IsIn, NoneEmpty, Kept}
use Rattle.un_domains.specs.SetLaws.{least-le, has-fold_max}
use Rattle.un_domains.specs.CutLaws.{cut_by_kept}
use Rattle.un_domains.specs.OrderLaws.{has_below, least_below, greatest_below}
use Rattle.un_isa.specs.Tables.{in_mask}
use Rattle.un_prop.specs.Rounds.{HasVars}
use Rattle.un_prop.specs.Parts.{Part, all_meet, SameAt, ChecksForward}
use Rattle.un_prop.specs.Lawful.{Lawful, LawfulTest}
use Rattle.un_prop.specs.Steps.{lawful_cut_by, lawful_some, lawful_then}
use Rattle.un_prop.specs.ChainLaws.{then_kept, known_in, stable_then, each_stable}
use Rattle.un_prop.specs.LastLaws.{Ascend, last_lawful, last_keeps, last_forward, passes_all}
use Rattle.un_prop.specs.Among.{among, AllAmong}
use Rattle.un_prop.specs.AmongLaws.{in_list, has_among, same_var, same_active}
use Rattle.un_prop.specs.Acts.{act_vars, act_number, is_active, chooses, is_user}
use Rattle.un_prop.specs.Looks.{sure}
use Rattle.un_prop.specs.LookLaws.{both, firsts, or_not, not_true, not_from, set_alike, sure_alike, sure_below, sure_active, known_below}
use Rattle.un_prop.specs.PlaceLaws.{act_lawful, act_keeps}
use Rattle.un_prop.specs.SomewhereLaws.{any_more, any_has}
use Rattle.un_prop.specs.declared.act.Act.{Act}
use Rattle.un_prop.specs.declared.act.Temp.{Temp}
use Rattle.un_prop.specs.declared.act.UserOf.{UserOf}
use Rattle.un_rect.specs.Apart.{temp_vars, users_vars}
use Rattle.un_rect.specs.Entries.{entry_cut, each_entry}
use Rattle.un_rect.specs.EntryLaws.{entry_within, entry_lawful, entries_lawful_each, entries_keep}
use Rattle.un_rect.specs.Inherited.{Inherited, refused, not_inherited, always_inherited, both_inherited, either_inherited}
use Rattle.un_rect.specs.PairLaws.{Checks, checks_second, checks_each}
use Rattle.un_rect.specs.Spans.{starts, ends, greatest_start, least_end, sure_user, SurelyOccupies, choice_vars, UserVars, TempVars}
use Rattle.un_rect.specs.SpansLaws.{starts_alike, ends_alike, user_alike, greatest_start_below, least_end_below, sure_user_below}
use Rattle.un_rect.specs.SpansLaws.{greatest_start_alike, least_end_alike, sure_user_alike, sure_user_reads, starts_in, ends_in}
use Rattle.un_rect.specs.TempLaws.{among_left, among_right, among_here, among_later, among_filter, own_temp, own_users, users_wider}
use Rattle.un_rect.specs.TempLaws.{users_shared, temp_wider, temp_shared, filter_ascends, part_all, lawful_part}
use Rattle.un_rect.specs.Clobber.{avoids, spares, clobber_holds, CallVars, call_vars, call_part, clobber_parts, may_survive, covers}
use Rattle.un_rect.specs.Clobber.{is_read_behind, lasts, hit_test, hit_cut, off_test, off_cut, cycle_test, cycle_cut, reader_test}
use Rattle.un_rect.specs.Clobber.{choice_cut, reader_cut, call_steps, check_call, clobber_cut, ClobberStrong}
use Rattle.un_rect.specs.declared.clobber.ClobberCall.{ClobberCall}

-- Tests of lists

any_entry : {A : Type 0} (P : A → Type 0) (p q : A → Bool) → ((a : A) → P a → p a ≡ true → q a ≡ true) → (xs : List A)
    → AllByRecursion P xs → list_any p xs ≡ true → list_any q xs ≡ true
any_entry P p q h [] all e = absurd (cc e)
any_entry P p q h (a ∷ xs) all e = by (p a) (q a) (h a all.0) e (any_entry P p q h xs all.1)
  where
    by : (b c : Bool) → (b ≡ true → c ≡ true) → (b || list_any p xs) ≡ true → (list_any p xs ≡ true → list_any q xs ≡ true)
        → (c || list_any q xs) ≡ true
    by b true f e rest = refl
    by true false f e rest = absurd (cc (f refl))
    by false false f e rest = rest e

any_alike : {A : Type 0} (P : A → Type 0) (p q : A → Bool) → ((a : A) → P a → p a ≡ q a) → (xs : List A) → AllByRecursion P xs
    → list_any p xs ≡ list_any q xs
any_alike P p q h [] all = refl
any_alike P p q h (a ∷ xs) all = ap (λ (b : Bool). b || list_any p xs) (h a all.0)
    ∙ ap (λ (b : Bool). q a || b) (any_alike P p q h xs all.1)

all_alike : {A : Type 0} (P : A → Type 0) (p q : A → Bool) → ((a : A) → P a → p a ≡ q a) → (xs : List A) → AllByRecursion P xs
    → list_all p xs ≡ list_all q xs
all_alike P p q h [] all = refl
all_alike P p q h (a ∷ xs) all = ap (λ (b : Bool). b && list_all p xs) (h a all.0)
    ∙ ap (λ (b : Bool). q a && b) (all_alike P p q h xs all.1)

-- each entry that passes is one that does
any_own : {A : Type 0} (p : A → Bool) (xs : List A) → AllByRecursion (λ a. p a ≡ true → list_any p xs ≡ true) xs
any_own {A = A} p xs = from xs (λ e. e)
  where
    from : (ys : List A) → (list_any p ys ≡ true → list_any p xs ≡ true) → AllByRecursion (λ a. p a ≡ true → list_any p xs ≡ true) ys
    from [] h = tt
    from (a ∷ ys) h = (λ e. h (ap (λ (b : Bool). b || list_any p ys) e), from ys (λ e. h (or_right (p a) (list_any p ys) e)))
      where
        or_right : (b c : Bool) → c ≡ true → (b || c) ≡ true
        or_right true c k = refl
        or_right false c k = k

all_both : {A : Type 0} (P Q : A → Type 0) (xs : List A) → AllByRecursion P xs → AllByRecursion Q xs → AllByRecursion (λ a. P a × Q a) xs
all_both P Q [] h k = tt
all_both P Q (a ∷ xs) h k = ((h.0, k.0), all_both P Q xs h.1 k.1)

all_pass : {A : Type 0} (p : A → Bool) (xs : List A) → list_all p xs ≡ true → AllByRecursion (λ a. p a ≡ true) xs
all_pass p [] e = tt
all_pass p (a ∷ xs) e = let two = firsts (p a) (list_all p xs) e in (two.0, all_pass p xs two.1)

-- What a call that spares means

pub spared : (mask : ℕ) (a : Temp) (c : ClobberCall) (x : List ℕ) → spares mask a c x ≡ true → is_active a.on x ≡ true
    → in_mask mask (get_or x a.reg.0 0) ≡ true
    → ((get_or x c.at.0 0 < starts a x) ⊎ (ends a x ≤ get_or x c.at.0 0)) × (c.before ≡ true
    → list_any (λ (u : UserOf). is_user u x) c.behind ≡ true → ⊥)
spared mask a c x h on at =
    let two = firsts (nat_lt (get_or x c.at.0 0) (starts a x) || nat_le (ends a x) (get_or x c.at.0 0))
    (not (c.before && list_any (λ (u : UserOf). is_user u x) c.behind))
    (or_not (is_active a.on x && in_mask mask (get_or x a.reg.0 0)) (avoids a c x) h (both _ _ on at)) in (
      by (nat_lt (get_or x c.at.0 0) (starts a x)) refl two.0,
      λ b r. not_true
          (c.before && list_any (λ (u : UserOf). is_user u x) c.behind) two.1 (both _ _ b r),
    )
  where
    by : (b : Bool) → nat_lt (get_or x c.at.0 0) (starts a x) ≡ b → (b || nat_le (ends a x) (get_or x c.at.0 0)) ≡ true
        → (get_or x c.at.0 0 < starts a x) ⊎ (ends a x ≤ get_or x c.at.0 0)
    by true t rest = inl (grind (arith, nat_tests, t))
    by false t rest = inr (grind (arith, nat_tests, rest))

-- Assignments alike

call_looks : (vs : List VarId) (x y : List ℕ) → SameAt vs x y → (mask : ℕ) (a : Temp) → TempVars vs a → (c : ClobberCall) → CallVars vs c
    → spares mask a c x ≡ spares mask a c y
call_looks vs x y same mask a ha c hc =
    let on = same_active vs x y same a.on ha.of_on in
    let reg = same_var vs x y same a.reg ha.of_reg in
    let at = same_var vs x y same c.at hc.of_at in
    let start = starts_alike vs x y same a ha in
    let end = ends_alike vs x y same a ha in
    let read = any_alike (UserVars vs) (λ (u : UserOf). is_user u x) (λ (u : UserOf). is_user u y) (λ u h. user_alike vs x y same u h)
    c.behind (recursion_from_All _ _ hc.of_behind) in
    ap (λ (b : Bool). not (b && in_mask mask (get_or x a.reg.0 0)) || avoids a c x) on
    ∙ (ap (λ (n : ℕ). not (is_active a.on y && in_mask mask n) || avoids a c x) reg
    ∙ (ap (λ (n : ℕ). not (is_active a.on y && in_mask mask (get_or y a.reg.0 0)) ||
    ((nat_lt n (starts a x) || nat_le (ends a x) n) && not (c.before && list_any (λ (u : UserOf). is_user u x) c.behind))) at
    ∙ (ap (λ (n : ℕ). not (is_active a.on y && in_mask mask (get_or y a.reg.0 0)) ||
    ((nat_lt (get_or y c.at.0 0) n || nat_le (ends a x) (get_or y c.at.0 0)) && not
    (c.before && list_any (λ (u : UserOf). is_user u x) c.behind))) start
    ∙ (ap (λ (n : ℕ). not (is_active a.on y && in_mask mask (get_or y a.reg.0 0)) ||
    ((nat_lt (get_or y c.at.0 0) (starts a y) || nat_le n (get_or y c.at.0 0)) && not
    (c.before && list_any (λ (u : UserOf). is_user u x) c.behind))) end
    ∙ ap (λ (b : Bool). not (is_active a.on y && in_mask mask (get_or y a.reg.0 0)) ||
    ((nat_lt (get_or y c.at.0 0) (starts a y) || nat_le (ends a y) (get_or y c.at.0 0)) && not (c.before && b))) read))))

pub clobber_looks : (vs : List VarId) (mask : ℕ) (a : Temp) (calls : List ClobberCall) → TempVars vs a → All (CallVars vs) calls
    → (x y : List ℕ) → SameAt vs x y
    → clobber_holds mask a calls x ≡ clobber_holds mask a calls y
clobber_looks vs mask a calls ha hc x y same = all_alike (CallVars vs) (λ c. spares mask a c x) (λ c. spares mask a c y)
    (λ c h. call_looks vs x y same mask a ha c h) calls (recursion_from_All _ _ hc)

pub spares_looks : (vs : List VarId) (mask : ℕ) (a : Temp) (c : ClobberCall) → TempVars vs a → CallVars vs c → (x y : List ℕ)
    → SameAt vs x y → spares mask a c x ≡ spares mask a c y
spares_looks vs mask a c ha hc x y same = call_looks vs x y same mask a ha c hc

-- Its parts

pub clobber_whole : (vs : List VarId) (mask : ℕ) (a : Temp) (calls : List ClobberCall) (x : List ℕ)
    → clobber_holds mask a calls x ≡ all_meet (clobber_parts vs mask a calls) x
clobber_whole vs mask a [] x = refl
clobber_whole vs mask a (c ∷ calls) x = ap (λ (b : Bool). spares mask a c x && b) (clobber_whole vs mask a calls x)

-- a part is that of a call
part_call : (vs : List VarId) (mask : ℕ) (a : Temp) (calls : List ClobberCall) (part : Part) → Contains (clobber_parts vs mask a calls) part
    → (i : ℕ) × (i < length calls) × ((d : ClobberCall) → call_part vs mask a (get_or calls i d) ≡ part)
part_call vs mask a [] part c = absurd (let lt = c.1 in omega (arith, lt))
part_call vs mask a (c ∷ calls) part (zero, lt, e) = (0, omega arith, λ d. e)
part_call vs mask a (c ∷ calls) part (suc i, lt, e) =
    let r = part_call vs mask a calls part (i, omega (arith, lt), e) in
    (suc (r.0), (let below = r.1 in omega (arith, below)), r.2)

-- What a store says

module _ (vs : List VarId) (mask : ℕ) (a : Temp) (ha : TempVars vs a) where
  survive_lawful : LawfulTest vs (λ s y. may_survive mask a s)
  survive_lawful = record {
    monotone = λ t s y k full le e. any_more (λ r. not (in_mask mask r)) (λ r. not (in_mask mask r)) (set_at t a.reg.0)
        (set_at s a.reg.0) (λ r there is. (has_below t s a.reg.0 r le there, is)) e;
    local = λ s t y agree. ap (list_any (λ r. not (in_mask mask r))) (set_alike vs s t agree a.reg ha.of_reg);
  }

  doomed : Inherited vs (λ s y. not (may_survive mask a s))
  doomed = not_inherited vs (λ s y. may_survive mask a s) survive_lawful

  sure_inherited : (on : Act) → AllAmong vs (act_vars on) → Inherited vs (λ s y. sure on s)
  sure_inherited on of_on = record {
    stays = λ t s y k full le e. sure_below vs t s le on e;
    local = λ s t y agree. sure_alike vs s t
        agree on of_on;
  }

  -- a register that is not left outside the mask is in it
  mask_in : (s : Sets) (x : List ℕ) → HasVars vs s → IsIn x s → not (may_survive mask a s) ≡ true → in_mask mask (get_or x a.reg.0 0) ≡ true
  mask_in s x k there e = by (in_mask mask (get_or x a.reg.0 0)) refl
    where
      by : (b : Bool) → in_mask mask (get_or x a.reg.0 0) ≡ b → b ≡ true
      by true h = refl
      by false h = absurd (not_true (may_survive mask a s) e
          (any_has (λ r. not (in_mask mask r)) (set_at s a.reg.0) (get_or x a.reg.0 0)
          (there.each a.reg.0 (has_among vs a.reg s ha.of_reg k)) (ap not h)))

  time_inherited : Inherited vs (λ s y. nat_le (greatest_start a s) y && nat_lt y (least_end a s))
  time_inherited = both_inherited vs (λ s y. nat_le (greatest_start a s) y) (λ s y. nat_lt y (least_end a s))
      (record {
        stays = λ t s y k full le e. (let less = greatest_start_below vs t s le a in let p : greatest_start a s ≤ y = grind
            (arith, nat_tests, e) in let q : greatest_start a t ≤ y = omega (arith, less, p) in grind (arith, nat_tests, q));
        local = λ s t y agree. ap (λ (n : ℕ). nat_le n y) (greatest_start_alike vs s t agree a ha);
      })
      (record {
        stays = λ t s y k full le e. (let more = least_end_below vs t s k full le a ha in let p : y < least_end a s = grind
            (arith, nat_tests, e) in let q : y < least_end a t = omega (arith, more, p) in grind (arith, nat_tests, q));
        local = λ s t y agree. ap (λ (n : ℕ). nat_lt y n) (least_end_alike vs s t agree a ha);
      })

  module _ (c : ClobberCall) (hc : CallVars vs c) where
    behind : AllByRecursion (UserVars vs) c.behind
    behind = recursion_from_All _ _ hc.of_behind

    covers_inherited : Inherited vs (λ s y. covers a c s)
    covers_inherited = both_inherited vs (λ s y. nat_le (greatest_start a s) (least (set_at s c.at.0)))
        (λ s y. nat_lt (greatest (set_at s c.at.0)) (least_end a s))
        (record {
          stays = λ t s y k full le e. (
              let less = greatest_start_below vs t s le a in
              let more = least_below t s c.at.0 le (full c.at.0 (has_among vs c.at t hc.of_at (known_below vs t s le k))) in
              let p : greatest_start a s ≤ least (set_at s c.at.0) = grind (arith, nat_tests, e) in
              let q : greatest_start a t ≤ least (set_at t c.at.0) = omega (arith, less, more, p) in grind (arith, nat_tests, q));
          local = λ s t y agree. ap (λ (n : ℕ). nat_le n (least (set_at s c.at.0))) (greatest_start_alike vs s t agree a ha)
              ∙ ap (λ (xs : List ℕ). nat_le (greatest_start a t) (least xs)) (set_alike vs s t agree c.at hc.of_at);
        })
        (record {
          stays = λ t s y k full le e. (
              let more = least_end_below vs t s k full le a ha in
              let less = greatest_below t s c.at.0 le in
              let p : greatest (set_at s c.at.0) < least_end a s = grind (arith, nat_tests, e) in
              let q : greatest (set_at t c.at.0) < least_end a t = omega (arith, less, more, p) in grind (arith, nat_tests, q));
          local = λ s t y agree. ap (λ (n : ℕ). nat_lt (greatest (set_at s c.at.0)) n) (least_end_alike vs s t agree a ha)
              ∙ ap (λ (xs : List ℕ). nat_lt (greatest xs) (least_end a t)) (set_alike vs s t agree c.at hc.of_at);
        })

    read_inherited : Inherited vs (λ s y. is_read_behind c s)
    read_inherited = both_inherited vs (λ s y. c.before) (λ s y. list_any (λ u. sure_user u s) c.behind)
        (always_inherited vs (λ y. c.before))
        (record {
          stays = λ t s y k full le e. any_entry (UserVars vs) (λ u. sure_user u s) (λ u. sure_user u t)
              (λ u h. sure_user_below vs t s k full le u h) c.behind behind e;
          local = λ s t y agree. any_alike (UserVars vs) (λ u. sure_user u s) (λ u. sure_user u t)
              (λ u h. sure_user_alike vs s t agree u h) c.behind behind;
        })

    lasts_inherited : Inherited vs (λ s y. lasts a c s)
    lasts_inherited = either_inherited vs (λ s y. covers a c s) (λ s y. is_read_behind c s) covers_inherited read_inherited

    hit_lawful : Lawful vs (hit_cut mask a c)
    hit_lawful = lawful_cut_by vs a.reg (hit_test mask a c) (in_list vs a.reg ha.of_reg)
        (refused vs (λ s y. in_mask mask y && (sure a.on s && lasts a c s))
        (both_inherited vs (λ s y. in_mask mask y) (λ s y. sure a.on s && lasts a c s) (always_inherited vs (in_mask mask))
        (both_inherited vs (λ s y. sure a.on s) (λ s y. lasts a c s) (sure_inherited a.on ha.of_on) lasts_inherited)))

    off_lawful : Lawful vs (off_cut mask a c)
    off_lawful = act_lawful vs (off_test mask a c) a.on ha.of_on
        (refused vs (λ s y. not (nat_eq y 0) && (not (may_survive mask a s) && lasts a c s))
        (both_inherited vs (λ s y. not (nat_eq y 0)) (λ s y. not (may_survive mask a s) && lasts a c s)
        (always_inherited vs (λ y. not (nat_eq y 0)))
        (both_inherited vs (λ s y. not (may_survive mask a s)) (λ s y. lasts a c s) doomed lasts_inherited)))

    cycle_lawful : Lawful vs (cycle_cut mask a c)
    cycle_lawful = lawful_cut_by vs c.at (cycle_test mask a) (in_list vs c.at hc.of_at)
        (refused vs (λ s y. (nat_le (greatest_start a s) y && nat_lt y (least_end a s)) && (sure a.on s && not (may_survive mask a s)))
        (both_inherited vs (λ s y. nat_le (greatest_start a s) y && nat_lt y (least_end a s))
        (λ s y. sure a.on s && not (may_survive mask a s)) time_inherited
        (both_inherited vs (λ s y. sure a.on s) (λ s y. not (may_survive mask a s)) (sure_inherited a.on ha.of_on) doomed)))

    reader_lawful : (u : UserOf) → UserVars vs u → Lawful vs (reader_cut mask a c u)
    reader_lawful u hu = by u.choice hu.of_choice
      where
        test : LawfulTest vs (reader_test mask a c u)
        test = refused vs (λ s y. nat_eq y u.value && (c.before && ((sure a.on s && sure u.on s) && not (may_survive mask a s))))
            (both_inherited vs (λ s y. nat_eq y u.value) (λ s y. c.before &&
            ((sure a.on s && sure u.on s) && not (may_survive mask a s))) (always_inherited vs (λ y. nat_eq y u.value))
            (both_inherited vs (λ s y. c.before) (λ s y. (sure a.on s && sure u.on s) && not (may_survive mask a s))
            (always_inherited vs (λ y. c.before))
            (both_inherited vs (λ s y. sure a.on s && sure u.on s) (λ s y. not (may_survive mask a s))
            (both_inherited vs (λ s y. sure a.on s) (λ s y. sure u.on s) (sure_inherited a.on ha.of_on) (sure_inherited u.on hu.of_on))
            doomed)))

        by : (o : Option VarId) → AllAmong vs (choice_vars o) → Lawful vs (choice_cut (reader_test mask a c u) o)
        by None all = lawful_some vs
        by (Some v) all = lawful_cut_by vs v (reader_test mask a c u) (in_list vs v (all 0 v (omega arith))) test

    first_two : Lawful vs (λ s. option_and_then (off_cut mask a c) (hit_cut mask a c s))
    first_two = lawful_then vs (hit_cut mask a c) (off_cut mask a c) hit_lawful off_lawful

    first_three : Lawful vs (λ s. option_and_then (cycle_cut mask a c) (option_and_then (off_cut mask a c) (hit_cut mask a c s)))
    first_three = lawful_then vs (λ s. option_and_then (off_cut mask a c) (hit_cut mask a c s)) (cycle_cut mask a c) first_two cycle_lawful

    readers_lawful : Lawful vs (each_entry (reader_cut mask a c) c.behind)
    readers_lawful = entries_lawful_each vs (UserVars vs) (reader_cut mask a c) reader_lawful c.behind behind

    pub steps_lawful : Lawful vs (call_steps mask a c)
    steps_lawful = lawful_then vs (λ s. option_and_then (cycle_cut mask a c) (option_and_then (off_cut mask a c) (hit_cut mask a c s)))
        (each_entry (reader_cut mask a c) c.behind)
        first_three readers_lawful

    -- what holds stays
    module _ (x : List ℕ) (holds : spares mask a c x ≡ true) where
      -- it does not live across the call with a register of the mask
      not_across : (s : Sets) → HasVars vs s → IsIn x s → is_active a.on x ≡ true → in_mask mask (get_or x a.reg.0 0) ≡ true
          → lasts a c s ≡ true → ⊥
      not_across s k there on at e = by (covers a c s) refl e
        where
          free : ((get_or x c.at.0 0 < starts a x) ⊎ (ends a x ≤ get_or x c.at.0 0)) × (c.before ≡ true
              → list_any (λ (u : UserOf). is_user u x) c.behind ≡ true → ⊥)
          free = spared mask a c x holds on at

          by : (b : Bool) → covers a c s ≡ b → (b || is_read_behind c s) ≡ true → ⊥
          by true is h =
              let two = firsts (nat_le (greatest_start a s) (least (set_at s c.at.0)))
              (nat_lt (greatest (set_at s c.at.0)) (least_end a s)) is in
              let p : greatest_start a s ≤ least (set_at s c.at.0) = (let t = two.0 in grind (arith, nat_tests, t)) in
              let q : greatest (set_at s c.at.0) < least_end a s = (let t = two.1 in grind (arith, nat_tests, t)) in
              let here = there.each c.at.0 (has_among vs c.at s hc.of_at k) in
              let low = least-le (set_at s c.at.0) (get_or x c.at.0 0) here in
              let high = has-fold_max 0 (set_at s c.at.0) (get_or x c.at.0 0) here in
              let start = (starts_in vs s x there k a ha).1 in
              let end = ends_in vs s x there k a ha in
              elim free.0 [ inl lt ↦ omega (arith, lt, start, p, low) | inr le ↦ omega (arith, le, end, q, high) ]
          by false is h =
              let two = firsts c.before (list_any (λ u. sure_user u s) c.behind) h in
              free.1 two.0 (any_entry (UserVars vs) (λ u. sure_user u s) (λ u. is_user u x) (λ u hu. sure_user_reads vs s x there k u hu)
              c.behind behind two.1)

      hit_keeps : (s : Sets) → HasVars vs s → IsIn x s → Kept x (hit_cut mask a c s)
      hit_keeps s k there = cut_by_kept (hit_test mask a c s) a.reg.0 s x (has_among vs a.reg s ha.of_reg k) there
          (not_from (in_mask mask (get_or x a.reg.0 0) && (sure a.on s && lasts a c s)) (λ e.
          let one = firsts (in_mask mask (get_or x a.reg.0 0)) (sure a.on s && lasts a c s) e in
          let two = firsts (sure a.on s) (lasts a c s) one.1 in
          not_across s k there (sure_active vs s x there k a.on ha.of_on two.0) one.0 two.1))

      off_keeps : (s : Sets) → HasVars vs s → IsIn x s → Kept x (off_cut mask a c s)
      off_keeps s k there = act_keeps vs (off_test mask a c) a.on ha.of_on s x k there
          (not_from (not (nat_eq (act_number a.on x) 0) && (not (may_survive mask a s) && lasts a c s)) (λ e.
          let one = firsts (not (nat_eq (act_number a.on x) 0)) (not (may_survive mask a s) && lasts a c s) e in
          let two = firsts (not (may_survive mask a s)) (lasts a c s) one.1 in
          not_across s k there one.0 (mask_in s x k there two.0) two.1))

      cycle_keeps : (s : Sets) → HasVars vs s → IsIn x s → Kept x (cycle_cut mask a c s)
      cycle_keeps s k there = cut_by_kept (cycle_test mask a s) c.at.0 s x (has_among vs c.at s hc.of_at k) there
          (not_from ((nat_le (greatest_start a s) (get_or x c.at.0 0) && nat_lt (get_or x c.at.0 0) (least_end a s)) &&
          (sure a.on s && not (may_survive mask a s))) (λ e.
          let one = firsts (nat_le (greatest_start a s) (get_or x c.at.0 0) && nat_lt (get_or x c.at.0 0) (least_end a s))
          (sure a.on s && not (may_survive mask a s)) e in
          let two = firsts (nat_le (greatest_start a s) (get_or x c.at.0 0)) (nat_lt (get_or x c.at.0 0) (least_end a s)) one.0 in
          let three = firsts (sure a.on s) (not (may_survive mask a s)) one.1 in
          let p : greatest_start a s ≤ get_or x c.at.0 0 = (let t = two.0 in grind (arith, nat_tests, t)) in
          let q : get_or x c.at.0 0 < least_end a s = (let t = two.1 in grind (arith, nat_tests, t)) in
          let start = (starts_in vs s x there k a ha).1 in
          let end = ends_in vs s x there k a ha in
          elim (spared mask a c x holds (sure_active vs s x there k a.on ha.of_on three.0) (mask_in s x k there three.1)).0
          [ inl lt ↦ omega (arith, lt, start, p) | inr le ↦ omega (arith, le, end, q) ]))

      reader_keeps : (u : UserOf) → UserVars vs u → (is_user u x ≡ true → list_any (λ (u : UserOf). is_user u x) c.behind ≡ true)
          → (s : Sets) → HasVars vs s → IsIn x s
          → Kept x (reader_cut mask a c u s)
      reader_keeps u hu here s k there = by u.choice hu.of_choice refl
        where
          by : (o : Option VarId) → AllAmong vs (choice_vars o) → u.choice ≡ o → Kept x (choice_cut (reader_test mask a c u) o s)
          by None all is = there
          by (Some v) all is = cut_by_kept (reader_test mask a c u s) v.0 s x (has_among vs v s (all 0 v (omega arith)) k) there
              (not_from (nat_eq (get_or x v.0 0) u.value && (c.before && ((sure a.on s && sure u.on s) && not (may_survive mask a s))))
              (λ e.
              let one = firsts (nat_eq (get_or x v.0 0) u.value)
              (c.before && ((sure a.on s && sure u.on s) && not (may_survive mask a s))) e in
              let two = firsts c.before ((sure a.on s && sure u.on s) && not (may_survive mask a s)) one.1 in
              let three = firsts (sure a.on s && sure u.on s) (not (may_survive mask a s)) two.1 in
              let four = firsts (sure a.on s) (sure u.on s) three.0 in
              let reads : is_user u x ≡ true = both (is_active u.on x) (chooses u.choice u.value x)
              (sure_active vs s x there k u.on hu.of_on four.1)
              (subst (λ (o : Option VarId). chooses o u.value x ≡ true) (sym is) one.0) in
              (spared mask a c x holds (sure_active vs s x there k a.on ha.of_on four.0) (mask_in s x k there three.1)).1 two.0
              (here reads)))

      readers : AllByRecursion (λ u. UserVars vs u × (is_user u x ≡ true → list_any (λ (u : UserOf). is_user u x) c.behind ≡ true)) c.behind
      readers = all_both (UserVars vs) (λ u. is_user u x ≡ true → list_any (λ (u : UserOf). is_user u x) c.behind ≡ true) c.behind behind
          (any_own (λ (u : UserOf). is_user u x) c.behind)

      pub steps_keep : (s : Sets) → HasVars vs s → IsIn x s → Kept x (call_steps mask a c s)
      steps_keep s k there =
          let known : (m : Sets) → IsIn x m → HasVars vs m = λ m in_m. known_in vs s m x there in_m k in
          then_kept (each_entry (reader_cut mask a c) c.behind) x
          (option_and_then (cycle_cut mask a c) (option_and_then (off_cut mask a c) (hit_cut mask a c s)))
          (then_kept (cycle_cut mask a c) x (option_and_then (off_cut mask a c) (hit_cut mask a c s))
          (then_kept (off_cut mask a c) x (hit_cut mask a c s) (hit_keeps s k there) (λ m in_m. off_keeps m (known m in_m) in_m))
          (λ m in_m. cycle_keeps m (known m in_m) in_m))
          (λ m in_m. entries_keep vs (λ u. UserVars vs u × (is_user u x ≡ true → list_any (λ (u : UserOf). is_user u x) c.behind ≡ true))
          (reader_cut mask a c) x
          (λ u p t kt in_t. reader_keeps u p.0 p.1 t kt in_t) c.behind readers m (known m in_m) in_m)

    -- The check of a part

    own : (v : VarId) → among (temp_vars a ++ (c.at ∷ users_vars c.behind)) v ≡ true → among vs v ≡ true → among (call_vars vs a c) v ≡ true
    own v p q = among_filter (temp_vars a ++ (c.at ∷ users_vars c.behind)) vs v p q

    in_right : (v : VarId) → among (c.at ∷ users_vars c.behind) v ≡ true → among (temp_vars a ++ (c.at ∷ users_vars c.behind)) v ≡ true
    in_right v = among_right (temp_vars a) (c.at ∷ users_vars c.behind) v

    part_temp : TempVars (call_vars vs a c) a
    part_temp = temp_shared (temp_vars a ++ (c.at ∷ users_vars c.behind)) vs (call_vars vs a c) a own
        (temp_wider (temp_vars a) (temp_vars a ++ (c.at ∷ users_vars c.behind)) a
        (λ v. among_left (temp_vars a) (c.at ∷ users_vars c.behind) v) (own_temp a)) ha

    part_call_vars : CallVars (call_vars vs a c) c
    part_call_vars = record {
      of_at = own c.at (in_right c.at (among_here c.at (users_vars c.behind))) hc.of_at;
      of_behind = All-from_recursion (UserVars (call_vars vs a c)) c.behind
          (users_shared (temp_vars a ++ (c.at ∷ users_vars c.behind)) vs (call_vars vs a c) own c.behind
          (users_wider (users_vars c.behind) (temp_vars a ++ (c.at ∷ users_vars c.behind))
          (λ v h. in_right v (among_later c.at v (users_vars c.behind) h)) c.behind (own_users c.behind)) behind);
    }

    pub part_looks : (x y : List ℕ) → SameAt (call_vars vs a c) x y → spares mask a c x ≡ spares mask a c y
    part_looks = spares_looks (call_vars vs a c) mask a c part_temp part_call_vars

    pub part_known : (s : Sets) → HasVars vs s → HasVars (call_vars vs a c) s
    part_known s k = part_all (λ v. v.0 < length s) (among (temp_vars a ++ (c.at ∷ users_vars c.behind))) vs k

    pub check_lawful : Lawful vs (check_call vs mask a c)
    check_lawful = lawful_part (among (temp_vars a ++ (c.at ∷ users_vars c.behind))) vs (check_call vs mask a c)
        (last_lawful (call_vars vs a c) (spares mask a c) part_looks)

    check_keeps : (x : List ℕ) → spares mask a c x ≡ true → (s : Sets) → HasVars vs s → IsIn x s → Kept x (check_call vs mask a c s)
    check_keeps x holds s k there = last_keeps (call_vars vs a c) (spares mask a c) part_looks s x (part_known s k) there holds

    check_forward : Ascend vs → (v : ℕ) (x : List ℕ) → Checks vs (call_vars vs a c) v x (spares mask a c x) (check_call vs mask a c)
    check_forward ascend v x s u k full one is there = last_forward (call_vars vs a c) (spares mask a c) part_looks s u v x
        (filter_ascends (among (temp_vars a ++ (c.at ∷ users_vars c.behind))) vs ascend)
        (λ none. absurd (let lt = (in_list (call_vars vs a c) a.reg part_temp.of_reg).1 in omega (arith, lt, none)))
        (part_known s k) full one is there

    hit_strong : (s : Sets) (t r : ℕ) → HasVars vs s → NoneEmpty s → call_steps mask a c s ≡ Some s → set_at s c.at.0 ≡ t ∷ []
        → SurelyOccupies a t s → has (set_at s a.reg.0) r ≡ true
        → in_mask mask r ≡ false
    hit_strong s t r k full e one occ here =
        let outer = stable_then vs (λ s. option_and_then (cycle_cut mask a c) (option_and_then (off_cut mask a c) (hit_cut mask a c s)))
        (each_entry (reader_cut mask a c) c.behind) first_three readers_lawful s k full e in
        let mid = stable_then vs (λ s. option_and_then (off_cut mask a c) (hit_cut mask a c s)) (cycle_cut mask a c) first_two
        cycle_lawful s k full outer.0 in
        let inner = stable_then vs (hit_cut mask a c) (off_cut mask a c) hit_lawful off_lawful s k full mid.0 in
        let pass = passes_all (hit_test mask a c s) a.reg.0 s (has_among vs a.reg s ha.of_reg k) inner.0 r here in
        let from = occ.1 in
        let to = occ.2 in
        let low : nat_le (greatest_start a s) (least (set_at s c.at.0)) ≡ true = rw one (grind (arith, nat_tests, from)) in
        let high : nat_lt (greatest (set_at s c.at.0)) (least_end a s) ≡ true = rw one (grind (arith, nat_tests, to)) in
        let cover : covers a c s ≡ true = both _ _ low high in
        let last : lasts a c s ≡ true = ap (λ (b : Bool). b || is_read_behind c s) cover in
        by (in_mask mask r) refl pass (both _ _ occ.0 last)
      where
        by : (b : Bool) → in_mask mask r ≡ b → not (b && (sure a.on s && lasts a c s)) ≡ true → (sure a.on s && lasts a c s) ≡ true
            → b ≡ false
        by false is pass both = refl
        by true is pass both = absurd (not_true _ pass both)

  -- The laws of the whole

  module _ (ascend : Ascend vs) (calls : List ClobberCall) (h : All (CallVars vs) calls) where
    each : AllByRecursion (CallVars vs) calls
    each = recursion_from_All (CallVars vs) calls h

    all_steps : Lawful vs (each_entry (call_steps mask a) calls)
    all_steps = entries_lawful_each vs (CallVars vs) (call_steps mask a) steps_lawful calls each

    all_checks : Lawful vs (each_entry (check_call vs mask a) calls)
    all_checks = entries_lawful_each vs (CallVars vs) (check_call vs mask a) check_lawful calls each

    pub clobber_lawful : Lawful vs (clobber_cut vs mask a calls)
    clobber_lawful = lawful_then vs (each_entry (call_steps mask a) calls) (each_entry (check_call vs mask a) calls) all_steps all_checks

    pub clobber_keeps : (s : Sets) (x : List ℕ) → HasVars vs s → IsIn x s → clobber_holds mask a calls x ≡ true
        → Kept x (clobber_cut vs mask a calls s)
    clobber_keeps s x k there holds =
        let both_all = all_both (CallVars vs) (λ c. spares mask a c x ≡ true) calls each (all_pass (λ c. spares mask a c x) calls holds) in
        then_kept (each_entry (check_call vs mask a) calls) x (each_entry (call_steps mask a) calls s)
        (entries_keep vs (λ c. CallVars vs c × (spares mask a c x ≡ true)) (call_steps mask a) x
        (λ c p m km in_m. steps_keep c p.0 x p.1 m km in_m) calls both_all s k there)
        (λ m in_m. entries_keep vs (λ c. CallVars vs c × (spares mask a c x ≡ true)) (check_call vs mask a) x
        (λ c p t kt in_t. check_keeps c p.0 x p.1 t kt in_t) calls both_all m
        (known_in vs s m x there in_m k) in_m)

    pub clobber_forward : (part : Part) → Contains (clobber_parts vs mask a calls) part
        → ChecksForward part vs (clobber_cut vs mask a calls)
    clobber_forward part there = at (part_call vs mask a calls part there)
      where
        d : ClobberCall
        d = record { at = record { 0 = 0 }; before = false; behind = [] }

        at : (i : ℕ) × (i < length calls) × ((d : ClobberCall) → call_part vs mask a (get_or calls i d) ≡ part)
            → ChecksForward part vs (clobber_cut vs mask a calls)
        at (i, lt, same) =
            let c = get_or calls i d in
            let hc = h i d lt in
            let us = call_vars vs a c in
            subst (λ (p : Part). ChecksForward p vs (clobber_cut vs mask a calls)) (same d) (λ s t v x k full grounded one is in_t.
            checks_second vs us (part_known c hc) v x (spares mask a c x) (each_entry (call_steps mask a) calls)
            (each_entry (check_call vs mask a) calls) all_steps
            (checks_each vs us (part_known c hc) v x (spares mask a c x) (entry_cut (check_call vs mask a) calls)
            (entry_lawful vs (CallVars vs) (check_call vs mask a) check_lawful calls each)
            (length calls) i lt
            (λ m u km fm om em in_u. check_forward c hc ascend v x m u km fm om (sym (entry_within (check_call vs mask a) calls i d m lt)
            ∙ em) in_u))
            s t k full one is in_t)

    pub clobber_strong : (s : Sets) → HasVars vs s → NoneEmpty s → clobber_cut vs mask a calls s ≡ Some s → ClobberStrong mask a calls s
    clobber_strong s k full e i t r d lt one occ here =
        let first = (stable_then vs (each_entry (call_steps mask a) calls) (each_entry (check_call vs mask a) calls) all_steps all_checks
        s k full e).0 in
        let stays = each_stable vs (entry_cut (call_steps mask a) calls) (entry_lawful vs (CallVars vs) (call_steps mask a) steps_lawful
        calls each) (length calls) s k full first i lt in
        hit_strong (get_or calls i d) (h i d lt) s t r k full (sym (entry_within (call_steps mask a) calls i d s lt) ∙ stays) one occ here
