-- The laws of Apart.
use Rattle.std.proofs.Common.{ℕ, zero, suc, ◌≡◌, ◌<◌, ◌≤◌, ◌⊎◌, Bool, true, false, not, ◌&&◌, ◌||◌, List, [], ◌∷◌, ◌++◌, length, get_or}
use Rattle.std.proofs.Common.{map, max, nat_eq, nat_le, nat_lt, Some, refl, sym, ap, ◌∙◌, subst, arith, inl, inr}
use Rattle.std.specs.List.{AllByRecursion, Contains, list_all}
use Rattle.std.proofs.lemmas.Bool.{cases_lt}
use Rattle.std.proofs.lemmas.Bool.Decides.{nat_tests}
use Rattle.std.proofs.lemmas.List.Elements.{recursion_from_All}
use Rattle.un_base.specs.declared.ids.VarId.{VarId}
use Rattle.un_domains.specs.Sets.{Sets, set_at, has, IsIn, NoneEmpty, Kept}
use Rattle.un_domains.specs.CutLaws.{cut_by_kept}
use Rattle.un_domains.specs.Order.{Below}
use Rattle.un_prop.specs.Rounds.{HasVars}
use Rattle.un_prop.specs.Parts.{Part, all_meet, SameAt, ChecksForward}
use Rattle.un_prop.specs.Lawful.{Lawful, LawfulTest}
use Rattle.un_prop.specs.Steps.{lawful_cut_by, lawful_then}
use Rattle.un_prop.specs.ChainLaws.{then_kept, known_in, stable_then}
use Rattle.un_prop.specs.LastLaws.{Ascend, last_lawful, last_keeps, last_forward, passes_all}
use Rattle.un_prop.specs.Among.{among}
use Rattle.un_prop.specs.AmongLaws.{in_list, has_among, same_var, same_active}
use Rattle.un_prop.specs.Acts.{is_active, Occupies}
use Rattle.un_prop.specs.Looks.{sure}
use Rattle.un_prop.specs.LookLaws.{both, firsts, not_or, or_not, not_true, not_from, set_alike, sure_alike, sure_below, sure_active}
use Rattle.un_prop.specs.LookLaws.{known_below}
use Rattle.un_prop.specs.declared.act.Act.TheVariants.{Always}
use Rattle.un_prop.specs.declared.act.At.TheVariants.{Const}
use Rattle.un_prop.specs.declared.act.Temp.{Temp}
use Rattle.un_rect.specs.Spans.{starts, ends, greatest_start, is_only, least_end, SurelyOccupies, TempVars}
use Rattle.un_rect.specs.SpansLaws.{only_is, only_below, occupied, occupies, starts_alike, ends_alike, greatest_start_below}
use Rattle.un_rect.specs.SpansLaws.{least_end_below, greatest_start_alike, least_end_alike, starts_in, ends_in}
use Rattle.un_rect.specs.Pairs.{each_pair}
use Rattle.un_rect.specs.PairLaws.{Checks, checks_second, pairs_check, pairs_keep, pairs_lawful, pairs_stable}
use Rattle.un_rect.specs.Orders.{order_cut, order_pair}
use Rattle.un_rect.specs.OrdersLaws.{order_keeps, order_pair_lawful}
use Rattle.un_rect.specs.TempLaws.{filter_ascends, pair_first, pair_second, part_all, lawful_part}
use Rattle.un_rect.specs.Apart.{pair_holds, apart_holds, IsApart, temp_vars, pair_vars, pair_part, apart_parts, overlap, clash_test}
use Rattle.un_rect.specs.Apart.{clash_cut, clash_pair, check_pair, bounds_cut, apart_cut, ApartVars, ApartStrong}

-- What two temporaries mean

pub pair_apart : (a b : Temp) (x : List ℕ) → pair_holds a b x ≡ true → is_active a.on x ≡ true → is_active b.on x ≡ true
    → get_or x a.reg.0 0 ≡ get_or x b.reg.0 0 → (ends a x ≤ starts b x) ⊎ (ends b x ≤ starts a x)
pair_apart a b x h on_a on_b e =
    let same : nat_eq (get_or x a.reg.0 0) (get_or x b.reg.0 0) ≡ true = grind (arith, nat_tests, e) in
    by (nat_le (ends a x) (starts b x)) refl
    (or_not (is_active a.on x && (is_active b.on x && nat_eq (get_or x a.reg.0 0) (get_or x b.reg.0 0)))
    (nat_le (ends a x) (starts b x) || nat_le (ends b x) (starts a x)) h
    (both _ _ on_a (both _ _ on_b same)))
  where
    by : (c : Bool) → nat_le (ends a x) (starts b x) ≡ c → (c || nat_le (ends b x) (starts a x)) ≡ true → (ends a x ≤ starts b x)
        ⊎ (ends b x ≤ starts a x)
    by true t rest = inl (grind (arith, nat_tests, t))
    by false t rest = inr (grind (arith, nat_tests, rest))

pub pair_is : (a b : Temp) (x : List ℕ) → (is_active a.on x ≡ true → is_active b.on x ≡ true → get_or x a.reg.0 0 ≡ get_or x b.reg.0 0
    → (ends a x ≤ starts b x) ⊎ (ends b x ≤ starts a x)) → pair_holds a b x ≡ true
pair_is a b x h = not_or (is_active a.on x && (is_active b.on x && nat_eq (get_or x a.reg.0 0) (get_or x b.reg.0 0)))
    (nat_le (ends a x) (starts b x) || nat_le (ends b x) (starts a x)) (λ e.
    let one = firsts (is_active a.on x) (is_active b.on x && nat_eq (get_or x a.reg.0 0) (get_or x b.reg.0 0)) e in
    let two = firsts (is_active b.on x) (nat_eq (get_or x a.reg.0 0) (get_or x b.reg.0 0)) one.1 in
    let same : get_or x a.reg.0 0 ≡ get_or x b.reg.0 0 = (let t = two.1 in grind (arith, nat_tests, t)) in
    elim (h one.0 two.0 same) [
      | inl le ↦ (let t : nat_le (ends a x) (starts b x) ≡ true = grind (arith, nat_tests, le) in
          ap (λ (c : Bool). c || nat_le (ends b x) (starts a x)) t)
      | inr le ↦ (let t : nat_le (ends b x) (starts a x) ≡ true = grind (arith, nat_tests, le) in
          or_right (nat_le (ends a x) (starts b x)) _ t)
    ])
  where
    or_right : (b c : Bool) → c ≡ true → (b || c) ≡ true
    or_right true c h = refl
    or_right false c h = h

-- they occupy no cycle together
pub pair_free : (a b : Temp) (x : List ℕ) → pair_holds a b x ≡ true → (t : ℕ) → get_or x a.reg.0 0 ≡ get_or x b.reg.0 0 → Occupies a t x
    → Occupies b t x → ⊥
pair_free a b x h t same p q =
    let one = occupied a t x p in
    let two = occupied b t x q in
    let from_a = one.1 in
    let to_a = one.2 in
    let from_b = two.1 in
    let to_b = two.2 in
    elim (pair_apart a b x h one.0 two.0 same) [ inl le ↦ omega (arith, le, to_a, from_b) | inr le ↦ omega (arith, le, to_b, from_a) ]

pub free_pair : (a b : Temp) (x : List ℕ) → ((t : ℕ) → get_or x a.reg.0 0 ≡ get_or x b.reg.0 0 → Occupies a t x → Occupies b t x → ⊥)
    → pair_holds a b x ≡ true
free_pair a b x h = pair_is a b x (λ on_a on_b same. elim (cases_lt (starts b x) (ends a x)) [
  | inr le ↦ inl le
  | inl lt ↦ elim (cases_lt (starts a x) (ends b x)) [
    | inr le ↦ inr le
    | inl less ↦ absurd (h (max (starts a x) (starts b x)) same (occupies a _ x on_a (omega arith) (omega (arith, lt)))
        (occupies b _ x on_b (omega arith) (omega (arith, less))))
  ]
])

-- All pairs of a list

all_at : (p : Temp → Bool) (xs : List Temp) → list_all p xs ≡ true → (j : ℕ) (d : Temp) → j < length xs → p (get_or xs j d) ≡ true
all_at p [] h j d lt = absurd (omega (arith, lt))
all_at p (a ∷ rest) h zero d lt = (firsts (p a) (list_all p rest) h).0
all_at p (a ∷ rest) h (suc j) d lt = all_at p rest (firsts (p a) (list_all p rest) h).1 j d (omega (arith, lt))

at_all : (p : Temp → Bool) (xs : List Temp) → ((j : ℕ) (d : Temp) → j < length xs → p (get_or xs j d) ≡ true) → list_all p xs ≡ true
at_all p [] h = refl
at_all p (a ∷ rest) h = both (p a) (list_all p rest) (h 0 a (omega arith)) (at_all p rest (λ j d lt. h (suc j) d (omega (arith, lt))))

pub apart_pairs : (temps : List Temp) (x : List ℕ) → apart_holds temps x ≡ true → (i j : ℕ) (d : Temp) → i < j → j < length temps
    → pair_holds (get_or temps i d) (get_or temps j d) x ≡ true
apart_pairs [] x h i j d lt below = absurd (omega (arith, below))
apart_pairs (a ∷ rest) x h i zero d lt below = absurd (omega (arith, lt))
apart_pairs (a ∷ rest) x h zero (suc j) d lt below = all_at (λ b. pair_holds a b x) rest (firsts (list_all (λ b. pair_holds a b x) rest)
    (apart_holds rest x) h).0 j d (omega (arith, below))
apart_pairs (a ∷ rest) x h (suc i) (suc j) d lt below = apart_pairs rest x (firsts (list_all (λ b. pair_holds a b x) rest)
    (apart_holds rest x) h).1 i j d (omega (arith, lt)) (omega (arith, below))

pub pairs_apart : (temps : List Temp) (x : List ℕ) → ((i j : ℕ) (d : Temp) → i < j → j < length temps → pair_holds (get_or temps i d)
    (get_or temps j d) x ≡ true)
    → apart_holds temps x ≡ true
pairs_apart [] x h = refl
pairs_apart (a ∷ rest) x h = both (list_all (λ b. pair_holds a b x) rest) (apart_holds rest x)
    (at_all (λ b. pair_holds a b x) rest (λ j d lt. h 0 (suc j) d (omega arith) (omega (arith, lt))))
    (pairs_apart rest x (λ i j d lt below. h (suc i) (suc j) d (omega (arith, lt)) (omega (arith, below))))

-- **it holds exactly where no two active temporaries with one register occupy it in one cycle**
pub apart_is : (temps : List Temp) (x : List ℕ) → apart_holds temps x ≡ true → IsApart temps x
apart_is temps x h i j t d lt below same p q = pair_free (get_or temps i d) (get_or temps j d) x (apart_pairs temps x h i j d lt below) t
    same p q

pub is_apart : (temps : List Temp) (x : List ℕ) → IsApart temps x → apart_holds temps x ≡ true
is_apart temps x h = pairs_apart temps x (λ i j d lt below. free_pair (get_or temps i d) (get_or temps j d) x
    (λ t same p q. h i j t d lt below same p q))

-- Its parts

meet_more : (f : Temp → Part) (x : List ℕ) (ps : List Part) (bs : List Temp) → all_meet (map f bs ++ ps) x ≡ (list_all (λ b. (f b).meets x)
    bs && all_meet ps x)
meet_more f x ps [] = refl
meet_more f x ps (b ∷ bs) = ap (λ (c : Bool). (f b).meets x && c) (meet_more f x ps bs) ∙ assoc ((f b).meets x)
    (list_all (λ b. (f b).meets x) bs) (all_meet ps x)
  where
    assoc : (b c d : Bool) → (b && (c && d)) ≡ ((b && c) && d)
    assoc true c d = refl
    assoc false c d = refl

pub apart_whole : (vs : List VarId) (temps : List Temp) (x : List ℕ) → apart_holds temps x ≡ all_meet (apart_parts vs temps) x
apart_whole vs [] x = refl
apart_whole vs (a ∷ rest) x = ap (λ (c : Bool). list_all (λ b. pair_holds a b x) rest && c) (apart_whole vs rest x)
    ∙ sym (meet_more (pair_part vs a) x (apart_parts vs rest) rest)

-- a part is that of two places
abbrev pub PartOf : List VarId → List Temp → Part → Type 0
PartOf vs temps part = (i : ℕ) × (j : ℕ) × (i < j) × (j < length temps) × ((d : Temp) → pair_part vs (get_or temps i d) (get_or temps j d) ≡
    part)

part_more : (f : Temp → Part) (ps : List Part) (bs : List Temp) (part : Part) → Contains (map f bs ++ ps) part
    → ((j : ℕ) × (j < length bs) × ((d : Temp) → f (get_or bs j d) ≡ part)) ⊎ Contains ps part
part_more f ps [] part c = inr c
part_more f ps (b ∷ bs) part (zero, lt, e) = inl (0, omega arith, λ d. e)
part_more f ps (b ∷ bs) part (suc k, lt, e) = elim (part_more f ps bs part (k, omega (arith, lt), e)) [
  | inl h ↦ inl (suc (h.0), (let below = h.1 in omega (arith, below)), h.2)
  | inr h ↦ inr h
]

pub part_places : (vs : List VarId) (temps : List Temp) (part : Part) → Contains (apart_parts vs temps) part → PartOf vs temps part
part_places vs [] part c = absurd (let lt = c.1 in omega (arith, lt))
part_places vs (a ∷ rest) part c = elim (part_more (pair_part vs a) (apart_parts vs rest) rest part c) [
  | inl h ↦ (0, suc (h.0), omega arith, (let below = h.1 in omega (arith, below)), h.2)
  | inr h ↦ (let r = part_places vs rest part h in (
    suc (r.0),
    suc (r.1),
    (let lt = r.2 in omega (arith, lt)),
    (let below = r.3 in
        omega (arith, below)),
    r.4,
  ))
]

-- Assignments alike

and_alike : (a b c d : Bool) → a ≡ c → b ≡ d → (a && b) ≡ (c && d)
and_alike a b c d h k = ap (λ (x : Bool). x && b) h ∙ ap (λ (x : Bool). c && x) k

or_alike : (a b c d : Bool) → a ≡ c → b ≡ d → (a || b) ≡ (c || d)
or_alike a b c d h k = ap (λ (x : Bool). x || b) h ∙ ap (λ (x : Bool). c || x) k

num_alike : (f : ℕ → ℕ → Bool) (a b c d : ℕ) → a ≡ c → b ≡ d → f a b ≡ f c d
num_alike f a b c d h k = ap (λ (n : ℕ). f n b) h ∙ ap (f c) k

pub pair_looks : (vs : List VarId) (a b : Temp) → TempVars vs a → TempVars vs b → (x y : List ℕ) → SameAt vs x y
    → pair_holds a b x ≡ pair_holds a b y
pair_looks vs a b ha hb x y same = or_alike _ _ _ _
    (ap not (and_alike _ _ _ _ (same_active vs x y same a.on ha.of_on) (and_alike _ _ _ _ (same_active vs x y same b.on hb.of_on)
    (num_alike nat_eq _ _ _ _ (same_var vs x y same a.reg ha.of_reg) (same_var vs x y same b.reg hb.of_reg)))))
    (or_alike _ _ _ _ (num_alike nat_le _ _ _ _ (ends_alike vs x y same a ha) (starts_alike vs x y same b hb))
    (num_alike nat_le _ _ _ _ (ends_alike vs x y same b hb) (starts_alike vs x y same a ha)))

row_looks : (vs : List VarId) (x y : List ℕ) → SameAt vs x y → (a : Temp) → TempVars vs a → (bs : List Temp) → AllByRecursion (TempVars vs)
    bs
    → list_all (λ b. pair_holds a b x) bs ≡ list_all (λ b. pair_holds a b y) bs
row_looks vs x y same a ha [] all = refl
row_looks vs x y same a ha (b ∷ bs) all = and_alike _ _ _ _ (pair_looks vs a b ha all.0 x y same) (row_looks vs x y same a ha bs all.1)

looks_at : (vs : List VarId) (x y : List ℕ) → SameAt vs x y → (temps : List Temp) → AllByRecursion (TempVars vs) temps
    → apart_holds temps x ≡ apart_holds temps y
looks_at vs x y same [] all = refl
looks_at vs x y same (a ∷ rest) all = and_alike _ _ _ _ (row_looks vs x y same a all.0 rest all.1) (looks_at vs x y same rest all.1)

pub apart_looks : (vs : List VarId) (temps : List Temp) → ApartVars vs temps → (x y : List ℕ) → SameAt vs x y
    → apart_holds temps x ≡ apart_holds temps y
apart_looks vs temps h x y same = looks_at vs x y same temps (recursion_from_All (TempVars vs) temps h)

-- A register that goes

module _ (vs : List VarId) (a b : Temp) (ha : TempVars vs a) (hb : TempVars vs b) where
  clash_lawful_test : LawfulTest vs (clash_test a b)
  clash_lawful_test = record {
    monotone = λ t s y k full le h. not_from (is_only (set_at s a.reg.0) y && (sure a.on s && (sure b.on s && overlap a b s)))
        (λ e. not_true _ h (stays t s y k full le e));
    local = λ s t y agree. ap not (and_alike _ _ _ _ (ap (λ (xs : List ℕ). is_only xs y) (set_alike vs s t agree a.reg ha.of_reg))
        (and_alike _ _ _ _ (sure_alike vs s t agree a.on ha.of_on) (and_alike _ _ _ _ (sure_alike vs s t agree b.on hb.of_on)
        (and_alike _ _ _ _ (num_alike nat_lt _ _ _ _ (greatest_start_alike vs s t agree b hb) (least_end_alike vs s t agree a ha))
        (num_alike nat_lt _ _ _ _ (greatest_start_alike vs s t agree a ha) (least_end_alike vs s t agree b hb))))));
  }
    where
      stays : (t s : Sets) (y : ℕ) → HasVars vs s → NoneEmpty t → Below t s
          → (is_only (set_at s a.reg.0) y && (sure a.on s && (sure b.on s && overlap a b s))) ≡ true
          → (is_only (set_at t a.reg.0) y && (sure a.on t && (sure b.on t && overlap a b t))) ≡ true
      stays t s y k full le e =
          let one = firsts (is_only (set_at s a.reg.0) y) _ e in
          let two = firsts (sure a.on s) _ one.1 in
          let three = firsts (sure b.on s) (overlap a b s) two.1 in
          let four = firsts (nat_lt (greatest_start b s) (least_end a s)) (nat_lt (greatest_start a s) (least_end b s)) three.1 in
          let p : greatest_start b s < least_end a s = (let t = four.0 in grind (arith, nat_tests, t)) in
          let q : greatest_start a s < least_end b s = (let t = four.1 in grind (arith, nat_tests, t)) in
          let pa = least_end_below vs t s k full le a ha in
          let pb = least_end_below vs t s k full le b hb in
          let qa = greatest_start_below vs t s le a in
          let qb = greatest_start_below vs t s le b in
          let p' : greatest_start b t < least_end a t = omega (arith, p, pa, qb) in
          let q' : greatest_start a t < least_end b t = omega (arith, q, pb, qa) in
          let u : nat_lt (greatest_start b t) (least_end a t) ≡ true = grind (arith, nat_tests, p') in
          let v : nat_lt (greatest_start a t) (least_end b t) ≡ true = grind (arith, nat_tests, q') in
          both _ _ (only_below t s a.reg.0 y le (full a.reg.0 (has_among vs a.reg t ha.of_reg (known_below vs t s le k))) one.0)
          (both _ _ (sure_below vs t s le a.on two.0) (both _ _ (sure_below vs t s le b.on three.0) (both _ _ u v)))

  pub clash_lawful : Lawful vs (clash_cut a b)
  clash_lawful = lawful_cut_by vs b.reg (clash_test a b) (in_list vs b.reg hb.of_reg) clash_lawful_test

  pub clash_keeps : (s : Sets) (x : List ℕ) → HasVars vs s → IsIn x s
      → (is_active a.on x ≡ true → is_active b.on x ≡ true → get_or x a.reg.0 0 ≡ get_or x b.reg.0 0 → (ends a x ≤ starts b x)
      ⊎ (ends b x ≤ starts a x))
      → Kept x (clash_cut a b s)
  clash_keeps s x k there h = cut_by_kept (clash_test a b s) b.reg.0 s x (has_among vs b.reg s hb.of_reg k) there
      (not_from (is_only (set_at s a.reg.0) (get_or x b.reg.0 0) && (sure a.on s && (sure b.on s && overlap a b s))) (λ e.
      let one = firsts (is_only (set_at s a.reg.0) (get_or x b.reg.0 0)) _ e in
      let two = firsts (sure a.on s) _ one.1 in
      let three = firsts (sure b.on s) (overlap a b s) two.1 in
      let four = firsts (nat_lt (greatest_start b s) (least_end a s)) (nat_lt (greatest_start a s) (least_end b s)) three.1 in
      let p : greatest_start b s < least_end a s = (let t = four.0 in grind (arith, nat_tests, t)) in
      let q : greatest_start a s < least_end b s = (let t = four.1 in grind (arith, nat_tests, t)) in
      let same = only_is (set_at s a.reg.0) (get_or x b.reg.0 0) (get_or x a.reg.0 0) one.0
      (there.each a.reg.0 (has_among vs a.reg s ha.of_reg k)) in
      let ea = ends_in vs s x there k a ha in
      let eb = ends_in vs s x there k b hb in
      let sa = (starts_in vs s x there k a ha).1 in
      let sb = (starts_in vs s x there k b hb).1 in
      elim (h (sure_active vs s x there k a.on ha.of_on two.0) (sure_active vs s x there k b.on hb.of_on three.0) same)
      [ inl le ↦ omega (arith, le, p, ea, sb) | inr le ↦ omega (arith, le, q, eb, sa) ]))

  -- what stays has no such register
  pub clash_strong : (s : Sets) (t r : ℕ) → HasVars vs s → NoneEmpty s → clash_cut a b s ≡ Some s → SurelyOccupies a t s
      → SurelyOccupies b t s
      → set_at s a.reg.0 ≡ r ∷ [] → has (set_at s b.reg.0) r ≡ false
  clash_strong s t r k full e p q is = by (has (set_at s b.reg.0) r) refl
    where
      by : (c : Bool) → has (set_at s b.reg.0) r ≡ c → c ≡ false
      by false h = refl
      by true h =
          let pass = passes_all (clash_test a b s) b.reg.0 s (has_among vs b.reg s hb.of_reg k) e r h in
          let here : nat_eq r r ≡ true = grind (arith, nat_tests) in
          let only : is_only (set_at s a.reg.0) r ≡ true = subst (λ (xs : List ℕ). is_only xs r ≡ true) (sym is) here in
          let from_a = p.1 in
          let to_a = p.2 in
          let from_b = q.1 in
          let to_b = q.2 in
          let less : greatest_start b s < least_end a s = omega (arith, from_b, to_a) in
          let more : greatest_start a s < least_end b s = omega (arith, from_a, to_b) in
          let u : nat_lt (greatest_start b s) (least_end a s) ≡ true = grind (arith, nat_tests, less) in
          let v : nat_lt (greatest_start a s) (least_end b s) ≡ true = grind (arith, nat_tests, more) in
          absurd (not_true _ pass (both _ _ only (both _ _ p.0 (both _ _ q.0 (both _ _ u v)))))

-- The laws of the whole

module _ (vs : List VarId) (ascend : Ascend vs) where
  pub clash_pair_lawful : (a b : Temp) → TempVars vs a → TempVars vs b → Lawful vs (clash_pair a b)
  clash_pair_lawful a b ha hb = lawful_then vs (clash_cut a b) (clash_cut b a) (clash_lawful vs a b ha hb) (clash_lawful vs b a hb ha)

  pub check_lawful : (a b : Temp) → TempVars vs a → TempVars vs b → Lawful vs (check_pair vs a b)
  check_lawful a b ha hb = lawful_part (among (temp_vars a ++ temp_vars b)) vs (check_pair vs a b)
      (last_lawful (pair_vars vs a b) (pair_holds a b) (pair_looks (pair_vars vs a b) a b (pair_first vs a b ha) (pair_second vs a b hb)))

  module _ (temps : List Temp) (h : ApartVars vs temps) where
    each : AllByRecursion (TempVars vs) temps
    each = recursion_from_All (TempVars vs) temps h

    clashes_lawful : Lawful vs (each_pair clash_pair temps (length temps))
    clashes_lawful = pairs_lawful vs (TempVars vs) clash_pair temps clash_pair_lawful each (length temps)

    checks_lawful : Lawful vs (each_pair (check_pair vs) temps (length temps))
    checks_lawful = pairs_lawful vs (TempVars vs) (check_pair vs) temps check_lawful each (length temps)

    orders_lawful : Lawful vs (each_pair order_pair temps (length temps))
    orders_lawful = pairs_lawful vs (TempVars vs) order_pair temps (order_pair_lawful vs) each (length temps)

    bounds_lawful : Lawful vs (bounds_cut temps)
    bounds_lawful = lawful_then vs (each_pair clash_pair temps (length temps)) (each_pair order_pair temps (length temps)) clashes_lawful
        orders_lawful

    pub apart_lawful : Lawful vs (apart_cut vs temps)
    apart_lawful = lawful_then vs (bounds_cut temps) (each_pair (check_pair vs) temps (length temps)) bounds_lawful checks_lawful

    pub apart_keeps : (s : Sets) (x : List ℕ) → HasVars vs s → IsIn x s → apart_holds temps x ≡ true → Kept x (apart_cut vs temps s)
    apart_keeps s x k there holds = then_kept (each_pair (check_pair vs) temps (length temps)) x (bounds_cut temps s)
        (then_kept (each_pair order_pair temps (length temps)) x (each_pair clash_pair temps (length temps) s)
        (pairs_keep vs (TempVars vs) clash_pair temps x (length temps) d (omega arith) (λ i j m lt below km in_m. (
        let a = get_or temps i d in
        let b = get_or temps j d in
        let ha = h i d (omega (arith, lt, below)) in
        let hb = h j d below in
        let apart = pair_apart a b x (apart_pairs temps x holds i j d lt below) in
        then_kept (clash_cut b a) x (clash_cut a b m) (clash_keeps vs a b ha hb m x km in_m apart)
        (λ u in_u. clash_keeps vs b a hb ha u x (known_in vs m u x in_m in_u km) in_u (λ on_b on_a e. elim (apart on_a on_b (sym e))
        [ inl le ↦ inr le | inr le ↦ inl le ])))) s k there)
        (λ n in_n. pairs_keep vs (TempVars vs) order_pair temps x (length temps) d (omega arith) (λ i j m lt below km in_m. (
        let a = get_or temps i d in
        let b = get_or temps j d in
        let ha = h i d (omega (arith, lt, below)) in
        let hb = h j d below in
        let apart = pair_apart a b x (apart_pairs temps x holds i j d lt below) in
        then_kept (order_cut b a) x (order_cut a b m) (order_keeps vs a b ha hb m x km in_m apart)
        (λ u in_u. order_keeps vs b a hb ha u x (known_in vs m u x in_m in_u km) in_u (λ on_b on_a e. elim (apart on_a on_b (sym e))
        [ inl le ↦ inr le | inr le ↦ inl le ])))) n (known_in vs s n x there in_n k) in_n))
        (λ m in_m. pairs_keep vs (TempVars vs) (check_pair vs) temps x (length temps) d (omega arith) (λ i j u lt below ku in_u. (
        let a = get_or temps i d in
        let b = get_or temps j d in
        let ha = h i d (omega (arith, lt, below)) in
        let hb = h j d below in
        last_keeps (pair_vars vs a b) (pair_holds a b) (pair_looks (pair_vars vs a b) a b (pair_first vs a b ha) (pair_second vs a b hb)) u
        x
        (part_all (λ v. v.0 < length u) (among (temp_vars a ++ temp_vars b)) vs ku) in_u (apart_pairs temps x holds i j d lt below))) m
        (known_in vs s m x there in_m k) in_m)
      where
        d : Temp
        d = record { on = Always; at = Const 0; reg = record { 0 = 0 }; users = [] }

    -- a part is checked where it stands in the chain
    check_forward : (a b : Temp) → TempVars vs a → TempVars vs b → (v : ℕ) (x : List ℕ) → Checks vs (pair_vars vs a b) v x
        (pair_holds a b x) (check_pair vs a b)
    check_forward a b ha hb v x s u k full one is there = last_forward (pair_vars vs a b) (pair_holds a b)
        (pair_looks (pair_vars vs a b) a b (pair_first vs a b ha) (pair_second vs a b hb)) s u v x
        (filter_ascends (among (temp_vars a ++ temp_vars b)) vs ascend)
        (λ none. absurd (let lt = (in_list (pair_vars vs a b) a.reg (pair_first vs a b ha).of_reg).1 in omega (arith, lt, none)))
        (part_all (λ v. v.0 < length s) (among (temp_vars a ++ temp_vars b)) vs k) full one is there

    pub apart_forward : (part : Part) → Contains (apart_parts vs temps) part → ChecksForward part vs (apart_cut vs temps)
    apart_forward part c = at (part_places vs temps part c)
      where
        d : Temp
        d = record { on = Always; at = Const 0; reg = record { 0 = 0 }; users = [] }

        at : PartOf vs temps part → ChecksForward part vs (apart_cut vs temps)
        at (i, j, lt, below, same) =
            let a = get_or temps i d in
            let b = get_or temps j d in
            let ha = h i d (omega (arith, lt, below)) in
            let hb = h j d below in
            let us = pair_vars vs a b in
            let known : (m : Sets) → HasVars vs m → HasVars us m = λ m km. part_all (λ v. v.0 < length m)
            (among (temp_vars a ++ temp_vars b)) vs km in
            subst (λ (p : Part). ChecksForward p vs (apart_cut vs temps)) (same d) (λ s t v x k full grounded one is there.
            checks_second vs us known v x (pair_holds a b x) (bounds_cut temps) (each_pair (check_pair vs) temps (length temps))
            bounds_lawful
            (pairs_check vs us known v x (pair_holds a b x) (TempVars vs) (check_pair vs) check_lawful temps each (length temps) i j d
            (omega arith) lt below hb (check_forward a b ha hb v x))
            s t k full one is there)

    pub apart_strong : (s : Sets) → HasVars vs s → NoneEmpty s → apart_cut vs temps s ≡ Some s → ApartStrong temps s
    apart_strong s k full e i j t r d ne to_i to_j p q is = elim (cases_lt i j) [
      | inl lt ↦ clash_strong vs a b ha hb s t r k full
          (stable_then vs (clash_cut a b) (clash_cut b a) (clash_lawful vs a b ha hb) (clash_lawful vs b a hb ha) s k full
          (stays i j lt to_j)).0 p q is
      | inr le ↦ clash_strong vs a b ha hb s t r k full
          (stable_then vs (clash_cut b a) (clash_cut a b) (clash_lawful vs b a hb ha) (clash_lawful vs a b ha hb) s k full
          (stays j i (omega (arith, le, ne)) to_i)).1 p q is
    ]
      where
        a : Temp
        a = get_or temps i d

        b : Temp
        b = get_or temps j d

        ha : TempVars vs a
        ha = h i d to_i

        hb : TempVars vs b
        hb = h j d to_j

        stays : (m n : ℕ) → m < n → n < length temps → clash_pair (get_or temps m d) (get_or temps n d) s ≡ Some s
        stays m n lt below = pairs_stable vs (TempVars vs) clash_pair temps clash_pair_lawful each (length temps) s (omega arith) k full
            (stable_then vs (each_pair clash_pair temps (length temps)) (each_pair order_pair temps (length temps)) clashes_lawful
            orders_lawful s k full
            (stable_then vs (bounds_cut temps) (each_pair (check_pair vs) temps (length temps)) bounds_lawful checks_lawful s k full e).0).0
            m n d lt below (h n d below)
