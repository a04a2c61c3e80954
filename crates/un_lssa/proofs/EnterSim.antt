-- The values at a block's start and at its end.
use Rattle.std.proofs.Common.{◌≡◌, ◌≢◌, ℕ, zero, suc, ◌+◌, ◌==◌, ◌<◌, ◌≤◌, ◌++◌, ◌||◌, Bool, true, false, nat_eq, List, [], ◌∷◌, None, map}
use Rattle.std.proofs.Common.{filter, length, set, get_or, All, AllPairs, Contains, if◌then◌else◌, refl, sym, ap, ◌∙◌, arith, length-set}
use Rattle.std.proofs.Common.{append-nil}
use Rattle.std.specs.List.{range_with_len, list_any, position_or_len}
use Rattle.std.proofs.Math.Numerals.{one-add}
use Rattle.std.proofs.lemmas.Bool.{eqb-true}
use Rattle.std.proofs.lemmas.List.{get_or-set_same, get_or-set_other}
use Rattle.std.proofs.lemmas.List.Elements.{All-nil, All-cons}
use Rattle.un_base.specs.declared.ids.NameId.{NameId}
use Rattle.un_isa.specs.declared.table.Table.{Table}
use Rattle.un_ir.specs.declared.function.SrcOp.{SrcOp}
use Rattle.un_ir.specs.declared.function.Term.{Term}
use Rattle.un_ir.specs.declared.function.Term.TheVariants.{Fall, Jump, Branch, Ret}
use Rattle.un_ir.specs.declared.extended.ExtOp.{ExtOp}
use Rattle.un_ir.specs.declared.extended.Operand.{Operand}
use Rattle.un_ir.specs.Extended.{temp}
use Rattle.un_ir.specs.Linear.{Values, value_of, defined, defined_all, in_temps, out_operands, ending_of, LinearState, ops_run}
use Rattle.un_ir.specs.LinearOf.{assigned, past, first_temps, reads, name_of, is_among, body_ops, end_ops, out_op, kept_operands}
use Rattle.un_ir.specs.LinearOf.{out_operands_of}

-- ---- values of consecutive temporaries

range_old : (v : Values) (n c : ℕ) (vs : List ℕ) (y : ℕ) → y < n → defined_all v (map temp (range_with_len n c)) vs y ≡ v y
range_old v n zero vs y h = refl
range_old v n (suc c) [] y h = refl
range_old v n (suc c) (x ∷ vs) y h = range_old (defined v (temp n) x) (n + 1) c vs y (omega arith) ∙ by (nat_eq y n) refl
  where
    by : (w : Bool) → nat_eq y n ≡ w → (if w then x else v y) ≡ v y
    by true e = let same : y ≡ n = eqb-true y n e in absurd (omega (arith, same))
    by false e = refl

pub range_value : (v : Values) (n c : ℕ) (vs : List ℕ) (i : ℕ) → length vs ≡ c → i < c
    → defined_all v (map temp (range_with_len n c)) vs (n + i) ≡ get_or vs i 0
range_value v n zero vs i e h = absurd (omega arith)
range_value v n (suc c) [] i e h = absurd (omega arith)
range_value v n (suc c) (x ∷ vs) zero e h =
    let z : n + 0 ≡ n = omega arith in
    ap (defined_all (defined v (temp n) x) (map temp (range_with_len (n + 1) c)) vs) z
    ∙ range_old (defined v (temp n) x) (n + 1) c vs n (omega arith)
    ∙ (let q : nat_eq n n ≡ true = grind arith in rw q refl)
range_value v n (suc c) (x ∷ vs) (suc i) e h =
    let z : n + suc i ≡ (n + 1) + i = omega arith in
    ap (defined_all (defined v (temp n) x) (map temp (range_with_len (n + 1) c)) vs) z
    ∙ range_value (defined v (temp n) x) (n + 1) c vs i (omega arith) (omega arith)

-- ---- temporaries of names

abbrev Rises : List NameId → Type 0
Rises names = AllPairs (λ (a b : NameId). a.0 < b.0) names

rises_later : (name : NameId) (names : List NameId) → Rises (name ∷ names) → Rises names
rises_later name names h i j d lt below = h (suc i) (suc j) d (omega arith) (omega arith)

rises_first : (name : NameId) (names : List NameId) → Rises (name ∷ names) → (j : ℕ) (d : NameId) → j < length names
    → (let other = get_or names j d in name.0 < other.0)
rises_first name names h j d below = h 0 (suc j) d (omega arith) (omega arith)

first_old : (current : List ℕ) (n : ℕ) (names : List NameId) (y : ℕ)
    → ((j : ℕ) (d : NameId) → j < length names → (let other = get_or names j d in y < other.0))
    → get_or (first_temps current n names) y 0 ≡ get_or current y 0
first_old current n [] y h = refl
first_old current n (name ∷ names) y h =
    let first : y < name.0 = h 0 name (omega arith) in
    let other : y ≢ name.0 = omega arith in
    first_old (set current name.0 n) (n + 1) names y (λ j d below. h (suc j) d (omega arith)) ∙ get_or-set_other current name.0 y n 0 other

pub first_temp : (current : List ℕ) (n : ℕ) (names : List NameId) (i : ℕ) (d : NameId) → Rises names
    → All (λ (name : NameId). name.0 < length current) names → i < length names
    → (let name = get_or names i d in get_or (first_temps current n names) name.0 0) ≡ n + i
first_temp current n [] i d rises inside h = absurd (omega arith)
first_temp current n (name ∷ names) zero d rises inside h =
    let below : name.0 < length current = inside 0 name (omega arith) in
    let z : n ≡ n + 0 = omega arith in
    first_old (set current name.0 n) (n + 1) names name.0 (rises_first name names rises) ∙ get_or-set_same current name.0 n 0 below ∙ z
first_temp current n (name ∷ names) (suc i) d rises inside h =
    let z : (n + 1) + i ≡ n + suc i = omega arith in
    let wide : length (set current name.0 n) ≡ length current = length-set current name.0 n in
    first_temp (set current name.0 n) (n + 1) names i d (rises_later name names rises)
    (λ j e below. (let r = inside (suc j) e (omega arith) in omega (arith, r, wide))) (omega arith) ∙ z

pub first_length : (current : List ℕ) (n : ℕ) (names : List NameId) → length (first_temps current n names) ≡ length current
first_length current n [] = refl
first_length current n (name ∷ names) = first_length (set current name.0 n) (n + 1) names ∙ length-set current name.0 n

-- ---- the parts of a block

module _ (t : Table) where
  pub body_in : (current : List ℕ) (n : ℕ) (os : List SrcOp) (rest : List ExtOp)
      → in_temps (body_ops t current n os ++ rest) ≡ in_temps rest
  body_in current n [] rest = refl
  body_in current n (o ∷ os) rest = body_in (assigned current o.dst n) (past o.dst n) os rest

  pub body_out : (current : List ℕ) (n : ℕ) (os : List SrcOp) (rest : List ExtOp)
      → out_operands (body_ops t current n os ++ rest) ≡ out_operands rest
  body_out current n [] rest = refl
  body_out current n (o ∷ os) rest = body_out (assigned current o.dst n) (past o.dst n) os rest

  pub body_ending : (current : List ℕ) (n : ℕ) (os : List SrcOp) (rest : List ExtOp)
      → ending_of (body_ops t current n os ++ rest) ≡ ending_of rest
  body_ending current n [] rest = refl
  body_ending current n (o ∷ os) rest = body_ending (assigned current o.dst n) (past o.dst n) os rest

-- what the terminator's operation reads
abbrev pub end_operands : List ℕ → ℕ → Term → List Operand
end_operands current link Fall = []
end_operands current link (Jump to) = []
end_operands current link (Branch pred sense to) = reads (get_or current pred.0 0) None ∷ []
end_operands current link (Ret value) = reads link None ∷ []

module _ (t : Table) (after : List ℕ) (link saved : ℕ) (live_out : List NameId) where
  abbrev Rest : Term → List ExtOp
  Rest term = end_ops after link term ++ out_op t after saved live_out term ∷ []

  pub rest_in : (term : Term) → in_temps (Rest term) ≡ []
  rest_in Fall = refl
  rest_in (Jump to) = refl
  rest_in (Branch pred sense to) = refl
  rest_in (Ret value) = refl

  pub rest_out : (term : Term) → out_operands (Rest term) ≡ out_operands_of t after saved live_out term
  rest_out Fall = append-nil _
  rest_out (Jump to) = append-nil _
  rest_out (Branch pred sense to) = append-nil _
  rest_out (Ret value) = append-nil _

  pub rest_ending : (term : Term) → ending_of (Rest term) ≡ record { term = term; operands = end_operands after link term }
  rest_ending Fall = refl
  rest_ending (Jump to) = refl
  rest_ending (Branch pred sense to) = refl
  rest_ending (Ret value) = refl

  pub rest_run : (term : Term) (s : LinearState) → ops_run (Rest term) s ≡ record { stop = None; state = s }
  rest_run Fall s = refl
  rest_run (Jump to) s = refl
  rest_run (Branch pred sense to) s = refl
  rest_run (Ret value) s = refl

-- ---- values that the block's end reads

pub saved_values : (v : Values) (n : ℕ) (xs : List ℕ) → ((j : ℕ) → j < length xs → v (n + j) ≡ get_or xs j 0)
    → map (value_of v) (map (λ (k : ℕ). reads k None) (range_with_len n (length xs))) ≡ xs
saved_values v n [] h = refl
saved_values v n (x ∷ xs) h =
    let z : n + 0 ≡ n = omega arith in
    let first : v n ≡ x = ap v (sym z) ∙ h 0 (omega arith) in
    let rest = saved_values v (n + 1) xs (λ j below. ap v (let q : (n + 1) + j ≡ n + suc j = omega arith in q) ∙ h (suc j) (omega arith)) in
    rw (first, rest) refl

pub kept_values : (v : Values) (f : ℕ → ℕ) (n : ℕ) (rs : List ℕ) → ((j : ℕ) → j < length rs → v (n + j) ≡ f (get_or rs j 0))
    → map (value_of v) (kept_operands n rs) ≡ map f rs
kept_values v f n [] h = refl
kept_values v f n (r ∷ rs) h =
    let z : n + 0 ≡ n = omega arith in
    let first : v n ≡ f r = ap v (sym z) ∙ h 0 (omega arith) in
    let rest = kept_values v f (n + 1) rs (λ j below. ap v (let q : (n + 1) + j ≡ n + suc j = omega arith in q) ∙ h (suc j) (omega arith))
    in
    rw (first, rest) refl

-- ---- names over an edge

pub among_contains : (names : List NameId) (n : ℕ) → is_among names n ≡ true → Contains names (name_of n)
among_contains [] n h = absurd (cc h)
among_contains (name ∷ names) n h = by (among_contains names n) (nat_eq name.0 n) refl h
  where
    by : (is_among names n ≡ true → Contains names (name_of n)) → (w : Bool) → nat_eq name.0 n ≡ w → (w || is_among names n) ≡ true
        → Contains (name ∷ names) (name_of n)
    by ih true e h = (0, omega arith, ap name_of (eqb-true name.0 n e))
    by ih false e h = (λ (r : Contains names (name_of n)). (let q : Contains (name ∷ names) (name_of n) =
        (suc r.0, (let below = r.1 in omega arith), r.2) in q)) (ih h)

pub contains_among : (names : List NameId) (name : NameId) → Contains names name → is_among names name.0 ≡ true
contains_among [] name (k, below, is) = absurd (omega arith)
contains_among (m ∷ names) name (zero, below, is) = let e : nat_eq m.0 name.0 ≡ true = rw is (grind arith) in rw e refl
contains_among (m ∷ names) name (suc k, below, is) = by (nat_eq m.0 name.0) (contains_among names name (k, omega arith, is))
  where
    by : (w : Bool) → is_among names name.0 ≡ true → (w || is_among names name.0) ≡ true
    by true h = refl
    by false h = h

pub any_found : (p : ℕ → Bool) (xs : List ℕ) → list_any p xs ≡ true → (c : ℕ) × Contains xs c × (p c ≡ true)
any_found p [] h = absurd (cc h)
any_found p (x ∷ xs) h = by (any_found p xs) (p x) refl h
  where
    by : (list_any p xs ≡ true → (c : ℕ) × Contains xs c × (p c ≡ true)) → (w : Bool) → p x ≡ w → (w || list_any p xs) ≡ true
        → (c : ℕ) × Contains (x ∷ xs) c × (p c ≡ true)
    by ih true e h = (x, (0, omega arith, refl), e)
    by ih false e h = (λ (r : (c : ℕ) × Contains xs c × (p c ≡ true)).
        (let q : (c : ℕ) × Contains (x ∷ xs) c × (p c ≡ true) = (r.0, (suc r.1.0, (let below = r.1.1 in omega arith), r.1.2), r.2) in q))
        (ih h)

pub any_true : (p : ℕ → Bool) (xs : List ℕ) (c : ℕ) → Contains xs c → p c ≡ true → list_any p xs ≡ true
any_true p [] c (k, below, is) h = absurd (omega arith)
any_true p (x ∷ xs) c (zero, below, is) h = let e : p x ≡ true = rw is h in rw e refl
any_true p (x ∷ xs) c (suc k, below, is) h = by (p x) (any_true p xs c (k, omega arith, is) h)
  where
    by : (w : Bool) → list_any p xs ≡ true → (w || list_any p xs) ≡ true
    by true h = refl
    by false h = h

pub filter_has : (p : ℕ → Bool) (k n x : ℕ) → k ≤ x → x < k + n → p x ≡ true
    → Contains (map name_of (filter p (range_with_len k n))) (name_of x)
filter_has p k zero x low high h = absurd (omega arith)
filter_has p k (suc n) x low high h = by (λ up less. filter_has p (k + 1) n x up less h) (nat_eq k x) refl
  where
    later : Contains (map name_of (filter p (range_with_len (k + 1) n))) (name_of x) → (w : Bool)
        → Contains (map name_of (if w then k ∷ filter p (range_with_len (k + 1) n) else filter p (range_with_len (k + 1) n))) (name_of x)
    later r true = (suc r.0, (let below = r.1 in omega arith), r.2)
    later r false = r

    by : (k + 1 ≤ x → x < (k + 1) + n → Contains (map name_of (filter p (range_with_len (k + 1) n))) (name_of x)) → (w : Bool)
        → nat_eq k x ≡ w
        → Contains (map name_of (filter p (range_with_len k (suc n)))) (name_of x)
    by ih true e = let same : k ≡ x = eqb-true k x e in let q : p k ≡ true = rw same h in rw q (0, omega arith, ap name_of same)
    by ih false e =
        let other : k ≢ x = λ same. (let yes : nat_eq k x ≡ true = rw same (grind arith) in cc (sym e ∙ yes)) in
        later (ih (omega arith) (omega arith)) (p k)

pub filter_all : (p : ℕ → Bool) (k n : ℕ) → All (λ (name : NameId). p name.0 ≡ true) (map name_of (filter p (range_with_len k n)))
filter_all p k zero = All-nil (λ (name : NameId). p name.0 ≡ true)
filter_all p k (suc n) = by (filter_all p (k + 1) n) (p k) refl
  where
    by : All (λ (name : NameId). p name.0 ≡ true) (map name_of (filter p (range_with_len (k + 1) n))) → (w : Bool) → p k ≡ w
        → All (λ (name : NameId). p name.0 ≡ true) (map name_of (if w then k ∷
        filter p (range_with_len (k + 1) n) else filter p (range_with_len (k + 1) n)))
    by rest true e = All-cons (λ (name : NameId). p name.0 ≡ true) (name_of k) (map name_of (filter p (range_with_len (k + 1) n))) e rest
    by rest false e = rest

pub value_by_place : (f : NameId → ℕ) (names : List NameId) (others : List ℕ) (name : NameId) → Contains names name
    → get_or (map f names ++ others) (position_or_len (λ (n : NameId). n.0 == name.0) names) 0 ≡ f name
value_by_place f [] others name (k, below, is) = absurd (omega arith)
value_by_place f (m ∷ names) others name has = by (λ later. value_by_place f names others name later) (m.0 == name.0) refl has
  where
    by : (Contains names name → get_or (map f names ++ others) (position_or_len (λ (n : NameId). n.0 == name.0) names) 0 ≡ f name)
        → (w : Bool) → (m.0 == name.0) ≡ w
        → Contains (m ∷ names) name
        → get_or (f m ∷ (map f names ++ others)) (position_or_len (λ (n : NameId). n.0 == name.0) (m ∷ names)) 0 ≡ f name
    by ih true e has = let same : m ≡ name = ap name_of (eqb-true m.0 name.0 e) in rw e (ap f same)
    by ih false e (zero, below, is) = let yes : (m.0 == name.0) ≡ true = rw is (grind arith) in absurd (cc (sym e ∙ yes))
    by ih false e (suc k, below, is) = rw (e, one-add) (ih (k, omega arith, is))

pub map_same : (f g : NameId → ℕ) (names : List NameId)
    → ((k : ℕ) (d : NameId) → k < length names → f (get_or names k d) ≡ g (get_or names k d)) → map f names ≡ map g names
map_same f g [] h = refl
map_same f g (name ∷ names) h = let first : f name ≡ g name = h 0 name (omega arith) in let rest =
    map_same f g names (λ k d below. h (suc k) d (omega arith)) in rw (first, rest) refl
