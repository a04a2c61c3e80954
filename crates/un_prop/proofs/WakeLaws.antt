-- Steps of the loops over rows and flags.
use Rattle.std.proofs.Common.{ℕ, zero, suc, replicate, ◌≡◌, ◌≢◌, ◌<◌, ◌+◌, ◌⊎◌, Bool, true, false, List, [], ◌∷◌, ◌++◌, length, get_or, set}
use Rattle.std.proofs.Common.{drop, drop-cons, add-one, nat_eq, All, refl, sym, ap, ◌∙◌, subst, arith, inl, inr}
use Rattle.std.proofs.lemmas.Bool.{cases_lt}
use Rattle.std.proofs.lemmas.Bool.Decides.{nat_tests}
use Rattle.std.proofs.lemmas.List.{get_or-set_same, get_or-set_other, get_or_default, get_or_past, get_or-replicate, length-replicate}
use Rattle.un_base.specs.declared.ids.VarId.{VarId}
use Rattle.un_domains.specs.Sets.{Sets, set_at, has}
use Rattle.un_domains.specs.SetLaws.{has-cons, same_or_not}
use Rattle.un_prop.specs.Queues.{waits, Grows, AllWait, Entered}

pub has_here : (x : ℕ) (xs : List ℕ) → has (x ∷ xs) x ≡ true
has_here x xs = let e : nat_eq x x ≡ true = grind (arith, nat_tests) in rw e refl

pub has_later : (y x : ℕ) (xs : List ℕ) → has xs x ≡ true → has (y ∷ xs) x ≡ true
has_later y x xs h = by (nat_eq x y) refl
  where
    by : (b : Bool) → nat_eq x y ≡ b → has (y ∷ xs) x ≡ true
    by true e = rw e refl
    by false e = rw e h

pub has_get : (xs : List ℕ) (i d : ℕ) → i < length xs → has xs (get_or xs i d) ≡ true
has_get [] i d lt = absurd (omega arith)
has_get (x ∷ xs) zero d lt = has_here x xs
has_get (x ∷ xs) (suc i) d lt = has_later x (get_or xs i d) xs (has_get xs i d (omega arith))

pub has_append_last : (xs : List ℕ) (i : ℕ) → has (xs ++ i ∷ []) i ≡ true
has_append_last [] i = has_here i []
has_append_last (x ∷ xs) i = has_later x i (xs ++ i ∷ []) (has_append_last xs i)

pub has_append_first : (xs : List ℕ) (i j : ℕ) → has xs j ≡ true → has (xs ++ i ∷ []) j ≡ true
has_append_first [] i j h = absurd (cc h)
has_append_first (x ∷ xs) i j h = elim (has-cons x j xs h) [
  | inl e ↦ subst (λ (k : ℕ). has (k ∷ (xs ++ i ∷ [])) j ≡ true) e (has_here j (xs ++ i ∷ []))
  | inr k ↦ has_later x j (xs ++ i ∷ []) (has_append_first xs i j k)
]

pub has_append_split : (xs : List ℕ) (i j : ℕ) → has (xs ++ i ∷ []) j ≡ true → (has xs j ≡ true) ⊎ (j ≡ i)
has_append_split [] i j h = elim (has-cons i j [] h) [ inl e ↦ inr e | inr k ↦ absurd (cc k) ]
has_append_split (x ∷ xs) i j h = elim (has-cons x j (xs ++ i ∷ []) h) [
  | inl e ↦ inl (subst (λ (k : ℕ). has (k ∷ xs) j ≡ true) e (has_here j xs))
  | inr k ↦ elim (has_append_split xs i j k) [ inl l ↦ inl (has_later x j xs l) | inr e ↦ inr e ]
]

-- a row with one more place
pub one_more : (rows : Sets) (v i : ℕ) → v < length rows → (has (set_at (set rows v (set_at rows v ++ i ∷ [])) v) i ≡ true)
    × ((w j : ℕ) → has (set_at rows w) j ≡ true → has (set_at (set rows v (set_at rows v ++ i ∷ [])) w) j ≡ true)
    × ((w j : ℕ) → has (set_at (set rows v (set_at rows v ++ i ∷ [])) w) j ≡ true → (has (set_at rows w) j ≡ true) ⊎ (j ≡ i))
one_more rows v i within = (
  subst (λ (xs : List ℕ). has xs i ≡ true) (sym at) (has_append_last (set_at rows v) i),
  λ w j h. elim (same_or_not w v) [
    | inl e ↦ subst (λ (u : ℕ). has (set_at now u) j ≡ true) (sym e)
        (subst (λ (xs : List ℕ). has xs j ≡ true) (sym at) (has_append_first (set_at rows v) i j
        (subst (λ (u : ℕ). has (set_at rows u) j ≡ true) e h)))
    | inr ne ↦ subst (λ (xs : List ℕ). has xs j ≡ true) (sym (get_or-set_other rows v w (set_at rows v ++ i ∷ []) [] ne)) h
  ],
  λ w j h. elim (same_or_not w v) [
    | inl e ↦ elim (has_append_split (set_at rows v) i j (subst (λ (xs : List ℕ). has xs j ≡ true) at
        (subst (λ (u : ℕ). has (set_at now u) j ≡ true) e h))) [
          | inl k ↦ inl (subst (λ (u : ℕ). has (set_at rows u) j ≡ true) (sym e) k)
          | inr s ↦ inr s
        ]
    | inr ne ↦ inl (subst (λ (xs : List ℕ). has xs j ≡ true) (get_or-set_other rows v w (set_at rows v ++ i ∷ []) [] ne) h)
  ],
)
  where
    now : Sets
    now = set rows v (set_at rows v ++ i ∷ [])

    at : set_at (set rows v (set_at rows v ++ i ∷ [])) v ≡ set_at rows v ++ i ∷ []
    at = get_or-set_same rows v (set_at rows v ++ i ∷ []) [] within

-- a flag that is set
pub flag_set : (ws : List Bool) (i : ℕ) → i < length ws → (waits (set ws i true) i ≡ true) × Grows ws (set ws i true)
flag_set ws i within = (
  get_or-set_same ws i true false within,
  λ j h. elim (same_or_not j i) [
    | inl e ↦ subst (λ (k : ℕ). waits (set ws i true) k ≡ true) (sym e) (get_or-set_same ws i true false within)
    | inr ne ↦ get_or-set_other ws i j true false ne ∙ h
  ],
)

-- what is not yet passed, after one more
pub passed : (xs : List ℕ) (k j d : ℕ) → k < length xs → has (drop k xs) j ≡ true → (j ≡ get_or xs k d) ⊎ (has (drop (k + 1) xs) j ≡ true)
passed xs k j d lt h = has-cons (get_or xs k d) j (drop (k + 1) xs)
    (subst (λ (ys : List ℕ). has ys j ≡ true) (drop-cons xs k d lt ∙ ap (λ (n : ℕ). get_or xs k d ∷ drop n xs) (sym (add-one k))) h)

pub row_at : (table : Sets) (at : ℕ) (row : List ℕ) → at < length table → row ≡ get_or table at row → row ≡ set_at table at
row_at table at row lt e = e ∙ get_or_default table at row [] lt

module _ (vars : List VarId) (sets : Sets) (sizes : List ℕ) (k at size : ℕ) (below : k < length vars)
    (is : (d : VarId) → (get_or vars k d).0 ≡ at) (within : at < length sizes) (same : size ≡ length (set_at sets at))
    (so_far : (j : ℕ) (d : VarId) → j < k → get_or sizes (get_or vars j d).0 0 ≡ length (set_at sets (get_or vars j d).0)) where
  earlier : (j : ℕ) (d : VarId) → j < k + 1 → (get_or vars j d).0 ≢ at → j < k
  earlier j d lt ne = elim (same_or_not j k) [
    | inl e ↦ absurd (ne (subst (λ (i : ℕ). (get_or vars i d).0 ≡ at) (sym e) (is d)))
    | inr other ↦ omega (arith, lt, other)
  ]

  pub noted_then : (j : ℕ) (d : VarId) → j < k + 1 → get_or (set sizes at size) (get_or vars j d).0 0 ≡ length
      (set_at sets (get_or vars j d).0)
  noted_then j d lt = elim (same_or_not (get_or vars j d).0 at) [
    | inl e ↦ subst (λ (u : ℕ). get_or (set sizes at size) u 0 ≡ length (set_at sets u)) (sym e)
        (get_or-set_same sizes at size 0 within ∙ same)
    | inr ne ↦ get_or-set_other sizes at (get_or vars j d).0 size 0 ne ∙ so_far j d (earlier j d lt ne)
  ]

  pub noted_else : size ≡ get_or sizes at 0 → (j : ℕ) (d : VarId) → j < k + 1
      → get_or sizes (get_or vars j d).0 0 ≡ length (set_at sets (get_or vars j d).0)
  noted_else as_noted j d lt = elim (same_or_not (get_or vars j d).0 at) [
    | inl e ↦ subst (λ (u : ℕ). get_or sizes u 0 ≡ length (set_at sets u)) (sym e) (sym as_noted ∙ same)
    | inr ne ↦ so_far j d (earlier j d lt ne)
  ]

-- sizes and flags after one variable that changed
pub woken_then : (table : Sets) (first sizes : List ℕ) (ws ws' : List Bool) (at size : ℕ) → AllWait table ws' at → Grows ws ws'
    → ((w : ℕ) → (get_or sizes w 0 ≡ get_or first w 0) ⊎ AllWait table ws w)
    → (w : ℕ) → (get_or (set sizes at size) w 0 ≡ get_or first w 0) ⊎ AllWait table ws' w
woken_then table first sizes ws ws' at size here grows so_far w = elim (same_or_not w at) [
  | inl e ↦ inr (subst (AllWait table ws') (sym e) here)
  | inr ne ↦ elim (so_far w) [
    | inl e ↦ inl (get_or-set_other sizes at w size 0 ne ∙ e)
    | inr all ↦ inr (λ i h. grows i (all i h))
  ]
]

-- the table of the first i propagators
pub record Filled {P : Type 0} (scope : P → List VarId) (ps : List P) (vars i : ℕ) (rows : Sets) : Type 0 where
  pub long : length rows ≡ vars
  pub there : (j : ℕ) (d : P) → j < i → All (λ v. has (set_at rows v.0) j ≡ true) (scope (get_or ps j d))
  pub within : (v j : ℕ) → has (set_at rows v) j ≡ true → j < i

set_at_replicate : (n v : ℕ) → set_at (replicate n []) v ≡ []
set_at_replicate n v = elim (cases_lt v n) [
  | inl lt ↦ get_or-replicate n v [] [] lt
  | inr le ↦ get_or_past (replicate n []) v [] (omega (arith, le, length-replicate {A = List ℕ} n []))
]

pub filled_first : {P : Type 0} (scope : P → List VarId) (ps : List P) (vars : ℕ) (rows : Sets) → rows ≡ replicate vars []
    → Filled scope ps vars 0 rows
filled_first scope ps vars rows e = record {
  long = ap length e ∙ length-replicate vars [];
  there = λ j d lt. absurd (omega (arith, lt));
  within = λ v j h. absurd (let none : has [] j ≡ true = subst (λ (xs : List ℕ). has xs j ≡ true)
      (ap (λ (t : Sets). set_at t v) e ∙ set_at_replicate vars v) h in cc none);
}

pub filled_next : {P : Type 0} (scope : P → List VarId) (ps : List P) (vars i : ℕ) (p : P) (vs : List VarId) (rows rows' : Sets)
    → i < length ps → p ≡ get_or ps i p → vs ≡ scope p → Filled scope ps vars i rows → Entered vs i rows rows'
    → Filled scope ps vars (i + 1) rows'
filled_next scope ps vars i p vs rows rows' lt at is so_far new = record {
  long = new.long ∙ so_far.long;
  there = λ j d below. elim (same_or_not j i) [
    | inl e ↦ subst (λ (k : ℕ). All (λ v. has (set_at rows' v.0) k ≡ true) (scope (get_or ps k d))) (sym e)
        (subst (λ (us : List VarId). All (λ v. has (set_at rows' v.0) i ≡ true) us) (is ∙ ap scope (at ∙ get_or_default ps i p d lt))
        new.there)
    | inr ne ↦ (λ k x under. new.grows (get_or (scope (get_or ps j d)) k x).0 j (so_far.there j d (omega (arith, below, ne)) k x under))
  ];
  within = λ v j h. elim (new.alone v j h) [ inl old ↦ (let before = so_far.within v j old in omega arith) | inr e ↦ omega (arith, e) ];
}
