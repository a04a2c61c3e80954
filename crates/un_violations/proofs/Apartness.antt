-- The first cycles in which operations may issue after others, and whether they do.
use Rattle.std.proofs.Common.{◌≡◌, ◌≢◌, ◌↔◌, ◌⊎◌, inl, inr, ℕ, zero, suc, ◌+◌, ◌<◌, ◌≤◌, Bool, true, false, ◌==◌, IsTrue, Option, Some}
use Rattle.std.proofs.Common.{None, List, [], ◌∷◌, ◌++◌, length, length-set, length-take, get_or, take, max, set, All, AllPairs, refl, sym}
use Rattle.std.proofs.Common.{ap, subst, ◌∙◌, arith}
use Rattle.std.specs.Prelude.{IfSome, fold}
use Rattle.std.proofs.lemmas.Bool.{cases_lt, cases_eq, eqb-true, eq-eqb}
use Rattle.std.proofs.lemmas.List.{get_or_default, get_or-take, take_more, get_or-set_same, get_or-set_other}
use Rattle.un_isa.specs.declared.op.Op.{Op}
use Rattle.un_isa.specs.declared.op.Op.TheVariants.{Load, Store, Call, Spill, Reload, Enter, Leave}
use Rattle.un_violations.specs.declared.bounds.Rule.{Rule}
use Rattle.un_violations.specs.declared.bounds.Rule.TheVariants.{Memory, Frame}
use Rattle.un_violations.specs.declared.bounds.Bounds.{Bounds}
use Rattle.un_model.specs.declared.schedule.Issue.{Issue}
use Rattle.un_violations.specs.Orders.{cycle_after, after_issue, earliest, distance_of, bound_for, AreBounds, HaveBounds, IsAfter}
use Rattle.un_model.specs.Solutions.{Precedes, after_write, after_load, after_enter, before_leave, KeepsFrameOrder}

-- ---- instructions that nothing keeps apart

abbrev is_bounded : Option Op → Bool
is_bounded (Some Load) = true
is_bounded (Some Store) = true
is_bounded (Some Call) = true
is_bounded (Some Spill) = true
is_bounded (Some Reload) = true
is_bounded (Some Leave) = true
is_bounded _ = false

free_after_write : (later : Option Op) → is_bounded later ≡ false → after_write later ≡ None
free_after_write (Some Load) h = absurd (cc h)
free_after_write (Some Store) h = absurd (cc h)
free_after_write (Some Call) h = absurd (cc h)
free_after_write _ h = refl

free_after_load : (later : Option Op) → is_bounded later ≡ false → after_load later ≡ None
free_after_load (Some Store) h = absurd (cc h)
free_after_load (Some Call) h = absurd (cc h)
free_after_load _ h = refl

free_after_enter : (later : Option Op) → is_bounded later ≡ false → after_enter later ≡ None
free_after_enter (Some Spill) h = absurd (cc h)
free_after_enter (Some Reload) h = absurd (cc h)
free_after_enter (Some Call) h = absurd (cc h)
free_after_enter (Some Leave) h = absurd (cc h)
free_after_enter _ h = refl

free_of_leave : (n : ℕ) (later : Option Op) → is_bounded later ≡ false → before_leave n later ≡ None
free_of_leave n (Some Leave) h = absurd (cc h)
free_of_leave n _ h = refl

free_of : (rule : Rule) (earlier later : Option Op) → is_bounded later ≡ false → distance_of rule earlier later ≡ None
free_of Memory (Some Load) later h = free_after_load later h
free_of Memory (Some Store) later h = free_after_write later h
free_of Memory (Some Call) later h = free_after_write later h
free_of Memory _ later h = refl
free_of Frame (Some Enter) later h = free_after_enter later h
free_of Frame (Some Spill) later h = free_of_leave 0 later h
free_of Frame (Some Reload) later h = free_of_leave 0 later h
free_of Frame (Some Call) later h = free_of_leave 1 later h
free_of Frame _ later h = refl

-- a Reload is kept apart as a Spill is
as_spill : (rule : Rule) (earlier : Option Op) → distance_of rule earlier (Some Reload) ≡ distance_of rule earlier (Some Spill)
as_spill Memory (Some Load) = refl
as_spill Memory (Some Store) = refl
as_spill Memory (Some Call) = refl
as_spill Memory _ = refl
as_spill Frame (Some Enter) = refl
as_spill Frame (Some Spill) = refl
as_spill Frame (Some Reload) = refl
as_spill Frame (Some Call) = refl
as_spill Frame _ = refl

abbrev Later : Rule → Issue → Op → ℕ → ℕ → Type 0
Later rule i op before after = after ≡ max before (cycle_after i.cycle (distance_of rule i.instr (Some op)))

free_bound : (rule : Rule) (i : Issue) (later : Option Op) → is_bounded later ≡ false
    → 0 ≡ max 0 (cycle_after i.cycle (distance_of rule i.instr later))
free_bound rule i later h = let e = ap (cycle_after i.cycle) (free_of rule i.instr later h) in rw e (omega arith)

pub bounds_after : (rule : Rule) (b : Bounds) (i : Issue) (a : Bounds) → Later rule i Load b.load a.load
    → Later rule i Store b.store a.store → Later rule i Call b.call a.call → Later rule i Spill b.access a.access
    → Later rule i Leave b.leave a.leave → IsAfter rule b i a
bounds_after rule b i a l s k x v (Some Load) = l
bounds_after rule b i a l s k x v (Some Store) = s
bounds_after rule b i a l s k x v (Some Call) = k
bounds_after rule b i a l s k x v (Some Spill) = x
bounds_after rule b i a l s k x v (Some Reload) = let e = ap (λ (o : Option ℕ). max b.access (cycle_after i.cycle o))
    (as_spill rule i.instr) in x ∙ sym e
bounds_after rule b i a l s k x v (Some Leave) = v
bounds_after rule b i a l s k x v later = free_bound rule i later refl

-- ---- after one more operation

fold_last : (f : Issue → ℕ) (a : ℕ) (xs : List Issue) (x : Issue)
    → fold (λ (c : ℕ) (i : Issue). max c (f i)) a (xs ++ x ∷ []) ≡ max (fold (λ (c : ℕ) (i : Issue). max c (f i)) a xs) (f x)
fold_last f a [] x = refl
fold_last f a (y ∷ xs) x = fold_last f (max a (f y)) xs x

other_block : (rule : Rule) (b : ℕ) (instr : Option Op) (i : Issue) → i.block.0 ≢ b → after_issue (distance_of rule) b instr i ≡ 0
other_block rule b instr i ne = by (i.block.0 == b) refl
  where
    by : (t : Bool) → (i.block.0 == b) ≡ t → after_issue (distance_of rule) b instr i ≡ 0
    by true e = absurd (ne (eqb-true _ _ e))
    by false e = rw e refl

own_block : (rule : Rule) (b : ℕ) (instr : Option Op) (i : Issue) → i.block.0 ≡ b
    → after_issue (distance_of rule) b instr i ≡ cycle_after i.cycle (distance_of rule i.instr instr)
own_block rule b instr i e = rw (eq-eqb _ _ e) refl

max_zero : (m n : ℕ) → n ≡ 0 → max m n ≡ m
max_zero m n e = omega (arith, e)

same_bounds : (rule : Rule) (issues : List Issue) (b : ℕ) (x : Bounds) (i : Issue) → i.block.0 ≢ b → AreBounds rule issues b x
    → AreBounds rule (issues ++ i ∷ []) b x
same_bounds rule issues b x i ne h instr =
    h instr ∙ sym (max_zero _ _ (other_block rule b instr i ne)) ∙ sym (fold_last (after_issue (distance_of rule) b instr) 0 issues i)

next_bounds : (rule : Rule) (issues : List Issue) (b : ℕ) (x y : Bounds) (i : Issue) → i.block.0 ≡ b → AreBounds rule issues b x
    → IsAfter rule x i y → AreBounds rule (issues ++ i ∷ []) b y
next_bounds rule issues b x y i e h after instr =
    after instr ∙ ap (λ (n : ℕ). max n (cycle_after i.cycle (distance_of rule i.instr instr))) (h instr) ∙ ap
    (λ (n : ℕ). max (earliest (distance_of rule) issues b instr) n) (sym (own_block rule b instr i e)) ∙ sym
    (fold_last (after_issue (distance_of rule) b instr) 0 issues i)

-- the table after an operation of block b
pub have_more : (rule : Rule) (issues : List Issue) (n : ℕ) (table : List Bounds) (i : Issue) (x y : Bounds) → i.block.0 < length table
    → x ≡ get_or table i.block.0 x → IsAfter rule x i y → HaveBounds rule issues n table
    → HaveBounds rule (issues ++ i ∷ []) n (set table i.block.0 y)
have_more rule issues n table i x y lt at after h = (length-set table i.block.0 y ∙ h.0, λ b d lb. by b d lb (cases_eq b i.block.0))
  where
    by : (b : ℕ) (d : Bounds) → b < n → (b ≡ i.block.0) ⊎ (b ≢ i.block.0)
        → AreBounds rule (issues ++ i ∷ []) b (get_or (set table i.block.0 y) b d)
    by b d lb (inl e) =
        let old : AreBounds rule issues b x = subst (λ (z : Bounds). AreBounds rule issues b z)
        (ap (λ (k : ℕ). get_or table k x) e ∙ sym at) (h.1 b x lb) in
        let new : AreBounds rule (issues ++ i ∷ []) b y = next_bounds rule issues b x y i (sym e) old after in
        subst (λ (z : Bounds). AreBounds rule (issues ++ i ∷ []) b z)
        (sym (ap (λ (k : ℕ). get_or (set table i.block.0 y) k d) e ∙ get_or-set_same table i.block.0 y d lt)) new
    by b d lb (inr ne) =
        subst (λ (z : Bounds). AreBounds rule (issues ++ i ∷ []) b z) (sym (get_or-set_other table i.block.0 b y d ne))
        (same_bounds rule issues b (get_or table b d) i (λ e. ne (sym e)) (h.1 b d lb))

-- the table of so many blocks before any operation
pub have_none : (rule : Rule) (n : ℕ) (table : List Bounds) (x : Bounds) → length table ≡ n
    → ((b : ℕ) (d : Bounds) → b < n → get_or table b d ≡ x) → AreBounds rule [] 0 x → HaveBounds rule [] n table
have_none rule n table x e h none = (e, λ b d lt. subst (λ (z : Bounds). AreBounds rule [] b z) (sym (h b d lt)) none)

pub zero_bounds : (rule : Rule) (x : Bounds) → x.load ≡ 0 → x.store ≡ 0 → x.call ≡ 0 → x.access ≡ 0 → x.leave ≡ 0 → AreBounds rule [] 0 x
zero_bounds rule x a b c d e (Some Load) = a
zero_bounds rule x a b c d e (Some Store) = b
zero_bounds rule x a b c d e (Some Call) = c
zero_bounds rule x a b c d e (Some Spill) = d
zero_bounds rule x a b c d e (Some Reload) = d
zero_bounds rule x a b c d e (Some Leave) = e
zero_bounds rule x a b c d e _ = refl

-- ---- late enough

fold_le : (f : Issue → ℕ) (a c : ℕ) (xs : List Issue) → fold (λ (m : ℕ) (i : Issue). max m (f i)) a xs ≤ c
    → (a ≤ c) × ((k : ℕ) (d : Issue) → k < length xs → f (get_or xs k d) ≤ c)
fold_le f a c [] h = (h, λ k d lt. absurd (omega (arith, lt)))
fold_le f a c (x ∷ xs) h =
    let rest = fold_le f (max a (f x)) c xs h in
    (omega (arith, rest.0), λ k d lt. at k d lt rest)
  where
    at : (k : ℕ) (d : Issue) → k < length (x ∷ xs) → (max a (f x) ≤ c) × ((k : ℕ) (d : Issue) → k < length xs → f (get_or xs k d) ≤ c)
        → f (get_or (x ∷ xs) k d) ≤ c
    at zero d lt rest = let m = rest.0 in omega (arith, m)
    at (suc k) d lt rest = rest.1 k d (omega (arith, lt))

le_fold : (f : Issue → ℕ) (a c : ℕ) (xs : List Issue) → a ≤ c → ((k : ℕ) (d : Issue) → k < length xs → f (get_or xs k d) ≤ c)
    → fold (λ (m : ℕ) (i : Issue). max m (f i)) a xs ≤ c
le_fold f a c [] le h = le
le_fold f a c (x ∷ xs) le h = le_fold f (max a (f x)) c xs (let m = h zero x (omega arith) in omega (arith, m, le))
    (λ k d lt. h (suc k) d (omega (arith, lt)))

if_late : (cycle c : ℕ) (distance : Option ℕ) → cycle_after cycle distance ≤ c → IfSome distance (λ (n : ℕ). cycle + n ≤ c)
if_late cycle c None h = tt
if_late cycle c (Some n) h = h

late_if : (cycle c : ℕ) (distance : Option ℕ) → IfSome distance (λ (n : ℕ). cycle + n ≤ c) → cycle_after cycle distance ≤ c
late_if cycle c None h = omega arith
late_if cycle c (Some n) h = h

precedes : (rule : Rule) (i j : Issue) → after_issue (distance_of rule) j.block.0 j.instr i ≤ j.cycle → Precedes (distance_of rule) i j
unfolding Precedes
precedes rule i j h e = if_late i.cycle j.cycle (distance_of rule i.instr j.instr)
    (let o = own_block rule j.block.0 j.instr i e in omega (arith, h, o))

late : (rule : Rule) (i j : Issue) → Precedes (distance_of rule) i j → after_issue (distance_of rule) j.block.0 j.instr i ≤ j.cycle
unfolding Precedes
late rule i j h = by (cases_eq i.block.0 j.block.0)
  where
    by : (i.block.0 ≡ j.block.0) ⊎ (i.block.0 ≢ j.block.0) → after_issue (distance_of rule) j.block.0 j.instr i ≤ j.cycle
    by (inl e) = let o = own_block rule j.block.0 j.instr i e in let l = late_if i.cycle j.cycle (distance_of rule i.instr j.instr) (h e)
        in omega (arith, o, l)
    by (inr ne) = let o = other_block rule j.block.0 j.instr i ne in omega (arith, o)

abbrev pub IsLate : List Bounds → Issue → Type 0
IsLate table j = (d : Bounds) → bound_for (get_or table j.block.0 d) j.instr ≤ j.cycle

abbrev AllPrecede : Rule → List Issue → Issue → Type 0
AllPrecede rule issues j = (k : ℕ) (d : Issue) → k < length issues → Precedes (distance_of rule) (get_or issues k d) j

abbrev no_bounds : Bounds
no_bounds = record { load = 0; store = 0; call = 0; access = 0; leave = 0 }

pub all_precede : (rule : Rule) (issues : List Issue) (n : ℕ) (table : List Bounds) (j : Issue) → HaveBounds rule issues n table
    → j.block.0 < n → IsLate table j → AllPrecede rule issues j
all_precede rule issues n table j h lt is =
    let e = h.1 j.block.0 no_bounds lt j.instr in
    let l = is no_bounds in
    let all = fold_le (after_issue (distance_of rule) j.block.0 j.instr) 0 j.cycle issues (omega (arith, e, l)) in
    λ k d lk. precedes rule (get_or issues k d) j (all.1 k d lk)

pub is_late : (rule : Rule) (issues : List Issue) (n : ℕ) (table : List Bounds) (j : Issue) → HaveBounds rule issues n table
    → j.block.0 < n → AllPrecede rule issues j → IsLate table j
is_late rule issues n table j h lt all d =
    let e = h.1 j.block.0 d lt j.instr in
    let l = le_fold (after_issue (distance_of rule) j.block.0 j.instr) 0 j.cycle issues (omega arith)
    (λ k x lk. late rule (get_or issues k x) j (all k x lk)) in
    omega (arith, e, l)

-- ---- a loop over operations, of which the first k are in the table

pub record Kept (rule : Rule) (issues : List Issue) (n k : ℕ) (table : List Bounds) : Type 0 where
  pub bounds : HaveBounds rule (take k issues) n table
  pub order : (p q : ℕ) (d : Issue) → p < q → q < k → Precedes (distance_of rule) (get_or issues p d) (get_or issues q d)

pub kept_none : (rule : Rule) (issues : List Issue) (n : ℕ) (table : List Bounds) → HaveBounds rule [] n table → Kept rule issues n 0 table
kept_none rule issues n table h = record { bounds = h; order = λ p q d lp lq. absurd (omega (arith, lq)) }

-- all operations before place k precede the one there
before_here : (rule : Rule) (issues : List Issue) (n k : ℕ) (table : List Bounds) (j : Issue) → Kept rule issues n k table
    → k < length issues → j ≡ get_or issues k j → j.block.0 < n → IsLate table j → (p : ℕ) (d : Issue) → p < k
    → Precedes (distance_of rule) (get_or issues p d) (get_or issues k d)
before_here rule issues n k table j h lt at lb is p d lp =
    let all = all_precede rule (take k issues) n table j h.bounds lb is in
    let here : Precedes (distance_of rule) (get_or (take k issues) p d) j = all p d
    (let e = length-take k issues in omega (arith, lp, e, lt)) in
    subst (λ (i : Issue). Precedes (distance_of rule) i (get_or issues k d)) (get_or-take k issues p d lp)
    (subst (λ (i : Issue). Precedes (distance_of rule) (get_or (take k issues) p d) i) (at ∙ get_or_default issues k j d lt) here)

pub kept_more : (rule : Rule) (issues : List Issue) (n k : ℕ) (table next : List Bounds) (j : Issue) → Kept rule issues n k table
    → k < length issues → j ≡ get_or issues k j → j.block.0 < n → IsLate table j → HaveBounds rule (take k issues ++ j ∷ []) n next
    → Kept rule issues n (k + 1) next
kept_more rule issues n k table next j h lt at lb is more = record {
  bounds = subst (λ (xs : List Issue). HaveBounds rule xs n next)
      (ap (λ (i : Issue). take k issues ++ i ∷ []) at ∙ sym (take_more issues k j lt)) more;
  order = λ p q d lp lq. elim (cases_lt q k) [
    | inl a ↦ h.order p q d lp a
    | inr b ↦
        (let e : k ≡ q = omega (arith, b, lq) in subst (λ m. Precedes (distance_of rule) (get_or issues p d) (get_or issues m d)) e
        (before_here rule issues n k table j h lt at lb is p d (omega (arith, lp, e))))
  ];
}

pub not_late : (rule : Rule) (issues : List Issue) (n k : ℕ) (table : List Bounds) (j : Issue) (t : Bool) → Kept rule issues n k table
    → k < length issues → j ≡ get_or issues k j → j.block.0 < n → IsTrue t ↔ IsLate table j → t ≡ false
    → IsTrue false ↔ AllPairs (Precedes (distance_of rule)) issues
not_late rule issues n k table j t h lt at lb told e = (
  λ no. absurd (cc no),
  λ all. let y : t ≡ true = told.1
      (is_late rule (take k issues) n table j h.bounds lb
      (λ p d lp. here p d (let f = length-take k issues in omega (arith, lp, f, lt)) all)) in absurd (cc (y, e)),
)
  where
    here : (p : ℕ) (d : Issue) → p < k → AllPairs (Precedes (distance_of rule)) issues
        → Precedes (distance_of rule) (get_or (take k issues) p d) j
    here p d lp all =
        subst (λ (i : Issue). Precedes (distance_of rule) i j) (sym (get_or-take k issues p d lp))
        (subst (λ (i : Issue). Precedes (distance_of rule) (get_or issues p d) i) (sym (at ∙ get_or_default issues k j d lt))
        (all p k d lp lt))

pub all_kept : (rule : Rule) (issues : List Issue) (n k : ℕ) (table : List Bounds) → Kept rule issues n k table → length issues ≤ k
    → AllPairs (Precedes (distance_of rule)) issues
all_kept rule issues n k table h le p q d lp lq = h.order p q d lp (omega (arith, le, lq))

pub frame_told : (issues : List Issue) (n : ℕ) (table : List Bounds) (t : Bool) → All (λ (i : Issue). i.block.0 < n) issues
    → HaveBounds Frame issues n table → IsTrue t ↔ All (IsLate table) issues → IsTrue t ↔ KeepsFrameOrder issues
frame_told issues n table t below h told = (
  λ y p d lp q e lq. (let all = all_precede Frame issues n table (get_or issues q e) h (below q e lq) (told.0 y q e lq) in all p d lp),
  λ all. told.1 (λ q e lq. is_late Frame issues n table (get_or issues q e) h (below q e lq) (λ p d lp. all p d lp q e lq)),
)
