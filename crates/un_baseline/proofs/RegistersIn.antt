-- Which registers the values of an extended function may have under roomy options.
use Rattle.std.proofs.Common.{◌≡◌, ℕ, zero, suc, ◌+◌, ◌<◌, ◌≤◌, Bool, true, false, List, [], ◌∷◌, ◌++◌, length, get_or, Option, Some, None}
use Rattle.std.proofs.Common.{refl, sym, ap, subst, ◌∙◌, arith}
use Rattle.std.specs.Prelude.{◌==◌, ◌||◌, nat_lt, if◌then◌else◌, filter, Contains, IfSome}
use Rattle.std.specs.List.{range_with_len}
use Rattle.std.proofs.lemmas.Bool.Decides.{nat_tests}
use Rattle.std.proofs.lemmas.List.Elements.{Contains-append_left, Contains-append_right}
use Rattle.un_base.specs.declared.ids.TempId.{TempId}
use Rattle.un_isa.specs.declared.reg.TheConstants.{GENERALS, FIRST_SLOT}
use Rattle.un_ir.specs.declared.extended.ExtBlock.{ExtBlock}
use Rattle.un_ir.specs.declared.extended.Ext.{Ext}
use Rattle.un_model.specs.declared.model.Options.{Options}
use Rattle.un_model.specs.Registers.{is_assignable, predicate_registers, slots_of, is_home, is_truth, general_registers, value_registers}
use Rattle.un_model.specs.Registers.{begins_with_zero, with_zero}

pub contains_first : {A : Type 0} (x : A) (xs : List A) → Contains (x ∷ xs) x
contains_first x xs = (0, omega arith, refl)

pub contains_behind : {A : Type 0} (x y : A) (xs : List A) → Contains xs y → Contains (x ∷ xs) y
contains_behind x y xs h = (suc h.0, (let lt = h.1 in omega arith), h.2)

contains_range : (n c k : ℕ) → k < c → Contains (range_with_len n c) (n + k)
contains_range n zero k lt = absurd (omega arith)
contains_range n (suc c) zero lt = let z : n ≡ n + 0 = omega arith in subst (Contains (range_with_len n (suc c))) z
    (contains_first n (range_with_len (n + 1) c))
contains_range n (suc c) (suc k) lt =
    let z : n + 1 + k ≡ n + suc k = omega arith in
    contains_behind n (n + suc k) (range_with_len (n + 1) c) (subst (Contains (range_with_len (n + 1) c)) z
    (contains_range (n + 1) c k (omega arith)))

contains_filter : (test : ℕ → Bool) (xs : List ℕ) (x : ℕ) → test x ≡ true → Contains xs x → Contains (filter test xs) x
contains_filter test xs x pass h = by xs h.0 h.1 h.2
  where
    by : (ys : List ℕ) (k : ℕ) → k < length ys → get_or ys k x ≡ x → Contains (filter test ys) x
    by [] k lt at = absurd (omega arith)
    by (y ∷ ys) zero lt at = subst (λ (b : Bool). Contains (if b then y ∷ filter test ys else filter test ys) x)
        (sym (ap test at ∙ pass)) (subst (λ (z : ℕ). Contains (z ∷ filter test ys) x) (sym at) (contains_first x (filter test ys)))
    by (y ∷ ys) (suc k) lt at = kept (test y) (by ys k (omega arith) at)
      where
        kept : (b : Bool) → Contains (filter test ys) x → Contains (if b then y ∷ filter test ys else filter test ys) x
        kept true c = contains_behind y x (filter test ys) c
        kept false c = c

-- 0 is a register of every copy
pub zero_in : (rs : List ℕ) → Contains (with_zero rs) 0
zero_in [] = contains_first 0 []
zero_in (r ∷ rs) = by (r == 0) refl
  where
    by : (b : Bool) → (r == 0) ≡ b → Contains (if b then r ∷ rs else 0 ∷ r ∷ rs) 0
    by true e = let z : r ≡ 0 = grind (arith, nat_tests) in subst (λ (k : ℕ). Contains (k ∷ rs) 0) (sym z) (contains_first 0 rs)
    by false e = contains_first 0 (r ∷ rs)

pub with_zero_in : (rs : List ℕ) (r : ℕ) → Contains rs r → Contains (with_zero rs) r
with_zero_in rs r h = by (begins_with_zero rs)
  where
    by : (b : Bool) → Contains (if b then rs else 0 ∷ rs) r
    by true = h
    by false = contains_behind 0 r rs h

module _ (e : Ext) (o : Options) (entry : Bool) (block : ExtBlock) (y : TempId) where
  abbrev preds : List ℕ
  preds = if is_truth e.names block y then predicate_registers else []

  pub general_in : (r : ℕ) → r < GENERALS → (is_assignable o.regs r || is_home e.table entry block y r) ≡ true
      → Contains (general_registers e o.regs entry block y) r
  unfolding general_registers
  general_in r lt h =
      let z : 0 + r ≡ r = omega arith in
      contains_filter (λ (k : ℕ). is_assignable o.regs k || is_home e.table entry block y k) (range_with_len 0 GENERALS) r h
      (subst (Contains (range_with_len 0 GENERALS)) z (contains_range 0 GENERALS r lt))

  from_general : (r : ℕ) → Contains (general_registers e o.regs entry block y) r
      → Contains (value_registers e o.regs o.slots entry block y) r
  from_general r h = Contains-append_left (general_registers e o.regs entry block y ++ preds) (slots_of o.slots) r
      (Contains-append_left (general_registers e o.regs entry block y) preds r h)

  assignable : (regs : Option ℕ) (r : ℕ) → IfSome regs (λ (n : ℕ). 6 ≤ n) → r < 6 → is_assignable regs r ≡ true
  assignable None r six lt = let first : nat_lt r 29 ≡ true = grind (arith, nat_tests) in ap (λ (b : Bool). b || (r == 31)) first
  assignable (Some n) r six lt = grind (arith, nat_tests)

  pub low_general : (r : ℕ) → IfSome o.regs (λ (n : ℕ). 6 ≤ n) → r < 6 → Contains (general_registers e o.regs entry block y) r
  low_general r six lt = general_in r (omega arith) (ap (λ (b : Bool). b || is_home e.table entry block y r) (assignable o.regs r six lt))

  -- r0 to r5
  pub low_in : (r : ℕ) → IfSome o.regs (λ (n : ℕ). 6 ≤ n) → r < 6 → Contains (value_registers e o.regs o.slots entry block y) r
  low_in r six lt = from_general r (low_general r six lt)

  or_true : (a : Bool) → (a || true) ≡ true
  or_true true = refl
  or_true false = refl

  -- a home
  pub home_general : (r : ℕ) → r < GENERALS → is_home e.table entry block y r ≡ true → Contains (general_registers e o.regs entry block y) r
  home_general r lt home = general_in r lt (ap (λ (b : Bool). is_assignable o.regs r || b) home ∙ or_true (is_assignable o.regs r))

  pub home_in : (r : ℕ) → r < GENERALS → is_home e.table entry block y r ≡ true
      → Contains (value_registers e o.regs o.slots entry block y) r
  home_in r lt home = from_general r (home_general r lt home)

  -- p0, of a truth value
  pub predicate_in : is_truth e.names block y ≡ true → Contains (value_registers e o.regs o.slots entry block y) 32
  predicate_in truth =
      Contains-append_left (general_registers e o.regs entry block y ++ preds) (slots_of o.slots) 32
      (Contains-append_right (general_registers e o.regs entry block y) preds 32
      (subst (λ (b : Bool). Contains (if b then predicate_registers else []) 32) (sym truth) (contains_first 32 (33 ∷ 34 ∷ 35 ∷ []))))

  -- a slot
  pub slot_in : (k : ℕ) → k < o.slots → Contains (value_registers e o.regs o.slots entry block y) (FIRST_SLOT + k)
  slot_in k lt = Contains-append_right (general_registers e o.regs entry block y ++ preds) (slots_of o.slots) (FIRST_SLOT + k)
      (contains_range FIRST_SLOT o.slots k lt)
