-- What the operations of a block do besides copies lies in their domains.
use Rattle.std.proofs.Common.{◌≡◌, ⊎_elim, ℕ, zero, suc, ◌+◌, ◌-◌, ◌<◌, ◌≤◌, Bool, true, false, List, [], ◌∷◌, ◌++◌, length, map, get_or}
use Rattle.std.proofs.Common.{replicate, Option, Some, None, Contains, refl, sym, ap, subst, ◌∙◌, arith}
use Rattle.std.specs.Prelude.{◌==◌, ◌&&◌, ◌||◌, if◌then◌else◌, All, slice_get, slice_index, filter}
use Rattle.std.specs.List.{AllZip, range_with_len, list_any}
use Rattle.std.specs.Option.{option_map}
use Rattle.std.proofs.lemmas.Bool.{cases_lt}
use Rattle.std.proofs.lemmas.Bool.Decides.{nat_tests}
use Rattle.std.proofs.lemmas.List.Folds.{list_any_at}
use Rattle.std.proofs.lemmas.Option.{slice_get_within, slice_get-get_or}
use Rattle.un_base.specs.declared.ids.NameId.{NameId}
use Rattle.un_base.specs.declared.ids.TempId.{TempId}
use Rattle.un_isa.specs.Fit.{IsFit}
use Rattle.un_isa.specs.Registers.{callee_saved, saved_registers}
use Rattle.un_isa.specs.declared.op.Op.{Op}
use Rattle.un_isa.specs.declared.op.Op.TheVariants.{Call}
use Rattle.un_isa.specs.declared.reg.Reg.{Reg}
use Rattle.un_isa.specs.declared.reg.TheConstants.{LINK, GENERALS}
use Rattle.un_isa.specs.declared.table.Table.{Table}
use Rattle.un_isa.specs.Tables.{in_mask}
use Rattle.un_ir.specs.declared.function.SrcOp.{SrcOp}
use Rattle.un_ir.specs.declared.function.Term.{Term}
use Rattle.un_ir.specs.declared.extended.ExtKind.TheVariants.{In, Body, End, Enter, Leave}
use Rattle.un_ir.specs.declared.extended.Operand.{Operand}
use Rattle.un_ir.specs.declared.extended.ExtOp.{ExtOp}
use Rattle.un_ir.specs.declared.extended.ExtBlock.{ExtBlock}
use Rattle.un_ir.specs.declared.extended.Ext.{Ext}
use Rattle.un_ir.specs.ExtendOf.{frame_op}
use Rattle.un_ir.proofs.NameBounds.{at_all}
use Rattle.un_model.specs.declared.model.Options.{Options}
use Rattle.un_model.specs.Instructions.{gives_truth}
use Rattle.un_model.specs.Pairs.{places_from, any_from}
use Rattle.un_model.specs.Registers.{reg_at, predicate_registers, general_registers, value_registers, start_home, saved_home, result_home}
use Rattle.un_model.specs.Registers.{is_register, is_result_home, is_operand_home, is_home}
use Rattle.un_model.specs.Solutions.{InDomain}
use Rattle.un_model.specs.Variables.{choice_domain, home_domain, source_domain, start_domain}
use Rattle.un_domains.specs.declared.domain.Domain.{Domain}
use Rattle.un_domains.specs.declared.domain.Domain.TheVariants.{Set}
use Rattle.un_baseline.specs.declared.plan.Purpose.{Purpose}
use Rattle.un_baseline.specs.declared.plan.Setting.{Setting}
use Rattle.un_baseline.specs.declared.plan.Progress.{Progress}
use Rattle.un_baseline.specs.declared.plan.TheConstants.{PREDICATE}
use Rattle.un_baseline.specs.RoomyOptions.{AreRoomy}
use Rattle.un_baseline.specs.SpillEverywhere.{slot_of, start_register, operand_place, step_of, setting_of}
use Rattle.un_baseline.proofs.InDomains.{StepIn}
use Rattle.un_baseline.proofs.RegistersIn.{contains_first, low_general, home_in, slot_in}

-- ---- lists

pub places_zip : {A : Type 0} (f : ℕ → A → ℕ) (h : ℕ → A → Domain) (k : ℕ) (xs : List A)
    → ((j : ℕ) (x : A) → slice_get xs j ≡ Some x → InDomain (f (k + j) x) (h (k + j) x))
    → AllZip InDomain (places_from f k xs) (places_from h k xs)
places_zip f h k [] each = tt
places_zip f h k (x ∷ xs) each =
    let z : k + 0 ≡ k = omega arith in (
      subst (λ (m : ℕ). InDomain (f m x) (h m x)) z (each 0 x refl),
      places_zip f h (k + 1) xs (λ j y at.
          let q : k + suc j ≡ k + 1 + j = omega arith in subst (λ (m : ℕ). InDomain (f m y) (h m y)) q (each (suc j) y at)),
    )

same_zip : {A : Type 0} (r : ℕ) (h : ℕ → A → Domain) (k : ℕ) (xs : List A) → ((j : ℕ) (x : A) → InDomain r (h j x))
    → AllZip InDomain (replicate (length xs) r) (places_from h k xs)
same_zip r h k [] each = tt
same_zip r h k (x ∷ xs) each = (each k x, same_zip r h (k + 1) xs each)

last_choices : (ys : List Operand) → AllZip InDomain (map operand_place ys) (map choice_domain ys)
last_choices [] = tt
last_choices (y ∷ ys) = ((omega arith, omega arith), last_choices ys)

pub placed_choices : (f : ℕ → Operand → ℕ) (k : ℕ) (ys : List Operand)
    → ((j : ℕ) (y : Operand) → slice_get ys j ≡ Some y → f (k + j) y ≤ length y.alts - 1)
    → AllZip InDomain (places_from f k ys) (map choice_domain ys)
placed_choices f k [] each = tt
placed_choices f k (y ∷ ys) each =
    let z : k + 0 ≡ k = omega arith in
    let here = subst (λ (m : ℕ). f m y ≤ length y.alts - 1) z (each 0 y refl) in (
      (omega arith, here),
      placed_choices f (k + 1) ys (λ j x at.
          let q : k + suc j ≡ k + 1 + j = omega arith in subst (λ (m : ℕ). f m x ≤ length x.alts - 1) q (each (suc j) x at)),
    )

pub any_from_at : {A : Type 0} (test : ℕ → A → Bool) (k : ℕ) (xs : List A) (m : ℕ) (x : A) → slice_get xs m ≡ Some x → test (k + m) x ≡ true
    → any_from test k xs ≡ true
any_from_at test k [] m x at h = absurd (cc at)
any_from_at test k (y ∷ xs) zero x at h =
    let e : y ≡ x = cc at in
    let z : k ≡ k + 0 = omega arith in
    ap (λ (b : Bool). b || any_from test (k + 1) xs) (ap (test k) e ∙ ap (λ (n : ℕ). test n x) z ∙ h)
any_from_at test k (y ∷ xs) (suc m) x at h =
    let z : k + 1 + m ≡ k + suc m = omega arith in
    ap (λ (b : Bool). test k y || b) (any_from_at test (k + 1) xs m x at (ap (λ (n : ℕ). test n x) z ∙ h)) ∙ or_true (test k y)
  where
    or_true : (a : Bool) → (a || true) ≡ true
    or_true true = refl
    or_true false = refl

pub any_contains : {A : Type 0} (test : A → Bool) (xs : List A) (x : A) → Contains xs x → test x ≡ true → list_any test xs ≡ true
any_contains test xs x c h = list_any_at test xs c.0 x c.1 (ap test c.2 ∙ h)

pub same_number : (n : ℕ) → (n == n) ≡ true
same_number n = grind (arith, nat_tests)

-- ---- saved registers

range_small : (n c i : ℕ) (r : ℕ) → slice_get (range_with_len n c) i ≡ Some r → r < n + c
range_small n zero i r at = absurd (cc at)
range_small n (suc c) zero r at = let e : n ≡ r = cc at in omega arith
range_small n (suc c) (suc i) r at = let s = range_small (n + 1) c i r at in omega arith

filter_small : (test : ℕ → Bool) (xs : List ℕ) (bound i r : ℕ) → ((k q : ℕ) → slice_get xs k ≡ Some q → q < bound)
    → slice_get (filter test xs) i ≡ Some r → r < bound
filter_small test [] bound i r small at = absurd (cc at)
filter_small test (x ∷ xs) bound i r small at = by (test x) i at (λ j g. filter_small test xs bound j r (λ k q h. small (suc k) q h) g)
  where
    by : (b : Bool) (i : ℕ) → slice_get (if b then x ∷ filter test xs else filter test xs) i ≡ Some r
        → ((j : ℕ) → slice_get (filter test xs) j ≡ Some r → r < bound) → r < bound
    by true zero at rest = small 0 r at
    by true (suc i) at rest = rest i at
    by false i at rest = rest i at

append_one : (xs : List ℕ) (y i r bound : ℕ) → ((k : ℕ) → slice_get xs k ≡ Some r → r < bound) → y < bound
    → slice_get (xs ++ y ∷ []) i ≡ Some r → r < bound
append_one [] y zero r bound small lt at = let e : y ≡ r = cc at in omega arith
append_one [] y (suc i) r bound small lt at = absurd (cc at)
append_one (x ∷ xs) y zero r bound small lt at = small 0 at
append_one (x ∷ xs) y (suc i) r bound small lt at = append_one xs y i r bound (λ k h. small (suc k) h) lt at

pub saved_small : (t : Table) (i r : ℕ) → slice_get (saved_registers t) i ≡ Some r → r < GENERALS
unfolding callee_saved
saved_small t i r at =
    append_one (callee_saved t) LINK i r GENERALS (λ k h. filter_small (in_mask t.saved) (range_with_len 0 GENERALS) GENERALS k r
    (λ j q g. let s = range_small 0 GENERALS j q g in omega arith) h) (omega arith) at

module _ (e : Ext) (o : Options) (roomy : AreRoomy e o) (fit : IsFit e.table) (entry : Bool) (block : ExtBlock) where
  abbrev s : Setting
  s = setting_of e entry block

  -- ---- operations of the source, terminators, Enter and Leave

  other_register : (x : TempId) (b : Bool)
      → InDomain (if b then PREDICATE else 0) (Set (if b then predicate_registers else general_registers e o.regs entry block x))
  other_register x true = contains_first 32 (33 ∷ 34 ∷ 35 ∷ [])
  other_register x false = low_general e o entry block x 0 roomy.regs (omega arith)

  body_register : (op : Op) (x : TempId) → InDomain (if gives_truth op then PREDICATE else 0) (source_domain e o entry block op x)
  body_register Call x = subst (λ (r : ℕ). Contains (r ∷ []) 0) (sym fit.result) (contains_first 0 [])
  body_register op x = other_register x (gives_truth op)

  pub body_in : (p : Progress) (purpose : Purpose) (src : SrcOp) (ys : List Operand) (results : List TempId)
      → (let op : ExtOp = record { kind = Body src; operands = ys; results = results } in
      StepIn e o entry block op (step_of e block s p purpose op (Body src)))
  body_in p purpose src ys results = record {
    instr = tt;
    choices = last_choices ys;
    registers = same_zip (if gives_truth src.op then PREDICATE else 0) (λ (j : ℕ) (x : TempId). source_domain e o entry block src.op x) 0
        results
        (λ j x. body_register src.op x);
  }

  pub end_in : (p : Progress) (purpose : Purpose) (term : Term) (ys : List Operand)
      → (let op : ExtOp = record { kind = End term; operands = ys; results = [] } in
      StepIn e o entry block op (step_of e block s p purpose op (End term)))
  end_in p purpose term ys = record { instr = tt; choices = last_choices ys; registers = tt }

  pub enter_in : (p : Progress) (purpose : Purpose) → StepIn e o entry block (frame_op Enter) (step_of e block s p purpose (frame_op
      Enter) Enter)
  enter_in p purpose = record { instr = ((omega arith, omega arith), tt); choices = tt; registers = tt }

  pub leave_in : (p : Progress) (purpose : Purpose) → StepIn e o entry block (frame_op Leave) (step_of e block s p purpose (frame_op
      Leave) Leave)
  leave_in p purpose = record { instr = ((omega arith, omega arith), tt); choices = tt; registers = tt }

  -- ---- the values at a block's start

  module _ (results : List TempId) (live : All (λ (x : NameId). x.0 < length e.names) block.live_in)
      (size : length results ≡ length block.live_in + length (saved_registers e.table)) where
    abbrev start : ExtOp
    start = record { kind = In; operands = []; results = results }

    name_small : (j : ℕ) (name : NameId) → slice_get block.live_in j ≡ Some name → name.0 < length e.names
    name_small j name at = at_all (λ (x : NameId). x.0 < length e.names) block.live_in j name live at

    -- the saved value at place j behind the names
    saved_at : (j : ℕ) (x : TempId) → slice_get results j ≡ Some x → slice_get block.live_in j ≡ None
        → slice_get (saved_registers e.table) (j - length block.live_in) ≡ Some (slice_index (saved_registers e.table) (j - length
        block.live_in))
    saved_at j x at none =
        let lt = slice_get_within results j x at in
        let past : length block.live_in ≤ j = ⊎_elim (λ (l : j < length block.live_in).
        let z : Some (get_or block.live_in j (record { 0 = 0 })) ≡ None = sym (slice_get-get_or block.live_in j (record { 0 = 0 }) l) ∙
        none in
        absurd (cc z)) (λ (l : length block.live_in ≤ j). l) (cases_lt j (length block.live_in)) in
        slice_get-get_or (saved_registers e.table) (j - length block.live_in) 0 (omega arith)

    -- a saved value has its register as home
    pub start_home_in : (among : Contains block.ops start) (j r : ℕ) (x : TempId) → slice_get results j ≡ Some x
        → start_home e.table entry block.live_in j (slice_get block.live_in j) ≡ Some (reg_at r) → is_home e.table entry block x r ≡ true
    start_home_in among j r x at home =
        let test : ℕ → TempId → Bool = λ k y. (y.0 == x.0) && is_register (result_home e.table entry block.live_in In k) r in
        let zero_more : 0 + j ≡ j = omega arith in
        let here : test (0 + j) x ≡ true =
        ap (λ (k : ℕ). test k x) zero_more ∙ ap (λ (b : Bool). b && is_register (result_home e.table entry block.live_in In j) r)
        (same_number x.0)
        ∙ ap (λ (h : Option Reg). is_register h r) home ∙ same_number r in
        any_contains (λ (op : ExtOp). is_operand_home op x r || is_result_home e.table entry block.live_in op x r) block.ops start among
        (any_from_at test 0 results j x at here)

    entry_register : (j : ℕ) (x : TempId) (name : Option NameId) → slice_get block.live_in j ≡ name → slice_get results j ≡ Some x
        → entry ≡ true → InDomain (start_register e.table s block.live_in j name) (home_domain (start_home e.table true block.live_in j
        name))
    entry_register j x (Some name) is at first =
        subst (λ (b : Bool). Contains (slice_index e.table.args name.0 ∷ []) (if b then slice_index e.table.args name.0 else slot_of
        name)) (sym first)
        (contains_first (slice_index e.table.args name.0) [])
    entry_register j x None is at first =
        let r = slice_index (saved_registers e.table) (j - length block.live_in) in
        subst (λ (b : Bool). InDomain (if b then r else (if j + 1 == s.values then s.link else r)) (home_domain (saved_home e.table (j -
        length
        block.live_in)))) (sym first)
        (subst (λ (x : Option ℕ). InDomain r (home_domain (option_map reg_at x))) (sym (saved_at j x at is)) (contains_first r []))

    other_start : (among : Contains block.ops start) (j : ℕ) (x : TempId) (name : Option NameId) → slice_get block.live_in j ≡ name
        → slice_get results j ≡ Some x → entry ≡ false
        → Contains (value_registers e o.regs o.slots entry block x) (start_register e.table s block.live_in j name)
    other_start among j x (Some name) is at later =
        subst (λ (b : Bool). Contains (value_registers e o.regs o.slots entry block x) (if b then slice_index e.table.args name.0 else
        slot_of name))
        (sym later) (slot_in e o entry block x name.0 (let lt = name_small j name is in let slots = roomy.slots in omega arith))
    other_start among j x None is at later =
        let r = slice_index (saved_registers e.table) (j - length block.live_in) in
        let there = saved_at j x at is in
        let home : start_home e.table entry block.live_in j (slice_get block.live_in j) ≡ Some (reg_at r) =
        ap (start_home e.table entry block.live_in j) is ∙ ap (option_map reg_at) there in
        subst (λ (b : Bool). Contains (value_registers e o.regs o.slots entry block x) (if b then r else (if j + 1 == s.values then
        s.link else r)))
        (sym later)
        (by (j + 1 == s.values) (home_in e o entry block x r (saved_small e.table (j - length block.live_in) r there)
        (start_home_in among j r x at home)))
      where
        by : (b : Bool) → Contains (value_registers e o.regs o.slots entry block x) (slice_index (saved_registers e.table) (j - length
            block.live_in))
            → Contains (value_registers e o.regs o.slots entry block x) (if b then s.link else slice_index (saved_registers e.table)
            (j - length block.live_in))
        by true h = slot_in e o entry block x (length e.names) roomy.slots
        by false h = h

    start_by : (among : Contains block.ops start) (first : Bool) → entry ≡ first → (j : ℕ) (x : TempId) → slice_get results j ≡ Some x
        → InDomain (start_register e.table s block.live_in j (slice_get block.live_in j)) (start_domain e o first block j x)
    start_by among true is j x at = entry_register j x (slice_get block.live_in j) refl at is
    start_by among false is j x at =
        subst (λ (b : Bool). Contains (value_registers e o.regs o.slots b block x) (start_register e.table s block.live_in j (slice_get
        block.live_in j))) is (other_start among j x (slice_get block.live_in j) refl at is)

    pub start_in : (among : Contains block.ops start) (p : Progress) (purpose : Purpose)
        → StepIn e o entry block start (step_of e block s p purpose start In)
    start_in among p purpose = record {
      instr = tt;
      choices = tt;
      registers = places_zip (λ (j : ℕ) (x : TempId). start_register e.table s block.live_in j (slice_get block.live_in j))
          (λ (j : ℕ) (x : TempId). start_domain e o entry block j x) 0 results (λ j x at.
          let z : j ≡ 0 + j = omega arith in
          subst (λ (k : ℕ). InDomain (start_register e.table s block.live_in k (slice_get block.live_in k)) (start_domain e o entry block
          k x)) z
          (start_by among entry refl j x at));
    }
