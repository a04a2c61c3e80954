-- A home with one mark more, and what the marks of a block say.
use Rattle.std.proofs.Common.{None, [], ◌∷◌, ◌+◌, ◌≤◌, ◌≡◌, ℕ, ◌<◌, Bool, true, false, nat_eq, List, Option}
use Rattle.std.proofs.Common.{Some, refl, ap, ◌∙◌, sym, arith}
use Rattle.std.specs.Prelude.{◌==◌, ◌||◌, ◌&&◌, filter, unwrap_or}
use Rattle.std.specs.BTreeMap.{BTreeMap, get, Updates}
use Rattle.std.specs.Cmp.{unsigned_tied}
use Rattle.std.specs.List.{list_any, range_with_len}
use Rattle.std.specs.Ordering.{nat_cmp}
use Rattle.std.proofs.Math.Bool.{cond}
use Rattle.std.proofs.lemmas.Bool.Decides.{nat_tests}
use Rattle.un_base.specs.declared.ids.TempId.{TempId}
use Rattle.un_isa.specs.RegSets.{has}
use Rattle.un_isa.specs.declared.reg.Reg.{Reg}
use Rattle.un_ir.specs.declared.extended.ExtOp.{ExtOp}
use Rattle.un_ir.specs.declared.extended.Operand.{Operand}
use Rattle.un_model.specs.Homes.{home_of, tells, is_told, AddsMarks, is_mark, is_operand_mark, is_result_mark, is_results_mark, is_op_mark, is_block_mark}
use Rattle.un_model.specs.Homes.{TellsHomes}
use Rattle.un_ir.specs.declared.extended.Ext.{Ext}
use Rattle.un_ir.specs.declared.extended.ExtBlock.{ExtBlock}
use Rattle.un_model.specs.declared.homes.Home.{Home}
use Rattle.un_model.specs.Pairs.{any_from}
use Rattle.un_model.specs.Registers.{is_assignable, is_register, reads_value, is_operand_home, is_result_home, is_home, result_home}
use Rattle.un_model.specs.Registers.{gives_truth_at, is_truth_of, is_truth, general_registers}
use Rattle.un_model.proofs.HomeSteps.{any_and, filter_below, below_range}
use Rattle.un_model.proofs.Steps.{or_false}

pub with_register : (h : Home) (set k r : ℕ) → k < 32 → ((q : ℕ) → has set q ≡ (has h.registers q || nat_eq k q)) → r ≤ 32
    → tells (record { registers = set; truth = h.truth }) r ≡ (tells h r || k == r)
with_register h set k r lt is le = by (r == 32) refl
  where
    by : (t : Bool) → (r == 32) ≡ t → tells (record { registers = set; truth = h.truth }) r ≡ (tells h r || k == r)
    by true e = let f : r ≡ 32 = grind (arith, nat_tests, e) in let g : (k == r) ≡ false = grind (arith, nat_tests, lt, f) in rw
        (e, g) (sym (or_false h.truth))
    by false e = rw e (is r)

pub with_truth : (h : Home) (r : ℕ) → tells (record { registers = h.registers; truth = true }) r ≡ (tells h r || 32 == r)
with_truth h r = by (r == 32) refl
  where
    last : (b : Bool) → true ≡ (b || true)
    last true = refl
    last false = refl

    by : (t : Bool) → (r == 32) ≡ t → tells (record { registers = h.registers; truth = true }) r ≡ (tells h r || 32 == r)
    by true e = let f : r ≡ 32 = grind (arith, nat_tests, e) in let g : (32 == r) ≡ true = grind (arith, nat_tests, f) in rw (e, g)
        (last h.truth)
    by false e = let g : (32 == r) ≡ false = grind (arith, nat_tests, e) in rw (e, g) (sym (or_false (has h.registers r)))

-- one value has one mark more
pub added : (old new : BTreeMap ℕ Home) (x y : TempId) (k r : ℕ) (v h : Home) → v ≡ home_of old x → Updates nat_cmp old new x.0 (Some h)
    → tells h r ≡ (tells v r || k == r)
    → is_told new y r ≡ (is_told old y r || (x.0 == y.0 && k == r))
added old new x y k r v h is updates more = go (x.0 == y.0) refl
  where
    found : get nat_cmp new y.0 ≡ cond (x.0 == y.0) (Some h) (get nat_cmp old y.0)
    found = updates.0 y.0 ∙ ap (λ (b : Bool). cond b (Some h) (get nat_cmp old y.0)) (unsigned_tied x.0 y.0)

    nothing : Home
    nothing = record { registers = 0; truth = false }

    same : x.0 ≡ y.0 → home_of old x ≡ home_of old y
    same i = ap (λ (n : ℕ). unwrap_or (get nat_cmp old n) nothing) i

    go : (b : Bool) → (x.0 == y.0) ≡ b → is_told new y r ≡ (is_told old y r || (x.0 == y.0 && k == r))
    go true t =
        let i : x.0 ≡ y.0 = grind (arith, nat_tests, t) in
        let g : home_of new y ≡ h = ap (λ (o : Option Home). unwrap_or o nothing)
        (found ∙ ap (λ (b : Bool). cond b (Some h) (get nat_cmp old y.0)) t) in
        ap (λ (m : Home). tells m r) g ∙ more ∙ ap (λ (m : Home). tells m r || k == r) (is ∙ same i) ∙ ap
        (λ (b : Bool). is_told old y r || (b && k == r)) (sym t)
    go false t =
        let g : home_of new y ≡ home_of old y = ap (λ (o : Option Home). unwrap_or o nothing)
        (found ∙ ap (λ (b : Bool). cond b (Some h) (get nat_cmp old y.0)) t) in
        ap (λ (m : Home). tells m r) g ∙ sym (or_false (is_told old y r)) ∙ ap
        (λ (b : Bool). is_told old y r || (b && k == r)) (sym t)

-- a home below 32 is no mark of a truth value
pub below_mark : (reg : Reg) (r : ℕ) → reg.0 < 32 → (reg.0 == r) ≡ is_mark false (Some reg) r
below_mark reg r lt = by (r == 32) refl
  where
    by : (t : Bool) → (r == 32) ≡ t → (reg.0 == r) ≡ is_mark false (Some reg) r
    by true e = let f : r ≡ 32 = grind (arith, nat_tests, e) in let g : (reg.0 == r) ≡ false = grind (arith, nat_tests, lt, f) in rw
        (e, g) refl
    by false e = rw e refl

-- a home of 32 or more is no mark
pub past_mark : (home : Option Reg) (reg : Reg) (r : ℕ) → home ≡ Some reg → 32 ≤ reg.0 → r ≤ 32 → is_mark false home r ≡ false
past_mark home reg r e ge le = ap (λ (h : Option Reg). is_mark false h r) e ∙ by (r == 32) refl
  where
    by : (t : Bool) → (r == 32) ≡ t → is_mark false (Some reg) r ≡ false
    by true f = rw f refl
    by false f = let g : (reg.0 == r) ≡ false = grind (arith, nat_tests, ge, le, f) in rw (f, g) refl

pub no_mark : (home : Option Reg) (r : ℕ) → home ≡ None → is_mark false home r ≡ false
no_mark home r e = ap (λ (h : Option Reg). is_mark false h r) e ∙ by (r == 32) refl
  where
    by : (t : Bool) → (r == 32) ≡ t → is_mark false None r ≡ false
    by true f = rw f refl
    by false f = rw f refl

-- nothing is added where no mark is new
pub adds_none : (is_new : TempId → ℕ → Bool) (homes : BTreeMap ℕ Home) → ((x : TempId) (r : ℕ) → r ≤ 32 → is_new x r ≡ false)
    → AddsMarks is_new homes homes
adds_none is_new homes h x r le = sym
    (ap (λ (b : Bool). is_told homes x r || b) (h x r le) ∙ or_false (is_told homes x r))

and_last : (a : Bool) → (a && false) ≡ false
and_last true = refl
and_last false = refl

pub adds_no_operand : (o : Operand) (homes : BTreeMap ℕ Home) → ((r : ℕ) → r ≤ 32 → is_mark false o.home r ≡ false)
    → AddsMarks (is_operand_mark o) homes homes
adds_no_operand o homes h = adds_none (is_operand_mark o) homes
    (λ x r le. ap (λ (b : Bool). reads_value o x && b) (h r le) ∙ and_last (reads_value o x))

pub adds_no_home : (y : TempId) (home : Option Reg) (homes : BTreeMap ℕ Home) → ((r : ℕ) → r ≤ 32 → is_mark false home r ≡ false)
    → AddsMarks (λ (x : TempId) (r : ℕ). y.0 == x.0 && is_mark false home r) homes homes
adds_no_home y home homes h = adds_none (λ (x : TempId) (r : ℕ). y.0 == x.0 && is_mark false home r) homes
    (λ x r le. ap (λ (b : Bool). y.0 == x.0 && b) (h r le) ∙ and_last (y.0 == x.0))

pub adds_own_home : (y : TempId) (home : Option Reg) (reg : Reg) (old new : BTreeMap ℕ Home) → home ≡ Some reg → reg.0 < 32
    → AddsMarks (λ (x : TempId) (r : ℕ). y.0 == x.0 && reg.0 == r) old new
    → AddsMarks (λ (x : TempId) (r : ℕ). y.0 == x.0 && is_mark false home r) old new
adds_own_home y home reg old new e lt h x r le =
    h x r le ∙ ap (λ (c : Bool). is_told old x r || (y.0 == x.0 && c))
    (below_mark reg r lt ∙ ap (λ (o : Option Reg). is_mark false o r) (sym e))

or_assoc : (a b c : Bool) → ((a || b) || c) ≡ (a || (b || c))
or_assoc true b c = refl
or_assoc false b c = refl

and_or : (y a b : Bool) → ((y && a) || (y && b)) ≡ (y && (a || b))
and_or true a b = refl
and_or false a b = refl

truth_or_home : (truth : Bool) (home : Option Reg) (r : ℕ) → ((truth && 32 == r) || is_mark false home r) ≡ is_mark truth home r
truth_or_home truth home r = by (r == 32) refl
  where
    other : (b : Bool) → ((truth && false) || b) ≡ b
    other b = ap (λ (c : Bool). c || b) (and_last truth)

    by : (t : Bool) → (r == 32) ≡ t → ((truth && 32 == r) || is_mark false home r) ≡ is_mark truth home r
    by true e = let f : r ≡ 32 = grind (arith, nat_tests, e) in let g : (32 == r) ≡ true = grind (arith, nat_tests, f) in rw (e, g)
        (both truth)
      where
        both : (t : Bool) → ((t && true) || false) ≡ t
        both true = refl
        both false = refl
    by false e = let g : (32 == r) ≡ false = grind (arith, nat_tests, e) in rw (e, g) (other (is_register home r))

pub adds_both : (y : TempId) (truth : Bool) (home : Option Reg) (old mid new : BTreeMap ℕ Home)
    → AddsMarks (λ (x : TempId) (r : ℕ). y.0 == x.0 && (truth && 32 == r)) old mid
    → AddsMarks (λ (x : TempId) (r : ℕ). y.0 == x.0 && is_mark false home r) mid new
    → AddsMarks (λ (x : TempId) (r : ℕ). y.0 == x.0 && is_mark truth home r) old new
adds_both y truth home old mid new h k x r le =
    k x r le ∙ ap (λ (b : Bool). b || (y.0 == x.0 && is_mark false home r)) (h x r le) ∙ or_assoc (is_told old x r)
    (y.0 == x.0 && (truth && 32 == r)) (y.0 == x.0 && is_mark false home r) ∙ ap (λ (b : Bool). is_told old x r || b)
    (and_or (y.0 == x.0) (truth && 32 == r) (is_mark false home r) ∙ ap (λ (b : Bool). y.0 == x.0 && b) (truth_or_home truth home r))

-- what is new of two steps is what is new of either
pub adds_twice : (p q : TempId → ℕ → Bool) (old mid new : BTreeMap ℕ Home) → AddsMarks p old mid → AddsMarks q mid new
    → AddsMarks (λ (x : TempId) (r : ℕ). p x r || q x r) old new
adds_twice p q old mid new h k x r le = k x r le ∙ ap (λ (b : Bool). b || q x r) (h x r le) ∙ or_assoc (is_told old x r)
    (p x r) (q x r)

-- the home of an operand, for each of its alternatives
pub by_operand : (o : Operand) (reg : Reg) (x : TempId) (r : ℕ) (a b : Bool) → o.home ≡ Some reg → reg.0 < 32
    → a ≡ (b || list_any (λ (t : TempId). t.0 == x.0 && reg.0 == r) o.alts) → a ≡ (b || is_operand_mark o x r)
by_operand o reg x r a b e lt h =
    h ∙ ap (λ (c : Bool). b || c)
    (any_and (λ (t : TempId). t.0 == x.0) (reg.0 == r) o.alts ∙ ap (λ (c : Bool). reads_value o x && c) (below_mark reg r lt) ∙ ap
    (λ (home : Option Reg). reads_value o x && is_mark false home r) (sym e))

-- ---- what the marks of a block say

any_same : {A : Type 0} (p q : A → Bool) (xs : List A) → ((x : A) → p x ≡ q x) → list_any p xs ≡ list_any q xs
any_same p q [] h = refl
any_same p q (x ∷ xs) h = ap (λ (b : Bool). b || list_any p xs) (h x) ∙ ap (λ (b : Bool). q x || b) (any_same p q xs h)

any_from_same : {A : Type 0} (p q : ℕ → A → Bool) (i : ℕ) (xs : List A) → ((j : ℕ) (x : A) → p j x ≡ q j x)
    → any_from p i xs ≡ any_from q i xs
any_from_same p q i [] h = refl
any_from_same p q i (x ∷ xs) h = ap (λ (b : Bool). b || any_from p (i + 1) xs) (h i x) ∙ ap (λ (b : Bool). q i x || b)
    (any_from_same p q (i + 1) xs h)

none_from : {A : Type 0} (p : A → Bool) (xs : List A) → ((x : A) → p x ≡ false) → list_any p xs ≡ false
none_from p [] h = refl
none_from p (x ∷ xs) h = ap (λ (b : Bool). b || list_any p xs) (h x) ∙ none_from p xs h

-- below 32 a mark is a home
mark_below : (truth : Bool) (home : Option Reg) (r : ℕ) → r < 32 → is_mark truth home r ≡ is_register home r
mark_below truth home r lt = let e : (r == 32) ≡ false = grind (arith, nat_tests, lt) in rw e refl

home_marks : (e : Ext) (is_entry : Bool) (block : ExtBlock) (x : TempId) (r : ℕ) → r < 32
    → is_block_mark e is_entry block x r ≡ is_home e.table is_entry block x r
home_marks e is_entry block x r lt =
    any_same (is_op_mark e is_entry block.live_in x r)
    (λ (op : ExtOp). is_operand_home op x r || is_result_home e.table is_entry block.live_in op x r) block.ops (λ op.
    ap (λ (b : Bool). b || is_results_mark e is_entry block.live_in op x r)
    (any_same (λ (o : Operand). is_operand_mark o x r) (λ (o : Operand). reads_value o x && is_register o.home r) op.operands
    (λ o. ap (λ (b : Bool). reads_value o x && b) (mark_below false o.home r lt)))
    ∙ ap (λ (b : Bool). is_operand_home op x r || b)
    (any_from_same (is_result_mark e is_entry block.live_in op x r)
    (λ (j : ℕ) (y : TempId). y.0 == x.0 && is_register (result_home e.table is_entry block.live_in op.kind j) r) 0 op.results
    (λ j y. ap (λ (b : Bool). y.0 == x.0 && b)
    (mark_below (gives_truth_at e.names block.live_in op.kind j) (result_home e.table is_entry block.live_in op.kind j) r lt))))

truth_marks : (e : Ext) (is_entry : Bool) (block : ExtBlock) (x : TempId) → is_block_mark e is_entry block x 32 ≡ is_truth e.names block x
truth_marks e is_entry block x =
    any_same (is_op_mark e is_entry block.live_in x 32) (λ (op : ExtOp). is_truth_of e.names block.live_in op x) block.ops (λ op.
    ap (λ (b : Bool). b || is_results_mark e is_entry block.live_in op x 32)
    (none_from (λ (o : Operand). is_operand_mark o x 32) op.operands (λ o. and_last (reads_value o x))))

register_told : (h : Home) (r : ℕ) → r < 32 → tells h r ≡ has h.registers r
register_told h r lt = let e : (r == 32) ≡ false = grind (arith, nat_tests, lt) in rw e refl

pub homes_told : (e : Ext) (is_entry : Bool) (block : ExtBlock) (told : BTreeMap ℕ Home)
    → ((x : TempId) (r : ℕ) → r ≤ 32 → is_told told x r ≡ is_block_mark e is_entry block x r)
    → TellsHomes e is_entry block told
homes_told e is_entry block told h = record {
  homes = λ x r lt. sym (register_told (home_of told x) r lt) ∙ h x r (omega (arith, lt)) ∙ home_marks e is_entry block x r lt;
  truths = λ x. h x 32 (omega arith) ∙ truth_marks e is_entry block x;
}

pub general_are : (e : Ext) (regs : Option ℕ) (is_entry : Bool) (block : ExtBlock) (x : TempId) (told : BTreeMap ℕ Home) (m : ℕ)
    → m ≡ (home_of told x).registers → TellsHomes e is_entry block told
    → filter (λ (r : ℕ). is_assignable regs r || has m r) (range_with_len 0 32) ≡ general_registers e regs is_entry block x
unfolding general_registers
general_are e regs is_entry block x told m g h =
    filter_below (λ (r : ℕ). is_assignable regs r || has m r) (λ (r : ℕ). is_assignable regs r || is_home e.table is_entry block x r)
    32 (range_with_len 0 32)
    (λ r lt. ap (λ (b : Bool). is_assignable regs r || b) (ap (λ (n : ℕ). has n r) g ∙ h.homes x r lt))
    (below_range 0 32 32 (omega arith))
