-- The gap between a definer and a user: the definer's latency, but where a jump may test what a compare of its packet writes.
use Rattle.std.proofs.Common.{ℕ, ◌≡◌, ◌≤◌, Bool, true, false, ◌&&◌, refl, sym, ap, ◌∙◌, arith}
use Rattle.std.specs.Prelude.{Option, Some, None, ◌==◌, if◌then◌else◌}
use Rattle.std.proofs.lemmas.Bool.{and_parts}
use Rattle.un_isa.specs.Fit.{IsFit}
use Rattle.un_isa.specs.Does.{is_branch, is_compare}
use Rattle.un_isa.specs.Facts.{is_source}
use Rattle.un_isa.specs.Tables.{latency_of, is_fresh}
use Rattle.un_isa.specs.declared.op.Op.{Op}
use Rattle.un_isa.specs.declared.op.Op.TheVariants.{Mov, Spill, Reload, P2R, R2P, Enter as EnterOp, Leave as LeaveOp}
use Rattle.un_isa.specs.declared.table.Table.{Table}
use Rattle.un_isa.proofs.DoesLaws.{source_branch, call_is}
use Rattle.un_ir.specs.Kinds.{is_call_kind}
use Rattle.un_ir.specs.declared.extended.TheConstants.{MOVE, SPILL, RELOAD, FROM_PREDICATE, TO_PREDICATE}
use Rattle.un_ir.specs.declared.extended.ExtKind.{ExtKind}
use Rattle.un_ir.specs.declared.extended.ExtKind.TheVariants.{In, Out, Body, End, Copy, Enter, Leave}
use Rattle.un_model.specs.Instructions.{instruction_of, copy_of, frame_instr, latency_by}
use Rattle.un_model.specs.Solutions.{latency_gap, least_wait}

-- ---- jumps and compares

-- the user may test what its definer writes in its own cycle
abbrev pub is_fresh_in : Table → Option Op → Option Op → Bool
is_fresh_in t None user = false
is_fresh_in t (Some definer) None = false
is_fresh_in t (Some definer) (Some user) = is_fresh t definer user

abbrev pub is_branch_in : Option Op → Bool
is_branch_in None = false
is_branch_in (Some op) = is_branch op

abbrev pub is_compare_in : Option Op → Bool
is_compare_in None = false
is_compare_in (Some op) = is_compare op

fresh_branch : (branch compare fresh : Bool) → branch ≡ false → (branch && compare && fresh) ≡ false
fresh_branch false compare fresh h = refl
fresh_branch true compare fresh h = absurd (cc h)

fresh_compare : (branch compare fresh : Bool) → compare ≡ false → (branch && compare && fresh) ≡ false
fresh_compare false compare fresh h = refl
fresh_compare true false fresh h = refl
fresh_compare true true fresh h = absurd (cc h)

pub no_branch : (t : Table) (definer user : Option Op) → is_branch_in user ≡ false → is_fresh_in t definer user ≡ false
no_branch t None user h = refl
no_branch t (Some definer) None h = refl
no_branch t (Some definer) (Some user) h = fresh_branch (is_branch user) (is_compare definer) t.fresh h

pub no_compare : (t : Table) (definer user : Option Op) → is_compare_in definer ≡ false → is_fresh_in t definer user ≡ false
no_compare t None user h = refl
no_compare t (Some definer) None h = refl
no_compare t (Some definer) (Some user) h = fresh_compare (is_branch user) (is_compare definer) t.fresh h

-- ---- gaps

less_by : (b : Bool) (n : ℕ) → (if b then 0 else n) ≤ n
less_by true n = omega arith
less_by false n = omega arith

-- no user waits longer than the definer's latency
pub gap_within : (t : Table) (definer user : Option Op) → latency_gap t definer user ≤ latency_by t definer
gap_within t None user = omega arith
gap_within t (Some definer) None = omega arith
gap_within t (Some definer) (Some user) = less_by (is_fresh t definer user) (latency_of t definer)

-- each waits as long that tests nothing fresh
pub gap_whole : (t : Table) (definer user : Option Op) → is_fresh_in t definer user ≡ false
    → latency_gap t definer user ≡ latency_by t definer
gap_whole t None user h = refl
gap_whole t (Some definer) None h = refl
gap_whole t (Some definer) (Some user) h = ap (λ (b : Bool). if b then 0 else latency_of t definer) h

-- ---- what may be tested fresh

pub record FreshFacts (t : Table) (definer user : Option Op) : Type 0 where
  pub branch : is_branch_in user ≡ true
  pub compare : is_compare_in definer ≡ true
  pub fresh : t.fresh ≡ true
  pub gap : latency_gap t definer user ≡ 0

pub fresh_facts : (t : Table) (definer user : Option Op) → is_fresh_in t definer user ≡ true → FreshFacts t definer user
fresh_facts t None user h = absurd (cc h)
fresh_facts t (Some definer) None h = absurd (cc h)
fresh_facts t (Some definer) (Some user) h =
    let a = and_parts (is_branch user && is_compare definer) t.fresh h in
    let b = and_parts (is_branch user) (is_compare definer) a.0 in
    record { branch = b.0; compare = b.1; fresh = a.1; gap = ap (λ (b : Bool). if b then 0 else latency_of t definer) h }

-- a user that need not wait may
pub fresh_here : (t : Table) → IsFit t → (definer user : Option Op) → latency_gap t definer user ≡ 0 → is_fresh_in t definer user ≡ true
fresh_here t fit None user h = absurd (omega (arith, h))
fresh_here t fit (Some definer) None h = let l = fit.latencies definer in let some = l.0 in absurd (omega (arith, h, some))
fresh_here t fit (Some definer) (Some user) h = let l = fit.latencies definer in by (is_fresh t definer user) l.0 h
  where
    by : (b : Bool) → 1 ≤ latency_of t definer → (if b then 0 else latency_of t definer) ≡ 0 → b ≡ true
    by true some h = refl
    by false some h = absurd (omega (arith, some, h))

-- ---- copies, and operations of the source

-- a copy is no jump, and compares nothing
copy_other : (p : Option Op → Bool) → p None ≡ false → p (Some Mov) ≡ false → p (Some Spill) ≡ false → p (Some Reload) ≡ false
    → p (Some P2R) ≡ false → p (Some R2P) ≡ false → (n : ℕ) → p (copy_of n) ≡ false
copy_other p none mov spill reload from to n =
    by (n == MOVE) (n == SPILL) (n == RELOAD) (n == FROM_PREDICATE) (n == TO_PREDICATE)
  where
    by : (a b c d e : Bool) → p (if a then Some Mov else (if b then Some Spill else (if c then Some Reload else
        (if d then Some P2R else (if e then Some R2P else None))))) ≡ false
    by true b c d e = mov
    by false true c d e = spill
    by false false true d e = reload
    by false false false true e = from
    by false false false false true = to
    by false false false false false = none

copy_branch : (n : ℕ) → is_branch_in (copy_of n) ≡ false
copy_branch n = copy_other is_branch_in refl refl refl refl refl refl n

copy_compare : (n : ℕ) → is_compare_in (copy_of n) ≡ false
copy_compare n = copy_other is_compare_in refl refl refl refl refl refl n

-- a copy waits for its definer, and is waited for
pub gap_copy : (t : Table) (definer : Option Op) (n : ℕ) → latency_gap t definer (copy_of n) ≡ latency_by t definer
gap_copy t definer n = gap_whole t definer (copy_of n) (no_branch t definer (copy_of n) (copy_branch n))

pub gap_of_copy : (t : Table) (n : ℕ) (user : Option Op) → latency_gap t (copy_of n) user ≡ latency_by t (copy_of n)
gap_of_copy t n user = gap_whole t (copy_of n) user (no_compare t (copy_of n) user (copy_compare n))

frame_branch : (op : Op) → is_branch op ≡ false → (n : ℕ) → is_branch_in (frame_instr op n) ≡ false
frame_branch op h n = by (n == 0)
  where
    by : (b : Bool) → is_branch_in (if b then None else Some op) ≡ false
    by true = refl
    by false = h

gap_frame : (t : Table) (definer : Option Op) (op : Op) → is_branch op ≡ false → (n : ℕ)
    → latency_gap t definer (frame_instr op n) ≡ latency_by t definer
gap_frame t definer op h n = gap_whole t definer (frame_instr op n) (no_branch t definer (frame_instr op n) (frame_branch op h n))

-- an operation of the source waits for its definer
pub gap_source : (t : Table) (definer : Option Op) (op : Op) → is_source op ≡ true → latency_gap t definer (Some op) ≡ latency_by t definer
gap_source t definer op source = gap_whole t definer (Some op) (no_branch t definer (Some op) (source_branch op source))

-- an operation waits alike whichever instruction it is
pub gap_own : (t : Table) (definer : Option Op) (kind : ExtKind) (n m : ℕ)
    → latency_gap t definer (instruction_of kind n) ≡ latency_gap t definer (instruction_of kind m)
gap_own t definer In n m = refl
gap_own t definer Out n m = refl
gap_own t definer (Body o) n m = refl
gap_own t definer (End term) n m = refl
gap_own t definer (Copy node) n m = gap_copy t definer n ∙ sym (gap_copy t definer m)
gap_own t definer Enter n m = gap_frame t definer EnterOp refl n ∙ sym (gap_frame t definer EnterOp refl m)
gap_own t definer Leave n m = gap_frame t definer LeaveOp refl n ∙ sym (gap_frame t definer LeaveOp refl m)

-- ---- least and greatest

pub latency_some : (t : Table) → IsFit t → (definer : Option Op) → 1 ≤ latency_by t definer
latency_some t fit None = omega arith
latency_some t fit (Some definer) = let l = fit.latencies definer in l.0

-- no user issues in the cycle of its definer, but for a jump that tests what its own packet writes
pub gap_least : (t : Table) → IsFit t → (definer user : Option Op) → least_wait t user ≤ latency_gap t definer user
gap_least t fit definer None = let l = latency_some t fit definer in let e = gap_whole t definer None (no_branch t definer None refl) in
    omega (arith, l, e)
gap_least t fit None (Some user) = by (is_branch user && t.fresh)
  where
    by : (b : Bool) → (if b then 0 else 1) ≤ 1
    by true = omega arith
    by false = omega arith
gap_least t fit (Some definer) (Some user) = let l = fit.latencies definer in
    by (is_branch user) (is_compare definer) t.fresh (latency_of t definer) l.0
  where
    by : (branch compare fresh : Bool) (n : ℕ) → 1 ≤ n → (if branch && fresh then 0 else 1) ≤ (if branch && compare && fresh then 0 else n)
    by false compare fresh n h = h
    by true false false n h = h
    by true false true n h = omega arith
    by true true false n h = h
    by true true true n h = omega arith

-- what may be tested in its own cycle may be so in the next
pub fresh_quick : (t : Table) → IsFit t → (definer user : Option Op) → is_fresh_in t definer user ≡ true → latency_by t definer ≡ 1
fresh_quick t fit None user h = refl
fresh_quick t fit (Some definer) user h =
    let facts = fresh_facts t (Some definer) user h in fit.quick_compares facts.fresh definer facts.compare

-- a call waits
pub call_waits : (t : Table) (kind : ExtKind) (n : ℕ) → is_call_kind kind ≡ true → least_wait t (instruction_of kind n) ≡ 1
call_waits t (Body o) n h = ap (λ (op : Op). least_wait t (Some op)) (call_is o.op h)
call_waits t In n h = absurd (cc h)
call_waits t Out n h = absurd (cc h)
call_waits t (End term) n h = absurd (cc h)
call_waits t (Copy node) n h = absurd (cc h)
call_waits t Enter n h = absurd (cc h)
call_waits t Leave n h = absurd (cc h)

-- none waits long
pub gap_short : (t : Table) → IsFit t → (definer user : Option Op) → latency_gap t definer user ≤ 2
gap_short t fit definer user = let within = gap_within t definer user in let short = latency_short definer in omega arith
  where
    latency_short : (definer : Option Op) → latency_by t definer ≤ 2
    latency_short None = omega arith
    latency_short (Some definer) = let l = fit.latencies definer in l.1
