-- The registers that domains have: none is past the last slot.
use Rattle.std.proofs.Common.{ℕ, zero, suc, ◌+◌, ◌<◌, ◌≤◌, Bool, true, false, List, [], ◌∷◌, ◌++◌, inl, inr, sym, subst, arith}
use Rattle.std.specs.Prelude.{Option, Some, None, IfSome, slice_get, slice_index, ◌||◌, ◌==◌, ◌-◌, length, if◌then◌else◌}
use Rattle.std.specs.List.{range_with_len}
use Rattle.std.specs.Option.{option_map}
use Rattle.un_base.specs.declared.ids.TempId.{TempId}
use Rattle.un_base.specs.declared.ids.NameId.{NameId}
use Rattle.un_isa.specs.Fit.{IsFit}
use Rattle.un_isa.specs.Registers.{callee_saved, saved_registers}
use Rattle.un_isa.specs.Tables.{in_mask}
use Rattle.un_isa.specs.declared.reg.Reg.{Reg}
use Rattle.un_isa.specs.declared.reg.TheConstants.{FIRST_SLOT, REGISTERS}
use Rattle.un_isa.specs.declared.table.Table.{Table}
use Rattle.un_ir.specs.declared.extended.ExtBlock.{ExtBlock}
use Rattle.un_ir.specs.declared.extended.Ext.{Ext}
use Rattle.un_model.specs.declared.model.Options.{Options}
use Rattle.un_model.specs.Registers.{reg_at, start_home, is_assignable, is_home, general_registers, value_registers, predicate_registers}
use Rattle.un_model.specs.Registers.{slots_of, with_zero, is_truth}
use Rattle.un_lists.proofs.Lists.{Each, Member, each_of, each_join, each_more, member_of_filter}

-- ---- runs

pub run_below : (a n r : ℕ) → Member r (range_with_len a n) → r < a + n
run_below a zero r m = elim m [ ]
run_below a (suc n) r (inl e) = omega arith
run_below a (suc n) r (inr m) = let k = run_below (a + 1) n r m in omega arith

pub run_from : (a n r : ℕ) → Member r (range_with_len a n) → a ≤ r
run_from a zero r m = elim m [ ]
run_from a (suc n) r (inl e) = omega arith
run_from a (suc n) r (inr m) = let k = run_from (a + 1) n r m in omega arith

abbrev pub Below : ℕ → List ℕ → Type 0
Below n rs = Each (λ r. r < n) rs

pub below_more : (n m : ℕ) (rs : List ℕ) → n ≤ m → Below n rs → Below m rs
below_more n m rs le h = each_more (λ r. r < n) (λ r. r < m) rs (λ r lt. omega arith) h

-- ---- homes

abbrev pub HomeBelow : Option Reg → Type 0
HomeBelow home = IfSome home (λ (r : Reg). r.0 < 32)

pub saved_below : (t : Table) → Below 32 (saved_registers t)
unfolding callee_saved
saved_below t = each_join (λ r. r < 32) (callee_saved t) (31 ∷ [])
    (each_of (λ r. r < 32) (callee_saved t) (λ r m. let s = member_of_filter (in_mask t.saved) (range_with_len 0 32) r m in let k =
    run_below 0 32 r s.0 in omega arith)) (omega arith, tt)

index_below : (xs : List ℕ) (k : ℕ) → Below 32 xs → slice_index xs k < 32
index_below [] k h = omega arith
index_below (x ∷ xs) zero h = h.0
index_below (x ∷ xs) (suc k) h = index_below xs k h.1

get_below : (xs : List ℕ) (k : ℕ) → Below 32 xs → HomeBelow (option_map reg_at (slice_get xs k))
get_below [] k h = tt
get_below (x ∷ xs) zero h = h.0
get_below (x ∷ xs) (suc k) h = get_below xs k h.1

args_below : (t : Table) → IsFit t → Below 32 t.args
args_below t fit = subst (Below 32) (sym fit.args) (
  omega arith,
  (
    omega arith,
    (omega arith, (omega arith, (omega arith, (omega arith, tt)))),
  ),
)

pub start_below : (t : Table) (ie : Bool) (live : List NameId) (j : ℕ) (x : Option NameId) → IsFit t → HomeBelow (start_home t ie live j x)
start_below t ie live j None fit = get_below (saved_registers t) (j - length live) (saved_below t)
start_below t true live j (Some name) fit = index_below t.args name.0 (args_below t fit)
start_below t false live j (Some name) fit = tt

pub result_below : (t : Table) → IsFit t → t.result < 32
result_below t fit = let z = fit.result in omega arith

-- ---- sets

pub general_below : (e : Ext) (o : Options) (ie : Bool) (block : ExtBlock) (x : TempId) → Below 32 (general_registers e o.regs ie block x)
unfolding general_registers
general_below e o ie block x = each_of (λ r. r < 32) (general_registers e o.regs ie block x) (λ r m.
    let s = member_of_filter (λ (r : ℕ). is_assignable o.regs r || is_home e.table ie block x r) (range_with_len 0 32) r m in
    let k = run_below 0 32 r s.0 in omega arith)

pub predicates_below : Below REGISTERS predicate_registers
predicates_below = (omega arith, (omega arith, (omega arith, (omega arith, tt))))

pub values_below : (e : Ext) (o : Options) (ie : Bool) (block : ExtBlock) (x : TempId)
    → Below (FIRST_SLOT + o.slots) (value_registers e o.regs o.slots ie block x)
values_below e o ie block x =
    let most = FIRST_SLOT + o.slots in
    let generals = general_registers e o.regs ie block x in
    let truths = if is_truth e.names block x then predicate_registers else [] in
    each_join (λ r. r < most) (generals ++ truths) (slots_of o.slots)
    (each_join (λ r. r < most) generals truths (below_more 32 most generals (omega arith) (general_below e o ie block x))
    (go most (omega arith) (is_truth e.names block x)))
    (each_of (λ r. r < most) (slots_of o.slots) (λ r m. run_below FIRST_SLOT o.slots r m))
  where
    go : (most : ℕ) → FIRST_SLOT ≤ most → (b : Bool) → Below most (if b then predicate_registers else [])
    go most le true = below_more FIRST_SLOT most predicate_registers le predicates_below
    go most le false = tt

pub zero_below : (n : ℕ) (rs : List ℕ) → 0 < n → Below n rs → Below n (with_zero rs)
zero_below n [] pos h = (pos, tt)
zero_below n (r ∷ rs) pos h = go (r == 0)
  where
    go : (b : Bool) → Below n (if b then r ∷ rs else 0 ∷ r ∷ rs)
    go true = h
    go false = (pos, h)
