-- The frame of the emitted code has at most as many bytes as code may have: no register is past the slots that the options give.
use Rattle.std.proofs.Common.{ℕ, zero, suc, ◌≡◌, ◌<◌, ◌≤◌, ◌+◌, ◌-◌, max, Bool, true, false, ◌&&◌, List, [], ◌∷◌, ◌++◌, map, length, sym}
use Rattle.std.proofs.Common.{subst, arith}
use Rattle.std.specs.Prelude.{Option, Some, None, slice_get, slice_index, nat_le, ◌==◌, ◌||◌, if◌then◌else◌, IfSome, fold}
use Rattle.std.specs.List.{range_with_len}
use Rattle.std.specs.Option.{option_map, option_to_list}
use Rattle.un_base.specs.declared.ids.NameId.{NameId}
use Rattle.un_base.specs.declared.ids.TempId.{TempId}
use Rattle.un_isa.specs.Fit.{IsFit}
use Rattle.un_isa.specs.Registers.{callee_saved, saved_registers}
use Rattle.un_isa.specs.Tables.{in_mask}
use Rattle.un_isa.specs.declared.op.Op.{Op}
use Rattle.un_isa.specs.declared.op.Op.TheVariants.{Call}
use Rattle.un_isa.specs.declared.reg.Reg.{Reg}
use Rattle.un_isa.specs.declared.reg.TheConstants.{LINK, GENERALS, FIRST_SLOT, SLOTS, FRAME}
use Rattle.un_isa.specs.declared.table.Table.{Table}
use Rattle.un_ir.specs.declared.extended.ExtKind.{ExtKind}
use Rattle.un_ir.specs.declared.extended.ExtKind.TheVariants.{In, Out, Body, End, Copy, Enter, Leave}
use Rattle.un_ir.specs.declared.extended.ExtBlock.{ExtBlock}
use Rattle.un_ir.specs.declared.extended.Ext.{Ext}
use Rattle.un_domains.specs.declared.domain.Domain.TheVariants.{Set}
use Rattle.un_model.specs.declared.model.Options.{Options}
use Rattle.un_model.specs.declared.schedule.LiveRange.{LiveRange}
use Rattle.un_model.specs.Cost.{value_of}
use Rattle.un_model.specs.Emission.{larger_slot, largest_slot, frame_of, frame_bytes}
use Rattle.un_model.specs.Instructions.{gives_truth}
use Rattle.un_model.specs.Registers.{is_assignable, predicate_registers, slots_of, reg_at, start_home, is_home, general_registers}
use Rattle.un_model.specs.Registers.{value_registers, with_zero, is_truth}
use Rattle.un_model.specs.Solutions.{InDomain}
use Rattle.un_model.specs.Variables.{model_of, register_domain, source_domain, register_place, carried}
use Rattle.un_emit.proofs.BlockTimed.{definer_of, range_in}
use Rattle.un_model.proofs.OpDomains.{register_sits, in_entry}
use Rattle.un_lists.proofs.Lists.{Each, each_member, each_of, each_join, member_of_filter, place_of}
use Rattle.un_model.proofs.Operations.{contains_member}
use Rattle.un_model.proofs.Readings.{Solved, numbered, placed_domains}
use Rattle.un_emit.proofs.RulesLists.{range_below}
use Rattle.un_model.proofs.PlacedSchedules.{the_ranges, range_at, active_spot}

-- a register, or one of the slots that a frame may have
abbrev pub IsLow : ℕ → Type 0
IsLow r = r < FIRST_SLOT + SLOTS

saved_low : (t : Table) → Each IsLow (callee_saved t)
unfolding callee_saved
saved_low t = each_of IsLow (callee_saved t) (λ r m.
    let s = member_of_filter (in_mask t.saved) (range_with_len 0 GENERALS) r m in
    let z = (range_below 0 GENERALS r s.0).1 in omega arith)

registers_low : (t : Table) → Each IsLow (saved_registers t)
registers_low t = each_join IsLow (callee_saved t) (LINK ∷ []) (saved_low t) (omega arith, tt)

args_low : (t : Table) → IsFit t → Each IsLow t.args
args_low t fit =
    subst (Each IsLow) (sym fit.args) (omega arith, (omega arith, (omega arith, (omega arith, (omega arith, (omega arith, tt))))))

index_low : (xs : List ℕ) (k : ℕ) → Each IsLow xs → IsLow (slice_index xs k)
index_low [] k h = omega arith
index_low (x ∷ xs) zero h = h.0
index_low (x ∷ xs) (suc k) h = index_low xs k h.1

abbrev LowHome : Option Reg → Type 0
LowHome home = IfSome home (λ (r : Reg). IsLow r.0)

get_low : (xs : List ℕ) (k : ℕ) → Each IsLow xs → LowHome (option_map reg_at (slice_get xs k))
get_low [] k h = tt
get_low (x ∷ xs) zero h = h.0
get_low (x ∷ xs) (suc k) h = get_low xs k h.1

start_low : (t : Table) (live : List NameId) (j : ℕ) (x : Option NameId) → IsFit t → LowHome (start_home t true live j x)
start_low t live j None fit = get_low (saved_registers t) (j - length live) (registers_low t)
start_low t live j (Some name) fit = index_low t.args name.0 (args_low t fit)

homes_low : (r : Option Reg) → LowHome r → Each IsLow (map (λ (r : Reg). r.0) (option_to_list r))
homes_low None s = tt
homes_low (Some r) s = (s, tt)

general_low : (e : Ext) (o : Options) (ie : Bool) (block : ExtBlock) (x : TempId) → Each IsLow (general_registers e o.regs ie block x)
unfolding general_registers
general_low e o ie block x = each_of IsLow (general_registers e o.regs ie block x) (λ r m.
    let f = member_of_filter (λ (r : ℕ). is_assignable o.regs r || is_home e.table ie block x r) (range_with_len 0 GENERALS) r m in
    let z = (range_below 0 GENERALS r f.0).1 in omega arith)

predicates_low : Each IsLow predicate_registers
predicates_low = (omega arith, (omega arith, (omega arith, (omega arith, tt))))

slots_low : (n : ℕ) → n ≤ SLOTS → Each IsLow (slots_of n)
slots_low n le = each_of IsLow (slots_of n) (λ r m. let z = (range_below FIRST_SLOT n r m).1 in omega arith)

zero_low : (rs : List ℕ) → Each IsLow rs → Each IsLow (with_zero rs)
zero_low [] s = (omega arith, tt)
zero_low (r ∷ rs) s = go (r == 0)
  where
    go : (b : Bool) → Each IsLow (if b then r ∷ rs else 0 ∷ r ∷ rs)
    go true = s
    go false = (omega arith, s)

in_set : (vs : List ℕ) (v : ℕ) → Each IsLow vs → InDomain v (Set vs) → IsLow v
in_set vs v s d = each_member IsLow vs v s (contains_member vs v d)

-- ---- the largest slot

larger_low : (h : ℕ) (r : LiveRange) → h < SLOTS → IsLow r.reg → larger_slot h r < SLOTS
larger_low h r le low = go (r.active && nat_le FIRST_SLOT r.reg)
  where
    go : (b : Bool) → (if b then max h (r.reg - FIRST_SLOT) else h) < SLOTS
    go true = omega arith
    go false = le

fold_low : (rs : List LiveRange) (a : ℕ) → a < SLOTS → Each (λ (r : LiveRange). IsLow r.reg) rs → fold larger_slot a rs < SLOTS
fold_low [] a le h = le
fold_low (r ∷ rs) a le h = fold_low rs (larger_slot a r) (larger_low a r le h.0) h.1

module _ (e : Ext) (o : Options) (values : List ℕ) (h : Solved e o values) where
  few_slots : o.slots ≤ SLOTS
  few_slots = let x = h.options in x.slots

  value_low : (ie : Bool) (block : ExtBlock) (x : TempId) → Each IsLow (value_registers e o.regs o.slots ie block x)
  value_low ie block x =
      let general = general_registers e o.regs ie block x in
      let truth = if is_truth e.names block x then predicate_registers else [] in
      each_join IsLow (general ++ truth) (slots_of o.slots)
      (each_join IsLow general truth (general_low e o ie block x) (preds (is_truth e.names block x))) (slots_low o.slots few_slots)
    where
      preds : (b : Bool) → Each IsLow (if b then predicate_registers else [])
      preds true = predicates_low
      preds false = tt

  source_low : (ie : Bool) (block : ExtBlock) (op : Op) (x : TempId) (v : ℕ) → InDomain v (source_domain e o ie block op x) → IsLow v
  source_low ie block Call x v d = in_set ((e.table).result ∷ []) v (let f = h.fit in let z = f.result in omega (arith, z), tt) d
  source_low ie block op x v d =
      in_set (if gives_truth op then predicate_registers else general_registers e o.regs ie block x) v (go (gives_truth op)) d
    where
      go : (b : Bool) → Each IsLow (if b then predicate_registers else general_registers e o.regs ie block x)
      go true = predicates_low
      go false = general_low e o ie block x

  domain_low : (ie : Bool) (block : ExtBlock) (k : ExtKind) (j : ℕ) (x y : TempId) (v : ℕ)
      → InDomain v (register_domain e o ie block k j x y) → IsLow v
  domain_low true block In j x y v d =
      let home = start_home e.table true block.live_in j (slice_get block.live_in j) in
      let low_home = start_low e.table block.live_in j (slice_get block.live_in j) h.fit in
      in_set (map (λ (r : Reg). r.0) (option_to_list home)) v (homes_low home low_home) d
  domain_low false block In j x y v d = in_set (value_registers e o.regs o.slots false block x) v (value_low false block x) d
  domain_low ie block (Body so) j x y v d = source_low ie block so.op x v d
  domain_low ie block (Copy node) j x y v d =
      let registers = value_registers e o.regs o.slots ie block y in
      in_set (with_zero registers) v (zero_low registers (value_low ie block y)) d
  domain_low ie block Out j x y v d = let n = contains_member [] v d in elim n [ ]
  domain_low ie block (End term) j x y v d = let n = contains_member [] v d in elim n [ ]
  domain_low ie block Enter j x y v d = let n = contains_member [] v d in elim n [ ]
  domain_low ie block Leave j x y v d = let n = contains_member [] v d in elim n [ ]

  range_low : (k : ℕ) (v : LiveRange) → slice_get (the_ranges e o values) k ≡ Some v → IsLow v.reg
  range_low k v q =
      let s = active_spot e o values (numbered e o values h) k v q in
      let u = s.0 in
      let d = definer_of e o values h u s.1 in
      let p = u.definer in
      let ie = in_entry e o values p in
      let sits = register_sits e o values ie p u.place u.temp (placed_domains e o values h p d.0) d.1 in
      let at = p.first + register_place p.op + u.place in
      let f = domain_low ie p.owner p.op.kind u.place u.temp (carried p.op u.temp) (slice_index values at) sits in
      subst (λ (x : LiveRange). IsLow x.reg) s.3 f

  -- the place of an active temporary
  pub low : (k : ℕ) → (range_at e o values k).active ≡ true → IsLow (range_at e o values k).reg
  low k a = range_low k (range_at e o values k) (range_in e o values h k a)

  all_low : Each (λ (r : LiveRange). IsLow r.reg) (the_ranges e o values)
  all_low = each_of (λ (r : LiveRange). IsLow r.reg) (the_ranges e o values) (λ r m.
      let z = place_of (the_ranges e o values) r m in range_low z.0 r z.2)

  half : (n : ℕ) → n < SLOTS → frame_bytes n ≤ FRAME
  half n le = omega arith

  pub small : frame_of (model_of e o) values ≤ FRAME
  small = go (value_of values (let m = model_of e o in m.flag) == 0)
    where
      go : (b : Bool) → (if b then 0 else frame_bytes (largest_slot (the_ranges e o values))) ≤ FRAME
      go true = omega arith
      go false = half (largest_slot (the_ranges e o values)) (fold_low (the_ranges e o values) 0 (omega arith) all_low)
