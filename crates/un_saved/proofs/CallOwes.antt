-- The Reloads that a call owes to the names which cross it, beside the saved values, in a block which hands those over where it takes them:
-- each is ready for an operation before the block's end.
use Rattle.std.proofs.Common.{ℕ, ◌≡◌, ◌<◌, ◌≤◌, ◌+◌, Bool, true, false, List, [], ◌∷◌, length, refl, sym, ap, ◌∙◌, subst, arith, eq-eqb}
use Rattle.std.specs.Prelude.{Option, Some, None, slice_get, ◌==◌, ◌||◌, nat_lt, is_some, IfSome, count_by}
use Rattle.un_base.specs.declared.ids.TempId.{TempId}
use Rattle.un_isa.specs.Registers.{callee_saved, saved_registers}
use Rattle.un_isa.specs.Tables.{latency_of}
use Rattle.un_isa.specs.declared.op.Op.{Op}
use Rattle.un_isa.specs.declared.op.Op.TheVariants.{Reload}
use Rattle.un_ir.specs.Extended.{is_copy}
use Rattle.un_ir.specs.Kinds.{is_call_kind, is_delimiter}
use Rattle.un_ir.specs.declared.extended.ExtBlock.{ExtBlock}
use Rattle.un_ir.specs.declared.extended.Ext.{Ext}
use Rattle.un_model.specs.declared.model.Options.{Options}
use Rattle.un_model.specs.Instructions.{instruction_of}
use Rattle.un_model.specs.Schedules.{schedule_of, issues_of, value_by}
use Rattle.un_model.specs.Solutions.{IsPlacedAs}
use Rattle.un_model.specs.Variables.{model_of, var_at, ops_count}
use Rattle.un_lists.proofs.Lists.{Each, Member, each_member, each_more, place_of as position_of}
use Rattle.un_model.proofs.Operations.{placed_is}
use Rattle.un_model.proofs.Placed.{Placed, Region, region_placed, vars_of, end_of, issue_at}
use Rattle.un_model.proofs.PlacedSchedules.{all, joined_member}
use Rattle.un_model.proofs.Readings.{Solved}
use Rattle.un_press.specs.Accesses.{is_reload}
use Rattle.un_press.proofs.Counting.{Differ}
use Rattle.un_press.proofs.Crossings.{Carried, carried_all}
use Rattle.un_press.proofs.Descent.{cycle_at}
use Rattle.un_press.proofs.Reloading.{Wanted, crossings}
use Rattle.un_press.proofs.Spilling.{Several, counted, placed_issue, same_end, three, lt_true}
use Rattle.un_saved.specs.Names.{IsName, AreNames}
use Rattle.un_saved.specs.Owed.{reloads_behind}
use Rattle.un_saved.specs.Saved.{saved_in, keeps_places}
use Rattle.un_saved.specs.Standing.{in_slots}
use Rattle.un_saved.specs.declared.boundary.Boundary.TheVariants.{StartOf}
use Rattle.un_saved.proofs.CallReloads.{names_in_slots, names_reload, ReloadsName}
use Rattle.un_model.proofs.RegionEnds.{all_regions}
use Rattle.un_saved.proofs.OnePlace.{saved_number}
use Rattle.un_model.proofs.Regions.{placed_regions, region_is}

some_instr : (i : Option Op) → is_some i ≡ true → (op : Op) × (i ≡ Some op)
some_instr None h = absurd (cc h)
some_instr (Some op) h = (op, refl)

module _ (e : Ext) (o : Options) (values : List ℕ) (solved : Solved e o values) where
  abbrev cycle : Placed → ℕ
  cycle p = cycle_at e o values solved p

  -- an active operation that is neither the start nor the end of its block issues before that end
  before_end : (p : Placed) → Member p (all e o values) → (issue_at values p).active ≡ true → is_delimiter p.op.kind ≡ false
      → cycle p < end_of values p
  before_end p m active inner =
      let v = vars_of p in
      let instr = instruction_of p.op.kind (value_by values v.instr) in
      let some : is_some instr ≡ true = sym (ap (λ (b : Bool). b || is_some instr) inner) ∙ active in
      let op = some_instr instr some in
      let placed = subst (λ (i : Option Op). IfSome i (IsPlacedAs (cycle p) (end_of values p))) op.1 (placed_issue e o values solved p m) in
      let within = placed.0 in
      within.1

  module _ (k : ℕ) (r : Region) (at : slice_get (all_regions e o values solved.extended) k ≡ Some r) (keeps : keeps_places r.owner ≡ true)
      (c : Placed) (mc : Member c (region_placed r)) (call : is_call_kind c.op.kind ≡ true) where
    -- a copy that reloads behind the call, ready for an operation before the block's end
    pub record ReloadsBehind (p : Placed) : Type 0 where
      pub member : Member p (all e o values)
      pub block : p.block ≡ c.block
      pub copy : is_copy p.op.kind ≡ true
      pub instr : (issue_at values p).instr ≡ Some Reload
      pub first : cycle c < cycle p
      pub last : cycle p + latency_of e.table Reload < end_of values p

    abbrev wanted_all : (us : List TempId) → Each (IsName e o values solved c) us → Each (Wanted e o values solved c) us
    wanted_all [] h = tt
    wanted_all (u ∷ us) h = ((let n = h.0 in n.wanted), wanted_all us h.1)

    abbrev IsInner : Carried e o values solved c → Type 0
    IsInner u = let x = u.crossing in let q = x.reader in is_delimiter q.user.op.kind ≡ false

    inner_all : (us : List TempId) (h : Each (IsName e o values solved c) us)
        → Each IsInner (carried_all e o values solved c us (crossings e o values solved c us (wanted_all us h)))
    inner_all [] h = tt
    inner_all (u ∷ us) h = ((let n = h.0 in n.inner), inner_all us h.1)

    module _ (vs : List TempId) (each : Each (IsName e o values solved c) vs) (differ : Differ vs)
        (others : Each (λ (v : TempId). (j : ℕ) → slice_get (saved_in r.owner) j ≡ Some v → ⊥) vs) where
      behind : (p : Placed) → ReloadsName e o values solved k r at keeps c mc call vs (wanted_all vs each) differ others p → ReloadsBehind p
      behind p h =
          let made = h.made in
          let u = h.name in
          let x = u.crossing in
          let q = x.reader in
          let inner = each_member IsInner (carried_all e o values solved c vs (crossings e o values solved c vs (wanted_all vs each))) u
          (inner_all vs each) h.listed in
          let lt = before_end q.user q.member q.active inner in
          let end = same_end e o values solved made.reader q.user made.member q.member (made.block ∙ sym x.block) in
          let ready = made.ready in
          subst ReloadsBehind h.is (record {
            member = made.member;
            block = made.block;
            copy = made.copy;
            instr = made.instr;
            first = made.first;
            last = omega (arith, lt, end, ready);
          })

      -- So many are reloaded as are more than the registers that the call keeps, beside the saved values that have none.
      pub names_owe : (n : ℕ) → n + (length (callee_saved e.table)
          + in_slots (schedule_of (model_of e o) values) e.blocks (StartOf k) (saved_number e o values solved))
          ≤ length vs + saved_number e o values solved → Several e o values solved ReloadsBehind n
      names_owe n few =
          let room = names_in_slots e o values solved k r at keeps c mc call vs (wanted_all vs each) differ others in
          let s = names_reload e o values solved k r at keeps c mc call vs (wanted_all vs each) differ others in
          let many = s.many in
          record {
            listed = s.listed;
            differ = s.differ;
            each = each_more (ReloadsName e o values solved k r at keeps c mc call vs (wanted_all vs each) differ others) ReloadsBehind
                s.listed behind s.each;
            many = omega (arith, few, room, many);
          }

      pub names_counted : (n : ℕ) → n + (length (callee_saved e.table)
          + in_slots (schedule_of (model_of e o) values) e.blocks (StartOf k) (saved_number e o values solved))
          ≤ length vs + saved_number e o values solved
          → n ≤ count_by (reloads_behind e.table c.block (cycle c)) (issues_of (model_of e o) values)
      names_counted n few =
          counted e o values solved ReloadsBehind (reloads_behind e.table c.block (cycle c)) n (λ p s. s.member) (λ p s.
          three (p.block == c.block) (is_reload (issue_at values p).instr) (nat_lt (cycle c) (cycle p))
          (nat_lt (cycle p + latency_of e.table Reload) (end_of values p)) (eq-eqb p.block c.block s.block) (ap is_reload s.instr)
          (lt_true (cycle c) (cycle p) s.first) (lt_true (cycle p + latency_of e.table Reload) (end_of values p) s.last))
          (names_owe n few)

  -- ---- of an operation, by its own block

  pub call_counted : (c : Placed) (vs : List TempId) (n : ℕ) → Member c (all e o values) → keeps_places c.owner ≡ true
      → is_call_kind c.op.kind ≡ true → AreNames e o values solved c vs
      → n + (length (callee_saved e.table) + in_slots (schedule_of (model_of e o) values) e.blocks (StartOf c.block)
      (length (saved_registers e.table))) ≤ length vs + length (saved_registers e.table)
      → n ≤ count_by (reloads_behind e.table c.block (cycle c)) (issues_of (model_of e o) values)
  call_counted c vs n m keeps call names few =
      let found = joined_member region_placed (all_regions e o values solved.extended) c (subst (Member c) (placed_regions 0 0 0 e.blocks) m) in
      let r : Region = found.0 in
      let i = position_of (all_regions e o values solved.extended) r found.1 in
      let k = i.0 in
      let own : ExtBlock = r.owner in
      let j = position_of (region_placed r) c found.2 in
      let is = placed_is r.block own (var_at (r.first + ops_count own.ops)) r.number r.first j.0 own.ops c j.2 in
      let number = (region_is 0 0 0 e.blocks k r i.2).1 in
      let block : c.block ≡ k = (let b = is.2 in omega (arith, b, number)) in
      names_counted k r i.2 (sym (ap keeps_places is.3) ∙ keeps) c found.2 call vs names.each names.differ
      (subst (λ (b : ExtBlock). Each (λ (v : TempId). (l : ℕ) → slice_get (saved_in b) l ≡ Some v → ⊥) vs) is.3 names.others) n
      (subst (λ (b : ℕ). n + (length (callee_saved e.table) + in_slots (schedule_of (model_of e o) values) e.blocks (StartOf b)
      (length (saved_registers e.table))) ≤ length vs + length (saved_registers e.table)) block few)
