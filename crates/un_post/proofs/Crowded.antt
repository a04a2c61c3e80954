-- Saved values in slots: where a block hands its saved values over where it takes them, a call in it leaves one of them in a slot. The
-- entry spills what it hands over in a slot, and a block that takes a value in a slot and reads it in a register reloads it.
use Rattle.std.proofs.Common.{ℕ, zero, suc, ◌≡◌, ◌<◌, ◌≤◌, ◌+◌, Bool, true, false, List, [], ◌∷◌, length, map, filter, inl, inr}
use Rattle.std.proofs.Common.{refl, sym, ap, ◌∙◌, subst, arith}
use Rattle.std.specs.Prelude.{Option, Some, None, slice_get, ◌&&◌, ◌||◌, ◌==◌, nat_lt, is_some}
use Rattle.std.specs.List.{list_any}
use Rattle.std.specs.Option.{option_map}
use Rattle.std.proofs.lemmas.Bool.{eqb-true}
use Rattle.std.proofs.lemmas.Bool.Decides.{nat_tests}
use Rattle.std.proofs.lemmas.List.{length-drop}
use Rattle.un_base.specs.declared.ids.TempId.{TempId}
use Rattle.un_isa.specs.Registers.{callee_saved, saved_registers}
use Rattle.un_isa.specs.Tables.{latency_of}
use Rattle.un_isa.specs.declared.op.Op.{Op}
use Rattle.un_isa.specs.declared.op.Op.TheVariants.{Call, Spill, Reload}
use Rattle.un_isa.specs.declared.reg.TheConstants.{FIRST_SLOT}
use Rattle.un_ir.specs.declared.extended.ExtKind.{ExtKind}
use Rattle.un_ir.specs.declared.extended.ExtKind.TheVariants.{In, Out, Body, End, Copy, Enter, Leave}
use Rattle.un_ir.specs.declared.extended.Operand.{Operand}
use Rattle.un_ir.specs.declared.extended.ExtOp.{ExtOp}
use Rattle.un_ir.specs.declared.extended.ExtBlock.{ExtBlock}
use Rattle.un_ir.specs.declared.extended.Ext.{Ext}
use Rattle.un_ir.specs.Extended.{temp, is_copy, result_count, wants_of}
use Rattle.un_ir.specs.Kinds.{is_call_kind, is_delimiter, is_mandatory}
use Rattle.un_ir.specs.Linear.{first_of, is_in}
use Rattle.un_model.specs.declared.model.Options.{Options}
use Rattle.un_model.specs.declared.schedule.LiveRange.{LiveRange}
use Rattle.un_model.specs.declared.schedule.Read.{Read}
use Rattle.un_model.specs.Congruences.{live_in_temps, live_out_reads, register_of, register_read}
use Rattle.un_model.specs.Instructions.{instruction_of, latency_by}
use Rattle.un_model.specs.Pairs.{places_from}
use Rattle.un_model.specs.Schedules.{schedule_of, issues_of, reads_of, read_of, value_by, cycle_by, choice_of}
use Rattle.un_model.specs.Solutions.{IsSchedule, latency_gap}
use Rattle.un_model.specs.Variables.{model_of, var_at, ops_count}
use Rattle.un_lists.proofs.Lists.{Each, Pairwise, Member, each_of, each_member, member_at, member_map, member_map_of, member_of_filter}
use Rattle.un_lists.proofs.Lists.{member_append_right, any_of, get_below, pairwise_of_map, place_of as position_of}
use Rattle.un_model.proofs.Operations.{placed_get}
use Rattle.un_model.proofs.Placed.{Placed, Region, region_placed, vars_of, end_of, issue_at, Spot, spot, spots_of}
use Rattle.un_model.proofs.PlacedSchedules.{all, spots, the_ranges, range_get, range_here, one_spot, definer_in, issue_here}
use Rattle.un_model.proofs.Readings.{Solved, reading as read_by}
use Rattle.un_model.proofs.TempKinds.{carried_at, spot_carried}
use Rattle.un_press.proofs.Counting.{Differ, length_mapped}
use Rattle.un_press.proofs.Crossings.{reg_of, is_active, Carried, spot_in as carrier, spot_member, in_slot, Differs, many_in_slots, call_keeps}
use Rattle.un_press.proofs.Crossings.{held_spot, held_member, held_active, held_value}
use Rattle.un_press.proofs.Descent.{cycle_at, Reader, Held, IsOnTheWay, held}
use Rattle.un_press.proofs.Kept.{saved_cover, entry_starts}
use Rattle.un_press.proofs.Premises.{source_needs, end_needs, home_needs, reads_active}
use Rattle.un_press.proofs.Reloading.{NeedsRegister, no_reader, reloads}
use Rattle.un_press.proofs.Spilling.{by_end, slot_spilled, one_placed, same_end, true_le}
use Rattle.un_sites.specs.Crossings.{is_asked, is_register_home, reads_value}
use Rattle.un_sites.specs.Saved.{saved_in, saved_out, end_operands, keeps_places, has_call, is_crowded}
use Rattle.un_sites.specs.Saved.{reads_saved}
use Rattle.un_post.proofs.AccessRooms.{placed_as}
use Rattle.un_post.proofs.Blocks.{blocks, region_places, in_all}
use Rattle.un_post.proofs.Congruences.{in_is, live_in_is}
use Rattle.un_post.proofs.Crossed.{OtherTemp, different, pairwise_part, some_home}
use Rattle.un_model.proofs.RegionEnds.{all_regions, region_good, region_end, last_member, the_end, end_reads, end_read}
use Rattle.un_post.proofs.Facts.{Given, numbered, reading, read_temp, in_domains}
use Rattle.un_post.proofs.NoSharing.{all_pass}
use Rattle.un_post.proofs.Placing.{place_of}
use Rattle.un_model.proofs.Regions.{of_region, last_of, front_of, region_parts}
use Rattle.un_post.proofs.SavedLists.{drop_get, differ_drop, temps_differ, end_is, alone_at}
use Rattle.un_post.proofs.Spared.{call_instr}
use Rattle.un_post.proofs.Tests.{and_iff}
use Rattle.un_post.proofs.Whole.{spot_in}

-- ---- lists

only_one : (v : TempId) (n : ℕ) (u : TempId) → slice_get (v ∷ []) n ≡ Some u → u ≡ v
only_one v zero u h = let same : v ≡ u = cc h in sym same
only_one v (suc n) u h = absurd (cc h)

places_none : {A B : Type 0} (f : ℕ → A → B) (i : ℕ) (xs : List A) (j : ℕ) → slice_get xs j ≡ None → slice_get (places_from f i xs) j ≡ None
places_none f i [] j h = refl
places_none f i (x ∷ xs) zero h = absurd (cc h)
places_none f i (x ∷ xs) (suc j) h = places_none f (i + 1) xs j h

is_there : (i : Option Op) → is_some i ≡ true → (op : Op) × (i ≡ Some op)
is_there None h = absurd (cc h)
is_there (Some op) h = (op, refl)

no_call : (kind : ExtKind) → kind ≡ In → is_call_kind kind ≡ true → ⊥
no_call kind k call = let z : false ≡ true = sym (ap is_call_kind k) ∙ call in cc z

module _ (e : Ext) (o : Options) (x : List ℕ) (given : Given e o x)
    (schedule : IsSchedule (latency_gap e.table) (model_of e o).domains (model_of e o) x (schedule_of (model_of e o) x)) where
  abbrev solved : Solved e o x
  solved = record { extended = given.extended; fit = given.fit; options = given.options; schedule = schedule }

  abbrev cycle : Placed → ℕ
  cycle q = cycle_at e o x solved q

  abbrev ranges : List LiveRange
  ranges = the_ranges e o x

  abbrev handed_by : ℕ → List Read
  handed_by k = live_out_reads k (reads_of (model_of e o) x)

  register_is : (s : Spot) → Member s (spots e o x) → register_of ranges s.temp ≡ Some (reg_of e o x solved s)
  register_is s m = ap (option_map (λ (h : LiveRange). h.reg)) (range_get e o x (numbered e o x given) s m)

  -- a saved value that a block takes in a slot
  pub record InSlot (r : Region) : Type 0 where
    pub place : ℕ
    pub temp : TempId
    pub at : slice_get (saved_in r.owner) place ≡ Some temp
    pub reg : ℕ
    pub is : register_of ranges temp ≡ Some reg
    pub slot : FIRST_SLOT ≤ reg

  -- a copy of a block that issues this instruction
  pub record Accesses_by (r : Region) (op : Op) (p : Placed) : Type 0 where
    pub member : Member p (all e o x)
    pub block : p.block ≡ r.block
    pub copy : is_copy p.op.kind ≡ true
    pub instr : (issue_at x p).instr ≡ Some op

  -- an operand with one alternative chooses that
  chosen : (q : Placed) (j : ℕ) (y : Operand) (v : TempId) → Member q (all e o x) → slice_get q.op.operands j ≡ Some y → y.alts ≡ v ∷ []
      → choice_of x (vars_of q) j y ≡ v
  chosen q j y v m at alone =
      let d = reading e o x given q j y m at in
      let n = value_by x (slice_get (vars_of q).choices j) in
      read_temp e o x given q j y d ∙ only_one v n d.spot.temp (ap (λ (ts : List TempId). slice_get ts n) (sym alone) ∙ d.at)

  issue_member : (q : Placed) → Member q (all e o x) → Member (issue_at x q) (issues_of (model_of e o) x)
  issue_member q m = member_at (issues_of (model_of e o) x) q.number (issue_at x q) (issue_here e o x q m)

  module _ (k : ℕ) (r : Region) (at : slice_get (all_regions e o x given.extended) k ≡ Some r) where
    in_blocks : Member r (blocks e o x)
    in_blocks = member_at (all_regions e o x given.extended) k r at

    abbrev last : Placed
    last = the_end e o x given.extended k r at

    last_in : Member last (region_placed r)
    last_in =
        let en = region_end e o x given.extended k r at in
        subst (Member (last_of r en)) (sym (region_parts r en))
        (member_append_right (front_of r en) (last_of r en ∷ []) (last_of r en) (inl refl))

    all_last : Member last (all e o x)
    all_last = last_member e o x given.extended k r at

    last_reads : (let own : ExtBlock = r.owner in end_operands own.ops) ≡ (let q = last in q.op.operands)
    last_reads = let en = region_end e o x given.extended k r at in ap end_operands en.whole ∙ end_is en.front en.out en.inner en.is_end

    -- ---- what the block takes

    record First : Type 0 where
      first : Placed
      region : Member first (region_placed r)
      kind : first.op.kind ≡ In
      results : (let own : ExtBlock = r.owner in live_in_temps own.ops) ≡ first.op.results
      count : length first.op.results ≡ (let own : ExtBlock = r.owner in length own.live_in) + length (saved_registers e.table)

    begins : First
    begins =
        let own : ExtBlock = r.owner in
        let g = region_good e o x given.extended k r at in
        let parts = g.parts in
        let p = parts.0 in
        let h = parts.1 in
        let start = p.start in
        let kind = in_is start.kind h.start in
        let here : slice_get own.ops 0 ≡ Some start = ap (λ (ops : List ExtOp). slice_get ops 0) h.whole in
        let good_start = g.ops 0 start here in
        let got = placed_get r.block own (var_at (r.first + ops_count own.ops)) r.number r.first 0 own.ops start here in
        record {
          first = got.0;
          region = member_at (region_placed r) 0 got.0 got.1;
          kind = ap (λ (op : ExtOp). op.kind) got.2 ∙ kind;
          results = live_in_is own.ops _ start h.whole kind ∙ sym (ap (λ (op : ExtOp). op.results) got.2);
          count = ap (λ (op : ExtOp). length op.results) got.2 ∙ good_start.results ∙ ap (result_count e.table own) kind;
        }

    all_first : (let f = begins in Member f.first (all e o x))
    all_first = let f = begins in in_all e o x r f.first in_blocks f.region

    pub saved_count : length (saved_in r.owner) ≡ length (saved_registers e.table)
    saved_count =
        let own : ExtBlock = r.owner in
        let f = begins in
        let count = f.count in
        let is = ap length f.results in
        let drops = length-drop (length own.live_in) (live_in_temps own.ops) in
        omega (arith, count, is, drops)

    saved_differ : Differ (saved_in r.owner)
    saved_differ =
        let own : ExtBlock = r.owner in
        let f = begins in
        let apart = pairwise_part OtherTemp (map spots_of (all e o x)) (spots_of f.first) (different e o x given schedule)
        (member_map spots_of (all e o x) f.first all_first) in
        differ_drop (length own.live_in) (live_in_temps own.ops)
        (subst (λ (ts : List TempId). Differ ts) (sym f.results) (temps_differ f.first 0 f.first.op.results apart))

    -- a temporary that the block takes is a result of its start
    record Starts (y : TempId) : Type 0 where
      spot : Spot
      member : Member spot (spots e o x)
      is : spot.temp ≡ y
      kind : spot.definer.op.kind ≡ In
      region : Member spot.definer (region_placed r)

    starts : (j : ℕ) (y : TempId) → slice_get (saved_in r.owner) j ≡ Some y → Starts y
    starts j y live =
        let own : ExtBlock = r.owner in
        let f = begins in
        let i = length own.live_in + j in
        let here : slice_get f.first.op.results i ≡ Some y = ap (λ (ts : List TempId). slice_get ts i) (sym f.results)
        ∙ sym (drop_get (length own.live_in) j (live_in_temps own.ops)) ∙ live in
        record {
          spot = spot f.first i y;
          member = spot_in e o x given f.first i y all_first here;
          is = refl;
          kind = f.kind;
          region = f.region;
        }

    start_cycle : (p : Placed) → p.op.kind ≡ In → cycle p ≡ 0
    start_cycle p k = let v = vars_of p in ap (λ (kind : ExtKind). cycle_by x (end_of x p) kind v) k

    -- ---- what it hands over where it takes it

    abbrev place_out : ℕ → ℕ
    place_out j = let own : ExtBlock = r.owner in length own.live_out + j

    module _ (keeps : keeps_places r.owner ≡ true) where
      record Handed (j : ℕ) (v : TempId) : Type 0 where
        operand : Operand
        at_end : (let q = last in slice_get q.op.operands (place_out j) ≡ Some operand)
        alone : operand.alts ≡ v ∷ []

      handed : (j : ℕ) (v : TempId) → slice_get (saved_in r.owner) j ≡ Some v → Handed j v
      handed j v here =
          let own : ExtBlock = r.owner in
          let got = alone_at (saved_in r.owner) (saved_out r.owner) j v keeps here in
          record {
            operand = got.0;
            at_end = ap (λ (ys : List Operand). slice_get ys (place_out j)) (sym last_reads)
                ∙ sym (drop_get (length own.live_out) j (end_operands own.ops)) ∙ got.1;
            alone = got.2;
          }

      -- it stays in one place
      pub stays : (j : ℕ) (v : TempId) → slice_get (saved_in r.owner) j ≡ Some v
          → register_read ranges (slice_get (handed_by k) (place_out j)) ≡ register_of ranges v
      stays j v here =
          let h = handed j v here in
          ap (register_read ranges) (end_read e o x given.extended k r at (place_out j) h.operand h.at_end)
          ∙ ap (register_of ranges) (chosen last (place_out j) h.operand v all_last h.at_end h.alone)

      -- ---- over a call

      module _ (c : Placed) (mc : Member c (region_placed r)) (call : is_call_kind c.op.kind ≡ true) where
        all_c : Member c (all e o x)
        all_c = in_all e o x r c in_blocks mc

        one_block : (let q = last in q.block ≡ c.block)
        one_block = of_region r last last_in ∙ sym (of_region r c mc)

        ahead : cycle c < (let q = last in cycle q)
        ahead =
            let v = vars_of c in
            let w = vars_of last in
            let en = region_end e o x given.extended k r at in
            let within = placed_as e o x given schedule (issue_at x c) Call (issue_member c all_c)
            (call_instr c.op.kind (value_by x v.instr) call) in
            let before = within.0.1 in
            let end : cycle last ≡ end_of x last = ap (λ (kind : ExtKind). cycle_by x (end_of x last) kind w) en.is_end in
            let same = same_end e o x solved last c all_last all_c one_block in
            omega (arith, before, end, same)

        -- a saved value crosses the call as the temporary that the block takes
        record Crosses (v : TempId) : Type 0 where
          carried : Carried e o x solved c
          value : carried.value ≡ v
          itself : (let s = carrier e o x solved c carried in s.temp ≡ v)

        crosses : (j : ℕ) (v : TempId) → slice_get (saved_in r.owner) j ≡ Some v → Crosses v
        crosses j v here =
            let q = last in
            let en = region_end e o x given.extended k r at in
            let h = handed j v here in
            let s = starts j v here in
            let i = place_out j in
            let active = reads_active e o x solved last i h.operand all_last (ap is_mandatory en.is_end) h.at_end in
            let reader : Reader e o x solved v (cycle c) = record {
              user = last;
              member = all_last;
              active = active;
              place = i;
              operand = h.operand;
              at = h.at_end;
              value = ap (λ (ts : List TempId). temp (first_of ts)) h.alone;
              after = ahead;
            } in
            let read = read_by e o x solved last i h.operand all_last active h.at_end in
            let d = read.2 in
            let same : d.spot.temp ≡ v = d.is ∙ chosen last i h.operand v all_last h.at_end h.alone in
            let one : d.spot ≡ s.spot = one_spot e o x (numbered e o x given) d.spot s.spot d.member s.member
            (ap (λ (t : TempId). t.0) (same ∙ sym s.is)) in
            let begins : cycle s.spot.definer ≡ 0 = start_cycle s.spot.definer s.kind in
            let from : cycle d.spot.definer ≤ cycle c = subst (λ (u : Spot). cycle u.definer ≤ cycle c) (sym one) (omega (arith, begins)) in
            record {
              carried = record {
                value = v;
                crossing = record {
                  own = s.spot;
                  member = s.member;
                  is = s.is;
                  early = omega (arith, begins);
                  other = λ is number. no_call s.spot.definer.op.kind s.kind
                      (ap (λ (p : Placed). is_call_kind p.op.kind)
                      (one_placed e o x solved s.spot.definer c (in_all e o x r s.spot.definer in_blocks s.region) all_c number) ∙ call);
                  reader = reader;
                  block = one_block;
                };
                held = record {
                  reader = reader;
                  want = read.0;
                  wants = read.1;
                  reading = d;
                  from = from;
                  block = refl;
                  way = inl refl;
                };
              };
              value = refl;
              itself = same;
            }

        abbrev all_cross : (vs : List TempId) → Each Crosses vs → List (Carried e o x solved c)
        all_cross [] each = []
        all_cross (v ∷ vs) each = each.0.carried ∷ all_cross vs each.1

        values_are : (vs : List TempId) (each : Each Crosses vs)
            → map (λ (k : Carried e o x solved c). k.value) (all_cross vs each) ≡ vs
        values_are [] each = refl
        values_are (v ∷ vs) each =
            ap (λ (u : TempId). u ∷ map (λ (k : Carried e o x solved c). k.value) (all_cross vs each.1)) each.0.value
            ∙ ap (λ us. v ∷ us) (values_are vs each.1)

        abbrev IsItself : Carried e o x solved c → Type 0
        IsItself k = let s = carrier e o x solved c k in s.temp ≡ k.value

        all_itself : (vs : List TempId) (each : Each Crosses vs) → Each IsItself (all_cross vs each)
        all_itself [] each = tt
        all_itself (v ∷ vs) each = (each.0.itself ∙ sym each.0.value, all_itself vs each.1)

        each_crosses : Each Crosses (saved_in r.owner)
        each_crosses = each_of Crosses (saved_in r.owner) (λ v m. let j = position_of (saved_in r.owner) v m in crosses j.0 v j.2)

        -- where the call keeps fewer registers, one of them is in a slot
        call_crowds : length (callee_saved e.table) < length (saved_in r.owner) → InSlot r
        call_crowds fewer =
            let vs = saved_in r.owner in
            let ks = all_cross vs each_crosses in
            let value = λ (k : Carried e o x solved c). k.value in
            let are = values_are vs each_crosses in
            let apart : Pairwise (Differs e o x solved c) ks = pairwise_of_map (λ a b. a ≡ b → ⊥) value ks
            (subst (λ (us : List TempId). Differ us) (sym are) saved_differ) in
            let some = many_in_slots e o x solved c (callee_saved e.table)
            (call_keeps e o x solved c all_c call (callee_saved e.table) (saved_cover e o x solved c)) ks apart in
            let long = ap length are in
            let mapped = length_mapped value ks in
            let high = filter (in_slot e o x solved c) ks in
            let got = get_below high 0 (omega (arith, fewer, some, long, mapped)) in
            let k = got.0 in
            let both = member_of_filter (in_slot e o x solved c) ks k (member_at high 0 k got.1) in
            let s = carrier e o x solved c k in
            let itself = each_member IsItself ks k (all_itself vs each_crosses) both.0 in
            let j = position_of vs k.value (subst (Member k.value) are (member_map value ks k both.0)) in
            record {
              place = j.0;
              temp = k.value;
              at = j.2;
              reg = reg_of e o x solved s;
              is = subst (λ (t : TempId). register_of ranges t ≡ Some (reg_of e o x solved s)) itself
                  (register_is s (spot_member e o x solved c k));
              slot = true_le FIRST_SLOT (reg_of e o x solved s) both.1;
            }

    pub crowded_slot : is_crowded (length (callee_saved e.table)) r.owner ≡ true → InSlot r
    crowded_slot crowded =
        let own : ExtBlock = r.owner in
        let kept = length (callee_saved e.table) in
        let two = (and_iff (has_call own) (nat_lt kept (length (saved_in own)) && keeps_places own)).1 crowded in
        let more = (and_iff (nat_lt kept (length (saved_in own))) (keeps_places own)).1 two.1 in
        let found = any_of (λ (op : ExtOp). is_call_kind op.kind) own.ops two.0 in
        let i = position_of own.ops found.0 found.1 in
        let got = placed_get r.block own (var_at (r.first + ops_count own.ops)) r.number r.first i.0 own.ops found.0 i.2 in
        let call : is_call_kind got.0.op.kind ≡ true = ap (λ (op : ExtOp). is_call_kind op.kind) got.2 ∙ found.2 in
        let fewer : kept < length (saved_in own) = let t = more.0 in grind (arith, nat_tests, t) in
        call_crowds more.1 got.0 (member_at (region_placed r) i.0 got.0 got.1) call fewer

    -- ---- what is handed over in a slot

    module _ (i reg : ℕ) (is : register_read ranges (slice_get (handed_by k) i) ≡ Some reg) (slot : FIRST_SLOT ≤ reg) where
      end_operand : (y : Operand) × (let q = last in slice_get q.op.operands i ≡ Some y)
      end_operand = by (let q = last in slice_get q.op.operands i) refl
        where
          by : (y : Option Operand) → (let q = last in slice_get q.op.operands i ≡ y) → (y : Operand) × (let q = last in
              slice_get q.op.operands i ≡ Some y)
          by (Some y) h = (y, h)
          by None h =
              let q = last in
              let none : slice_get (handed_by k) i ≡ None = ap (λ (rs : List Read). slice_get rs i) (end_reads e o x given.extended k r at)
              ∙ places_none (read_of x (issue_at x q) (vars_of q)) 0 q.op.operands i h in
              let z : None ≡ Some reg = sym (ap (register_read ranges) none) ∙ is in
              absurd (cc z)

      -- the entry spills it
      pub end_spills : r.block ≡ 0 → (p : Placed) × Accesses_by r Spill p
      end_spills entry =
          let en = region_end e o x given.extended k r at in
          let y = end_operand in
          let active = reads_active e o x solved last i y.0 all_last (ap is_mandatory en.is_end) y.1 in
          let read = read_by e o x solved last i y.0 all_last active y.1 in
          let d = read.2 in
          let s = d.spot in
          let block : s.definer.block ≡ r.block = d.block ∙ of_region r last last_in in
          let range = range_here e o x (numbered e o x given) s d.member in
          let there : is_active e o x solved s ≡ true = subst (λ (w : LiveRange). w.active ≡ true) range d.active in
          let both : Some (reg_of e o x solved s) ≡ Some reg =
          sym (register_is s d.member) ∙ ap (register_of ranges) d.is
          ∙ sym (ap (register_read ranges) (end_read e o x given.extended k r at i y.0 y.1)) ∙ is in
          let same : reg_of e o x solved s ≡ reg = cc both in
          let high : FIRST_SLOT ≤ reg_of e o x solved s = omega (arith, same, slot) in
          let spilled = slot_spilled e o x solved s d.member there high (not_start s d.member (block ∙ entry) high
          (is_in s.definer.op.kind) refl) in (
            s.definer,
            record {
              member = definer_in e o x (numbered e o x given) s d.member;
              block = block;
              copy = spilled.1;
              instr = spilled.0;
            },
          )
        where
          not_start : (s : Spot) → Member s (spots e o x) → s.definer.block ≡ 0 → FIRST_SLOT ≤ reg_of e o x solved s → (b : Bool)
              → is_in s.definer.op.kind ≡ b → is_in s.definer.op.kind ≡ false
          not_start s m block high false q = q
          not_start s m block high true q = let low = entry_starts e o x solved s m block q in absurd (omega (arith, low, high))

    -- ---- what is taken in a slot and read in a register

    module _ (i : InSlot r) (all_read : reads_saved r.owner (region_places r) ≡ true) where
      record User : Type 0 where
        user : Placed
        region : Member user (region_placed r)
        mandatory : is_mandatory user.op.kind ≡ true
        place : ℕ
        operand : Operand
        at_user : slice_get user.op.operands place ≡ Some operand
        reads : first_of operand.alts ≡ i.temp.0
        asked : is_asked true user.op.kind operand ≡ true

      used : User
      used =
          let n = i.temp.0 in
          let vs = saved_in r.owner in
          let ps = region_places r in
          let told = each_member (λ (t : TempId). list_any (reads_value true t.0) ps ≡ true) vs i.temp
          ((all_pass (λ (t : TempId). list_any (reads_value true t.0) ps) vs).1 all_read) (member_at vs i.place i.temp i.at) in
          let p = any_of (reads_value true n) ps told in
          let q = member_map_of place_of (region_placed r) p.0 p.1 in
          let by : reads_value true n (place_of q.0) ≡ true = ap (reads_value true n) q.2 ∙ p.2 in
          let test = λ (y : Operand). first_of y.alts == n && is_asked true q.0.op.kind y in
          let two = (and_iff (is_mandatory q.0.op.kind) (list_any test q.0.op.operands)).1 by in
          let y = any_of test q.0.op.operands two.1 in
          let both = (and_iff (first_of y.0.alts == n) (is_asked true q.0.op.kind y.0)).1 y.2 in
          let k = position_of q.0.op.operands y.0 y.1 in
          record {
            user = q.0;
            region = q.1;
            mandatory = two.0;
            place = k.0;
            operand = y.0;
            at_user = k.2;
            reads = eqb-true (first_of y.0.alts) n both.0;
            asked = both.1;
          }

      all_user : (let u = used in Member u.user (all e o x))
      all_user = let u = used in in_all e o x r u.user in_blocks u.region

      user_active : (let u = used in (issue_at x u.user).active ≡ true)
      user_active = let u = used in reads_active e o x solved u.user u.place u.operand all_user u.mandatory u.at_user

      -- it issues after the block's start
      issues_late : (q : Placed) → Member q (all e o x) → (issue_at x q).active ≡ true → is_delimiter q.op.kind ≡ false → 0 < cycle q
      issues_late q m active inner =
          let v = vars_of q in
          let instr = instruction_of q.op.kind (value_by x v.instr) in
          let some : is_some instr ≡ true = sym (ap (λ (b : Bool). b || is_some instr) inner) ∙ active in
          let op = is_there instr some in
          let within = placed_as e o x given schedule (issue_at x q) op.0 (issue_member q m) op.1 in
          within.0.0

      user_late : (let u = used in 0 < cycle u.user)
      user_late = let u = used in by u.user.op.kind refl u.mandatory
        where
          by : (kind : ExtKind) → (let u = used in u.user.op.kind ≡ kind) → is_mandatory kind ≡ true → (let u = used in 0 < cycle u.user)
          by Out f t =
              let u = used in
              let w = vars_of u.user in
              let d = in_domains e o x given u.user all_user in
              let some = d.close in
              let end : cycle u.user ≡ end_of x u.user = ap (λ (kind : ExtKind). cycle_by x (end_of x u.user) kind w) f in
              omega (arith, some, end)
          by (Body so) f t = let u = used in issues_late u.user all_user user_active (ap is_delimiter f)
          by (End term) f t = let u = used in issues_late u.user all_user user_active (ap is_delimiter f)
          by In f t =
              let u = used in
              let d = reading e o x given u.user u.place u.operand all_user u.at_user in
              let none = subst (λ (kind : ExtKind). slice_get (wants_of e.table e.names e.blocks u.user.owner kind u.user.op) u.place
              ≡ Some d.want) f d.wants in
              absurd (cc none)
          by (Copy node) f t = absurd (cc t)
          by Enter f t = absurd (cc t)
          by Leave f t = absurd (cc t)

      abbrev v : TempId
      v = i.temp

      abbrev reader : Reader e o x solved v 0
      reader = let u = used in record {
        user = u.user;
        member = all_user;
        active = user_active;
        place = u.place;
        operand = u.operand;
        at = u.at_user;
        value = ap temp u.reads;
        after = user_late;
      }

      needs : NeedsRegister e o x solved v 0 reader
      needs = let u = used in by u.user.op.kind refl u.mandatory u.asked
        where
          home : (let u = used in is_register_home u.operand.home ≡ true) → NeedsRegister e o x solved v 0 reader
          home h = let u = used in home_needs e o x solved v 0 reader (some_home u.operand.home h)

          by : (kind : ExtKind) → (let u = used in u.user.op.kind ≡ kind) → is_mandatory kind ≡ true
              → (let u = used in is_asked true kind u.operand ≡ true)
              → NeedsRegister e o x solved v 0 reader
          by (Body so) f t h = source_needs e o x solved v 0 reader so f
          by (End term) f t h = end_needs e o x solved v 0 reader term f
          by In f t h = home h
          by Out f t h = home h
          by (Copy node) f t h = absurd (cc t)
          by Enter f t h = absurd (cc t)
          by Leave f t h = absurd (cc t)

      abbrev began : Starts i.temp
      began = starts i.place i.temp i.at

      carrying : (let b = began in Held e o x solved v 0 reader)
      carrying =
          let b = began in
          let begins = start_cycle b.spot.definer b.kind in
          held e o x solved v 0 b.spot b.member b.is (omega (arith, begins)) reader

      -- what is there in the first cycle is the value itself
      itself : (let s = held_spot e o x solved v 0 reader carrying in s.temp ≡ v)
      itself = let s = held_spot e o x solved v 0 reader carrying in by s.definer.op.kind refl
        where
          own : (let s = held_spot e o x solved v 0 reader carrying in spot_carried s ≡ s.temp)
              → (let s = held_spot e o x solved v 0 reader carrying in s.temp ≡ v)
          own same = sym same ∙ held_value e o x solved v 0 reader carrying

          by : (kind : ExtKind) → (let s = held_spot e o x solved v 0 reader carrying in s.definer.op.kind ≡ kind)
              → (let s = held_spot e o x solved v 0 reader carrying in s.temp ≡ v)
          by (Copy node) f =
              let s = held_spot e o x solved v 0 reader carrying in
              let w = carrying in
              let none = w.from in
              let some = issues_late s.definer (definer_in e o x (numbered e o x given) s (held_member e o x solved v 0 reader carrying))
              (held_active e o x solved v 0 reader carrying) (ap is_delimiter f) in
              absurd (omega (arith, none, some))
          by In f = let s = held_spot e o x solved v 0 reader carrying in own (ap (λ (z : ExtKind). carried_at z s) f)
          by Out f = let s = held_spot e o x solved v 0 reader carrying in own (ap (λ (z : ExtKind). carried_at z s) f)
          by (Body so) f = let s = held_spot e o x solved v 0 reader carrying in own (ap (λ (z : ExtKind). carried_at z s) f)
          by (End term) f = let s = held_spot e o x solved v 0 reader carrying in own (ap (λ (z : ExtKind). carried_at z s) f)
          by Enter f = let s = held_spot e o x solved v 0 reader carrying in own (ap (λ (z : ExtKind). carried_at z s) f)
          by Leave f = let s = held_spot e o x solved v 0 reader carrying in own (ap (λ (z : ExtKind). carried_at z s) f)

      high : (let s = held_spot e o x solved v 0 reader carrying in FIRST_SLOT ≤ reg_of e o x solved s)
      high =
          let s = held_spot e o x solved v 0 reader carrying in
          let slot = i.slot in
          let both : Some (reg_of e o x solved s) ≡ Some i.reg =
          sym (register_is s (held_member e o x solved v 0 reader carrying)) ∙ ap (register_of ranges) itself ∙ i.is in
          let same : reg_of e o x solved s ≡ i.reg = cc both in
          omega (arith, same, slot)

      on_the_way : (let w = carrying in let u = used in let r = w.reader in IsOnTheWay e o x solved r.user u.user)
      on_the_way = let w = carrying in elim w.way [
        | inl same ↦ absurd (here same)
        | inr on ↦ on
      ]
        where
          here : (let w = carrying in w.reader ≡ reader) → ⊥
          here same =
              let w = carrying in
              no_reader e o x solved v 0 w.reader w.want w.wants w.reading
              (subst (λ (r : Reader e o x solved v 0). NeedsRegister e o x solved v 0 r) (sym same) needs) high

      -- it is reloaded, by the block's end
      pub start_reloads : (p : Placed) × Accesses_by r Reload p × (cycle p + latency_of e.table Reload ≤ end_of x p)
      start_reloads =
          let w = carrying in
          let u = used in
          let q = w.reader in
          let on = on_the_way in
          let reloaded = reloads e o x solved v 0 w.reader w.want w.wants w.reading on.copy high in
          let done = by_end e o x solved u.user all_user user_active in
          let end = same_end e o x solved q.user u.user q.member all_user w.block in
          let late : latency_by e.table (issue_at x q.user).instr ≡ latency_of e.table Reload = ap (latency_by e.table) reloaded in
          let ready = on.ready in (
            q.user,
            record {
              member = q.member;
              block = w.block ∙ of_region r u.user u.region;
              copy = on.copy;
              instr = reloaded;
            },
            omega (arith, done, end, late, ready),
          )
