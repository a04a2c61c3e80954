-- What a block issues fills cycles: what has issued by an operation's cycle, with its Spills, those up to it, what issues after it, with its
-- Reloads, those from it to the end, and all of it, with what it owes for its neighbours, those of the block.
use Rattle.std.proofs.Common.{ℕ, ◌≡◌, ◌<◌, ◌≤◌, ◌+◌, ◌*◌, ◌-◌, Bool, true, false, List, map, filter}
use Rattle.std.proofs.Common.{refl, sym, ap, ◌∙◌, arith, eq-eqb}
use Rattle.std.specs.Prelude.{Some, ◌&&◌, ◌==◌, slice_get, slice_index, length, sum_by, if◌then◌else◌}
use Rattle.un_base.specs.declared.ids.VarId.{VarId}
use Rattle.un_isa.specs.Tables.{latency_of}
use Rattle.un_isa.specs.declared.op.Op.{Op}
use Rattle.un_isa.specs.declared.op.Op.TheVariants.{Spill, Reload, Enter as EnterOp, Leave as LeaveOp}
use Rattle.un_isa.specs.declared.packet_counts.Resource.{Resource}
use Rattle.un_ir.specs.declared.extended.Ext.{Ext}
use Rattle.un_ir.specs.Extended.{is_copy, is_leave, one_if}
use Rattle.un_ir.specs.Kinds.{is_call_kind, is_mandatory, is_source}
use Rattle.un_model.specs.declared.model.Arc.{Arc}
use Rattle.un_model.specs.declared.model.Options.{Options}
use Rattle.un_model.specs.Arcs.{own_instr}
use Rattle.un_model.specs.Schedules.{schedule_of, issues_of, value_by}
use Rattle.un_model.specs.Solutions.{IsSchedule, HasFrame, is_frame_access, latency_gap, share_of}
use Rattle.un_model.specs.Variables.{model_of, arcs_of, ops_count}
use Rattle.un_lists.proofs.Lists.{Each, Member, each_of, each_member, each_map, member_map_of, member_at, any_of}
use Rattle.un_model.proofs.Placed.{Placed, Region, region_placed, vars_of, issue_at}
use Rattle.un_model.proofs.PlacedSchedules.{all, issue_here}
use Rattle.un_model.proofs.Readings.{Solved}
use Rattle.un_press.proofs.Descent.{cycle_at}
use Rattle.un_press.proofs.Spilling.{Several, SpilledBy}
use Rattle.un_press.proofs.Reloading.{ReloadedAfter}
use Rattle.un_sites.specs.Crossings.{is_after, spills_at, reloads_at}
use Rattle.un_sites.specs.Lengths.{is_asking, head_by, tail_by, owed_head, end_head, cycles_by, cycles_after, cycles_in, most_of}
use Rattle.un_sites.specs.Places.{Place}
use Rattle.un_sites.specs.Rooms.{arcs_or, is_before, is_behind}
use Rattle.un_sites.specs.Saved.{crowded_of, edges_between, leads_there, comes_from, reads_saved, owed_by}
use Rattle.un_sites.specs.Shares.{own_share, spills_share, reloads_share, has_leave, cycles_with}
use Rattle.un_sites.specs.declared.edges.Accesses.{Accesses}
use Rattle.un_post.proofs.AccessRooms.{framed, distant, placed_as, late}
use Rattle.un_post.proofs.Blocks.{blocks, region_places, region_close, in_all, stands_in}
use Rattle.un_post.proofs.CallOrder.{ordered, issued_by, issued_after}
use Rattle.un_post.proofs.Crossed.{registers, asking_source, spills_owed as asked_spills, reloads_owed as asked_reloads}
use Rattle.un_post.proofs.Crowded.{Accesses_by}
use Rattle.un_post.proofs.Facts.{Given, in_domains}
use Rattle.un_post.proofs.Filling.{enough, greatest_is, none_of, several_more, first_of_several, takes_is, Beside, Other, beside_none}
use Rattle.un_post.proofs.Filling.{beside_one}
use Rattle.un_post.proofs.Filling.{beside_several, beside_both, beside_fits, takes, IsThere, sum_passing, sum_filter, filter_whole}
use Rattle.un_post.proofs.Issued.{is_issued, own_as, own_none, issued_some, issued_mandatory, source_issued, copy_optional}
use Rattle.un_post.proofs.Issued.{enter_optional, leave_optional, leave_frames, leave_instr, tag, leave_after}
use Rattle.un_post.proofs.OneEnter.{filter_map, one_enter}
use Rattle.un_post.proofs.Packets.{sum_map, sum_part}
use Rattle.un_post.proofs.Placing.{place_of}
use Rattle.un_model.proofs.Regions.{of_region, placed_regions}
use Rattle.un_post.proofs.Slotted.{ReloadsIn as ReloadsBy, crowded_slotted, owed_spills, owed_reloads}
use Rattle.un_post.proofs.Spared.{Ordered}

module _ (e : Ext) (o : Options) (x : List ℕ) (given : Given e o x)
    (schedule : IsSchedule (latency_gap e.table) (model_of e o).domains (model_of e o) x (schedule_of (model_of e o) x)) where
  abbrev solved : Solved e o x
  solved = record { extended = given.extended; fit = given.fit; options = given.options; schedule = schedule }

  abbrev cycle : Placed → ℕ
  cycle q = cycle_at e o x solved q

  abbrev end : Placed → ℕ
  end q = (issue_at x q).end

  issue_member : (q : Placed) → Member q (all e o x) → Member (issue_at x q) (issues_of (model_of e o) x)
  issue_member q m = member_at (issues_of (model_of e o) x) q.number (issue_at x q) (issue_here e o x q m)

  -- an operation of the source, or a terminator, issues within its block
  issued_within : (q : Placed) → Member q (all e o x) → is_issued q.op.kind ≡ true → (0 < cycle q) × (cycle q < end q)
  issued_within q m t =
      let v = vars_of q in
      let some = issued_some q.op.kind (value_by x v.instr) t in
      let placed = placed_as e o x given schedule (issue_at x q) some.0 (issue_member q m) some.1 in
      placed.0

  module _ (r : Region) (mr : Member r (blocks e o x)) where
    abbrev arcs : List Arc
    arcs = arcs_or (slice_get (arcs_of e) r.block)

    abbrev ps : List Place
    ps = region_places r

    abbrev close : ℕ
    close = let owner = r.owner in slice_index x (r.first + ops_count owner.ops)

    end_is : (q : Placed) → Member q (region_placed r) → end q ≡ close
    end_is q m = sym (ap (λ (v : VarId). slice_index x v.0) (region_close r q m))

    -- ---- own operations in an interval of cycles

    module _ (lo n : ℕ) (test : Placed → Bool) where
      abbrev There : Placed → Type 0
      There q = IsThere e o x solved r.block lo n test q

      abbrev own : Resource → Placed → ℕ
      own resource q = share_of e.table resource (own_instr q.op)

      abbrev taken : Resource → Placed → ℕ
      taken resource q = takes e o x solved r.block lo n test resource q

      own_taken : (resource : Resource) (q : Placed) → Member q (region_placed r)
          → (is_issued q.op.kind ≡ true → There q × (test q ≡ true)) → own resource q ≤ (if test q then taken resource q else 0)
      own_taken resource q m issues = by (is_issued q.op.kind) refl
        where
          by : (b : Bool) → is_issued q.op.kind ≡ b → own resource q ≤ (if test q then taken resource q else 0)
          by true t =
              let there = issues t in
              let v = vars_of q in
              let same = own_as e.table resource q.op.kind (value_by x v.instr) t in
              let all_of = takes_is e o x solved r.block lo n test resource q (of_region r q m) there.0 in
              let passes = ap (λ (b : Bool). if b then taken resource q else 0) there.1 in
              omega (arith, same, all_of, passes)
          by false t = let none = own_none e.table resource q.op.kind t in omega (arith, none)

      -- those that issue in the interval, and pass, take no more than what passes there
      own_below : (early : Place → Bool)
          → Each (λ q. early (place_of q) ≡ true → is_issued q.op.kind ≡ true → There q × (test q ≡ true)) (region_placed r)
          → (resource : Resource)
          → own_share e.table (filter early ps) resource ≤ sum_by (taken resource) (filter test (all e o x))
      own_below early fits resource =
          let qs = region_placed r in
          let counted = λ (q : Placed). if test q then taken resource q else 0 in
          let is : own_share e.table (filter early ps) resource ≡ sum_by (own resource) (filter (λ q. early (place_of q)) qs) =
          ap (λ (zs : List Place). own_share e.table zs resource) (filter_map early place_of qs)
          ∙ sum_map (λ (p : Place). share_of e.table resource (own_instr p.it)) place_of (filter (λ q. early (place_of q)) qs) in
          let less = sum_passing (λ q. early (place_of q)) (own resource) counted qs
          (each_of (λ q. early (place_of q) ≡ true → own resource q ≤ counted q) qs (λ q m is_early.
          own_taken resource q m (each_member (λ q. early (place_of q) ≡ true → is_issued q.op.kind ≡ true → There q × (test q ≡ true))
          qs q fits m is_early))) in
          let part = sum_part counted region_placed (blocks e o x) r mr in
          let whole = ap (sum_by counted) (placed_regions 0 0 0 e.blocks) in
          let passing = sum_filter (taken resource) test (all e o x) in
          omega (arith, is, less, part, whole, passing)

      -- ---- Spills and Reloads beside them

      module _ (optional : (q : Placed) → is_mandatory q.op.kind ≡ false → test q ≡ false) where
        -- a copy of the entry that spills in these cycles
        pub record Spilling (p : Placed) : Type 0 where
          pub member : Member p (all e o x)
          pub block : p.block ≡ r.block
          pub entry : r.block ≡ 0
          pub copy : is_copy p.op.kind ≡ true
          pub instr : (issue_at x p).instr ≡ Some Spill
          pub there : There p

        pub record Reloading (p : Placed) : Type 0 where
          pub member : Member p (all e o x)
          pub block : p.block ≡ r.block
          pub copy : is_copy p.op.kind ≡ true
          pub instr : (issue_at x p).instr ≡ Some Reload
          pub there : There p

        spill_other : (p : Placed) → Spilling p → Other e o x solved r.block lo n test tag 3 4 p
        spill_other p s =
            let is : tag (issue_at x p).instr ≡ 3 = ap tag s.instr in
            record {
              member = s.member;
              passes = optional p (copy_optional p.op.kind s.copy);
              block = s.block;
              there = s.there;
              least = omega (arith, is);
              greatest = omega (arith, is);
            }

        reload_other : (p : Placed) → Reloading p → Other e o x solved r.block lo n test tag 4 5 p
        reload_other p s =
            let is : tag (issue_at x p).instr ≡ 4 = ap tag s.instr in
            record {
              member = s.member;
              passes = optional p (copy_optional p.op.kind s.copy);
              block = s.block;
              there = s.there;
              least = omega (arith, is);
              greatest = omega (arith, is);
            }

        abbrev With : ℕ → ℕ → (Resource → ℕ) → Type 0
        With from to need = Beside e o x solved r.block lo n test tag from to need

        spills_beside : (lo ≤ 1) → (count : ℕ) → Several e o x solved Spilling count
            → With 2 4 (λ resource. spills_share e.table count resource)
        spills_beside low count s = by (count == 0) refl
          where
            by : (b : Bool) → (count == 0) ≡ b
                → With 2 4 (λ resource. if b then 0 else share_of e.table resource (Some EnterOp) + count * share_of e.table resource
                (Some Spill))
            by true is = beside_none e o x solved r.block lo n test tag 2 4 (λ resource. 0) (λ resource. refl)
            by false some =
                let ne : count ≡ 0 → ⊥ = λ z. (let w : true ≡ false = sym (eq-eqb count 0 z) ∙ some in cc w) in
                let first = first_of_several e o x solved Spilling count (omega (arith, ne)) s in
                let p = first.0 in
                let spill = first.1 in
                let after = late e o x given schedule (issue_at x p) (issue_member p spill.member) (spill.block ∙ spill.entry)
                spill.instr in
                let one = one_enter e o x given in
                let is : tag (issue_at x one.enter).instr ≡ 2 = ap tag after.is in
                let begun = after.some in
                let ahead = after.after in
                let there = spill.there in
                let till = there.1 in
                let first_enter : With 2 3 (λ resource. share_of e.table resource (Some EnterOp)) =
                beside_one e o x solved r.block lo n test tag 2 3 one.enter (λ resource. share_of e.table resource (Some EnterOp))
                (record {
                  member = one.member;
                  passes = optional one.enter (enter_optional (one.enter).op.kind one.is);
                  block = one.block ∙ sym spill.entry;
                  there = (omega (arith, low, begun), omega (arith, ahead, till));
                  least = omega (arith, is);
                  greatest = omega (arith, is);
                })
                (λ resource. ap (share_of e.table resource) (sym after.is)) in
                let spills = beside_several e o x solved r.block lo n test tag 3 4 count (Some Spill) Spilling spill_other
                (λ q p. p.instr) s in
                beside_both e o x solved r.block lo n test tag 2 3 4 (λ resource. share_of e.table resource (Some EnterOp))
                (λ resource. count * share_of e.table resource (Some Spill))
                (λ resource. share_of e.table resource (Some EnterOp) + count * share_of e.table resource (Some Spill)) (omega arith)
                (omega arith) (λ resource. refl) first_enter spills

        reloads_beside : (close ≤ lo + n) → (count : ℕ) → Several e o x solved Reloading count
            → With 4 6 (λ resource. reloads_share e.table (has_leave ps) count resource)
        reloads_beside whole count s = by (count == 0) (has_leave ps) refl refl
          where
            reloads : With 4 5 (λ resource. count * share_of e.table resource (Some Reload))
            reloads = beside_several e o x solved r.block lo n test tag 4 5 count (Some Reload) Reloading reload_other (λ q p. p.instr) s

            by : (b leaves : Bool) → (count == 0) ≡ b → has_leave ps ≡ leaves
                → With 4 6 (λ resource. if b then 0
                else (if leaves then share_of e.table resource (Some LeaveOp) else 0) + count * share_of e.table
                resource (Some Reload))
            by true leaves is leave = beside_none e o x solved r.block lo n test tag 4 6 (λ resource. 0) (λ resource. refl)
            by false false some leave =
                beside_both e o x solved r.block lo n test tag 4 5 6 (λ resource. count * share_of e.table resource (Some Reload))
                (λ resource. 0)
                (λ resource. 0 + count * share_of e.table resource (Some Reload)) (omega arith) (omega arith) (λ resource. omega arith)
                reloads (beside_none e o x solved r.block lo n test tag 5 6 (λ resource. 0) (λ resource. refl))
            by false true some leave =
                let ne : count ≡ 0 → ⊥ = λ z. (let w : true ≡ false = sym (eq-eqb count 0 z) ∙ some in cc w) in
                let first = first_of_several e o x solved Reloading count (omega (arith, ne)) s in
                let p = first.0 in
                let reload = first.1 in
                let f = framed e o x given schedule (issue_at x p) (issue_member p reload.member) (ap is_frame_access reload.instr) in
                let found = any_of (λ (p : Place). is_leave p.it.kind) ps leave in
                let q = member_map_of place_of (region_placed r) found.0 found.1 in
                let is_so : is_leave q.0.op.kind ≡ true = ap (λ (p : Place). is_leave p.it.kind) q.2 ∙ found.2 in
                let mq = in_all e o x r q.0 mr q.1 in
                let mi = issue_member q.0 mq in
                let on : (issue_at x q.0).active ≡ true =
                each_member (HasFrame true) (issues_of (model_of e o) x) (issue_at x q.0) f.active mi
                (leave_frames q.0.op.kind is_so) in
                let v = vars_of q.0 in
                let instr = leave_instr q.0.op.kind (value_by x v.instr) is_so on in
                let is : tag (issue_at x q.0).instr ≡ 5 = ap tag instr in
                let within = placed_as e o x given schedule (issue_at x q.0) LeaveOp mi instr in
                let before = within.0.1 in
                let closes = end_is q.0 q.1 in
                let behind = leave_after (issue_at x p).instr (issue_at x q.0).instr (cycle p) (cycle q.0) reload.instr instr
                (distant e o x given schedule f (issue_at x p) (issue_at x q.0) (issue_member p reload.member) mi
                (reload.block ∙ sym (of_region r q.0 q.1))) in
                let there = reload.there in
                let from = there.0 in
                beside_both e o x solved r.block lo n test tag 4 5 6 (λ resource. count * share_of e.table resource (Some Reload))
                (λ resource. share_of e.table resource (Some LeaveOp))
                (λ resource. share_of e.table resource (Some LeaveOp) + count * share_of e.table resource (Some Reload)) (omega arith)
                (omega arith) (λ resource. omega arith) reloads
                (beside_one e o x solved r.block lo n test tag 5 6 q.0 (λ resource. share_of e.table resource (Some LeaveOp))
                (record {
                  member = mq;
                  passes = optional q.0 (leave_optional q.0.op.kind is_so);
                  block = of_region r q.0 q.1;
                  there = (omega (arith, from, behind), omega (arith, before, closes, whole));
                  least = omega (arith, is);
                  greatest = omega (arith, is);
                })
                (λ resource. ap (share_of e.table resource) (sym instr)))

    -- ---- an operation

    abbrev room : ℕ
    room = length (registers e o x given schedule r mr)

    module _ (c : Placed) (mc : Member c (region_placed r)) (source : is_source c.op.kind ≡ true) where
      all_c : Member c (all e o x)
      all_c = in_all e o x r c mr mc

      inside : (0 < cycle c) × (cycle c < end c)
      inside = issued_within c all_c (source_issued c.op.kind source)

      abbrev all_own : Placed → Bool
      all_own q = is_mandatory q.op.kind

      -- ---- up to its cycle

      spilling : (p : Placed) → SpilledBy e o x solved c p × (r.block ≡ 0) → Spilling 1 (cycle c) all_own (λ q h. h) p
      spilling p h =
          let s = h.0 in
          let first = s.first in
          let last = s.last in
          record {
            member = s.member;
            block = s.block ∙ of_region r c mc;
            entry = h.1;
            copy = s.copy;
            instr = s.instr;
            there = (omega (arith, first), omega (arith, last));
          }

      abbrev spills : ℕ
      spills = spills_at e.table room (r.block == 0) arcs ps (place_of c)

      with_spills : Beside e o x solved r.block 1 (cycle c) all_own tag 2 4 (λ resource. spills_share e.table spills resource)
      with_spills = spills_beside 1 (cycle c) all_own (λ q h. h) (omega arith) spills
          (several_more e o x solved (λ p. SpilledBy e o x solved c p × (r.block ≡ 0)) (Spilling 1 (cycle c) all_own (λ q h. h)) spills
          spilling (asked_spills e o x given schedule r mr c mc source))

      early_there : (q : Placed) → Member q (region_placed r) → is_before arcs (place_of q) (place_of c) ≡ true
          → is_issued q.op.kind ≡ true → There 1 (cycle c) all_own q × (all_own q ≡ true)
      early_there q m early t =
          let within = issued_within q (in_all e o x r q mr m) t in
          let some = within.0 in
          let le = issued_by e o x given schedule r mr q c m mc early in
          ((omega (arith, some), omega (arith, le)), issued_mandatory q.op.kind t)

      pub heads_filled : cycles_by e.table room (r.block == 0) arcs ps (place_of c) ≤ cycle c
      heads_filled = enough e.table (filter (λ (d : Place). is_before arcs d (place_of c)) ps) false spills 0 (cycle c) (λ resource.
          let own = own_below 1 (cycle c) all_own (λ (d : Place). is_before arcs d (place_of c))
          (each_of (λ q. is_before arcs (place_of q) (place_of c) ≡ true → is_issued q.op.kind ≡ true
          → There 1 (cycle c) all_own q × (all_own q ≡ true)) (region_placed r) early_there) resource in
          let fit = beside_fits e o x solved r.block 1 (cycle c) all_own tag 2 4
          (λ resource. spills_share e.table spills resource) with_spills resource in
          omega (arith, own, fit))

      -- ---- between it and the end

      abbrev left : ℕ
      left = close - 1 - cycle c

      end_own : end c ≡ close
      end_own = end_is c mc

      reloading : (p : Placed) → ReloadedAfter e o x solved c p → Reloading (cycle c + 1) left all_own (λ q h. h) p
      reloading p s =
          let block = s.block ∙ of_region r c mc in
          let mp = stands_in e o x r p mr s.member block in
          let within = placed_as e o x given schedule (issue_at x p) Reload (issue_member p s.member) s.instr in
          let before = within.0.1 in
          let closes = end_is p mp in
          let first = s.first in
          record {
            member = s.member;
            block = block;
            copy = s.copy;
            instr = s.instr;
            there = (omega (arith, first), omega (arith, before, closes, first));
          }

      abbrev reloads : ℕ
      reloads = reloads_at e.table room arcs ps (place_of c)

      with_reloads : Beside e o x solved r.block (cycle c + 1) left all_own tag 4 6
          (λ resource. reloads_share e.table (has_leave ps) reloads resource)
      with_reloads =
          let last = inside.1 in
          let own = end_own in
          reloads_beside (cycle c + 1) left all_own (λ q h. h) (omega (arith, last, own)) reloads
          (several_more e o x solved (ReloadedAfter e o x solved c) (Reloading (cycle c + 1) left all_own (λ q h. h)) reloads reloading
          (asked_reloads e o x given schedule r mr c mc source))

      -- where tests say which operations issue after it
      filled_after : (late : Place → Bool) → ((q : Placed) → Member q (region_placed r) → late (place_of q) ≡ true
          → cycle c + 1 ≤ cycle q) → cycle c + (cycles_with e.table (filter late ps) (has_leave ps) 0 reloads + 1) ≤ end c
      filled_after late after =
          let last = inside.1 in
          let own_end = end_own in
          let le = enough e.table (filter late ps) (has_leave ps) 0 reloads left (λ resource.
          let own = own_below (cycle c + 1) left all_own late
          (each_of (λ q. late (place_of q) ≡ true → is_issued q.op.kind ≡ true
          → There (cycle c + 1) left all_own q × (all_own q ≡ true)) (region_placed r) (λ q m is t.
          let within = issued_within q (in_all e o x r q mr m) t in
          let before = within.1 in
          let closes = end_is q m in
          let le = after q m is in
          ((omega (arith, le), omega (arith, before, closes, le)), issued_mandatory q.op.kind t))) resource in
          let fit = beside_fits e o x solved r.block (cycle c + 1) left all_own tag 4 6
          (λ resource. reloads_share e.table (has_leave ps) reloads resource) with_reloads resource in
          omega (arith, own, fit)) in
          omega (arith, le, last, own_end)

      pub tails_filled : cycle c + (cycles_after e.table room arcs ps (place_of c) + 1) ≤ end c
      tails_filled = by (is_call_kind c.op.kind) refl
        where
          order : Ordered x r arcs
          order = ordered e o x given schedule r mr

          by : (t : Bool) → is_call_kind c.op.kind ≡ t
              → cycle c + (cycles_with e.table (if t then filter (is_behind arcs (place_of c)) ps else filter (is_after arcs ps (place_of c)) ps)
              (has_leave ps) 0 reloads + 1) ≤ end c
          by true call = filled_after (is_behind arcs (place_of c)) (λ q m late. order.behind c q mc m call late)
          by false call = filled_after (is_after arcs ps (place_of c))
              (λ q m late. issued_after e o x given schedule r mr c q mc m source late)

    -- ---- the block

    module _ (l : Placed) (ml : Member l (region_placed r)) where
      abbrev whole : ℕ
      whole = close - 1

      abbrev mandatory : Placed → Bool
      mandatory q = is_mandatory q.op.kind

      some_end : 1 ≤ close
      some_end =
          let d = in_domains e o x given l (in_all e o x r l mr ml) in
          let is = end_is l ml in
          let some = d.close in
          omega (arith, is, some)

      abbrev SpillsIn : ℕ → Type 0
      SpillsIn n = Several e o x solved (Spilling 1 whole mandatory (λ q h. h)) n

      abbrev ReloadsIn : ℕ → Type 0
      ReloadsIn n = Several e o x solved (Reloading 1 whole mandatory (λ q h. h)) n

      module _ (c : Placed) (mc : Member c (region_placed r)) (source : is_source c.op.kind ≡ true) where
        own_within : (0 < cycle c) × (cycle c < end c)
        own_within = issued_within c (in_all e o x r c mr mc) (source_issued c.op.kind source)

        spilling_in : (p : Placed) → SpilledBy e o x solved c p × (r.block ≡ 0) → Spilling 1 whole mandatory (λ q h. h) p
        spilling_in p h =
            let s = h.0 in
            let first = s.first in
            let last = s.last in
            let before = own_within.1 in
            let is = end_is c mc in
            record {
              member = s.member;
              block = s.block ∙ of_region r c mc;
              entry = h.1;
              copy = s.copy;
              instr = s.instr;
              there = (omega (arith, first), omega (arith, last, before, is));
            }

        reloading_in : (p : Placed) → ReloadedAfter e o x solved c p → Reloading 1 whole mandatory (λ q h. h) p
        reloading_in p s =
            let block = s.block ∙ of_region r c mc in
            let mp = stands_in e o x r p mr s.member block in
            let within = placed_as e o x given schedule (issue_at x p) Reload (issue_member p s.member) s.instr in
            let before = within.0.1 in
            let closes = end_is p mp in
            let first = s.first in
            record {
              member = s.member;
              block = block;
              copy = s.copy;
              instr = s.instr;
              there = (omega (arith, first), omega (arith, before, closes, first));
            }

      -- ---- what it owes for its neighbours

      abbrev owed : Accesses
      owed = owed_by (crowded_of (model_of e o)) (edges_between e.blocks) r.block r.owner ps

      within_block : (op : Op) (p : Placed) → Accesses_by e o x given schedule r op p → There 1 whole mandatory p
      within_block op p a =
          let mp = stands_in e o x r p mr a.member a.block in
          let within = placed_as e o x given schedule (issue_at x p) op (issue_member p a.member) a.instr in
          let first = within.0.0 in
          let before = within.0.1 in
          let closes = end_is p mp in
          (omega (arith, first), omega (arith, before, closes, first))

      spills_owed : SpillsIn (let w = owed in w.spills)
      spills_owed = several_more e o x solved (λ p. Accesses_by e o x given schedule r Spill p × (r.block ≡ 0))
          (Spilling 1 whole mandatory (λ q h. h)) (let w = owed in w.spills)
          (λ p h. (let a = h.0 in record {
            member = a.member;
            block = a.block;
            entry = h.1;
            copy = a.copy;
            instr = a.instr;
            there = within_block Spill p a;
          }))
          (owed_spills e o x given schedule (crowded_of (model_of e o)) (crowded_slotted e o x given schedule) r mr)

      ready_owed : Several e o x solved (ReloadsBy e o x given schedule r) (let w = owed in w.reloads)
      ready_owed = owed_reloads e o x given schedule (crowded_of (model_of e o)) (crowded_slotted e o x given schedule) r mr

      reloads_owed : ReloadsIn (let w = owed in w.reloads)
      reloads_owed = several_more e o x solved (ReloadsBy e o x given schedule r) (Reloading 1 whole mandatory (λ q h. h))
          (let w = owed in w.reloads)
          (λ p h. (let a = h.0 in record {
            member = a.member;
            block = a.block;
            copy = a.copy;
            instr = a.instr;
            there = within_block Reload p a;
          }))
          ready_owed

      -- a Spill is behind Enter, and the end behind it
      spill_end : (n : ℕ) → 0 < n → SpillsIn n → 3 ≤ close
      spill_end n more s =
          let first = first_of_several e o x solved (Spilling 1 whole mandatory (λ q h. h)) n more s in
          let p = first.0 in
          let spill = first.1 in
          let after = late e o x given schedule (issue_at x p) (issue_member p spill.member) (spill.block ∙ spill.entry) spill.instr in
          let begun = after.some in
          let ahead = after.after in
          let there = spill.there in
          let within = there.1 in
          let some = some_end in
          omega (arith, begun, ahead, within, some)

      -- what a Reload gives is ready by the end
      reload_end : (n : ℕ) → 0 < n → Several e o x solved (ReloadsBy e o x given schedule r) n → latency_of e.table Reload + 1 ≤ close
      reload_end n more s =
          let first = first_of_several e o x solved (ReloadsBy e o x given schedule r) n more s in
          let p = first.0 in
          let a = first.1.0 in
          let ready = first.1.1 in
          let there = within_block Reload p a in
          let begun = there.0 in
          let closes = end_is p (stands_in e o x r p mr a.member a.block) in
          omega (arith, ready, begun, closes)

      head_one : (b : Bool) → (0 < one_if b → 3 ≤ close) → head_by (one_if b) + 1 ≤ close
      head_one false h = some_end
      head_one true h = h (omega arith)

      tail_one : (b : Bool) → (0 < one_if b → latency_of e.table Reload + 1 ≤ close)
          → tail_by (latency_of e.table Reload) (one_if b) ≤ close
      tail_one false h = some_end
      tail_one true h = let le = h (omega arith) in omega (arith, le)

      owed_filled : owed_head e.table owed ≤ close
      owed_filled =
          let marks = crowded_of (model_of e o) in
          let edges = edges_between e.blocks in
          let spilled = head_one (r.block == 0 && leads_there marks edges r.block) (λ more. spill_end (let w = owed in w.spills) more
          spills_owed) in
          let reloaded = tail_one (comes_from marks edges r.block && reads_saved r.owner ps)
          (λ more. reload_end (let w = owed in w.reloads) more ready_owed) in
          omega (arith, spilled, reloaded)

      -- ---- all that it issues

      -- of those that ask the one that asks for most of them has so many, where so many are owed
      most_in : (P : ℕ → Type 0) (owed : ℕ) (f : Place → ℕ) → P owed → P 0
          → ((c : Placed) → Member c (region_placed r) → is_source c.op.kind ≡ true → P (f (place_of c))) → P (most_of owed f room ps)
      most_in P owed f owes none of_source =
          greatest_is P owed (map (λ (p : Place). if is_asking room ps p then f p else 0) ps) owes
          (each_map P (λ (p : Place). if is_asking room ps p then f p else 0) ps
          (each_map (λ (p : Place). P (if is_asking room ps p then f p else 0)) place_of (region_placed r)
          (each_of (λ (q : Placed). P (if is_asking room ps (place_of q) then f (place_of q) else 0)) (region_placed r) (λ q m.
          by q m (is_asking room ps (place_of q)) refl))))
        where
          by : (q : Placed) → Member q (region_placed r) → (b : Bool) → is_asking room ps (place_of q) ≡ b
              → P (if b then f (place_of q) else 0)
          by q m true h = of_source q m (asking_source room ps (place_of q) h)
          by q m false h = none

      abbrev spills_most : ℕ
      spills_most = let w = owed in most_of w.spills (spills_at e.table room (r.block == 0) arcs ps) room ps

      abbrev reloads_most : ℕ
      reloads_most = let w = owed in most_of w.reloads (reloads_at e.table room arcs ps) room ps

      spills_in : SpillsIn spills_most
      spills_in = most_in SpillsIn (let w = owed in w.spills) (spills_at e.table room (r.block == 0) arcs ps) spills_owed
          (none_of e o x solved (Spilling 1 whole mandatory (λ q h. h)))
          (λ c mc source. several_more e o x solved (λ p. SpilledBy e o x solved c p × (r.block ≡ 0))
          (Spilling 1 whole mandatory (λ q h. h)) (spills_at e.table room (r.block == 0) arcs ps (place_of c)) (spilling_in c mc source)
          (asked_spills e o x given schedule r mr c mc source))

      reloads_in : ReloadsIn reloads_most
      reloads_in = most_in ReloadsIn (let w = owed in w.reloads) (reloads_at e.table room arcs ps) reloads_owed
          (none_of e o x solved (Reloading 1 whole mandatory (λ q h. h)))
          (λ c mc source. several_more e o x solved (ReloadedAfter e o x solved c) (Reloading 1 whole mandatory (λ q h. h))
          (reloads_at e.table room arcs ps (place_of c)) (reloading_in c mc source)
          (asked_reloads e o x given schedule r mr c mc source))

      abbrev need : Resource → ℕ
      need resource = spills_share e.table spills_most resource + reloads_share e.table (has_leave ps) reloads_most resource

      with_accesses : Beside e o x solved r.block 1 whole mandatory tag 2 6 need
      with_accesses =
          let some = some_end in
          beside_both e o x solved r.block 1 whole mandatory tag 2 4 6 (λ resource. spills_share e.table spills_most resource)
          (λ resource. reloads_share e.table (has_leave ps) reloads_most resource) need (omega arith) (omega arith) (λ resource. refl)
          (spills_beside 1 whole mandatory (λ q h. h) (omega arith) spills_most spills_in)
          (reloads_beside 1 whole mandatory (λ q h. h) (omega (arith, some)) reloads_most reloads_in)

      end_filled : cycles_in e.table room (r.block == 0) owed arcs ps + 1 ≤ close
      end_filled =
          let some = some_end in
          let le = enough e.table ps (has_leave ps) spills_most reloads_most whole (λ resource.
          let own = own_below 1 whole mandatory (λ p. true)
          (each_of (λ q. true ≡ true → is_issued q.op.kind ≡ true → There 1 whole mandatory q × (mandatory q ≡ true)) (region_placed r)
          (λ q m yes t.
          let within = issued_within q (in_all e o x r q mr m) t in
          let first = within.0 in
          let before = within.1 in
          let closes = end_is q m in
          ((omega (arith, first), omega (arith, before, closes, first)), issued_mandatory q.op.kind t))) resource in
          let all_of = ap (λ (zs : List Place). own_share e.table zs resource) (filter_whole ps) in
          let fit = beside_fits e o x solved r.block 1 whole mandatory tag 2 6 need with_accesses resource in
          omega (arith, own, all_of, fit)) in
          omega (arith, le, some)

      -- the end is behind all of it
      pub end_behind : end_head e.table room (r.block == 0) owed arcs ps ≤ close
      end_behind = let filled = end_filled in let owes = owed_filled in omega (arith, filled, owes)
