-- What the entry and the blocks that read their saved values issue for those that stand in slots: each is the draft that they owe.
use Rattle.std.proofs.Common.{ℕ, ◌≡◌, ◌+◌, Bool, true, false, List, [], ◌∷◌, length, map, inl, inr, refl, sym, ap, ◌∙◌}
use Rattle.std.proofs.Common.{subst, arith}
use Rattle.std.specs.Prelude.{Option, Some, IfSome, ◌==◌, ◌&&◌, nat_lt, slice_get, slice_index, if◌then◌else◌}
use Rattle.std.specs.List.{AllByRecursion}
use Rattle.std.proofs.lemmas.Bool.Decides.{nat_tests}
use Rattle.un_base.specs.declared.ids.VarId.{VarId}
use Rattle.un_isa.specs.Registers.{saved_registers}
use Rattle.un_isa.specs.Tables.{latency_of}
use Rattle.un_isa.specs.declared.op.Op.{Op}
use Rattle.un_isa.specs.declared.op.Op.TheVariants.{Spill, Reload, Enter as EnterOp, Leave as LeaveOp}
use Rattle.un_ir.specs.Extended.{is_leave}
use Rattle.un_ir.specs.Kinds.{is_call_kind}
use Rattle.un_ir.specs.declared.extended.Ext.{Ext}
use Rattle.un_ir.specs.declared.extended.ExtKind.{ExtKind}
use Rattle.un_ir.specs.declared.extended.ExtKind.TheVariants.{In, Out, Body, End, Copy, Enter, Leave}
use Rattle.un_model.specs.declared.model.Arc.{Arc}
use Rattle.un_model.specs.declared.model.Options.{Options}
use Rattle.un_model.specs.Schedules.{schedule_of}
use Rattle.un_model.specs.Solutions.{IsSchedule, IsPlacedAs, latency_gap}
use Rattle.un_model.specs.Variables.{model_of, arcs_of}
use Rattle.un_lists.proofs.Lists.{Each, Member, each_of, each_more, each_member, member_map_of, member_of_filter, any_of}
use Rattle.un_model.proofs.Placed.{Placed, Region, region_placed, end_of, issue_at}
use Rattle.un_press.proofs.Spilling.{Several, placed_issue}
use Rattle.un_length.specs.declared.block.Task.{Task}
use Rattle.un_sites.specs.Lengths.{is_task}
use Rattle.un_sites.specs.Places.{Place}
use Rattle.un_sites.specs.Postings.{with_kind}
use Rattle.un_sites.specs.Rooms.{arcs_or}
use Rattle.un_sites.specs.Shares.{has_leave}
use Rattle.un_saved.specs.Reads.{reads_saved}
use Rattle.un_saved.specs.Saved.{hands_own}
use Rattle.un_saved.specs.Standing.{in_slots}
use Rattle.un_saved.specs.declared.boundary.Boundary.TheVariants.{StartOf, EndOf}
use Rattle.un_saved.proofs.EntrySpills.{SpillsAtEntry, entry_spills}
use Rattle.un_saved.proofs.ReturnReloads.{ReloadsByEnd, start_all_reloads}
use Rattle.un_post.proofs.Blocks.{blocks, region_places, region_close, stands_in, in_all}
use Rattle.un_post.proofs.Facts.{Given}
use Rattle.un_post.proofs.Filling.{first_of_several}
use Rattle.un_post.proofs.Placing.{place_of}
use Rattle.un_model.proofs.Regions.{of_region}
use Rattle.un_rows.specs.Drafts.{owed, arc, no_draft, before_calls, behind_calls, spilling, entry_draft, reloading, leaving, return_draft}
use Rattle.un_rows.specs.Rows.{crossed_by, crossed_in}
use Rattle.un_rows.specs.declared.draft.Owed.{Owed}
use Rattle.un_rows.specs.declared.known.Crossed.{Crossed}
use Rattle.un_rows.specs.Kept.{IsKeptBy}
use Rattle.un_post.proofs.DraftCalls.{copy_other, firsts, each_first, differ_first, at_place_of, behind_own, beside_of, same_issue}
use Rattle.un_post.proofs.Drafted.{solved, end, Issues, all_cycles, IsMet}
use Rattle.un_post.proofs.EnterLeave.{EntersBefore, enters_before, LeavesBehind, leaves_behind}
use Rattle.un_post.proofs.RoomBeside.{ops}

pub recursion_map : {A B : Type 0} (P : B → Type 0) (f : A → B) (xs : List A) → ((x : A) → Member x xs → P (f x))
    → AllByRecursion P (map f xs)
recursion_map P f [] h = tt
recursion_map P f (x ∷ xs) h = (h x (inl refl), recursion_map P f xs (λ y m. h y (inr m)))

call_task : (kind : ExtKind) → is_call_kind kind ≡ true → is_task kind ≡ true
call_task (Body so) h = refl
call_task In h = absurd (cc h)
call_task Out h = absurd (cc h)
call_task (End term) h = absurd (cc h)
call_task (Copy node) h = absurd (cc h)
call_task Enter h = absurd (cc h)
call_task Leave h = absurd (cc h)

leave_other : (kind : ExtKind) → is_leave kind ≡ true → is_task kind ≡ false
leave_other Leave h = refl
leave_other In h = absurd (cc h)
leave_other Out h = absurd (cc h)
leave_other (Body so) h = absurd (cc h)
leave_other (End term) h = absurd (cc h)
leave_other (Copy node) h = absurd (cc h)
leave_other Enter h = absurd (cc h)

module _ (e : Ext) (o : Options) (x : List ℕ) (given : Given e o x)
    (schedule : IsSchedule (latency_gap e.table) (model_of e o).domains (model_of e o) x (schedule_of (model_of e o) x))
    (r : Region) (mr : Member r (blocks e o x)) where
  abbrev own : List Task
  own = ops e o x given schedule r mr

  abbrev arcs : List Arc
  arcs = arcs_or (slice_get (arcs_of e) r.block)

  abbrev pub calls : List Crossed
  calls = crossed_in arcs r.owner own (region_places r)

  -- a call of the block as a draft sees it
  pub record CallOf (c : Crossed) : Type 0 where
    pub place : Placed
    pub member : Member place (region_placed r)
    pub call : is_call_kind place.op.kind ≡ true
    pub is : crossed_by arcs r.owner own (region_places r) (place_of place) ≡ c

  pub call_of : (c : Crossed) → Member c calls → CallOf c
  call_of c m =
      let f = member_map_of (crossed_by arcs r.owner own (region_places r)) (with_kind is_call_kind (region_places r)) c m in
      let k = member_of_filter (λ (p : Place). is_call_kind p.it.kind) (region_places r) f.0 f.1 in
      let q = member_map_of place_of (region_placed r) f.0 k.0 in
      record {
        place = q.0;
        member = q.1;
        call = ap (λ (p : Place). is_call_kind p.it.kind) q.2 ∙ k.1;
        is = ap (crossed_by arcs r.owner own (region_places r)) q.2 ∙ f.2;
      }

  -- its place has its cycle
  pub call_cycle : (ps : List Placed) (c : Crossed) (k : CallOf c)
      → slice_index (all_cycles e o x given schedule r mr ps) c.place ≡ (let q = k.place in (issue_at x q).cycle)
  call_cycle ps c k = ap (λ (d : Crossed). slice_index (all_cycles e o x given schedule r mr ps) d.place) (sym k.is)
      ∙ at_place_of e o x given schedule r mr ps k.place k.member (let q = k.place in call_task q.op.kind k.call)

  pub end_is : (p : Placed) → Member p (region_placed r) → end_of x p ≡ end e o x given schedule r mr
  end_is p mp = sym (ap (λ (v : VarId). slice_index x v.0) (region_close r p mp))

  -- the first of a draft's stands behind the operations of the length
  first_behind : (p : Placed) (ps : List Placed)
      → slice_index (all_cycles e o x given schedule r mr (p ∷ ps)) (length own) ≡ (issue_at x p).cycle
  first_behind p ps =
      let same : length own ≡ length own + 0 = omega arith in
      ap (slice_index (all_cycles e o x given schedule r mr (p ∷ ps))) same ∙ behind_own e o x given schedule r mr (p ∷ ps) 0

  nothing_met : IsMet e o x given schedule r mr no_draft
  nothing_met = record { listed = []; differ = tt; issue = tt; here = tt; front = tt; back = tt }

  -- ---- the entry

  module _ (entry : r.block ≡ 0) (at : slice_get (blocks e o x) 0 ≡ Some r) (own_values : hands_own r.owner ≡ true) where
    abbrev count : ℕ
    count = in_slots (schedule_of (model_of e o) x) e.blocks (EndOf 0) (length (saved_registers e.table))

    abbrev Spilled : Placed → Type 0
    Spilled = SpillsAtEntry e o x (solved e o x given schedule r mr)

    spills : Several e o x (solved e o x given schedule r mr) Spilled count
    spills = entry_spills e o x (solved e o x given schedule r mr) r at own_values

    spill_issues : (p : Placed) → Spilled p → Issues e o x given schedule r mr (owed Spill 2 1) p
    spill_issues p s =
        let block : p.block ≡ r.block = s.block ∙ sym entry in
        let mp = stands_in e o x r p mr s.member block in
        let is = end_is p mp in
        let late = s.late in
        let before = s.before in
        record {
          beside = beside_of e o x given schedule r mr p s.member block (copy_other p.op.kind s.copy) (omega (arith, before, is));
          instr = s.instr;
          some = omega (arith, late);
          head = omega (arith, late);
          tail = omega (arith, before, is);
        }

    abbrev spilled : List Placed
    spilled = firsts count spills.listed

    all_spilled : Each Spilled spilled
    all_spilled = each_first Spilled count spills.listed spills.each

    -- with Enter before one of them
    module _ (p : Placed) (first : Spilled p) (enter : EntersBefore e o x given schedule p) where
      abbrev q : Placed
      q = enter.place

      at_entry : q.block ≡ r.block
      at_entry = enter.block ∙ sym entry

      enter_issues : Issues e o x given schedule r mr (owed EnterOp 1 2) q
      enter_issues =
          let block : p.block ≡ r.block = first.block ∙ sym entry in
          let is = end_is p (stands_in e o x r p mr first.member block) in
          let begun = enter.after in
          let till = first.before in
          record {
            beside = beside_of e o x given schedule r mr q enter.member at_entry (ap is_task enter.kind) (omega (arith, begun, till, is));
            instr = enter.instr;
            some = enter.some;
            head = enter.some;
            tail = omega (arith, begun, till, is);
          }

      no_spill : Each (λ (y : Placed). q ≡ y → ⊥) spilled
      no_spill = each_of (λ (y : Placed). q ≡ y → ⊥) spilled (λ y my same.
          let s = each_member Spilled spilled y all_spilled my in
          let enters = subst (λ (z : Placed). (issue_at x z).instr ≡ Some EnterOp) same enter.instr in
          let both : Some EnterOp ≡ Some Spill = sym enters ∙ s.instr in
          absurd (cc both))

      before_all : AllByRecursion (IsKeptBy (all_cycles e o x given schedule r mr (q ∷ spilled))) (before_calls (length own) calls)
      before_all = recursion_map (IsKeptBy (all_cycles e o x given schedule r mr (q ∷ spilled)))
          (λ (c : Crossed). arc (length own) c.place) calls (λ c mc.
          let k = call_of c mc in
          let u = k.place in
          let le = enter.calls u (in_all e o x r u mr k.member) (of_region r u k.member ∙ entry) k.call in
          let a = first_behind q spilled in
          let b = call_cycle (q ∷ spilled) c k in
          omega (arith, le, a, b))

      entered_met : IsMet e o x given schedule r mr (spilling (length own) calls count)
      entered_met = record {
        listed = q ∷ spilled;
        differ = (no_spill, differ_first count spills.listed spills.differ);
        issue = (
          enter_issues,
          same_issue e o x given schedule r mr (owed Spill 2 1) count spills.listed spills.many
              (each_more Spilled (Issues e o x given schedule r mr (owed Spill 2 1)) spills.listed spill_issues spills.each),
        );
        here = (at_entry, each_more Spilled (λ (y : Placed). y.block ≡ r.block) spilled (λ y s. s.block ∙ sym entry) all_spilled);
        front = before_all;
        back = tt;
      }

    pub entry_met : IsMet e o x given schedule r mr (entry_draft (length own) calls count)
    entry_met = by (count == 0) refl
      where
        by : (b : Bool) → (count == 0) ≡ b
            → IsMet e o x given schedule r mr (if b then no_draft else spilling (length own) calls count)
        by true none = nothing_met
        by false some =
            let f = first_of_several e o x (solved e o x given schedule r mr) Spilled count (grind (arith, nat_tests, some)) spills in
            let first = f.1 in
            entered_met f.0 first (enters_before e o x given schedule f.0 first.member first.block first.instr)

  -- ---- a block that reads its saved values in registers

  module _ (k : ℕ) (at : slice_get (blocks e o x) k ≡ Some r) (read : reads_saved r.owner ≡ true) where
    abbrev taken : ℕ
    taken = in_slots (schedule_of (model_of e o) x) e.blocks (StartOf k) (length (saved_registers e.table))

    abbrev Reloaded : Placed → Type 0
    Reloaded = ReloadsByEnd e o x (solved e o x given schedule r mr) k r at read

    reloads : Several e o x (solved e o x given schedule r mr) Reloaded taken
    reloads = start_all_reloads e o x (solved e o x given schedule r mr) k r at read

    abbrev reload : Owed
    reload = owed Reload 1 (latency_of e.table Reload)

    reload_issues : (p : Placed) → Reloaded p → Issues e o x given schedule r mr reload p
    reload_issues p s =
        let mp = stands_in e o x r p mr s.member s.block in
        let placed = subst (λ (i : Option Op). IfSome i (IsPlacedAs (issue_at x p).cycle (end_of x p))) s.instr
        (placed_issue e o x (solved e o x given schedule r mr) p s.member) in
        let within = placed.0 in
        let till = within.1 in
        let is = end_is p mp in
        let first = s.first in
        let last = s.last in
        record {
          beside = beside_of e o x given schedule r mr p s.member s.block (copy_other p.op.kind s.copy) (omega (arith, till, is));
          instr = s.instr;
          some = omega (arith, first);
          head = omega (arith, first);
          tail = omega (arith, last, is);
        }

    abbrev reloaded : List Placed
    reloaded = firsts taken reloads.listed

    all_reloaded : Each Reloaded reloaded
    all_reloaded = each_first Reloaded taken reloads.listed reloads.each

    alone_met : IsMet e o x given schedule r mr (reloading e.table taken)
    alone_met = record {
      listed = reloaded;
      differ = differ_first taken reloads.listed reloads.differ;
      issue = same_issue e o x given schedule r mr reload taken reloads.listed reloads.many
          (each_more Reloaded (Issues e o x given schedule r mr reload) reloads.listed reload_issues reloads.each);
      here = each_more Reloaded (λ (y : Placed). y.block ≡ r.block) reloaded (λ y s. s.block) all_reloaded;
      front = tt;
      back = tt;
    }

    -- with Leave, where the block has one
    module _ (q : Placed) (mq : Member q (region_placed r)) (leave : is_leave q.op.kind ≡ true)
        (l : LeavesBehind e o x given schedule r mr q) where
      leave_issues : Issues e o x given schedule r mr (owed LeaveOp 1 1) q
      leave_issues =
          let before = l.before in
          let is = end_is q mq in
          record {
            beside = record { member = mq; other = leave_other q.op.kind leave; before = omega (arith, before, is) };
            instr = l.instr;
            some = l.some;
            head = l.some;
            tail = omega (arith, before, is);
          }

      no_reload : Each (λ (y : Placed). q ≡ y → ⊥) reloaded
      no_reload = each_of (λ (y : Placed). q ≡ y → ⊥) reloaded (λ y my same.
          let s = each_member Reloaded reloaded y all_reloaded my in
          let leaves = subst (λ (z : Placed). (issue_at x z).instr ≡ Some LeaveOp) same l.instr in
          let both : Some LeaveOp ≡ Some Reload = sym leaves ∙ s.instr in
          absurd (cc both))

      behind_all : AllByRecursion (IsKeptBy (all_cycles e o x given schedule r mr (q ∷ reloaded))) (behind_calls (length own) calls)
      behind_all = recursion_map (IsKeptBy (all_cycles e o x given schedule r mr (q ∷ reloaded)))
          (λ (c : Crossed). arc c.place (length own)) calls (λ c mc.
          let k = call_of c mc in
          let u = k.place in
          let le = l.calls u k.member k.call in
          let a = first_behind q reloaded in
          let b = call_cycle (q ∷ reloaded) c k in
          omega (arith, le, a, b))

      left_met : IsMet e o x given schedule r mr (leaving e.table (length own) calls taken)
      left_met = record {
        listed = q ∷ reloaded;
        differ = (no_reload, differ_first taken reloads.listed reloads.differ);
        issue = (
          leave_issues,
          same_issue e o x given schedule r mr reload taken reloads.listed reloads.many
              (each_more Reloaded (Issues e o x given schedule r mr reload) reloads.listed reload_issues reloads.each),
        );
        here = (of_region r q mq, each_more Reloaded (λ (y : Placed). y.block ≡ r.block) reloaded (λ y s. s.block) all_reloaded);
        front = tt;
        back = behind_all;
      }

    pub return_met : IsMet e o x given schedule r mr (return_draft e.table (has_leave (region_places r)) (length own) calls taken)
    return_met = by (has_leave (region_places r)) (nat_lt 0 taken) refl refl
      where
        by : (b c : Bool) → has_leave (region_places r) ≡ b → nat_lt 0 taken ≡ c
            → IsMet e o x given schedule r mr (if b && c then leaving e.table (length own) calls taken else reloading e.table taken)
        by false c has some = alone_met
        by true false has some = alone_met
        by true true has some =
            let f = first_of_several e o x (solved e o x given schedule r mr) Reloaded taken (grind (arith, nat_tests, some)) reloads in
            let first = f.1 in
            let found = any_of (λ (p : Place). is_leave p.it.kind) (region_places r) has in
            let q = member_map_of place_of (region_placed r) found.0 found.1 in
            let leave : is_leave q.0.op.kind ≡ true = ap (λ (p : Place). is_leave p.it.kind) q.2 ∙ found.2 in
            left_met q.0 q.1 leave (leaves_behind e o x given schedule r mr f.0 q.0 first.member first.instr q.1 leave)
