-- In one block the flag, Enter and Leave agree with the use of the frame exactly where the constraint of the frame of its part is met.
use Rattle.std.proofs.Common.{ℕ, zero, suc, ◌≡◌, ◌↔◌, ◌+◌, ◌<◌, ◌≤◌, Bool, true, false, cond, List, [], ◌∷◌, ◌++◌, length, map, filter}
use Rattle.std.proofs.Common.{◌⊎◌, inl, inr, refl, sym, ap, ◌∙◌, subst, arith, All}
use Rattle.std.specs.Prelude.{Option, Some, None, IfSome, slice_get, slice_index, not, ◌||◌, ◌&&◌, ◌==◌, nat_eq, nat_le, nat_lt, is_none, is_some}
use Rattle.std.specs.Prelude.{if◌then◌else◌}
use Rattle.std.specs.List.{list_any, list_all}
use Rattle.un_base.specs.declared.ids.TempId.{TempId}
use Rattle.un_base.specs.declared.ids.VarId.{VarId}
use Rattle.un_isa.specs.declared.reg.TheConstants.{FIRST_SLOT}
use Rattle.un_ir.specs.Linear.{is_in}
use Rattle.un_ir.specs.declared.extended.ExtKind.{ExtKind}
use Rattle.un_ir.specs.declared.extended.ExtKind.TheVariants.{In}
use Rattle.un_ir.specs.declared.extended.Ext.{Ext}
use Rattle.un_ir.specs.Extended.{is_copy, is_enter, is_leave, one_if}
use Rattle.un_ir.specs.Kinds.{is_delimiter, is_call_kind}
use Rattle.un_model.specs.declared.model.Options.{Options}
use Rattle.un_model.specs.declared.schedule.Issue.{Issue}
use Rattle.un_model.specs.declared.schedule.LiveRange.{LiveRange}
use Rattle.un_model.specs.declared.schedule.Schedule.{Schedule}
use Rattle.un_model.specs.Cost.{value_of}
use Rattle.un_model.specs.Instructions.{instruction_of}
use Rattle.un_model.specs.Pairs.{joined}
use Rattle.un_model.specs.Schedules.{schedule_of, value_by}
use Rattle.un_model.specs.Solutions.{KeepsFrameOrder, HasFrame, Precedes, frame_distance, uses_frame, is_frame_access, starts_in_slot}
use Rattle.un_model.specs.Variables.{model_of}
use Rattle.un_lists.proofs.Lists.{Each, Member, each_of, each_member, each_append, each_join, each_map, each_of_map, any_of, member_map}
use Rattle.un_lists.proofs.Lists.{member_map_of, member_filter, member_of_filter, member_at}
use Rattle.un_model.proofs.OpDomains.{flag_sits}
use Rattle.un_model.proofs.Placed.{Placed, Region, region_placed, vars_of, issue_at, Spot, spot}
use Rattle.un_model.proofs.PlacedSchedules.{all, spots, spot_range, the_ranges, joined_member, member_joined}
use Rattle.un_model.proofs.Regions.{of_region}
use Rattle.un_model.proofs.RegionEnds.{all_regions}
use Rattle.un_alt.specs.declared.frame.FrameLeave.{FrameLeave}
use Rattle.un_alt.specs.declared.frame.FrameOp.{FrameOp}
use Rattle.un_alt.specs.declared.frame.FrameUse.{FrameUse}
use Rattle.un_alt.specs.Frame.{uses_frame as touches_frame, is_access, is_slot, is_on, all_on, none_on, in_order, counts, is_after, is_until}
use Rattle.un_alt.specs.Frame.{is_left, enter_on, enter_off, all_entered}
use Rattle.un_sites.specs.Places.{Place, definers_of}
use Rattle.un_sites.specs.Postings.{with_kind, cycle_var, instr_var, frame_op, copy_use, single_use, uses_of, leave_of, enter_among, part_frame}
use Rattle.un_post.specs.Parts.{absent, only_in, block_schedule, KeepsPartFrame}
use Rattle.un_post.proofs.Blocks.{region_places}
use Rattle.un_post.proofs.Congruences.{in_is}
use Rattle.un_post.proofs.Facts.{Given, definer_is}
use Rattle.un_post.proofs.FrameOrder.{all_iff, late_iff, soon_iff, tag_of, kind_fits, enter_tag, leave_tag, call_tag, copy_counts, call_counts}
use Rattle.un_post.proofs.FrameOrder.{leave_counts, cycle_is}
use Rattle.un_post.proofs.FrameTags.{Tag, Enters, Touches, Calls, Leaves, Quiet, gap_of, is_touch, touch_is, accessed}
use Rattle.un_post.proofs.FrameTests.{copy_inner, call_inner, enter_inner, leave_inner, kinds_of, cycle, Pair, pair_in, pair_of}
use Rattle.un_post.proofs.Frames.{any_true, same_bool, not_iff, frame_kind, enter_frame, leave_frame, three, access_is, start_kind, on_is}
use Rattle.un_post.proofs.Frames.{given_at}
use Rattle.un_post.proofs.Meeting.{Met}
use Rattle.un_post.proofs.OneEnter.{enters, entered, filter_map}
use Rattle.un_post.proofs.PartItems.{own_in, own_of, own_issues, own_range, issues_here, equal_of}
use Rattle.un_post.proofs.Placing.{place_of, definer_at}
use Rattle.un_post.proofs.Tests.{iff_then, iff_back, both, and_iff, met_one, lt_iff}
use Rattle.un_post.proofs.Whole.{ranges_are, spot_in, result_register, registers_each}

module _ (e : Ext) (o : Options) (x : List ℕ) (given : Given e o x) (r : Region)
    (at : slice_get (all_regions e o x given.extended) r.block ≡ Some r) where
  abbrev part : Schedule
  part = block_schedule r.block (schedule_of (model_of e o) x)

  abbrev qs : List Placed
  qs = region_placed r

  abbrev ps : List Place
  ps = region_places r

  own : (q : Placed) → Member q qs → Member q (all e o x)
  own q m = own_in e o x given r at q m

  -- ---- the use of the frame

  abbrev copies : List VarId
  copies = map instr_var (with_kind is_copy ps)

  abbrev starts : List VarId
  starts = joined (map (given_at e o x given) (with_kind is_in ps))

  -- the places of a kind are operations of the block
  place_in : (t : ExtKind → Bool) (p : Place) → Member p (with_kind t ps) → (q : Placed) × (Member q qs) × (place_of q ≡ p)
      × (t q.op.kind ≡ true)
  place_in t p m =
      let a = member_of_filter (λ (p : Place). t p.it.kind) ps p m in
      let c = member_map_of place_of qs p a.0 in
      (c.0, c.1, c.2, ap (λ (p : Place). t p.it.kind) c.2 ∙ a.1)

  in_places : (t : ExtKind → Bool) (q : Placed) → Member q qs → t q.op.kind ≡ true → Member (place_of q) (with_kind t ps)
  in_places t q m k = member_filter (λ (p : Place). t p.it.kind) ps (place_of q) (member_map place_of qs q m) k

  abbrev accesses : Issue → Bool
  accesses i = is_frame_access i.instr

  touched : list_any (is_access x) copies ≡ list_any accesses part.issues
  touched = same_bool _ _ (
      λ h.
      let a = any_of (is_access x) copies h in
      let b = member_map_of instr_var (with_kind is_copy ps) a.0 a.1 in
      let q = place_in is_copy b.0 b.1 in
      let t : is_access x (instr_var (place_of q.0)) ≡ true = ap (λ (p : Place). is_access x (instr_var p)) q.2 ∙ ap (is_access x) b.2
      ∙ a.2 in
      any_true accesses part.issues (issue_at x q.0) (subst (Member (issue_at x q.0)) (sym (own_issues e o x given r at))
      (member_map (issue_at x) qs q.0 q.1)) (sym (access_is e o x given q.0 (own q.0 q.1) q.3) ∙ t)
      ) (
      λ h.
      let a = any_of accesses part.issues h in
      let b = member_map_of (issue_at x) qs a.0 (subst (Member a.0) (own_issues e o x given r at) a.1) in
      let m = own b.0 b.1 in
      let acc : is_frame_access (issue_at x b.0).instr ≡ true = ap accesses b.2 ∙ a.2 in
      let k = kind_fits e o x given b.0 Touches m (touch_is (tag_of e o x given b.0) (sym (accessed (issue_at x b.0).instr) ∙ acc)) in
      any_true (is_access x) copies (instr_var (place_of b.0)) (member_map instr_var (with_kind is_copy ps) (place_of b.0)
      (in_places is_copy b.0 b.1 k)) (access_is e o x given b.0 m k ∙ acc)
      )

  slotted : list_any (is_slot x) starts ≡ list_any starts_in_slot part.ranges
  slotted = same_bool _ _ (
      λ h.
      let a = any_of (is_slot x) starts h in
      let b = joined_member (given_at e o x given) (with_kind is_in ps) a.0 a.1 in
      let q = place_in is_in b.0 b.1 in
      let v = subst (λ (p : Place). Member a.0 (given_at e o x given p)) (sym q.2) b.2 in
      let P = λ (u : VarId). is_slot x u ≡ true → list_any starts_in_slot part.ranges ≡ true in
      each_member P (given_at e o x given (place_of q.0)) a.0
      ((registers_each e o x given P q.0 (own q.0 q.1)).1 (λ k y there t. found q.0 k y q.1 there (in_is q.0.op.kind q.3) t)) v a.2
      ) (
      λ h.
      let a = any_of starts_in_slot part.ranges h in
      let b = member_map_of (only_in r.block) (the_ranges e o x) a.0 a.1 in
      let c = member_map_of (spot_range e o x) (spots e o x) b.0 (subst (Member b.0) (ranges_are e o x given) b.1) in
      let t : starts_in_slot (only_in r.block (spot_range e o x c.0)) ≡ true =
      ap (λ (g : LiveRange). starts_in_slot (only_in r.block g)) c.2 ∙ ap starts_in_slot b.2 ∙ a.2 in
      by c.0 c.1 (let d = c.0.definer in d.block == r.block) refl t
      )
    where
      found : (q : Placed) (k : ℕ) (y : TempId) → Member q qs → slice_get q.op.results k ≡ Some y → q.op.kind ≡ In
          → is_slot x (definer_at (spot q k y)).reg ≡ true → list_any starts_in_slot part.ranges ≡ true
      found q k y m there kind t =
          let s = spot q k y in
          let v = vars_of q in
          let on : (issue_at x q).active ≡ true = ap (λ (c : ExtKind). is_delimiter c || is_some (instruction_of c (value_by x v.instr)))
          kind in
          let none : is_none (issue_at x q).instr ≡ true = ap (λ (c : ExtKind). is_none (instruction_of c (value_by x v.instr))) kind in
          let known = subst (Member (spot_range e o x s)) (sym (ranges_are e o x given))
          (member_map (spot_range e o x) (spots e o x) s (spot_in e o x given q k y (own q m) there)) in
          any_true starts_in_slot part.ranges (only_in r.block (spot_range e o x s))
          (member_map (only_in r.block) (the_ranges e o x) (spot_range e o x s) known)
          (ap starts_in_slot (own_range e o x given r at s (of_region r q m))
          ∙ ap (λ (b : Bool). b && is_none (issue_at x q).instr && nat_le FIRST_SLOT (spot_range e o x s).reg) on
          ∙ ap (λ (b : Bool). b && nat_le FIRST_SLOT (spot_range e o x s).reg) none ∙ t)

      back : (s : Spot) → Member s (spots e o x) → Member s.definer qs → ((spot_range e o x s).active ≡ true)
          × (is_none (spot_range e o x s).instr ≡ true) × (nat_le FIRST_SLOT (spot_range e o x s).reg ≡ true)
          → list_any (is_slot x) starts ≡ true
      back s m mq h =
          let q = s.definer in
          let d = definer_is e o x given s m in
          let kind = start_kind e o x given s m h.0 h.1 in
          let v = (definer_at s).reg in
          let there = member_at (given_at e o x given (place_of q)) s.place v (result_register e o x given q s.place s.temp d.0 d.1) in
          let places = with_kind is_in ps in
          any_true (is_slot x) starts v (member_joined (map (given_at e o x given) places) (given_at e o x given (place_of q)) v
          (member_map (given_at e o x given) places (place_of q) (in_places is_in q mq (ap is_in kind))) there) h.2

      by : (s : Spot) → Member s (spots e o x) → (b : Bool) → (let d = s.definer in (d.block == r.block) ≡ b)
          → starts_in_slot (only_in r.block (spot_range e o x s)) ≡ true → list_any (is_slot x) starts ≡ true
      by s m true is t =
          let d = s.definer in
          let same = equal_of d.block r.block is in
          let mq = own_of e o x given r at d (definer_is e o x given s m).0 is in
          back s m mq (three _ _ _ (sym (ap starts_in_slot (own_range e o x given r at s same)) ∙ t))
      by s m false is t =
          let g = spot_range e o x s in
          let off : starts_in_slot (only_in r.block g) ≡ false = ap (λ (b : Bool). starts_in_slot (if b then g else absent g)) is in
          let z : true ≡ false = sym t ∙ off in
          absurd (cc z)

  used : touches_frame copies starts x ≡ uses_frame part
  used = ap (λ (b : Bool). b || list_any (is_slot x) starts) touched ∙ ap (λ (b : Bool). list_any accesses part.issues || b) slotted

  -- ---- Enter and Leave

  -- the operations of a kind are active, or they are not
  abbrev Are : (ExtKind → Bool) → Bool → Type 0
  Are t b = (q : Placed) → Member q qs → t q.op.kind ≡ true → (issue_at x q).active ≡ b

  abbrev AllAre : Bool → Type 0
  AllAre b = Are is_enter b × Are is_leave b

  frames_are : (b : Bool) → All (HasFrame b) part.issues ↔ AllAre b
  frames_are b =
      let each = issues_here e o x given r at (HasFrame b) in (
        λ h.
            let there = each.0 h in (
              λ q m k. each_member (λ q. HasFrame b (issue_at x q)) qs q there m (enter_frame q.op.kind k).0,
              λ q m k. each_member (λ q. HasFrame b (issue_at x q)) qs q there m (leave_frame q.op.kind k).0,
            ),
        λ h. each.1 (each_of (λ q. HasFrame b (issue_at x q)) qs (λ q m f. by h q m (frame_kind q.op.kind f))),
      )
    where
      by : AllAre b → (q : Placed) → Member q qs → (is_enter q.op.kind ≡ true) ⊎ (is_leave q.op.kind ≡ true) → (issue_at x q).active ≡ b
      by h q m (inl k) = h.0 q m k
      by h q m (inr k) = h.1 q m k

  enter_is_on : (q : Placed) → Member q qs → is_enter q.op.kind ≡ true → is_on x (frame_op (place_of q)) ≡ (issue_at x q).active
  enter_is_on q m k = let f = enter_frame q.op.kind k in on_is e o x given q (own q m) f.1 f.2

  leave_is_on : (q : Placed) → Member q qs → is_leave q.op.kind ≡ true → is_on x (frame_op (place_of q)) ≡ (issue_at x q).active
  leave_is_on q m k = let f = leave_frame q.op.kind k in on_is e o x given q (own q m) f.1 f.2

  abbrev leaves : List FrameLeave
  leaves = map (leave_of ps) (with_kind is_leave ps)

  -- what is so of each Leave
  leaves_each : (Q : FrameLeave → Type 0) → Each Q leaves ↔ ((l : Placed) → Member l qs → is_leave l.op.kind ≡ true → Q (leave_of ps (place_of l)))
  leaves_each Q =
      let each = kinds_of e o x given (λ p. Q (leave_of ps p)) is_leave qs in (
        λ h. each.0 (each_of_map Q (leave_of ps) (with_kind is_leave ps) h),
        λ h. each_map Q (leave_of ps) (with_kind is_leave ps) (each.1 h),
      )

  -- a test of every Leave
  leaves_pass : (t : Bool → Bool) (b : Bool) → ((a : Bool) → (a ≡ b) ↔ (t a ≡ true))
      → Are is_leave b ↔ (list_all (λ (l : FrameLeave). t (is_on x l.leave)) leaves ≡ true)
  leaves_pass t b says = iff_then each (iff_then (iff_back (leaves_each (λ (l : FrameLeave). t (is_on x l.leave) ≡ true)))
      (all_iff (λ (l : FrameLeave). t (is_on x l.leave)) leaves))
    where
      each : Are is_leave b ↔ ((l : Placed) → Member l qs → is_leave l.op.kind ≡ true → t (is_on x (frame_op (place_of l))) ≡ true)
      each = (
        λ f l m k. ap t (leave_is_on l m k) ∙ (says (issue_at x l).active).0 (f l m k),
        λ f l m k. (says (issue_at x l).active).1 (sym (ap t (leave_is_on l m k)) ∙ f l m k),
      )

  -- ---- the order

  -- what follows an Enter
  record After (p : Placed) : Type 0 where
    touch : (q : Placed) → Member q qs → tag_of e o x given q ≡ Touches → cycle e o x given p < cycle e o x given q
    call : (q : Placed) → Member q qs → is_call_kind q.op.kind ≡ true → cycle e o x given p < cycle e o x given q
    leave : (q : Placed) → Member q qs → is_leave q.op.kind ≡ true → cycle e o x given p < cycle e o x given q

  -- and what is before a Leave
  record Before (l : Placed) : Type 0 where
    touch : (q : Placed) → Member q qs → tag_of e o x given q ≡ Touches → cycle e o x given q ≤ cycle e o x given l
    call : (q : Placed) → Member q qs → is_call_kind q.op.kind ≡ true → cycle e o x given q < cycle e o x given l

  abbrev EachAfter : Type 0
  EachAfter = (p : Placed) → Member p qs → is_enter p.op.kind ≡ true → After p

  abbrev EachBefore : Type 0
  EachBefore = (l : Placed) → Member l qs → is_leave l.op.kind ≡ true → Before l

  same_block : (p q : Placed) → Member p qs → Member q qs → p.block ≡ q.block
  same_block p q mp mq = of_region r p mp ∙ sym (of_region r q mq)

  ordered : AllAre true → Each (λ p. Each (λ q. Pair e o x given p q) qs) qs ↔ (EachAfter × EachBefore)
  ordered on = (
    λ h.
        let pair = λ (p q : Placed) (m : Member p qs) (n : Member q qs). each_member (λ q. Pair e o x given p q) qs q
        (each_member (λ p. Each (λ q. Pair e o x given p q) qs) qs p h m) n in (
          λ p m k.
              let from = enter_tag e o x given p k (on.0 p m k) in
              record {
                touch = λ q n t. let z = pair_in e o x given p q Enters Touches (pair p q m n) (same_block p q m n) from t in omega arith;
                call = λ q n c. let z = pair_in e o x given p q Enters Calls (pair p q m n) (same_block p q m n) from
                    (call_tag e o x given q c) in omega arith;
                leave = λ q n l. let z = pair_in e o x given p q Enters Leaves (pair p q m n) (same_block p q m n) from
                    (leave_tag e o x given q l (on.1 q n l)) in omega arith;
              },
          λ l m k.
              let to = leave_tag e o x given l k (on.1 l m k) in
              record {
                touch = λ q n t. let z = pair_in e o x given q l Touches Leaves (pair q l n m) (same_block q l n m) t to in omega arith;
                call = λ q n c. let z = pair_in e o x given q l Calls Leaves (pair q l n m) (same_block q l n m)
                    (call_tag e o x given q c) to in omega arith;
              },
        ),
    λ h. each_of (λ p. Each (λ q. Pair e o x given p q) qs) qs (λ p m. each_of (λ q. Pair e o x given p q) qs (λ q n.
        pair_of e o x given p q (λ b. go h.0 h.1 p q m n (tag_of e o x given p) (tag_of e o x given q) refl refl))),
  )
    where
      go : EachAfter → EachBefore → (p q : Placed) → Member p qs → Member q qs → (s t : Tag)
          → tag_of e o x given p ≡ s → tag_of e o x given q ≡ t
          → IfSome (gap_of s t) (λ n. cycle e o x given p + n ≤ cycle e o x given q)
      go a b p q m n Enters Touches hs ht = let f = a p m (kind_fits e o x given p Enters (own p m) hs) in let lt = f.touch q n ht in
          omega arith
      go a b p q m n Enters Calls hs ht = let f = a p m (kind_fits e o x given p Enters (own p m) hs) in
          let lt = f.call q n (kind_fits e o x given q Calls (own q n) ht) in omega arith
      go a b p q m n Enters Leaves hs ht = let f = a p m (kind_fits e o x given p Enters (own p m) hs) in
          let lt = f.leave q n (kind_fits e o x given q Leaves (own q n) ht) in omega arith
      go a b p q m n Enters Enters hs ht = tt
      go a b p q m n Enters Quiet hs ht = tt
      go a b p q m n Touches Leaves hs ht = let f = b q n (kind_fits e o x given q Leaves (own q n) ht) in let le = f.touch p m hs in
          omega arith
      go a b p q m n Touches t hs ht = tt
      go a b p q m n Calls Leaves hs ht = let f = b q n (kind_fits e o x given q Leaves (own q n) ht) in
          let lt = f.call p m (kind_fits e o x given p Calls (own p m) hs) in omega arith
      go a b p q m n Calls t hs ht = tt
      go a b p q m n Leaves t hs ht = tt
      go a b p q m n Quiet t hs ht = tt

  order_pairs : KeepsFrameOrder part.issues ↔ Each (λ p. Each (λ q. Pair e o x given p q) qs) qs
  order_pairs =
      let all = issues_here e o x given r at (λ (i : Issue). All (Precedes frame_distance i) part.issues) in (
        λ f. let each = all.0 f in each_of (λ p. Each (λ q. Pair e o x given p q) qs) qs (λ p m.
            (issues_here e o x given r at (Precedes frame_distance (issue_at x p))).0
            (each_member (λ p. All (Precedes frame_distance (issue_at x p)) part.issues) qs p each m)),
        λ f. all.1 (each_of (λ p. All (Precedes frame_distance (issue_at x p)) part.issues) qs (λ p m.
            (issues_here e o x given r at (Precedes frame_distance (issue_at x p))).1
            (each_member (λ p. Each (λ q. Pair e o x given p q) qs) qs p f m))),
      )

  -- ---- the tests of the order

  module _ (on_leaves : Are is_leave true) where
    abbrev at_cycle : Placed → ℕ
    at_cycle p = slice_index x (cycle_var (place_of p)).0

    -- what issues after an Enter
    after_is : (p q : Placed) (u : FrameUse) (b : Bool) → is_enter p.op.kind ≡ true → counts x u ≡ b
        → slice_index x u.at.0 ≡ cycle e o x given q
        → is_after (at_cycle p) x u ≡ (not b || nat_lt (cycle e o x given p) (cycle e o x given q))
    after_is p q u b kp hb hc =
        ap (λ (c : Bool). not c || nat_lt (at_cycle p) (slice_index x u.at.0)) hb
        ∙ ap (λ (n : ℕ). not b || nat_lt n (slice_index x u.at.0)) (cycle_is e o x given p (enter_inner p.op.kind kp))
        ∙ ap (λ (n : ℕ). not b || nat_lt (cycle e o x given p) n) hc

    copy_after : (p q : Placed) → is_enter p.op.kind ≡ true → Member q qs → is_copy q.op.kind ≡ true
        → is_after (at_cycle p) x (copy_use (place_of q)) ≡
        (not (is_touch (tag_of e o x given q)) || nat_lt (cycle e o x given p) (cycle e o x given q))
    copy_after p q kp m k = after_is p q (copy_use (place_of q)) (is_touch (tag_of e o x given q)) kp
        (copy_counts e o x given q (own q m) k) (cycle_is e o x given q (copy_inner q.op.kind k))

    call_after : (p q : Placed) → is_enter p.op.kind ≡ true → is_call_kind q.op.kind ≡ true
        → is_after (at_cycle p) x (single_use (place_of q)) ≡ (not true || nat_lt (cycle e o x given p) (cycle e o x given q))
    call_after p q kp k = after_is p q (single_use (place_of q)) true kp (call_counts e o x given q k)
        (cycle_is e o x given q (call_inner q.op.kind k))

    leave_after : (p q : Placed) → is_enter p.op.kind ≡ true → Member q qs → is_leave q.op.kind ≡ true
        → is_after (at_cycle p) x (single_use (place_of q)) ≡ (not true || nat_lt (cycle e o x given p) (cycle e o x given q))
    leave_after p q kp m k = after_is p q (single_use (place_of q)) true kp
        (leave_counts e o x given q (own q m) k (on_leaves q m k)) (cycle_is e o x given q (leave_inner q.op.kind k))

    after_tests : (p : Placed) → is_enter p.op.kind ≡ true → After p ↔ (list_all (is_after (at_cycle p) x) (uses_of ps) ≡ true)
    after_tests p kp =
        let Passes : FrameUse → Type 0 = λ u. is_after (at_cycle p) x u ≡ true in
        let a = map copy_use (with_kind is_copy ps) in
        let b = map single_use (with_kind is_call_kind ps) in
        let c = map single_use (with_kind is_leave ps) in
        let touches = kinds_of e o x given (λ u. Passes (copy_use u)) is_copy qs in
        let calls = kinds_of e o x given (λ u. Passes (single_use u)) is_call_kind qs in
        let lefts = kinds_of e o x given (λ u. Passes (single_use u)) is_leave qs in
        let from = cycle e o x given p in (
          λ h. (all_iff (is_after (at_cycle p) x) (uses_of ps)).0 (each_join Passes a (b ++ c)
              (each_map Passes copy_use (with_kind is_copy ps) (touches.1 (λ q m k. copy_after p q kp m k
              ∙ (late_iff (is_touch (tag_of e o x given q)) from (cycle e o x given q)).0
              (λ t. h.touch q m (touch_is (tag_of e o x given q) t)))))
              (each_join Passes b c
              (each_map Passes single_use (with_kind is_call_kind ps) (calls.1 (λ q m k. call_after p q kp k
              ∙ (late_iff true from (cycle e o x given q)).0 (λ t. h.call q m k))))
              (each_map Passes single_use (with_kind is_leave ps) (lefts.1 (λ q m k. leave_after p q kp m k
              ∙ (late_iff true from (cycle e o x given q)).0 (λ t. h.leave q m k)))))),
          λ h.
              let uses = each_append Passes a (b ++ c) ((all_iff (is_after (at_cycle p) x) (uses_of ps)).1 h) in
              let rest = each_append Passes b c uses.1 in
              let touch = touches.0 (each_of_map Passes copy_use (with_kind is_copy ps) uses.0) in
              let call = calls.0 (each_of_map Passes single_use (with_kind is_call_kind ps) rest.0) in
              let leave = lefts.0 (each_of_map Passes single_use (with_kind is_leave ps) rest.1) in
              record {
                touch = λ q m t.
                    let k = kind_fits e o x given q Touches (own q m) t in
                    (late_iff (is_touch (tag_of e o x given q)) from (cycle e o x given q)).1 (sym (copy_after p q kp m k) ∙ touch q m k)
                    (ap is_touch t);
                call = λ q m k. (late_iff true from (cycle e o x given q)).1 (sym (call_after p q kp k) ∙ call q m k) refl;
                leave = λ q m k. (late_iff true from (cycle e o x given q)).1 (sym (leave_after p q kp m k) ∙ leave q m k) refl;
              },
        )

    -- what issues before a Leave
    until_is : (l q : Placed) → is_leave l.op.kind ≡ true → Member q qs → is_copy q.op.kind ≡ true
        → is_until (at_cycle l) x (copy_use (place_of q)) ≡
        (not (is_touch (tag_of e o x given q)) || nat_le (cycle e o x given q) (cycle e o x given l))
    until_is l q kl m k =
        let u = copy_use (place_of q) in
        let b = is_touch (tag_of e o x given q) in
        ap (λ (c : Bool). not c || nat_le (slice_index x u.at.0) (at_cycle l)) (copy_counts e o x given q (own q m) k)
        ∙ ap (λ (n : ℕ). not b || nat_le n (at_cycle l)) (cycle_is e o x given q (copy_inner q.op.kind k))
        ∙ ap (λ (n : ℕ). not b || nat_le (cycle e o x given q) n) (cycle_is e o x given l (leave_inner l.op.kind kl))

    call_until : (l q : Placed) → is_leave l.op.kind ≡ true → is_call_kind q.op.kind ≡ true
        → nat_lt (at_cycle q) (at_cycle l) ≡ nat_lt (cycle e o x given q) (cycle e o x given l)
    call_until l q kl k =
        ap (λ (n : ℕ). nat_lt n (at_cycle l)) (cycle_is e o x given q (call_inner q.op.kind k))
        ∙ ap (nat_lt (cycle e o x given q)) (cycle_is e o x given l (leave_inner l.op.kind kl))

    before_tests : (l : Placed) → is_leave l.op.kind ≡ true → Before l ↔ (is_left x (leave_of ps (place_of l)) ≡ true)
    before_tests l kl =
        let end = at_cycle l in
        let before = λ (v : VarId). nat_lt (slice_index x v.0) end in
        let a = map copy_use (with_kind is_copy ps) in
        let b = map cycle_var (with_kind is_call_kind ps) in
        let P : FrameUse → Type 0 = λ u. is_until end x u ≡ true in
        let Q : VarId → Type 0 = λ v. before v ≡ true in
        let touches = kinds_of e o x given (λ u. P (copy_use u)) is_copy qs in
        let calls = kinds_of e o x given (λ u. Q (cycle_var u)) is_call_kind qs in
        let to = cycle e o x given l in (
          λ h. (and_iff (list_all (is_until end x) a) (list_all before b)).0 (
            (all_iff (is_until end x) a).0 (each_map P copy_use (with_kind is_copy ps) (touches.1 (λ q m k. until_is l q kl m k
                ∙ (soon_iff (is_touch (tag_of e o x given q)) to (cycle e o x given q)).0
                (λ t. h.touch q m (touch_is (tag_of e o x given q) t))))),
            (all_iff before b).0 (each_map Q cycle_var (with_kind is_call_kind ps) (calls.1 (λ q m k. call_until l q kl k
                ∙ (lt_iff (cycle e o x given q) to).0 (h.call q m k)))),
          ),
          λ h.
              let two = (and_iff (list_all (is_until end x) a) (list_all before b)).1 h in
              let touch = touches.0 (each_of_map P copy_use (with_kind is_copy ps) ((all_iff (is_until end x) a).1 two.0)) in
              let call = calls.0 (each_of_map Q cycle_var (with_kind is_call_kind ps) ((all_iff before b).1 two.1)) in
              record {
                touch = λ q m t.
                    let k = kind_fits e o x given q Touches (own q m) t in
                    (soon_iff (is_touch (tag_of e o x given q)) to (cycle e o x given q)).1 (sym (until_is l q kl m k) ∙ touch q m k)
                    (ap is_touch t);
                call = λ q m k. (lt_iff (cycle e o x given q) to).1 (sym (call_until l q kl k) ∙ call q m k);
              },
        )

    left_tests : EachBefore ↔ (list_all (is_left x) leaves ≡ true)
    left_tests = iff_then each (iff_then (iff_back (leaves_each (λ (l : FrameLeave). is_left x l ≡ true))) (all_iff (is_left x) leaves))
      where
        each : EachBefore ↔ ((l : Placed) → Member l qs → is_leave l.op.kind ≡ true → is_left x (leave_of ps (place_of l)) ≡ true)
        each = (λ f l m k. (before_tests l k).0 (f l m k), λ f l m k. (before_tests l k).1 (f l m k))

  -- ---- the Enter of the block, where it is the entry

  -- what the tests of an Enter, or of none, say of the operations
  record Entering (enter : Option FrameOp) : Type 0 where
    on : Are is_enter true ↔ (enter_on x enter ≡ true)
    off : Are is_enter false ↔ (enter_off x enter ≡ true)
    after : Are is_leave true → EachAfter ↔ (all_entered enter (uses_of ps) x ≡ true)

  entering_none : ((p : Placed) → Member p qs → is_enter p.op.kind ≡ true → ⊥) → Entering None
  entering_none never = record {
    on = (λ h. refl, λ h p m k. absurd (never p m k));
    off = (λ h. refl, λ h p m k. absurd (never p m k));
    after = λ leave. (λ h. refl, λ h p m k. absurd (never p m k));
  }

  entering_one : (p : Placed) → Member p qs → is_enter p.op.kind ≡ true
      → ((q : Placed) → Member q qs → is_enter q.op.kind ≡ true → p ≡ q) → Entering (Some (frame_op (place_of p)))
  entering_one p m k only = record {
    on = (
      λ h. enter_is_on p m k ∙ h p m k,
      λ h q n l. subst (λ (z : Placed). (issue_at x z).active ≡ true) (only q n l) (sym (enter_is_on p m k) ∙ h),
    );
    off = (
      λ h. (not_iff (is_on x (frame_op (place_of p)))).0 (enter_is_on p m k ∙ h p m k),
      λ h q n l. subst (λ (z : Placed). (issue_at x z).active ≡ false) (only q n l)
          (sym (enter_is_on p m k) ∙ (not_iff (is_on x (frame_op (place_of p)))).1 h),
    );
    after = λ leave. (
      λ h. (after_tests leave p k).0 (h p m k),
      λ h q n l. subst After (only q n l) ((after_tests leave p k).1 h),
    );
  }

  abbrev enter : Option FrameOp
  enter = enter_among (with_kind is_enter ps)

  entering : Entering enter
  entering = subst Entering (sym listed) (by (filter enters qs) refl few)
    where
      listed : enter ≡ enter_among (map place_of (filter enters qs))
      listed = ap enter_among (filter_map (λ (p : Place). is_enter p.it.kind) place_of qs)

      few : length (filter enters qs) ≤ 1
      few = let n = entered e o x given r.block r at in let le = most (r.block == 0) in omega (arith, n, le)
        where
          most : (b : Bool) → one_if b ≤ 1
          most true = omega arith
          most false = omega arith

      by : (ys : List Placed) → filter enters qs ≡ ys → length ys ≤ 1 → Entering (enter_among (map place_of ys))
      by [] is le = entering_none (λ p m k. elim (subst (Member p) is (member_filter enters qs p m k)) [ ])
      by (p ∷ []) is le =
          let f = member_of_filter enters qs p (subst (Member p) (sym is) (inl refl)) in
          entering_one p f.0 f.1 (λ q m k. alone q (subst (Member q) is (member_filter enters qs q m k)))
        where
          alone : (q : Placed) → Member q (p ∷ []) → p ≡ q
          alone q (inl same) = same
          alone q (inr m) = elim m [ ]
      by (p ∷ q ∷ more) is le = absurd (omega (arith, le))

  -- ---- all of the clause

  all_on_iff : AllAre true ↔ (all_on enter leaves x ≡ true)
  all_on_iff =
      let h = entering in
      iff_then (both h.on (leaves_pass (λ a. a) true (λ a. (λ h. h, λ h. h))))
      (and_iff (enter_on x enter) (list_all (λ (l : FrameLeave). is_on x l.leave) leaves))

  none_on_iff : AllAre false ↔ (none_on enter leaves x ≡ true)
  none_on_iff =
      let h = entering in
      iff_then (both h.off (leaves_pass not false not_iff))
      (and_iff (enter_off x enter) (list_all (λ (l : FrameLeave). not (is_on x l.leave)) leaves))

  order_iff : AllAre true → KeepsFrameOrder part.issues ↔ (in_order enter (uses_of ps) leaves x ≡ true)
  order_iff on =
      let h = entering in
      iff_then order_pairs (iff_then (ordered on) (iff_then (both (h.after on.1) (left_tests on.1))
      (and_iff (all_entered enter (uses_of ps) x) (list_all (is_left x) leaves))))

  abbrev on_test : Bool
  on_test = all_on enter leaves x && in_order enter (uses_of ps) leaves x

  abbrev off_test : Bool
  off_test = none_on enter leaves x

  -- by the value of the flag
  by_flag : (f : ℕ) → f ≤ 1 → KeepsPartFrame f part
      ↔ (cond (nat_eq f 1) on_test (not (uses_frame part) && (not (nat_eq f 0) || off_test)) ≡ true)
  by_flag zero le = (
    λ k.
        let off : uses_frame part ≡ false = not_used (uses_frame part) (λ h. let z = k.used h in absurd (omega arith)) in
        (and_iff (not (uses_frame part)) off_test).0
        ((not_iff (uses_frame part)).0 off, none_on_iff.0 ((frames_are false).0 (k.without refl))),
    λ t.
        let a = (and_iff (not (uses_frame part)) off_test).1 t in
        let off = (not_iff (uses_frame part)).1 a.0 in
        record {
          used = λ h. let z : true ≡ false = sym h ∙ off in absurd (cc z);
          without = λ z. (frames_are false).1 (none_on_iff.1 a.1);
          with_frame = λ z. absurd (omega arith);
          ordered = λ z. absurd (omega arith);
        },
  )
    where
      not_used : (b : Bool) → (b ≡ true → ⊥) → b ≡ false
      not_used true f = absurd (f refl)
      not_used false f = refl
  by_flag (suc zero) le = (
    λ k.
        let on = (frames_are true).0 (k.with_frame refl) in
        (and_iff (all_on enter leaves x) (in_order enter (uses_of ps) leaves x)).0
        (all_on_iff.0 on, (order_iff on).0 (k.ordered refl)),
    λ t.
        let b = (and_iff (all_on enter leaves x) (in_order enter (uses_of ps) leaves x)).1 t in
        let on = all_on_iff.1 b.0 in
        record {
          used = λ h. refl;
          without = λ z. absurd (omega arith);
          with_frame = λ z. (frames_are true).1 on;
          ordered = λ z. (order_iff on).1 b.1;
        },
  )
  by_flag (suc (suc n)) le = absurd (omega arith)

  pub frame : KeepsPartFrame (value_of x (model_of e o).flag) part
      ↔ Met x (part_frame (model_of e o) (definers_of (model_of e o)) ps ∷ [])
  frame =
      let m = model_of e o in
      let f = value_of x m.flag in
      let t = λ (u : Bool). cond (nat_eq f 1) on_test (not u && (not (nat_eq f 0) || off_test)) in
      iff_then (by_flag f (flag_sits e o x given.domains))
      (met_one x (part_frame m (definers_of m) ps) (t (uses_frame part)) (ap t used))
