-- The frame flag, Enter and Leave agree with the use of the frame exactly where the constraint of the frame is met.
use Rattle.std.proofs.Common.{ℕ, zero, suc, ◌≡◌, ◌↔◌, ◌≤◌, Bool, true, false, cond, List, [], ◌∷◌, map, ◌⊎◌, inl, inr, refl, sym, ap, ◌∙◌}
use Rattle.std.proofs.Common.{subst, arith, All}
use Rattle.std.specs.Prelude.{Option, Some, None, slice_get, slice_index, not, ◌||◌, ◌&&◌, nat_eq, nat_le, is_some, is_none}
use Rattle.std.specs.List.{list_any, list_all}
use Rattle.un_base.specs.declared.ids.TempId.{TempId}
use Rattle.un_base.specs.declared.ids.VarId.{VarId}
use Rattle.un_isa.specs.declared.op.Op.{Op}
use Rattle.un_isa.specs.declared.reg.TheConstants.{FIRST_SLOT}
use Rattle.un_ir.specs.Linear.{is_in}
use Rattle.un_ir.specs.declared.extended.ExtKind.{ExtKind}
use Rattle.un_ir.specs.declared.extended.ExtKind.TheVariants.{In, Out, Body, End, Copy, Enter, Leave}
use Rattle.un_ir.specs.declared.extended.Ext.{Ext}
use Rattle.un_ir.specs.Extended.{is_copy, is_enter, is_leave, result_count}
use Rattle.un_model.specs.declared.model.Options.{Options}
use Rattle.un_model.specs.declared.schedule.Issue.{Issue}
use Rattle.un_model.specs.Cost.{value_of}
use Rattle.un_model.specs.Instructions.{instruction_of}
use Rattle.un_model.specs.Pairs.{joined}
use Rattle.un_ir.specs.Kinds.{is_delimiter, is_frame_op, is_optional}
use Rattle.un_model.specs.Schedules.{issues_of, schedule_of, value_by}
use Rattle.un_model.specs.Solutions.{KeepsFrame, KeepsFrameOrder, HasFrame, Precedes, frame_distance, uses_frame, is_frame_access}
use Rattle.un_model.specs.Solutions.{starts_in_slot}
use Rattle.un_model.specs.Variables.{model_of, var_if}
use Rattle.un_lists.proofs.Lists.{Each, Member, each_of, each_member, any_of, member_filter, member_of_filter, member_map, member_map_of}
use Rattle.un_lists.proofs.Lists.{member_at}
use Rattle.un_model.proofs.OpDomains.{flag_sits}
use Rattle.un_model.proofs.Placed.{Placed, vars_of, issue_at, issues_are, Spot, spot}
use Rattle.un_model.proofs.PlacedSchedules.{all, spots, spot_range, the_ranges, joined_member, member_joined}
use Rattle.un_prop.specs.Acts.{act_number, is_active}
use Rattle.un_alt.specs.declared.frame.FrameLeave.{FrameLeave}
use Rattle.un_alt.specs.Frame.{uses_frame as touches_frame, is_access, is_slot, is_on, all_on, none_on, in_order}
use Rattle.un_kinds.specs.Constraints.{AllMet}
use Rattle.un_sites.specs.Places.{Place, act_by, places_of, definers_of, registers_at}
use Rattle.un_sites.specs.Postings.{with_kind, in_entry, var_or, instr_var, frame_op, uses_of, frame_by, frame_of}
use Rattle.un_post.proofs.Congruences.{in_is}
use Rattle.un_post.proofs.Facts.{Given, falls, acts, definer_is, definer_counts}
use Rattle.un_post.proofs.FrameOrder.{all_iff, tag_of, kind_fits, copy_counts}
use Rattle.un_post.proofs.FrameTags.{Touches, touch_is, accessed}
use Rattle.un_post.proofs.FrameTests.{leaves_of, leaves_each, leaves_all, Pair, ordered, tests}
use Rattle.un_post.proofs.Meeting.{Met, met_all, all_met}
use Rattle.un_post.proofs.OneEnter.{OneEnter, one_enter, enters, filter_map}
use Rattle.un_post.proofs.Placing.{place_of, places_are, definer_at}
use Rattle.un_post.proofs.Tests.{iff_then, iff_back, both, and_iff, same_test, met_one}
use Rattle.un_post.proofs.Whole.{issues_each, ranges_are, spot_in, result_register, registers_each}

pub any_true : {A : Type 0} (t : A → Bool) (xs : List A) (x : A) → Member x xs → t x ≡ true → list_any t xs ≡ true
any_true t [] x m q = elim m [ ]
any_true t (y ∷ ys) x (inl e) q = ap (λ (b : Bool). b || list_any t ys) (ap t e ∙ q)
any_true t (y ∷ ys) x (inr m) q = right (t y) (list_any t ys) (any_true t ys x m q)
  where
    right : (a b : Bool) → b ≡ true → (a || b) ≡ true
    right true b e = refl
    right false b e = e

pub same_bool : (a b : Bool) → (a ≡ true → b ≡ true) → (b ≡ true → a ≡ true) → a ≡ b
same_bool true b f g = sym (f refl)
same_bool false true f g = g refl
same_bool false false f g = refl

pub not_iff : (b : Bool) → (b ≡ false) ↔ (not b ≡ true)
not_iff true = (λ h. absurd (cc h), λ h. absurd (cc h))
not_iff false = (λ h. refl, λ h. refl)

copy_optional : (k : ExtKind) → is_copy k ≡ true → is_optional k ≡ true
copy_optional (Copy node) h = refl
copy_optional In h = absurd (cc h)
copy_optional Out h = absurd (cc h)
copy_optional (Body so) h = absurd (cc h)
copy_optional (End term) h = absurd (cc h)
copy_optional Enter h = absurd (cc h)
copy_optional Leave h = absurd (cc h)

pub frame_kind : (k : ExtKind) → is_frame_op k ≡ true → (is_enter k ≡ true) ⊎ (is_leave k ≡ true)
frame_kind Enter h = inl refl
frame_kind Leave h = inr refl
frame_kind In h = absurd (cc h)
frame_kind Out h = absurd (cc h)
frame_kind (Body so) h = absurd (cc h)
frame_kind (End term) h = absurd (cc h)
frame_kind (Copy node) h = absurd (cc h)

pub enter_frame : (k : ExtKind) → is_enter k ≡ true → (is_frame_op k ≡ true) × (is_optional k ≡ true) × (falls k ≡ false)
enter_frame Enter h = (refl, refl, refl)
enter_frame In h = absurd (cc h)
enter_frame Out h = absurd (cc h)
enter_frame (Body so) h = absurd (cc h)
enter_frame (End term) h = absurd (cc h)
enter_frame (Copy node) h = absurd (cc h)
enter_frame Leave h = absurd (cc h)

pub leave_frame : (k : ExtKind) → is_leave k ≡ true → (is_frame_op k ≡ true) × (is_optional k ≡ true) × (falls k ≡ false)
leave_frame Leave h = (refl, refl, refl)
leave_frame In h = absurd (cc h)
leave_frame Out h = absurd (cc h)
leave_frame (Body so) h = absurd (cc h)
leave_frame (End term) h = absurd (cc h)
leave_frame (Copy node) h = absurd (cc h)
leave_frame Enter h = absurd (cc h)

none_is : (i : Option Op) → is_none i ≡ true → i ≡ None
none_is None h = refl
none_is (Some op) h = absurd (cc h)

pub three : (a b c : Bool) → ((a && b) && c) ≡ true → (a ≡ true) × (b ≡ true) × (c ≡ true)
three true true c h = (refl, refl, h)
three true false c h = absurd (cc h)
three false b c h = absurd (cc h)

module _ (e : Ext) (o : Options) (x : List ℕ) (given : Given e o x) where
  -- ---- the use of the frame

  abbrev copies : List VarId
  copies = map instr_var (with_kind is_copy (places_of (model_of e o)))

  abbrev pub given_at : Place → List VarId
  given_at p = registers_at (definers_of (model_of e o)) p.it.results

  abbrev starts : List VarId
  starts = joined (map given_at (with_kind is_in (places_of (model_of e o))))

  -- the places of a kind are operations
  place_in : (t : ExtKind → Bool) (p : Place) → Member p (with_kind t (places_of (model_of e o))) → (q : Placed) × (Member q (all e o x))
      × (place_of q ≡ p) × (t q.op.kind ≡ true)
  place_in t p m =
      let a = member_of_filter (λ (p : Place). t p.it.kind) (places_of (model_of e o)) p m in
      let c = member_map_of place_of (all e o x) p (subst (Member p) (places_are 0 0 0 e.blocks) a.0) in
      (c.0, c.1, c.2, ap (λ (p : Place). t p.it.kind) c.2 ∙ a.1)

  in_places : (t : ExtKind → Bool) (q : Placed) → Member q (all e o x) → t q.op.kind ≡ true
      → Member (place_of q) (with_kind t (places_of (model_of e o)))
  in_places t q m k = member_filter (λ (p : Place). t p.it.kind) (places_of (model_of e o)) (place_of q)
      (subst (Member (place_of q)) (sym (places_are 0 0 0 e.blocks)) (member_map place_of (all e o x) q m)) k

  pub access_is : (q : Placed) → Member q (all e o x) → is_copy q.op.kind ≡ true
      → is_access x (instr_var (place_of q)) ≡ is_frame_access (issue_at x q).instr
  access_is q m k =
      let opt = copy_optional q.op.kind k in
      ap (λ (b : Bool). nat_le 2 (slice_index x (var_or (var_if b q.first)).0) && nat_le (slice_index x (var_or (var_if b q.first)).0) 3)
      opt
      ∙ sym (ap (λ (b : Bool). nat_le 2 (act_number (act_by (var_if b q.first)) x) && nat_le (act_number (act_by (var_if b q.first)) x) 3)
      opt)
      ∙ copy_counts e o x given q m k ∙ sym (accessed (issue_at x q).instr)

  touched : list_any (is_access x) copies ≡ list_any (λ (i : Issue). is_frame_access i.instr) (issues_of (model_of e o) x)
  touched = same_bool _ _ (
      λ h.
      let a = any_of (is_access x) copies h in
      let b = member_map_of instr_var (with_kind is_copy (places_of (model_of e o))) a.0 a.1 in
      let q = place_in is_copy b.0 b.1 in
      let t : is_access x (instr_var (place_of q.0)) ≡ true = ap (λ (p : Place). is_access x (instr_var p)) q.2 ∙ ap (is_access x) b.2
      ∙ a.2 in
      any_true (λ (i : Issue). is_frame_access i.instr) (issues_of (model_of e o) x) (issue_at x q.0)
      (subst (Member (issue_at x q.0)) (sym (issues_are x 0 0 0 e.blocks)) (member_map (issue_at x) (all e o x) q.0 q.1))
      (sym (access_is q.0 q.1 q.3) ∙ t)
      ) (
      λ h.
      let a = any_of (λ (i : Issue). is_frame_access i.instr) (issues_of (model_of e o) x) h in
      let b = member_map_of (issue_at x) (all e o x) a.0 (subst (Member a.0) (issues_are x 0 0 0 e.blocks) a.1) in
      let acc : is_frame_access (issue_at x b.0).instr ≡ true = ap (λ (i : Issue). is_frame_access i.instr) b.2 ∙ a.2 in
      let k = kind_fits e o x given b.0 Touches b.1 (touch_is (tag_of e o x given b.0) (sym (accessed (issue_at x b.0).instr) ∙ acc)) in
      any_true (is_access x) copies (instr_var (place_of b.0)) (member_map instr_var (with_kind is_copy (places_of (model_of e o)))
      (place_of b.0) (in_places is_copy b.0 b.1 k)) (access_is b.0 b.1 k ∙ acc)
      )

  -- what is active without an instruction is given at a block's start
  pub start_kind : (s : Spot) → Member s (spots e o x) → (spot_range e o x s).active ≡ true → is_none (spot_range e o x s).instr ≡ true
      → (let q = s.definer in q.op.kind ≡ In)
  start_kind s m act none = let q = s.definer in by q.op.kind refl
    where
      idle : (kind : ExtKind) → (let q = s.definer in q.op.kind ≡ kind) → is_delimiter kind ≡ false → ⊥
      idle kind h inner =
          let q = s.definer in
          let v = vars_of q in
          let n = none_is (issue_at x q).instr none in
          let z : true ≡ false = sym act ∙ ap (λ (c : ExtKind). is_delimiter c || is_some (issue_at x q).instr) h
          ∙ ap (λ (b : Bool). b || is_some (issue_at x q).instr) inner ∙ ap is_some n in
          absurd (cc z)

      by : (kind : ExtKind) → (let q = s.definer in q.op.kind ≡ kind) → (let q = s.definer in q.op.kind ≡ In)
      by In h = h
      by Out h =
          let q = s.definer in
          let c = definer_counts e o x given s m in
          let z : result_count e.table q.owner q.op.kind ≡ 0 = ap (result_count e.table q.owner) h in
          absurd (omega arith)
      by (Body so) h = absurd (idle (Body so) h refl)
      by (End term) h = absurd (idle (End term) h refl)
      by (Copy node) h = absurd (idle (Copy node) h refl)
      by Enter h = absurd (idle Enter h refl)
      by Leave h = absurd (idle Leave h refl)

  slotted : list_any (is_slot x) starts ≡ list_any starts_in_slot (the_ranges e o x)
  slotted = same_bool _ _ (
      λ h.
      let a = any_of (is_slot x) starts h in
      let b = joined_member given_at (with_kind is_in (places_of (model_of e o))) a.0 a.1 in
      let q = place_in is_in b.0 b.1 in
      let v = subst (λ (p : Place). Member a.0 (given_at p)) (sym q.2) b.2 in
      each_member (λ (u : VarId). is_slot x u ≡ true → list_any starts_in_slot (the_ranges e o x) ≡ true) (given_at (place_of q.0)) a.0
      ((registers_each e o x given (λ (u : VarId). is_slot x u ≡ true → list_any starts_in_slot (the_ranges e o x) ≡ true) q.0 q.1).1
      (λ k y at t. found q.0 k y q.1 at (in_is q.0.op.kind q.3) t)) v a.2
      ) (
      λ h.
      let a = any_of starts_in_slot (the_ranges e o x) h in
      let b = member_map_of (spot_range e o x) (spots e o x) a.0 (subst (Member a.0) (ranges_are e o x given) a.1) in
      back b.0 b.1 (three _ _ _ (ap starts_in_slot b.2 ∙ a.2))
      )
    where
      found : (q : Placed) (k : ℕ) (y : TempId) → Member q (all e o x) → slice_get q.op.results k ≡ Some y → q.op.kind ≡ In
          → is_slot x (definer_at (spot q k y)).reg ≡ true
          → list_any starts_in_slot (the_ranges e o x) ≡ true
      found q k y m at kind t =
          let s = spot q k y in
          let v = vars_of q in
          let on : (issue_at x q).active ≡ true = ap (λ (c : ExtKind). is_delimiter c || is_some (instruction_of c (value_by x v.instr)))
          kind in
          let none : is_none (issue_at x q).instr ≡ true = ap (λ (c : ExtKind). is_none (instruction_of c (value_by x v.instr))) kind in
          any_true starts_in_slot (the_ranges e o x) (spot_range e o x s)
          (subst (Member (spot_range e o x s)) (sym (ranges_are e o x given))
          (member_map (spot_range e o x) (spots e o x) s (spot_in e o x given q k y m at)))
          (ap (λ (b : Bool). b && is_none (issue_at x q).instr && nat_le FIRST_SLOT (spot_range e o x s).reg) on
          ∙ ap (λ (b : Bool). b && nat_le FIRST_SLOT (spot_range e o x s).reg) none ∙ t)

      back : (s : Spot) → Member s (spots e o x) → ((spot_range e o x s).active ≡ true) × (is_none (spot_range e o x s).instr ≡ true)
          × (nat_le FIRST_SLOT (spot_range e o x s).reg ≡ true)
          → list_any (is_slot x) starts ≡ true
      back s m h =
          let q = s.definer in
          let d = definer_is e o x given s m in
          let kind = start_kind s m h.0 h.1 in
          let v = (definer_at s).reg in
          let here = member_at (given_at (place_of q)) s.place v (result_register e o x given q s.place s.temp d.0 d.1) in
          let places = with_kind is_in (places_of (model_of e o)) in
          any_true (is_slot x) starts v (member_joined (map given_at places) (given_at (place_of q)) v
          (member_map given_at places (place_of q) (in_places is_in q d.0 (ap is_in kind))) here) h.2

  used : touches_frame copies starts x ≡ uses_frame (schedule_of (model_of e o) x)
  used = ap (λ (b : Bool). b || list_any (is_slot x) starts) touched
      ∙ ap (λ (b : Bool). list_any (λ (i : Issue). is_frame_access i.instr) (issues_of (model_of e o) x) || b) slotted

  -- ---- Enter and Leave

  abbrev leaves : List FrameLeave
  leaves = leaves_of e o x given

  pub on_is : (q : Placed) → Member q (all e o x) → is_optional q.op.kind ≡ true → falls q.op.kind ≡ false
      → is_on x (frame_op (place_of q)) ≡ (issue_at x q).active
  on_is q m opt goes =
      ap (λ (b : Bool). not (nat_eq (slice_index x (var_or (var_if b q.first)).0) 0)) opt
      ∙ sym (ap (λ (b : Bool). is_active (act_by (var_if b q.first)) x) opt) ∙ acts e o x given q m goes

  module _ (one : OneEnter e o x given) where
    -- all of them are active, or none is
    abbrev AllAre : Bool → Type 0
    AllAre b = ((issue_at x one.enter).active ≡ b) × ((l : Placed) → Member l (all e o x) → is_leave l.op.kind ≡ true
        → (issue_at x l).active ≡ b)

    frames_are : (b : Bool) → All (HasFrame b) (issues_of (model_of e o) x) ↔ AllAre b
    frames_are b = (
      λ h.
          let each = (issues_each e o x given (HasFrame b)).0 h in
          let at = λ (q : Placed) (m : Member q (all e o x)). each_member (λ q. HasFrame b (issue_at x q)) (all e o x) q each m in
          (at one.enter one.member (enter_frame one.enter.op.kind one.is).0, λ l m k. at l m (leave_frame l.op.kind k).0),
      λ h. (issues_each e o x given (HasFrame b)).1 (each_of _ (all e o x) (λ q m f. by h q m (frame_kind q.op.kind f))),
    )
      where
        only : (q : Placed) → Member q (one.enter ∷ []) → one.enter ≡ q
        only q (inl e) = e
        only q (inr m) = elim m [ ]

        by : AllAre b → (q : Placed) → Member q (all e o x) → (is_enter q.op.kind ≡ true) ⊎ (is_leave q.op.kind ≡ true)
            → (issue_at x q).active ≡ b
        by h q m (inl k) = subst (λ (p : Placed). (issue_at x p).active ≡ b)
            (only q (subst (Member q) one.alone (member_filter enters (all e o x) q m k))) h.0
        by h q m (inr k) = h.1 q m k

    enter_on : is_on x (frame_op (place_of one.enter)) ≡ (issue_at x one.enter).active
    enter_on = let k = enter_frame one.enter.op.kind one.is in on_is one.enter one.member k.1 k.2

    leave_on : (l : Placed) → Member l (all e o x) → is_leave l.op.kind ≡ true → is_on x (frame_op (place_of l)) ≡ (issue_at x l).active
    leave_on l m k = let f = leave_frame l.op.kind k in on_is l m f.1 f.2

    -- a test of every Leave
    leaves_pass : (t : Bool → Bool) (b : Bool) → ((a : Bool) → (a ≡ b) ↔ (t a ≡ true))
        → ((l : Placed) → Member l (all e o x) → is_leave l.op.kind ≡ true → (issue_at x l).active ≡ b) ↔
        (list_all (λ (l : FrameLeave). t (is_on x l.leave)) leaves ≡ true)
    leaves_pass t b says = iff_then (
      λ f. (leaves_all e o x given (λ l. t (is_on x (frame_op (place_of l))) ≡ true)).1
          (λ l m k. ap t (leave_on l m k) ∙ (says (issue_at x l).active).0 (f l m k)),
      λ f l m k. (says (issue_at x l).active).1 (sym (ap t (leave_on l m k))
          ∙ (leaves_all e o x given (λ l. t (is_on x (frame_op (place_of l))) ≡ true)).0 f l m k),
    ) (iff_then (iff_back (leaves_each e o x given (λ (l : FrameLeave). t (is_on x l.leave) ≡ true)))
        (all_iff (λ (l : FrameLeave). t (is_on x l.leave)) leaves))

    all_on_iff : AllAre true ↔ (all_on (Some (frame_op (place_of one.enter))) leaves x ≡ true)
    all_on_iff = iff_then
        (both (same_test (issue_at x one.enter).active (is_on x (frame_op (place_of one.enter))) (sym enter_on))
        (leaves_pass (λ a. a) true (λ a. (λ h. h, λ h. h))))
        (and_iff (is_on x (frame_op (place_of one.enter))) (list_all (λ (l : FrameLeave). is_on x l.leave) leaves))

    none_on_iff : AllAre false ↔ (none_on (Some (frame_op (place_of one.enter))) leaves x ≡ true)
    none_on_iff = iff_then
        (both (iff_then (not_iff (issue_at x one.enter).active) (same_test (not (issue_at x one.enter).active)
        (not (is_on x (frame_op (place_of one.enter)))) (ap not (sym enter_on)))) (leaves_pass not false not_iff))
        (and_iff (not (is_on x (frame_op (place_of one.enter)))) (list_all (λ (l : FrameLeave). not (is_on x l.leave)) leaves))

    -- the order, where they are active
    order_iff : AllAre true → KeepsFrameOrder (issues_of (model_of e o) x) ↔
        (in_order (Some (frame_op (place_of one.enter))) (uses_of (in_entry (places_of (model_of e o)))) leaves x ≡ true)
    order_iff h = iff_then (
      λ f. each_of _ (all e o x) (λ p m. (issues_each e o x given (Precedes frame_distance (issue_at x p))).0
          (each_member _ (all e o x) p ((issues_each e o x given (λ (i : Issue). All (Precedes frame_distance i)
          (issues_of (model_of e o) x))).0 f) m)),
      λ f. (issues_each e o x given (λ (i : Issue). All (Precedes frame_distance i) (issues_of (model_of e o) x))).1
          (each_of _ (all e o x) (λ p m. (issues_each e o x given (Precedes frame_distance (issue_at x p))).1
          (each_member (λ p. Each (λ q. Pair e o x given p q) (all e o x)) (all e o x) p f m))),
    ) (iff_then (ordered e o x given one h.0 h.1) (tests e o x given one h.0 h.1))

    -- ---- all of the clause

    abbrev on_test : Bool
    on_test = all_on (Some (frame_op (place_of one.enter))) leaves x && in_order (Some (frame_op (place_of one.enter)))
        (uses_of (in_entry (places_of (model_of e o)))) leaves x

    abbrev off_test : Bool
    off_test = none_on (Some (frame_op (place_of one.enter))) leaves x

    -- by the value of the flag
    by_flag : (f : ℕ) → f ≤ 1 → KeepsFrame f (schedule_of (model_of e o) x)
        ↔ (cond (nat_eq f 1) (uses_frame (schedule_of (model_of e o) x) && on_test)
        (not (uses_frame (schedule_of (model_of e o) x)) && (not (nat_eq f 0) || off_test)) ≡ true)
    by_flag zero le = (
      λ k.
          let u = k.used in
          let off : uses_frame (schedule_of (model_of e o) x) ≡ false =
          not_used (uses_frame (schedule_of (model_of e o) x)) (λ h. let z = u h in absurd (omega arith)) in
          (and_iff (not (uses_frame (schedule_of (model_of e o) x))) off_test).0
          ((not_iff (uses_frame (schedule_of (model_of e o) x))).0 off, none_on_iff.0 ((frames_are false).0 (k.without refl))),
      λ t.
          let a = (and_iff (not (uses_frame (schedule_of (model_of e o) x))) off_test).1 t in
          let off = (not_iff (uses_frame (schedule_of (model_of e o) x))).1 a.0 in
          record {
            used = λ h. let z : true ≡ false = sym h ∙ off in absurd (cc z);
            needed = λ z. absurd (omega arith);
            without = λ z. (frames_are false).1 (none_on_iff.1 a.1);
            with_frame = λ z. absurd (omega arith);
            ordered = λ z. absurd (omega arith);
          },
    )
      where
        not_used : (b : Bool) → (b ≡ true → ⊥) → b ≡ false
        not_used true f = absurd (f refl)
        not_used false f = refl
    by_flag (suc zero) le = (
      λ k.
          let u = k.needed in
          let on = (frames_are true).0 (k.with_frame refl) in
          (and_iff (uses_frame (schedule_of (model_of e o) x)) on_test).0 (
            u refl,
            (and_iff (all_on (Some (frame_op (place_of one.enter))) leaves x) _).0
                (all_on_iff.0 on, (order_iff on).0 (k.ordered refl)),
          ),
      λ t.
          let a = (and_iff (uses_frame (schedule_of (model_of e o) x)) on_test).1 t in
          let b = (and_iff (all_on (Some (frame_op (place_of one.enter))) leaves x) _).1 a.1 in
          let on = all_on_iff.1 b.0 in
          record {
            used = λ h. refl;
            needed = λ z. a.0;
            without = λ z. absurd (omega arith);
            with_frame = λ z. (frames_are true).1 on;
            ordered = λ z. (order_iff on).1 b.1;
          },
    )
    by_flag (suc (suc n)) le = absurd (omega arith)

  pub frames : KeepsFrame (value_of x (model_of e o).flag) (schedule_of (model_of e o) x)
      ↔ AllMet (frame_of (model_of e o) (definers_of (model_of e o)) (places_of (model_of e o))) x
  frames =
      let one = one_enter e o x given in
      let m = model_of e o in
      let ds = definers_of m in
      let ps = places_of m in
      let f = value_of x m.flag in
      let enter = place_of one.enter in
      let alone : with_kind is_enter ps ≡ enter ∷ [] =
      ap (with_kind is_enter) (places_are 0 0 0 e.blocks) ∙ filter_map (λ (p : Place). is_enter p.it.kind) place_of (all e o x)
      ∙ ap (map place_of) one.alone in
      let posted : frame_of m ds ps ≡ frame_by m ds ps enter ∷ [] = ap (map (frame_by m ds ps)) alone in
      let t = λ (u : Bool). cond (nat_eq f 1) (u && on_test one) (not u && (not (nat_eq f 0) || off_test one)) in
      let clause = by_flag one f (flag_sits e o x given.domains) in
      let met = met_one x (frame_by m ds ps enter) (t (uses_frame (schedule_of m x))) (ap t used) in (
        λ h. all_met x (frame_of m ds ps) (subst (Met x) (sym posted) (met.0 (clause.0 h))),
        λ h. clause.1 (met.1 (subst (Met x) posted (met_all x (frame_of m ds ps) h))),
      )
