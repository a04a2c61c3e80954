-- Enter and Leave about the calls, Spills and Reloads of a block.
use Rattle.std.proofs.Common.{ℕ, ◌≡◌, ◌+◌, ◌<◌, ◌≤◌, true, List, refl, sym, ap, ◌∙◌, subst, arith}
use Rattle.std.specs.Prelude.{Option, Some, IfSome}
use Rattle.un_isa.specs.declared.op.Op.{Op}
use Rattle.un_isa.specs.declared.op.Op.TheVariants.{Call, Spill, Reload, Enter as EnterOp, Leave as LeaveOp}
use Rattle.un_ir.specs.Extended.{is_enter, is_leave}
use Rattle.un_ir.specs.Kinds.{is_call_kind}
use Rattle.un_ir.specs.declared.extended.Ext.{Ext}
use Rattle.un_ir.specs.declared.extended.ExtKind.{ExtKind}
use Rattle.un_ir.specs.declared.extended.ExtKind.TheVariants.{In, Out, Body, End, Copy, Enter, Leave}
use Rattle.un_model.specs.declared.model.Options.{Options}
use Rattle.un_model.specs.Schedules.{issues_of, schedule_of, value_by}
use Rattle.un_model.specs.Solutions.{IsSchedule, HasFrame, is_frame_access, frame_distance, latency_gap}
use Rattle.un_model.specs.Variables.{model_of}
use Rattle.un_lists.proofs.Lists.{Member, each_member, member_at}
use Rattle.un_model.proofs.Placed.{Placed, Region, region_placed, vars_of, issue_at}
use Rattle.un_model.proofs.PlacedSchedules.{all, issue_here}
use Rattle.un_post.proofs.AccessRooms.{framed, distant, late, placed_as}
use Rattle.un_post.proofs.Blocks.{blocks, in_all}
use Rattle.un_post.proofs.Facts.{Given}
use Rattle.un_post.proofs.Issued.{leave_frames, leave_instr}
use Rattle.un_post.proofs.OneEnter.{one_enter}
use Rattle.un_model.proofs.Regions.{of_region}
use Rattle.un_post.proofs.Spared.{call_instr}

-- ---- by instructions

-- a call comes after Enter, and before Leave
enter_call : (a b : Option Op) (c d : ℕ) → a ≡ Some EnterOp → b ≡ Some Call → IfSome (frame_distance a b) (λ (n : ℕ). c + n ≤ d)
    → c + 1 ≤ d
enter_call a b c d f g h = subst (λ (z : Option Op). IfSome (frame_distance (Some EnterOp) z) (λ (n : ℕ). c + n ≤ d)) g
    (subst (λ (z : Option Op). IfSome (frame_distance z b) (λ (n : ℕ). c + n ≤ d)) f h)

call_leave : (a b : Option Op) (c d : ℕ) → a ≡ Some Call → b ≡ Some LeaveOp → IfSome (frame_distance a b) (λ (n : ℕ). c + n ≤ d)
    → c + 1 ≤ d
call_leave a b c d f g h = subst (λ (z : Option Op). IfSome (frame_distance (Some Call) z) (λ (n : ℕ). c + n ≤ d)) g
    (subst (λ (z : Option Op). IfSome (frame_distance z b) (λ (n : ℕ). c + n ≤ d)) f h)

module _ (e : Ext) (o : Options) (x : List ℕ) (given : Given e o x)
    (schedule : IsSchedule (latency_gap e.table) (model_of e o).domains (model_of e o) x (schedule_of (model_of e o) x)) where
  issue_member : (q : Placed) → Member q (all e o x) → Member (issue_at x q) (issues_of (model_of e o) x)
  issue_member q m = member_at (issues_of (model_of e o) x) q.number (issue_at x q) (issue_here e o x q m)

  called : (q : Placed) → is_call_kind q.op.kind ≡ true → (issue_at x q).instr ≡ Some Call
  called q call = let v = vars_of q in call_instr q.op.kind (value_by x v.instr) call

  -- ---- a Spill of the entry

  -- Enter issues before it, and before each call of the entry
  pub record EntersBefore (p : Placed) : Type 0 where
    pub place : Placed
    pub member : Member place (all e o x)
    pub block : place.block ≡ 0
    pub kind : place.op.kind ≡ Enter
    pub instr : (issue_at x place).instr ≡ Some EnterOp
    pub some : 1 ≤ (issue_at x place).cycle
    pub after : (issue_at x place).cycle + 1 ≤ (issue_at x p).cycle
    pub calls : (q : Placed) → Member q (all e o x) → q.block ≡ 0 → is_call_kind q.op.kind ≡ true
        → (issue_at x place).cycle + 1 ≤ (issue_at x q).cycle

  pub enters_before : (p : Placed) → Member p (all e o x) → p.block ≡ 0 → (issue_at x p).instr ≡ Some Spill → EntersBefore p
  enters_before p m block instr =
      let i = issue_at x p in
      let mi = issue_member p m in
      let f = framed e o x given schedule i mi (ap is_frame_access instr) in
      let l = late e o x given schedule i mi block instr in
      let one = one_enter e o x given in
      let some = l.some in
      record {
        place = one.enter;
        member = one.member;
        block = one.block;
        kind = enter_is (one.enter).op.kind one.is;
        instr = l.is;
        some = omega (arith, some);
        after = l.after;
        calls = λ q mq here call. enter_call (issue_at x one.enter).instr (issue_at x q).instr (issue_at x one.enter).cycle
            (issue_at x q).cycle
            l.is (called q call) (distant e o x given schedule f (issue_at x one.enter) (issue_at x q) (issue_member one.enter one.member)
            (issue_member q mq) (one.block ∙ sym here));
      }
    where
      enter_is : (kind : ExtKind) → is_enter kind ≡ true → kind ≡ Enter
      enter_is Enter h = refl
      enter_is In h = absurd (cc h)
      enter_is Out h = absurd (cc h)
      enter_is (Body so) h = absurd (cc h)
      enter_is (End term) h = absurd (cc h)
      enter_is (Copy node) h = absurd (cc h)
      enter_is Leave h = absurd (cc h)

  -- ---- a Reload

  module _ (r : Region) (mr : Member r (blocks e o x)) where
    -- where a block has a Leave it issues behind the block's calls
    pub record LeavesBehind (q : Placed) : Type 0 where
      pub instr : (issue_at x q).instr ≡ Some LeaveOp
      pub some : 1 ≤ (issue_at x q).cycle
      pub before : (issue_at x q).cycle < (issue_at x q).end
      pub calls : (c : Placed) → Member c (region_placed r) → is_call_kind c.op.kind ≡ true
          → (issue_at x c).cycle + 1 ≤ (issue_at x q).cycle

    pub leaves_behind : (p q : Placed) → Member p (all e o x) → (issue_at x p).instr ≡ Some Reload → Member q (region_placed r)
        → is_leave q.op.kind ≡ true → LeavesBehind q
    leaves_behind p q m instr mq leave =
        let i = issue_at x p in
        let f = framed e o x given schedule i (issue_member p m) (ap is_frame_access instr) in
        let aq = in_all e o x r q mr mq in
        let mi = issue_member q aq in
        let on : (issue_at x q).active ≡ true = each_member (HasFrame true) (issues_of (model_of e o) x) (issue_at x q) f.active mi
        (leave_frames q.op.kind leave) in
        let v = vars_of q in
        let is = leave_instr q.op.kind (value_by x v.instr) leave on in
        let within = placed_as e o x given schedule (issue_at x q) LeaveOp mi is in
        let inside = within.0 in
        let some = inside.0 in
        record {
          instr = is;
          some = omega (arith, some);
          before = inside.1;
          calls = λ c mc call. call_leave (issue_at x c).instr (issue_at x q).instr (issue_at x c).cycle (issue_at x q).cycle
              (called c call) is
              (distant e o x given schedule f (issue_at x c) (issue_at x q) (issue_member c (in_all e o x r c mr mc)) mi
              (of_region r c mc ∙ sym (of_region r q mq)));
        }
