-- What a flag that says nothing yet leaves as it is.
use Rattle.std.proofs.Common.{ℕ, Bool, true, false, List, [], ◌∷◌, ◌≡◌, ◌<◌, ◌&&◌, ◌∙◌, ◌-◌, All, Some, option_and_then, refl, ap}
use Rattle.std.proofs.Common.{not, nat_eq, arith}
use Rattle.std.proofs.lemmas.Bool.Decides.{nat_tests}
use Rattle.std.specs.declared.option.Option.{Option}
use Rattle.std.specs.List.{AllByRecursion}
use Rattle.std.proofs.lemmas.List.Elements.{recursion_from_All}
use Rattle.un_base.specs.declared.ids.VarId.{VarId}
use Rattle.un_domains.specs.Sets.{Sets, NoneEmpty, set_at, has, greatest}
use Rattle.un_domains.specs.SetLaws.{has-fold_max}
use Rattle.un_ir.specs.declared.extended.TheConstants.{SPILL, RELOAD}
use Rattle.un_isa.specs.declared.reg.TheConstants.{FIRST_SLOT}
use Rattle.un_prop.specs.Among.{among, AllAmong}
use Rattle.un_prop.specs.AmongLaws.{has_among}
use Rattle.un_prop.specs.Looks.{act_set}
use Rattle.un_prop.specs.Rounds.{HasVars, round}
use Rattle.un_prop.specs.When.{is_only, when_cut, other_than, up_to}
use Rattle.un_prop.specs.WhenLaws.{when_not, when_all}
use Rattle.un_alt.specs.declared.frame.FrameOp.{FrameOp}
use Rattle.un_alt.specs.declared.frame.FrameUse.{FrameUse}
use Rattle.un_alt.specs.declared.frame.FrameLeave.{FrameLeave}
use Rattle.un_alt.specs.declared.order.Order.{Order}
use Rattle.un_alt.specs.Frame.{FrameOpVars, FrameUseVars, FrameLeaveVars}
use Rattle.un_alt.specs.FrameCuts.{is_within, is_unused, is_ordered, late_test, early_test, touch_cut, slot_cut, order_cut}
use Rattle.un_alt.specs.FrameCuts.{entry_order, copy_order, call_order, entry_cut, copy_cut, call_cut, left_cut}

module _ (vs : List VarId) (flag : VarId) (s : Sets) (k : HasVars vs s) (full : NoneEmpty s) where
  round_idle : {A : Type 0} (P : A → Type 0) (f : A → Sets → Option Sets) (xs : List A) → AllByRecursion P xs
      → ((a : A) → P a → f a s ≡ Some s) → round f xs s ≡ Some s
  round_idle P f [] all h = refl
  round_idle P f (x ∷ xs) all h = ap (option_and_then (round f xs)) (h x all.0) ∙ round_idle P f xs all.1 h

  -- a copy whose greatest instruction is before both is neither
  pub copy_idle : (v : VarId) → among vs v ≡ true → greatest (set_at s v.0) < SPILL → touch_cut flag v s ≡ Some s
  copy_idle v there low =
      let other : (n : ℕ) → greatest (set_at s v.0) < n → (y : ℕ) → has (set_at s v.0) y ≡ true → not (nat_eq y n) ≡ true =
      λ n lt y h. (let le = has-fold_max 0 (set_at s v.0) y h in
      let b : nat_eq y n ≡ false = grind (arith, nat_tests, le, lt) in rw b refl) in
      let next : SPILL < RELOAD = omega arith in
      ap (option_and_then (when_cut (is_unused flag) (other_than RELOAD) v))
      (when_all (is_unused flag) (other_than SPILL) v s (has_among vs v s there k) full (other SPILL low))
      ∙ when_all (is_unused flag) (other_than RELOAD) v s (has_among vs v s there k) full (other RELOAD (omega (arith, low, next)))

  -- a value whose greatest register is before the slots has none
  pub slot_idle : (v : VarId) → among vs v ≡ true → greatest (set_at s v.0) < FIRST_SLOT → slot_cut flag v s ≡ Some s
  slot_idle v there low = when_all (is_unused flag) (up_to (FIRST_SLOT - 1)) v s (has_among vs v s there k) full
      (λ y h. (let le = has-fold_max 0 (set_at s v.0) y h in grind (arith, nat_tests, le, low)))

  -- the flag may be 1
  module _ (used : is_unused flag s ≡ false) where
    pub copies_idle : (touch : List VarId) → AllAmong vs touch → round (touch_cut flag) touch s ≡ Some s
    copies_idle touch all = round_idle (λ (v : VarId). among vs v ≡ true) (touch_cut flag) touch
        (recursion_from_All (λ (v : VarId). among vs v ≡ true) touch all)
        (λ v there. ap (option_and_then (when_cut (is_unused flag) (other_than RELOAD) v))
        (when_not (is_unused flag) (other_than SPILL) v s (has_among vs v s there k) full used)
        ∙ when_not (is_unused flag) (other_than RELOAD) v s (has_among vs v s there k) full used)

    pub slots_idle : (ins : List VarId) → AllAmong vs ins → round (slot_cut flag) ins s ≡ Some s
    slots_idle ins all = round_idle (λ (v : VarId). among vs v ≡ true) (slot_cut flag) ins
        (recursion_from_All (λ (v : VarId). among vs v ≡ true) ins all)
        (λ v there. when_not (is_unused flag) (up_to (FIRST_SLOT - 1)) v s (has_among vs v s there k) full used)

  -- the flag may be other than 1
  module _ (off : is_only flag 1 s ≡ false) where
    order_idle : (o : Order) → among vs o.from ≡ true → among vs o.to ≡ true → order_cut flag o s ≡ Some s
    order_idle o from to =
        let no : is_ordered flag o s ≡ false = ap (λ (b : Bool). b && is_within o.least o.most (act_set o.instr s)) off in
        ap (option_and_then (when_cut (is_ordered flag o) (early_test o) o.from))
        (when_not (is_ordered flag o) (late_test o) o.to s (has_among vs o.to s to k) full no)
        ∙ when_not (is_ordered flag o) (early_test o) o.from s (has_among vs o.from s from k) full no

    pub entry_idle : (enter : FrameOp) (entry : List FrameUse) → FrameOpVars vs enter → All (FrameUseVars vs) entry
        → round (entry_cut flag enter) entry s ≡ Some s
    entry_idle enter entry of_enter all = round_idle (FrameUseVars vs) (entry_cut flag enter) entry
        (recursion_from_All (FrameUseVars vs) entry all)
        (λ u of_u. order_idle (entry_order enter u) of_enter.of_at of_u.of_at)

    left_idle : (l : FrameLeave) → FrameLeaveVars vs l → left_cut flag l s ≡ Some s
    left_idle l of_l = ap (option_and_then (round (call_cut flag l.leave) l.calls))
        (round_idle (FrameUseVars vs) (copy_cut flag l.leave) l.copies (recursion_from_All (FrameUseVars vs) l.copies of_l.of_copies)
        (λ u of_u. order_idle (copy_order l.leave u) of_u.of_at of_l.of_leave.of_at))
        ∙ round_idle (λ (v : VarId). among vs v ≡ true) (call_cut flag l.leave) l.calls
        (recursion_from_All (λ (v : VarId). among vs v ≡ true) l.calls of_l.of_calls)
        (λ v there. order_idle (call_order l.leave v) there of_l.of_leave.of_at)

    pub leaves_idle : (leaves : List FrameLeave) → All (FrameLeaveVars vs) leaves → round (left_cut flag) leaves s ≡ Some s
    leaves_idle leaves all = round_idle (FrameLeaveVars vs) (left_cut flag) leaves
        (recursion_from_All (FrameLeaveVars vs) leaves all) left_idle
