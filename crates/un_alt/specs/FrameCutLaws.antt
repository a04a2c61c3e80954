-- Laws of what Frame lets a store keep.
use Rattle.std.proofs.Common.{ℕ, ◌≡◌, ◌≢◌, ◌≤◌, ◌+◌, ◌-◌, ◌^◌, Bool, true, false, cond, not, ◌&&◌, ◌||◌, List, [], ◌∷◌}
use Rattle.std.proofs.Common.{get_or, nat_eq}
use Rattle.std.proofs.Common.{nat_le, nat_lt, option_and_then, None, Some, refl, ap, subst, arith}
use Rattle.std.specs.declared.option.Option.{Option}
use Rattle.std.specs.Option.{ForSome}
use Rattle.std.specs.List.{AllByRecursion, list_any, list_all}
use Rattle.std.proofs.lemmas.Bool.Decides.{nat_tests}
use Rattle.std.proofs.lemmas.List.Elements.{recursion_from_All}
use Rattle.un_base.specs.declared.ids.VarId.{VarId}
use Rattle.un_domains.specs.Sets.{Sets, set_at, has, least, greatest, IsIn, Kept}
use Rattle.un_domains.specs.SetLaws.{least-le, has-fold_max}
use Rattle.un_domains.specs.OrderLaws.{least_below, greatest_below, has_below}
use Rattle.un_isa.specs.declared.reg.TheConstants.{FIRST_SLOT}
use Rattle.un_prop.specs.Rounds.{HasVars, round}
use Rattle.un_prop.specs.Lawful.{Lawful, LawfulTest}
use Rattle.un_prop.specs.Steps.{lawful_then, lawful_each, lawful_some}
use Rattle.un_prop.specs.EachLaws.{each_kept}
use Rattle.un_prop.specs.ChainLaws.{then_kept, known_in}
use Rattle.un_prop.specs.ChoiceLaws.{map_all}
use Rattle.un_prop.specs.LookLaws.{not_or, or_not, both, firsts, not_true, not_from, set_alike}
use Rattle.un_prop.specs.Looks.{act_set}
use Rattle.un_prop.specs.Among.{among, AllAmong}
use Rattle.un_prop.specs.AmongLaws.{has_among}
use Rattle.un_prop.specs.Acts.{act_vars, act_number}
use Rattle.un_prop.specs.When.{is_only, when_cut, other_than, up_to, LawfulFact}
use Rattle.un_prop.specs.WhenLaws.{only_value, only_fact, both_facts, either_fact, any_fact, fixed_test, when_lawful, when_keeps}
use Rattle.un_prop.specs.declared.act.Act.{Act}
use Rattle.un_prop.specs.declared.act.Act.TheVariants.{Always, Var as ActVar}
use Rattle.un_alt.specs.declared.frame.FrameOp.{FrameOp}
use Rattle.un_alt.specs.declared.frame.FrameUse.{FrameUse}
use Rattle.un_alt.specs.declared.frame.FrameLeave.{FrameLeave}
use Rattle.un_ir.specs.declared.extended.TheConstants.{SPILL, RELOAD}
use Rattle.un_alt.specs.declared.order.Order.{Order}
use Rattle.un_alt.specs.Frame.{is_access, is_slot, uses_frame, is_on, all_on, none_on, counts, is_after, is_until, is_left, in_order}
use Rattle.un_alt.specs.Frame.{enter_on, enter_off, all_entered}
use Rattle.un_alt.specs.Frame.{frame_holds, FrameOpVars, FrameUseVars, FrameLeaveVars, FrameVars}
use Rattle.un_alt.specs.FrameCuts.{is_within, sure_use, flag_cut, is_unused, touch_cut, slot_cut, op_cut, leave_op_cut, order_holds}
use Rattle.un_alt.specs.FrameCuts.{entry_order, copy_order, call_order, is_ordered, late_test, early_test, order_cut, entry_cut, copy_cut}
use Rattle.un_alt.specs.FrameCuts.{call_cut, left_cut, use_steps, op_steps, order_steps, frame_steps, OrderVars}
use Rattle.un_alt.specs.FrameCuts.{enter_cut, entry_steps}

-- Lists

both_all : {A : Type 0} (P Q : A → Type 0) (xs : List A) → AllByRecursion P xs → AllByRecursion Q xs → AllByRecursion (λ a. P a × Q a) xs
both_all P Q [] a b = tt
both_all P Q (x ∷ xs) a b = ((a.0, b.0), both_all P Q xs a.1 b.1)

all_when : {A : Type 0} (F : Type 0) (Q : A → Type 0) (xs : List A) → (F → AllByRecursion Q xs) → AllByRecursion (λ a. F → Q a) xs
all_when F Q [] h = tt
all_when F Q (x ∷ xs) h = (λ f. (h f).0, all_when F Q xs (λ f. (h f).1))

all_true : {A : Type 0} (p : A → Bool) (xs : List A) → list_all p xs ≡ true → AllByRecursion (λ a. p a ≡ true) xs
all_true p [] e = tt
all_true p (x ∷ xs) e = let two = firsts (p x) (list_all p xs) e in (two.0, all_true p xs two.1)

any_false : {A : Type 0} (p : A → Bool) (xs : List A) → not (list_any p xs) ≡ true → AllByRecursion (λ a. not (p a) ≡ true) xs
any_false p [] e = tt
any_false p (x ∷ xs) e = let two = neither (p x) (list_any p xs) e in (two.0, any_false p xs two.1)
  where
    neither : (b c : Bool) → not (b || c) ≡ true → (not b ≡ true) × (not c ≡ true)
    neither true c h = absurd (cc h)
    neither false c h = (refl, h)

or_more : (a b c d : Bool) → (a ≡ true → c ≡ true) → (b ≡ true → d ≡ true) → (a || b) ≡ true → (c || d) ≡ true
or_more true b true d h k e = refl
or_more true b false d h k e = absurd (cc (h refl))
or_more false true true d h k e = refl
or_more false true false d h k e = k refl
or_more false false c d h k e = absurd (cc e)

any_true : {A : Type 0} (P : A → Type 0) (p q : A → Bool) → ((a : A) → P a → p a ≡ true → q a ≡ true) → (xs : List A) → AllByRecursion P xs
    → list_any p xs ≡ true → list_any q xs ≡ true
any_true P p q h [] all e = e
any_true P p q h (x ∷ xs) all e = or_more (p x) (list_any p xs) (q x) (list_any q xs) (h x all.0) (any_true P p q h xs all.1) e

parts : (b c : Bool) → not (b || c) ≡ true → (not b ≡ true) × (not c ≡ true)
parts true c h = absurd (cc h)
parts false c h = (refl, h)

-- Facts

module _ (vs : List VarId) where
  within_fact : (low high : ℕ) (v : VarId) → among vs v ≡ true → LawfulFact vs (λ s. is_within low high (set_at s v.0))
  within_fact low high v at = record {
    grows = λ t s k full le e.
        (let two = firsts (nat_le low (least (set_at s v.0))) (nat_le (greatest (set_at s v.0)) high) e in
        let here = has_among vs v s at k in
        let down = least_below t s v.0 le (full v.0 (omega (arith, here, le.long))) in
        let up = greatest_below t s v.0 le in
        let first = two.0 in
        let second = two.1 in
        both (nat_le low (least (set_at t v.0))) (nat_le (greatest (set_at t v.0)) high) (grind (arith, nat_tests, first, down))
        (grind (arith, nat_tests, second, up)));
    local = λ s t agree. ap (is_within low high) (set_alike vs s t agree v at);
  }

  number_fact : (low high : ℕ) (on : Act) → AllAmong vs (act_vars on) → LawfulFact vs (λ s. is_within low high (act_set on s))
  number_fact low high Always all = record { grows = λ t s k full le e. e; local = λ s t agree. refl }
  number_fact low high (ActVar v) all = within_fact low high v (all 0 v (omega arith))

  unused_fact : (flag : VarId) → among vs flag ≡ true → LawfulFact vs (is_unused flag)
  unused_fact flag at = record {
    grows = λ t s k full le e. not_from (has (set_at t flag.0) 1)
        (λ there. not_true (has (set_at s flag.0) 1) e (has_below t s flag.0 1 le there));
    local = λ s t agree. ap (λ (xs : List ℕ). not (has xs 1)) (set_alike vs s t agree flag at);
  }

  -- what is within, and the value of an assignment
  value_within : (low high : ℕ) (v : VarId) → among vs v ≡ true → (s : Sets) (x : List ℕ) → HasVars vs s → IsIn x s
      → is_within low high (set_at s v.0) ≡ true → (low ≤ get_or x v.0 0) × (get_or x v.0 0 ≤ high)
  value_within low high v at s x k there e =
      let two = firsts (nat_le low (least (set_at s v.0))) (nat_le (greatest (set_at s v.0)) high) e in
      let first = two.0 in
      let second = two.1 in
      let here = there.each v.0 (has_among vs v s at k) in
      let down = least-le (set_at s v.0) (get_or x v.0 0) here in
      let up = has-fold_max 0 (set_at s v.0) (get_or x v.0 0) here in
      (grind (arith, nat_tests, first, down), grind (arith, nat_tests, second, up))

  number_within : (low high : ℕ) (on : Act) → AllAmong vs (act_vars on) → (s : Sets) (x : List ℕ) → HasVars vs s → IsIn x s
      → is_within low high (act_set on s) ≡ true → (nat_le low (act_number on x) && nat_le (act_number on x) high) ≡ true
  number_within low high Always all s x k there e = e
  number_within low high (ActVar v) all s x k there e =
      let two = value_within low high v (all 0 v (omega arith)) s x k there e in
      let first = two.0 in
      let second = two.1 in
      both (nat_le low (get_or x v.0 0)) (nat_le (get_or x v.0 0) high) (grind (arith, nat_tests, first)) (grind (arith, nat_tests, second))

  -- Orders

  late_lawful : (o : Order) → OrderVars vs o → LawfulTest vs (late_test o)
  late_lawful o h = record {
    monotone = λ t s y k full le e.
        (let here = has_among vs o.from s h.of_from k in
        let down = least_below t s o.from.0 le (full o.from.0 (omega (arith, here, le.long))) in
        grind (arith, nat_tests, e, down));
    local = λ s t y agree. ap (λ (xs : List ℕ). nat_le (least xs + o.gap) y) (set_alike vs s t agree o.from h.of_from);
  }

  early_lawful : (o : Order) → OrderVars vs o → LawfulTest vs (early_test o)
  early_lawful o h = record {
    monotone = λ t s y k full le e. (let up = greatest_below t s o.to.0 le in
        early_more y (greatest (set_at t o.to.0)) (greatest (set_at s o.to.0)) o.gap up e);
    local = λ s t y agree. ap (λ (xs : List ℕ). nat_le y (greatest xs - o.gap)) (set_alike vs s t agree o.to h.of_to);
  }
    where
      early_more : (y a b gap : ℕ) → a ≤ b → nat_le y (a - gap) ≡ true → nat_le y (b - gap) ≡ true
      early_more y a b gap le e =
          let small : y ≤ a - gap = grind (arith, nat_tests, e) in
          let more : y ≤ b - gap = omega (arith, small, le) in
          grind (arith, nat_tests, more)

  module _ (flag : VarId) (at_flag : among vs flag ≡ true) where
    ordered_fact : (o : Order) → OrderVars vs o → LawfulFact vs (is_ordered flag o)
    ordered_fact o h = both_facts vs (is_only flag 1) (λ s. is_within o.least o.most (act_set o.instr s)) (only_fact vs flag 1 at_flag)
        (number_fact o.least o.most o.instr h.of_instr)

    order_late : (o : Order) → OrderVars vs o → Lawful vs (when_cut (is_ordered flag o) (late_test o) o.to)
    order_late o h = when_lawful vs (is_ordered flag o) (late_test o) o.to h.of_to (ordered_fact o h) (late_lawful o h)

    order_early : (o : Order) → OrderVars vs o → Lawful vs (when_cut (is_ordered flag o) (early_test o) o.from)
    order_early o h = when_lawful vs (is_ordered flag o) (early_test o) o.from h.of_from (ordered_fact o h) (early_lawful o h)

    order_lawful : (o : Order) → OrderVars vs o → Lawful vs (order_cut flag o)
    order_lawful o h = lawful_then vs (when_cut (is_ordered flag o) (late_test o) o.to) (when_cut (is_ordered flag o) (early_test o) o.from)
        (order_late o h) (order_early o h)

    flag_is : (n : ℕ) (s : Sets) (x : List ℕ) → HasVars vs s → IsIn x s → is_only flag n s ≡ true → get_or x flag.0 0 ≡ n
    flag_is n s x k there e = only_value flag n s (get_or x flag.0 0) e (there.each flag.0 (has_among vs flag s at_flag k))

    -- the times of an assignment that keeps the order
    order_times : (o : Order) → OrderVars vs o → (x : List ℕ) → (get_or x flag.0 0 ≡ 1 → order_holds o x ≡ true) → (m : Sets) → HasVars vs m
        → IsIn x m → is_ordered flag o m ≡ true → get_or x o.from.0 0 + o.gap ≤ get_or x o.to.0 0
    order_times o h x holds m k there e =
        let two = firsts (is_only flag 1 m) (is_within o.least o.most (act_set o.instr m)) e in
        let counted = number_within o.least o.most o.instr h.of_instr m x k there two.1 in
        let kept = or_not (nat_le o.least (act_number o.instr x) && nat_le (act_number o.instr x) o.most)
        (nat_le (get_or x o.from.0 0 + o.gap) (get_or x o.to.0 0)) (holds (flag_is 1 m x k there two.0)) counted in
        grind (arith, nat_tests, kept)

    order_keeps : (o : Order) → OrderVars vs o → (x : List ℕ) → (get_or x flag.0 0 ≡ 1 → order_holds o x ≡ true) → (m : Sets) → HasVars vs m
        → IsIn x m → Kept x (order_cut flag o m)
    order_keeps o h x holds m k there = then_kept (when_cut (is_ordered flag o) (early_test o) o.from) x
        (when_cut (is_ordered flag o) (late_test o) o.to m)
        (when_keeps vs (is_ordered flag o) (late_test o) o.to h.of_to m x k there (λ is.
        (let order = order_times o h x holds m k there is in
        let down = least-le (set_at m o.from.0) (get_or x o.from.0 0) (there.each o.from.0 (has_among vs o.from m h.of_from k)) in
        grind (arith, nat_tests, order, down))))
        (λ u in_u. (let ku = known_in vs m u x there in_u k in
        when_keeps vs (is_ordered flag o) (early_test o) o.from h.of_from u x ku in_u (λ is.
        (let order = order_times o h x holds u ku in_u is in
        let up = has-fold_max 0 (set_at u o.to.0) (get_or x o.to.0 0) (in_u.each o.to.0 (has_among vs o.to u h.of_to ku)) in
        let small : get_or x o.from.0 0 ≤ greatest (set_at u o.to.0) - o.gap = omega (arith, order, up) in
        grind (arith, nat_tests, small)))))

    -- Enter and Leave

    off_lawful : (op : FrameOp) → FrameOpVars vs op → Lawful vs (when_cut (is_only flag 0) (up_to 0) op.instr)
    off_lawful op h = when_lawful vs (is_only flag 0) (up_to 0) op.instr h.of_instr (only_fact vs flag 0 at_flag)
        (fixed_test vs (λ y. nat_le y 0))

    on_lawful : (op : FrameOp) → FrameOpVars vs op → Lawful vs (when_cut (is_only flag 1) (other_than 0) op.instr)
    on_lawful op h = when_lawful vs (is_only flag 1) (other_than 0) op.instr h.of_instr (only_fact vs flag 1 at_flag)
        (fixed_test vs (λ y. not (nat_eq y 0)))

    op_lawful : (op : FrameOp) → FrameOpVars vs op → Lawful vs (op_cut flag op)
    op_lawful op h = lawful_then vs (when_cut (is_only flag 0) (up_to 0) op.instr) (when_cut (is_only flag 1) (other_than 0) op.instr)
        (off_lawful op h) (on_lawful op h)

    op_keeps : (op : FrameOp) → FrameOpVars vs op → (x : List ℕ) → (get_or x flag.0 0 ≡ 1 → is_on x op ≡ true)
        → (get_or x flag.0 0 ≡ 0 → not (is_on x op) ≡ true) → (m : Sets) → HasVars vs m → IsIn x m → Kept x (op_cut flag op m)
    op_keeps op h x on off m k there = then_kept (when_cut (is_only flag 1) (other_than 0) op.instr) x
        (when_cut (is_only flag 0) (up_to 0) op.instr m)
        (when_keeps vs (is_only flag 0) (up_to 0) op.instr h.of_instr m x k there (λ is. idle (off (flag_is 0 m x k there is))))
        (λ u in_u. (let ku = known_in vs m u x there in_u k in
        when_keeps vs (is_only flag 1) (other_than 0) op.instr h.of_instr u x ku in_u (λ is. on (flag_is 1 u x ku in_u is))))
      where
        idle : not (is_on x op) ≡ true → nat_le (get_or x op.instr.0 0) 0 ≡ true
        idle e = by (nat_eq (get_or x op.instr.0 0) 0) refl e
          where
            by : (b : Bool) → nat_eq (get_or x op.instr.0 0) 0 ≡ b → not (not b) ≡ true → nat_le (get_or x op.instr.0 0) 0 ≡ true
            by true is h' = grind (arith, nat_tests, is)
            by false is h' = absurd (cc h')

    -- The use of the frame

    touch_lawful : (v : VarId) → among vs v ≡ true → Lawful vs (touch_cut flag v)
    touch_lawful v at = lawful_then vs (when_cut (is_unused flag) (other_than SPILL) v) (when_cut (is_unused flag) (other_than RELOAD) v)
        (when_lawful vs (is_unused flag) (other_than SPILL) v at (unused_fact flag at_flag) (fixed_test vs (λ y. not (nat_eq y SPILL))))
        (when_lawful vs (is_unused flag) (other_than RELOAD) v at (unused_fact flag at_flag) (fixed_test vs (λ y. not (nat_eq y RELOAD))))

    slot_lawful : (v : VarId) → among vs v ≡ true → Lawful vs (slot_cut flag v)
    slot_lawful v at = when_lawful vs (is_unused flag) (up_to (FIRST_SLOT - 1)) v at (unused_fact flag at_flag)
        (fixed_test vs (λ y. nat_le y (FIRST_SLOT - 1)))

    flag_not : (s : Sets) (x : List ℕ) → HasVars vs s → IsIn x s → is_unused flag s ≡ true → get_or x flag.0 0 ≢ 1
    flag_not s x k there e is = not_true (has (set_at s flag.0) 1) e
        (subst (λ (n : ℕ). has (set_at s flag.0) n ≡ true) is (there.each flag.0 (has_among vs flag s at_flag k)))

    touch_keeps : (x : List ℕ) (v : VarId) → (among vs v ≡ true) × (get_or x flag.0 0 ≢ 1 → not (is_access x v) ≡ true) → (m : Sets)
        → HasVars vs m → IsIn x m → Kept x (touch_cut flag v m)
    touch_keeps x v p m k there = then_kept (when_cut (is_unused flag) (other_than RELOAD) v) x
        (when_cut (is_unused flag) (other_than SPILL) v m)
        (when_keeps vs (is_unused flag) (other_than SPILL) v p.0 m x k there
        (λ is. not_from (nat_eq (get_or x v.0 0) SPILL) (λ e. no_spill (p.1 (flag_not m x k there is)) (grind (arith, nat_tests, e)))))
        (λ u in_u. (let ku = known_in vs m u x there in_u k in when_keeps vs (is_unused flag) (other_than RELOAD) v p.0 u x ku in_u
        (λ is. not_from (nat_eq (get_or x v.0 0) RELOAD) (λ e. no_reload (p.1 (flag_not u x ku in_u is)) (grind (arith, nat_tests, e))))))
      where
        no_spill : not (is_access x v) ≡ true → get_or x v.0 0 ≡ SPILL → ⊥
        no_spill e is = not_true (is_access x v) e
            (let low : nat_le SPILL (get_or x v.0 0) ≡ true = grind (arith, nat_tests, is) in
            let high : nat_le (get_or x v.0 0) RELOAD ≡ true = grind (arith, nat_tests, is) in
            both (nat_le SPILL (get_or x v.0 0)) (nat_le (get_or x v.0 0) RELOAD) low high)

        no_reload : not (is_access x v) ≡ true → get_or x v.0 0 ≡ RELOAD → ⊥
        no_reload e is = not_true (is_access x v) e
            (let low : nat_le SPILL (get_or x v.0 0) ≡ true = grind (arith, nat_tests, is) in
            let high : nat_le (get_or x v.0 0) RELOAD ≡ true = grind (arith, nat_tests, is) in
            both (nat_le SPILL (get_or x v.0 0)) (nat_le (get_or x v.0 0) RELOAD) low high)

    slot_keeps : (x : List ℕ) (v : VarId) → (among vs v ≡ true) × (get_or x flag.0 0 ≢ 1 → not (is_slot x v) ≡ true) → (m : Sets)
        → HasVars vs m → IsIn x m → Kept x (slot_cut flag v m)
    slot_keeps x v p m k there = when_keeps vs (is_unused flag) (up_to (FIRST_SLOT - 1)) v p.0 m x k there
        (λ is. small (p.1 (flag_not m x k there is)))
      where
        small : not (is_slot x v) ≡ true → nat_le (get_or x v.0 0) (FIRST_SLOT - 1) ≡ true
        small e = by (nat_le FIRST_SLOT (get_or x v.0 0)) refl e
          where
            by : (b : Bool) → nat_le FIRST_SLOT (get_or x v.0 0) ≡ b → not b ≡ true → nat_le (get_or x v.0 0) (FIRST_SLOT - 1) ≡ true
            by true is h' = absurd (cc h')
            by false is h' = grind (arith, nat_tests, is)

-- Frame

-- what holds of an assignment that keeps the frame
record Keeps (flag : VarId) (touch ins : List VarId) (enter : Option FrameOp) (entry : List FrameUse) (leaves : List FrameLeave) (x : List ℕ)
    : Type 0 where
  used : uses_frame touch ins x ≡ true → get_or x flag.0 0 ≡ 1
  unused : get_or x flag.0 0 ≢ 1 → not (uses_frame touch ins x) ≡ true
  on : get_or x flag.0 0 ≡ 1 → all_on enter leaves x ≡ true
  off : get_or x flag.0 0 ≡ 0 → none_on enter leaves x ≡ true
  order : get_or x flag.0 0 ≡ 1 → in_order enter entry leaves x ≡ true

keeps_of : (whole : Bool) (flag : VarId) (touch ins : List VarId) (enter : Option FrameOp) (entry : List FrameUse) (leaves : List FrameLeave) (x : List ℕ)
    → frame_holds whole flag touch ins enter entry leaves x ≡ true → Keeps flag touch ins enter entry leaves x
keeps_of whole flag touch ins enter entry leaves x holds = by (nat_eq (get_or x flag.0 0) 1) refl holds
  where
    by : (b : Bool) → nat_eq (get_or x flag.0 0) 1 ≡ b
        → cond b ((not whole || uses_frame touch ins x) && (all_on enter leaves x && in_order enter entry leaves x))
        (not (uses_frame touch ins x) && (not (nat_eq (get_or x flag.0 0) 0) || none_on enter leaves x)) ≡ true
        → Keeps flag touch ins enter entry leaves x
    by true is h =
        let one : get_or x flag.0 0 ≡ 1 = grind (arith, nat_tests, is) in
        let two = firsts (not whole || uses_frame touch ins x) (all_on enter leaves x && in_order enter entry leaves x) h in
        let more = firsts (all_on enter leaves x) (in_order enter entry leaves x) two.1 in
        record {
          used = λ e. one;
          unused = λ ne. absurd (ne one);
          on = λ e. more.0;
          off = λ e. absurd (omega (arith, one, e));
          order = λ e. more.1;
        }
    by false is h =
        let other : get_or x flag.0 0 ≢ 1 = grind (arith, nat_tests, is) in
        let two = firsts (not (uses_frame touch ins x)) (not (nat_eq (get_or x flag.0 0) 0) || none_on enter leaves x) h in
        record {
          used = λ e. absurd (not_true (uses_frame touch ins x) two.0 e);
          unused = λ ne. two.0;
          on = λ e. absurd (other e);
          off = λ e. or_not (nat_eq (get_or x flag.0 0) 0) (none_on enter leaves x) two.1 (grind (arith, nat_tests, e));
          order = λ e. absurd (other e);
        }

module _ (vs : List VarId) (flag : VarId) (touch ins : List VarId) (enter : Option FrameOp) (entry : List FrameUse) (leaves : List FrameLeave)
    (h : FrameVars vs flag touch ins enter entry leaves) where
  in_touch : AllByRecursion (λ v. among vs v ≡ true) touch
  in_touch = recursion_from_All _ _ h.of_touch

  in_ins : AllByRecursion (λ v. among vs v ≡ true) ins
  in_ins = recursion_from_All _ _ h.of_ins

  in_entry : AllByRecursion (FrameUseVars vs) entry
  in_entry = recursion_from_All _ _ h.of_entry

  in_leaves : AllByRecursion (FrameLeaveVars vs) leaves
  in_leaves = recursion_from_All _ _ h.of_leaves

  of_entry_order : (e : FrameOp) → FrameOpVars vs e → (u : FrameUse) → FrameUseVars vs u → OrderVars vs (entry_order e u)
  of_entry_order e in_e u k = record { of_from = in_e.of_at; of_to = k.of_at; of_instr = k.of_instr }

  of_copy_order : (leave : FrameOp) → FrameOpVars vs leave → (u : FrameUse) → FrameUseVars vs u → OrderVars vs (copy_order leave u)
  of_copy_order leave l u k = record { of_from = k.of_at; of_to = l.of_at; of_instr = k.of_instr }

  of_call_order : (leave : FrameOp) → FrameOpVars vs leave → (v : VarId) → among vs v ≡ true → OrderVars vs (call_order leave v)
  of_call_order leave l v k = record { of_from = k; of_to = l.of_at; of_instr = λ i d lt. absurd (omega (arith, lt)) }

  -- Lawful

  sure_fact : LawfulFact vs (sure_use touch ins)
  sure_fact = either_fact vs (λ s. list_any (λ (v : VarId). is_within SPILL RELOAD (set_at s v.0)) touch)
      (λ s. list_any (λ (v : VarId). is_within FIRST_SLOT (2 ^ 32 - 1) (set_at s v.0)) ins)
      (any_fact vs (λ v. among vs v ≡ true) (λ v s. is_within SPILL RELOAD (set_at s v.0)) (within_fact vs SPILL RELOAD) touch in_touch)
      (any_fact vs (λ v. among vs v ≡ true) (λ v s. is_within FIRST_SLOT (2 ^ 32 - 1) (set_at s v.0))
      (within_fact vs FIRST_SLOT (2 ^ 32 - 1)) ins in_ins)

  flag_lawful : Lawful vs (flag_cut flag touch ins)
  flag_lawful = when_lawful vs (sure_use touch ins) (λ u y. nat_eq y 1) flag h.of_flag sure_fact (fixed_test vs (λ y. nat_eq y 1))

  touches_lawful : Lawful vs (round (touch_cut flag) touch)
  touches_lawful = lawful_each vs (touch_cut flag) touch
      (map_all (λ v. among vs v ≡ true) (λ v. Lawful vs (touch_cut flag v)) (touch_lawful vs flag h.of_flag) touch in_touch)

  slots_lawful : Lawful vs (round (slot_cut flag) ins)
  slots_lawful = lawful_each vs (slot_cut flag) ins
      (map_all (λ v. among vs v ≡ true) (λ v. Lawful vs (slot_cut flag v)) (slot_lawful vs flag h.of_flag) ins in_ins)

  use_lawful : Lawful vs (use_steps flag touch ins)
  use_lawful = lawful_then vs (λ s. option_and_then (round (touch_cut flag) touch) (flag_cut flag touch ins s)) (round (slot_cut flag) ins)
      (lawful_then vs (flag_cut flag touch ins) (round (touch_cut flag) touch) flag_lawful touches_lawful) slots_lawful

  enter_lawful : (e : Option FrameOp) → ForSome e (FrameOpVars vs) → Lawful vs (enter_cut flag e)
  enter_lawful None in_e = lawful_some vs
  enter_lawful (Some e) in_e = op_lawful vs flag h.of_flag e (in_e e refl)

  ops_lawful : Lawful vs (op_steps flag enter leaves)
  ops_lawful = lawful_then vs (enter_cut flag enter) (round (leave_op_cut flag) leaves) (enter_lawful enter h.of_enter)
      (lawful_each vs (leave_op_cut flag) leaves (map_all (FrameLeaveVars vs) (λ l. Lawful vs (leave_op_cut flag l))
      (λ l k. op_lawful vs flag h.of_flag l.leave k.of_leave) leaves in_leaves))

  entry_lawful : (e : Option FrameOp) → ForSome e (FrameOpVars vs) → Lawful vs (entry_steps flag e entry)
  entry_lawful None in_e = lawful_some vs
  entry_lawful (Some e) in_e = lawful_each vs (entry_cut flag e) entry (map_all (FrameUseVars vs) (λ u. Lawful vs (entry_cut flag e u))
      (λ u k. order_lawful vs flag h.of_flag (entry_order e u) (of_entry_order e (in_e e refl) u k)) entry in_entry)

  left_lawful : (l : FrameLeave) → FrameLeaveVars vs l → Lawful vs (left_cut flag l)
  left_lawful l k = lawful_then vs (round (copy_cut flag l.leave) l.copies) (round (call_cut flag l.leave) l.calls)
      (lawful_each vs (copy_cut flag l.leave) l.copies (map_all (FrameUseVars vs) (λ u. Lawful vs (copy_cut flag l.leave u))
      (λ u ku. order_lawful vs flag h.of_flag (copy_order l.leave u) (of_copy_order l.leave k.of_leave u ku)) l.copies
      (recursion_from_All _ _ k.of_copies)))
      (lawful_each vs (call_cut flag l.leave) l.calls (map_all (λ v. among vs v ≡ true) (λ v. Lawful vs (call_cut flag l.leave v))
      (λ v kv. order_lawful vs flag h.of_flag (call_order l.leave v) (of_call_order l.leave k.of_leave v kv)) l.calls
      (recursion_from_All _ _ k.of_calls)))

  orders_lawful : Lawful vs (order_steps flag enter entry leaves)
  orders_lawful = lawful_then vs (entry_steps flag enter entry) (round (left_cut flag) leaves) (entry_lawful enter h.of_enter)
      (lawful_each vs (left_cut flag) leaves (map_all (FrameLeaveVars vs) (λ l. Lawful vs (left_cut flag l)) left_lawful leaves in_leaves))

  first_lawful : Lawful vs (λ s. option_and_then (op_steps flag enter leaves) (use_steps flag touch ins s))
  first_lawful = lawful_then vs (use_steps flag touch ins) (op_steps flag enter leaves) use_lawful ops_lawful

  pub frame_lawful : Lawful vs (frame_steps flag touch ins enter entry leaves)
  frame_lawful = lawful_then vs (λ s. option_and_then (op_steps flag enter leaves) (use_steps flag touch ins s))
      (order_steps flag enter entry leaves) first_lawful orders_lawful

  -- Keeping

  module _ (x : List ℕ) (keep : Keeps flag touch ins enter entry leaves x) where
    surely_used : (s : Sets) → HasVars vs s → IsIn x s → sure_use touch ins s ≡ true → uses_frame touch ins x ≡ true
    surely_used s k there e = or_more (list_any (λ (v : VarId). is_within SPILL RELOAD (set_at s v.0)) touch)
        (list_any (λ (v : VarId). is_within FIRST_SLOT (2 ^ 32 - 1) (set_at s v.0)) ins)
        (list_any (is_access x) touch) (list_any (is_slot x) ins)
        (any_true (λ v. among vs v ≡ true) (λ (v : VarId). is_within SPILL RELOAD (set_at s v.0)) (is_access x)
        (λ v at is. (let two = value_within vs SPILL RELOAD v at s x k there is in
        let low = two.0 in
        let high = two.1 in
        both (nat_le SPILL (get_or x v.0 0)) (nat_le (get_or x v.0 0) RELOAD) (grind (arith, nat_tests, low)) (grind (
          arith,
          nat_tests,
          high,
        ))))
        touch in_touch)
        (any_true (λ v. among vs v ≡ true) (λ (v : VarId). is_within FIRST_SLOT (2 ^ 32 - 1) (set_at s v.0)) (is_slot x)
        (λ v at is. (let low = (value_within vs FIRST_SLOT (2 ^ 32 - 1) v at s x k there is).0 in grind (arith, nat_tests, low)))
        ins in_ins) e

    touch_of : AllByRecursion (λ v. (among vs v ≡ true) × (get_or x flag.0 0 ≢ 1 → not (is_access x v) ≡ true)) touch
    touch_of = both_all (λ v. among vs v ≡ true) (λ v. get_or x flag.0 0 ≢ 1 → not (is_access x v) ≡ true) touch in_touch
        (all_when (get_or x flag.0 0 ≢ 1) (λ v. not (is_access x v) ≡ true) touch
        (λ ne. any_false (is_access x) touch (parts (list_any (is_access x) touch) (list_any (is_slot x) ins) (keep.unused ne)).0))

    slot_of : AllByRecursion (λ v. (among vs v ≡ true) × (get_or x flag.0 0 ≢ 1 → not (is_slot x v) ≡ true)) ins
    slot_of = both_all (λ v. among vs v ≡ true) (λ v. get_or x flag.0 0 ≢ 1 → not (is_slot x v) ≡ true) ins in_ins
        (all_when (get_or x flag.0 0 ≢ 1) (λ v. not (is_slot x v) ≡ true) ins
        (λ ne. any_false (is_slot x) ins (parts (list_any (is_access x) touch) (list_any (is_slot x) ins) (keep.unused ne)).1))

    use_keeps : (s : Sets) → HasVars vs s → IsIn x s → Kept x (use_steps flag touch ins s)
    use_keeps s k there = then_kept (round (slot_cut flag) ins) x (option_and_then (round (touch_cut flag) touch) (flag_cut flag touch
        ins s))
        (then_kept (round (touch_cut flag) touch) x (flag_cut flag touch ins s)
        (when_keeps vs (sure_use touch ins) (λ u y. nat_eq y 1) flag h.of_flag s x k there
        (λ is. (let one = keep.used (surely_used s k there is) in grind (arith, nat_tests, one))))
        (λ m in_m. each_kept vs (λ v. (among vs v ≡ true) × (get_or x flag.0 0 ≢ 1 → not (is_access x v) ≡ true)) (touch_cut flag) x
        (touch_keeps vs flag h.of_flag x) touch touch_of m (known_in vs s m x there in_m k) in_m))
        (λ m in_m. each_kept vs (λ v. (among vs v ≡ true) × (get_or x flag.0 0 ≢ 1 → not (is_slot x v) ≡ true)) (slot_cut flag) x
        (slot_keeps vs flag h.of_flag x) ins slot_of m (known_in vs s m x there in_m k) in_m)

    leaves_on : get_or x flag.0 0 ≡ 1 → AllByRecursion (λ (l : FrameLeave). is_on x l.leave ≡ true) leaves
    leaves_on one = all_true (λ (l : FrameLeave). is_on x l.leave) leaves
        (firsts (enter_on x enter) (list_all (λ (l : FrameLeave). is_on x l.leave) leaves) (keep.on one)).1

    leaves_off : get_or x flag.0 0 ≡ 0 → AllByRecursion (λ (l : FrameLeave). not (is_on x l.leave) ≡ true) leaves
    leaves_off none = all_true (λ (l : FrameLeave). not (is_on x l.leave)) leaves
        (firsts (enter_off x enter) (list_all (λ (l : FrameLeave). not (is_on x l.leave)) leaves) (keep.off none)).1

    -- what each Leave keeps
    abbrev OnOff : FrameLeave → Type 0
    OnOff l = (get_or x flag.0 0 ≡ 1 → is_on x l.leave ≡ true) × (get_or x flag.0 0 ≡ 0 → not (is_on x l.leave) ≡ true)

    leave_of : AllByRecursion (λ l. FrameLeaveVars vs l × OnOff l) leaves
    leave_of = both_all (FrameLeaveVars vs) OnOff leaves in_leaves
        (both_all (λ l. get_or x flag.0 0 ≡ 1 → is_on x l.leave ≡ true) (λ l. get_or x flag.0 0 ≡ 0 → not (is_on x l.leave) ≡ true) leaves
        (all_when (get_or x flag.0 0 ≡ 1) (λ l. is_on x l.leave ≡ true) leaves leaves_on)
        (all_when (get_or x flag.0 0 ≡ 0) (λ l. not (is_on x l.leave) ≡ true) leaves leaves_off))

    enter_keeps : (e : Option FrameOp) → ForSome e (FrameOpVars vs) → (get_or x flag.0 0 ≡ 1 → enter_on x e ≡ true)
        → (get_or x flag.0 0 ≡ 0 → enter_off x e ≡ true) → (s : Sets) → HasVars vs s → IsIn x s → Kept x (enter_cut flag e s)
    enter_keeps None in_e on off s k there = there
    enter_keeps (Some e) in_e on off s k there = op_keeps vs flag h.of_flag e (in_e e refl) x on off s k there

    ops_keep : (s : Sets) → HasVars vs s → IsIn x s → Kept x (op_steps flag enter leaves s)
    ops_keep s k there = then_kept (round (leave_op_cut flag) leaves) x (enter_cut flag enter s)
        (enter_keeps enter h.of_enter
        (λ one. (firsts (enter_on x enter) (list_all (λ (l : FrameLeave). is_on x l.leave) leaves) (keep.on one)).0)
        (λ none. (firsts (enter_off x enter) (list_all (λ (l : FrameLeave). not (is_on x l.leave)) leaves) (keep.off none)).0) s k there)
        (λ m in_m. each_kept vs (λ l. FrameLeaveVars vs l × OnOff l) (leave_op_cut flag) x
        (λ l p. op_keeps vs flag h.of_flag l.leave p.0.of_leave x p.1.0 p.1.1) leaves leave_of m (known_in vs s m x there in_m k) in_m)

    -- the orders of an assignment
    after_order : (enter : FrameOp) (u : FrameUse) → is_after (get_or x enter.at.0 0) x u ≡ true
        → order_holds (entry_order enter u) x ≡ true
    after_order enter u e = not_or (counts x u) (nat_le (get_or x enter.at.0 0 + 1) (get_or x u.at.0 0))
        (λ is. (let less = or_not (counts x u) (nat_lt (get_or x enter.at.0 0) (get_or x u.at.0 0)) e is in grind (arith, nat_tests, less)))

    until_order : (leave : FrameOp) (u : FrameUse) → is_until (get_or x leave.at.0 0) x u ≡ true → order_holds (copy_order leave u) x ≡ true
    until_order leave u e = not_or (counts x u) (nat_le (get_or x u.at.0 0 + 0) (get_or x leave.at.0 0))
        (λ is. (let le = or_not (counts x u) (nat_le (get_or x u.at.0 0) (get_or x leave.at.0 0)) e is in grind (arith, nat_tests, le)))

    before_order : (leave : FrameOp) (v : VarId) → nat_lt (get_or x v.0 0) (get_or x leave.at.0 0) ≡ true
        → order_holds (call_order leave v) x ≡ true
    before_order leave v e = not_or (nat_le 1 1 && nat_le 1 1) (nat_le (get_or x v.0 0 + 1) (get_or x leave.at.0 0))
        (λ is. grind (arith, nat_tests, e))

    entry_of : (e : FrameOp) → (get_or x flag.0 0 ≡ 1 → all_entered (Some e) entry x ≡ true)
        → AllByRecursion (λ u. FrameUseVars vs u × (get_or x flag.0 0 ≡ 1 → is_after (get_or x e.at.0 0) x u ≡ true)) entry
    entry_of e entered = both_all (FrameUseVars vs) (λ u. get_or x flag.0 0 ≡ 1 → is_after (get_or x e.at.0 0) x u ≡ true) entry in_entry
        (all_when (get_or x flag.0 0 ≡ 1) (λ u. is_after (get_or x e.at.0 0) x u ≡ true) entry
        (λ one. all_true (is_after (get_or x e.at.0 0) x) entry (entered one)))

    entry_keeps : (e : Option FrameOp) → ForSome e (FrameOpVars vs) → (get_or x flag.0 0 ≡ 1 → all_entered e entry x ≡ true)
        → (s : Sets) → HasVars vs s → IsIn x s → Kept x (entry_steps flag e entry s)
    entry_keeps None in_e entered s k there = there
    entry_keeps (Some e) in_e entered s k there =
        each_kept vs (λ u. FrameUseVars vs u × (get_or x flag.0 0 ≡ 1 → is_after (get_or x e.at.0 0) x u ≡ true)) (entry_cut flag e) x
        (λ u q. order_keeps vs flag h.of_flag (entry_order e u) (of_entry_order e (in_e e refl) u q.0) x (λ one. after_order e u (q.1 one))) entry
        (entry_of e entered) s k there

    left_of : AllByRecursion (λ l. FrameLeaveVars vs l × (get_or x flag.0 0 ≡ 1 → is_left x l ≡ true)) leaves
    left_of = both_all (FrameLeaveVars vs) (λ l. get_or x flag.0 0 ≡ 1 → is_left x l ≡ true) leaves in_leaves
        (all_when (get_or x flag.0 0 ≡ 1) (λ l. is_left x l ≡ true) leaves
        (λ one. all_true (is_left x) leaves
        (firsts (all_entered enter entry x) (list_all (is_left x) leaves) (keep.order one)).1))

    left_keeps : (l : FrameLeave) → FrameLeaveVars vs l × (get_or x flag.0 0 ≡ 1 → is_left x l ≡ true) → (m : Sets) → HasVars vs m
        → IsIn x m → Kept x (left_cut flag l m)
    left_keeps l p m k there = then_kept (round (call_cut flag l.leave) l.calls) x (round (copy_cut flag l.leave) l.copies m)
        (each_kept vs (λ u. FrameUseVars vs u × (get_or x flag.0 0 ≡ 1 → is_until t x u ≡ true)) (copy_cut flag l.leave) x
        (λ u q. order_keeps vs flag h.of_flag (copy_order l.leave u) (of_copy_order l.leave p.0.of_leave u q.0) x
        (λ one. until_order l.leave u (q.1 one))) l.copies copies_of m k there)
        (λ u in_u. each_kept vs (λ v. (among vs v ≡ true) × (get_or x flag.0 0 ≡ 1 → nat_lt (get_or x v.0 0) t ≡ true)) (call_cut flag
        l.leave)
        x (λ v q. order_keeps vs flag h.of_flag (call_order l.leave v) (of_call_order l.leave p.0.of_leave v q.0) x
        (λ one. before_order l.leave v (q.1 one))) l.calls calls_of u (known_in vs m u x there in_u k) in_u)
      where
        t : ℕ
        t = get_or x l.leave.at.0 0

        copies_of : AllByRecursion (λ u. FrameUseVars vs u × (get_or x flag.0 0 ≡ 1 → is_until (get_or x l.leave.at.0 0) x u ≡ true))
            l.copies
        copies_of = both_all (FrameUseVars vs) (λ u. get_or x flag.0 0 ≡ 1 → is_until (get_or x l.leave.at.0 0) x u ≡ true) l.copies
            (recursion_from_All _ _ p.0.of_copies)
            (all_when (get_or x flag.0 0 ≡ 1) (λ u. is_until (get_or x l.leave.at.0 0) x u ≡ true) l.copies
            (λ one. all_true (is_until (get_or x l.leave.at.0 0) x) l.copies
            (firsts (list_all (is_until (get_or x l.leave.at.0 0) x) l.copies)
            (list_all (λ (v : VarId). nat_lt (get_or x v.0 0) (get_or x l.leave.at.0 0)) l.calls) (p.1 one)).0))

        calls_of : AllByRecursion (λ v. (among vs v ≡ true) × (get_or x flag.0 0 ≡ 1 → nat_lt (get_or x v.0 0) (get_or x
            l.leave.at.0 0) ≡ true))
            l.calls
        calls_of = both_all (λ v. among vs v ≡ true) (λ v. get_or x flag.0 0 ≡ 1 → nat_lt (get_or x v.0 0) (get_or x l.leave.at.0 0) ≡ true)
            l.calls (recursion_from_All _ _ p.0.of_calls)
            (all_when (get_or x flag.0 0 ≡ 1) (λ v. nat_lt (get_or x v.0 0) (get_or x l.leave.at.0 0) ≡ true) l.calls
            (λ one. all_true (λ (v : VarId). nat_lt (get_or x v.0 0) (get_or x l.leave.at.0 0)) l.calls
            (firsts (list_all (is_until (get_or x l.leave.at.0 0) x) l.copies)
            (list_all (λ (v : VarId). nat_lt (get_or x v.0 0) (get_or x l.leave.at.0 0)) l.calls) (p.1 one)).1))

    orders_keep : (s : Sets) → HasVars vs s → IsIn x s → Kept x (order_steps flag enter entry leaves s)
    orders_keep s k there = then_kept (round (left_cut flag) leaves) x (entry_steps flag enter entry s)
        (entry_keeps enter h.of_enter
        (λ one. (firsts (all_entered enter entry x) (list_all (is_left x) leaves) (keep.order one)).0) s k there)
        (λ m in_m. each_kept vs (λ l. FrameLeaveVars vs l × (get_or x flag.0 0 ≡ 1 → is_left x l ≡ true)) (left_cut flag) x left_keeps
        leaves
        left_of m (known_in vs s m x there in_m k) in_m)

    steps_keep : (s : Sets) → HasVars vs s → IsIn x s → Kept x (frame_steps flag touch ins enter entry leaves s)
    steps_keep s k there = then_kept (order_steps flag enter entry leaves) x
        (option_and_then (op_steps flag enter leaves) (use_steps flag touch ins s))
        (then_kept (op_steps flag enter leaves) x (use_steps flag touch ins s) (use_keeps s k there)
        (λ m in_m. ops_keep m (known_in vs s m x there in_m k) in_m))
        (λ m in_m. orders_keep m (known_in vs s m x there in_m k) in_m)

  pub frame_keeps : (whole : Bool) (s : Sets) (x : List ℕ) → HasVars vs s → IsIn x s
      → frame_holds whole flag touch ins enter entry leaves x ≡ true → Kept x (frame_steps flag touch ins enter entry leaves s)
  frame_keeps whole s x k there holds = steps_keep x (keeps_of whole flag touch ins enter entry leaves x holds) s k there
