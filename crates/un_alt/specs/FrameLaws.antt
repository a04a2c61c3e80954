-- What Frame looks at.
use Rattle.std.proofs.Common.{ℕ, ◌≡◌, ◌∙◌, Bool, true, cond, not, ◌&&◌, ◌||◌, List, [], ◌∷◌, get_or, nat_eq, nat_le, nat_lt, All, None, Some, refl}
use Rattle.std.proofs.Common.{ap}
use Rattle.std.specs.declared.option.Option.{Option}
use Rattle.std.specs.Option.{ForSome}
use Rattle.std.specs.List.{AllByRecursion, list_any, list_all}
use Rattle.std.proofs.lemmas.List.Elements.{recursion_from_All}
use Rattle.un_base.specs.declared.ids.VarId.{VarId}
use Rattle.un_isa.specs.declared.reg.TheConstants.{FIRST_SLOT}
use Rattle.un_prop.specs.Parts.{SameAt}
use Rattle.un_prop.specs.Among.{among, AllAmong}
use Rattle.un_prop.specs.AmongLaws.{same_var, same_number}
use Rattle.un_alt.specs.declared.frame.FrameOp.{FrameOp}
use Rattle.un_alt.specs.declared.frame.FrameUse.{FrameUse}
use Rattle.un_alt.specs.declared.frame.FrameLeave.{FrameLeave}
use Rattle.un_ir.specs.declared.extended.TheConstants.{SPILL, RELOAD}
use Rattle.un_alt.specs.Frame.{is_access, is_slot, uses_frame, is_on, all_on, none_on, counts, is_after, is_until, is_left, in_order}
use Rattle.un_alt.specs.Frame.{enter_on, enter_off, all_entered}
use Rattle.un_alt.specs.Frame.{frame_holds, FrameOpVars, FrameUseVars, FrameLeaveVars, FrameVars}

-- tests that agree at each item agree on a list
any_alike : {A : Type 0} (P : A → Type 0) (p q : A → Bool) → ((a : A) → P a → p a ≡ q a) → (xs : List A) → AllByRecursion P xs →
    list_any p xs ≡ list_any q xs
any_alike P p q h [] all = refl
any_alike P p q h (a ∷ xs) all = ap (λ (b : Bool). b || list_any p xs) (h a all.0) ∙ ap (λ (b : Bool). q a || b)
    (any_alike P p q h xs all.1)

all_alike : {A : Type 0} (P : A → Type 0) (p q : A → Bool) → ((a : A) → P a → p a ≡ q a) → (xs : List A) → AllByRecursion P xs →
    list_all p xs ≡ list_all q xs
all_alike P p q h [] all = refl
all_alike P p q h (a ∷ xs) all = ap (λ (b : Bool). b && list_all p xs) (h a all.0) ∙ ap (λ (b : Bool). q a && b)
    (all_alike P p q h xs all.1)

-- parts that agree
and_alike : (a b c d : Bool) → a ≡ c → b ≡ d → (a && b) ≡ (c && d)
and_alike a b c d h k = ap (λ (x : Bool). x && b) h ∙ ap (λ (x : Bool). c && x) k

or_alike : (a b c d : Bool) → a ≡ c → b ≡ d → (a || b) ≡ (c || d)
or_alike a b c d h k = ap (λ (x : Bool). x || b) h ∙ ap (λ (x : Bool). c || x) k

module _ (vs : List VarId) (x y : List ℕ) (same : SameAt vs x y) where
  var_alike : (f : ℕ → Bool) (v : VarId) → among vs v ≡ true → f (get_or x v.0 0) ≡ f (get_or y v.0 0)
  var_alike f v h = ap f (same_var vs x y same v h)

  uses_alike : (touch ins : List VarId) → AllAmong vs touch → AllAmong vs ins → uses_frame touch ins x ≡ uses_frame touch ins y
  uses_alike touch ins h k = or_alike (list_any (is_access x) touch) (list_any (is_slot x) ins) (list_any (is_access y) touch)
      (list_any (is_slot y) ins)
      (any_alike (λ v. among vs v ≡ true) (is_access x) (is_access y) (λ v at. var_alike (λ n. nat_le SPILL n && nat_le n RELOAD) v at)
      touch (recursion_from_All _ _ h))
      (any_alike (λ v. among vs v ≡ true) (is_slot x) (is_slot y) (λ v at. var_alike (nat_le FIRST_SLOT) v at) ins
      (recursion_from_All _ _ k))

  on_alike : (o : FrameOp) → FrameOpVars vs o → is_on x o ≡ is_on y o
  on_alike o h = var_alike (λ n. not (nat_eq n 0)) o.instr h.of_instr

  enter_on_alike : (enter : Option FrameOp) → ForSome enter (FrameOpVars vs) → enter_on x enter ≡ enter_on y enter
  enter_on_alike None h = refl
  enter_on_alike (Some enter) h = on_alike enter (h enter refl)

  enter_off_alike : (enter : Option FrameOp) → ForSome enter (FrameOpVars vs) → enter_off x enter ≡ enter_off y enter
  enter_off_alike None h = refl
  enter_off_alike (Some enter) h = ap not (on_alike enter (h enter refl))

  all_on_alike : (enter : Option FrameOp) (leaves : List FrameLeave) → ForSome enter (FrameOpVars vs) → All (FrameLeaveVars vs) leaves
      → all_on enter leaves x ≡ all_on enter leaves y
  all_on_alike enter leaves h k = and_alike (enter_on x enter) (list_all (λ (l : FrameLeave). is_on x l.leave) leaves) (enter_on y enter)
      (list_all (λ (l : FrameLeave). is_on y l.leave) leaves)
      (enter_on_alike enter h) (all_alike (FrameLeaveVars vs) (λ (l : FrameLeave). is_on x l.leave) (λ (l : FrameLeave). is_on y l.leave)
      (λ l at. on_alike l.leave at.of_leave) leaves (recursion_from_All _ _ k))

  none_on_alike : (enter : Option FrameOp) (leaves : List FrameLeave) → ForSome enter (FrameOpVars vs) → All (FrameLeaveVars vs) leaves
      → none_on enter leaves x ≡ none_on enter leaves y
  none_on_alike enter leaves h k = and_alike (enter_off x enter) (list_all (λ (l : FrameLeave). not (is_on x l.leave)) leaves)
      (enter_off y enter) (list_all (λ (l : FrameLeave). not (is_on y l.leave)) leaves)
      (enter_off_alike enter h) (all_alike (FrameLeaveVars vs) (λ (l : FrameLeave). not (is_on x l.leave))
      (λ (l : FrameLeave). not (is_on y l.leave)) (λ l at. ap not (on_alike l.leave at.of_leave)) leaves (recursion_from_All _ _ k))

  counts_alike : (u : FrameUse) → FrameUseVars vs u → counts x u ≡ counts y u
  counts_alike u h = ap (λ (n : ℕ). nat_le u.least n && nat_le n u.most) (same_number vs x y same u.instr h.of_instr)

  after_alike : (t t' : ℕ) → t ≡ t' → (u : FrameUse) → FrameUseVars vs u → is_after t x u ≡ is_after t' y u
  after_alike t t' e u h = or_alike (not (counts x u)) (nat_lt t (get_or x u.at.0 0)) (not (counts y u)) (nat_lt t' (get_or y u.at.0 0))
      (ap not (counts_alike u h)) (ap (λ (n : ℕ). nat_lt n (get_or x u.at.0 0)) e ∙ var_alike (nat_lt t') u.at h.of_at)

  until_alike : (t t' : ℕ) → t ≡ t' → (u : FrameUse) → FrameUseVars vs u → is_until t x u ≡ is_until t' y u
  until_alike t t' e u h = or_alike (not (counts x u)) (nat_le (get_or x u.at.0 0) t) (not (counts y u)) (nat_le (get_or y u.at.0 0) t')
      (ap not (counts_alike u h)) (ap (nat_le (get_or x u.at.0 0)) e ∙ var_alike (λ n. nat_le n t') u.at h.of_at)

  left_alike : (l : FrameLeave) → FrameLeaveVars vs l → is_left x l ≡ is_left y l
  left_alike l h =
      let t = get_or x l.leave.at.0 0 in
      let t' = get_or y l.leave.at.0 0 in
      let e : t ≡ t' = same_var vs x y same l.leave.at h.of_leave.of_at in
      and_alike (list_all (is_until t x) l.copies) (list_all (λ (v : VarId). nat_lt (get_or x v.0 0) t) l.calls)
      (list_all (is_until t' y) l.copies) (list_all (λ (v : VarId). nat_lt (get_or y v.0 0) t') l.calls)
      (all_alike (FrameUseVars vs) (is_until t x) (is_until t' y) (until_alike t t' e) l.copies (recursion_from_All _ _ h.of_copies))
      (all_alike (λ v. among vs v ≡ true) (λ (v : VarId). nat_lt (get_or x v.0 0) t) (λ (v : VarId). nat_lt (get_or y v.0 0) t')
      (λ v at. ap (nat_lt (get_or x v.0 0)) e ∙ var_alike (λ n. nat_lt n t') v at) l.calls (recursion_from_All _ _ h.of_calls))

  entered_alike : (enter : Option FrameOp) (entry : List FrameUse) → ForSome enter (FrameOpVars vs) → All (FrameUseVars vs) entry
      → all_entered enter entry x ≡ all_entered enter entry y
  entered_alike None entry h k = refl
  entered_alike (Some enter) entry h k =
      let t = get_or x enter.at.0 0 in
      let t' = get_or y enter.at.0 0 in
      all_alike (FrameUseVars vs) (is_after t x) (is_after t' y) (after_alike t t' (same_var vs x y same enter.at (h enter refl).of_at)) entry
      (recursion_from_All _ _ k)

  order_alike : (enter : Option FrameOp) (entry : List FrameUse) (leaves : List FrameLeave) → ForSome enter (FrameOpVars vs)
      → All (FrameUseVars vs) entry → All (FrameLeaveVars vs) leaves
      → in_order enter entry leaves x ≡ in_order enter entry leaves y
  order_alike enter entry leaves h k m =
      and_alike (all_entered enter entry x) (list_all (is_left x) leaves) (all_entered enter entry y) (list_all (is_left y) leaves)
      (entered_alike enter entry h k)
      (all_alike (FrameLeaveVars vs) (is_left x) (is_left y) left_alike leaves (recursion_from_All _ _ m))

  pub frame_looks : (whole : Bool) (flag : VarId) (touch ins : List VarId) (enter : Option FrameOp) (entry : List FrameUse) (leaves : List FrameLeave) →
      FrameVars vs flag touch ins enter entry leaves
      → frame_holds whole flag touch ins enter entry leaves x ≡ frame_holds whole flag touch ins enter entry leaves y
  frame_looks whole flag touch ins enter entry leaves h =
      let u = uses_frame touch ins x in
      let u' = uses_frame touch ins y in
      let e : u ≡ u' = uses_alike touch ins h.of_touch h.of_ins in
      let a = and_alike (all_on enter leaves x) (in_order enter entry leaves x) (all_on enter leaves y) (in_order enter entry leaves y)
      (all_on_alike enter leaves h.of_enter h.of_leaves) (order_alike enter entry leaves h.of_enter h.of_entry h.of_leaves) in
      let n = none_on_alike enter leaves h.of_enter h.of_leaves in
      let z = var_alike (λ m. not (nat_eq m 0)) flag h.of_flag in
      let used = and_alike (not whole || u) (all_on enter leaves x && in_order enter entry leaves x) (not whole || u')
      (all_on enter leaves y && in_order enter entry leaves y) (ap (λ (b : Bool). not whole || b) e) a in
      let rest = or_alike (not (nat_eq (get_or x flag.0 0) 0)) (none_on enter leaves x) (not (nat_eq (get_or y flag.0 0) 0))
      (none_on enter leaves y) z n in
      let unused = and_alike (not u) (not (nat_eq (get_or x flag.0 0) 0) || none_on enter leaves x) (not u')
      (not (nat_eq (get_or y flag.0 0) 0) || none_on enter leaves y) (ap not e) rest in
      ap (λ (b : Bool). cond b ((not whole || u) && (all_on enter leaves x && in_order enter entry leaves x))
      (not u && (not (nat_eq (get_or x flag.0 0) 0) || none_on enter leaves x))) (var_alike (λ m. nat_eq m 1) flag h.of_flag)
      ∙ (ap (λ (b : Bool). cond (nat_eq (get_or y flag.0 0) 1) b
      (not u && (not (nat_eq (get_or x flag.0 0) 0) || none_on enter leaves x))) used
      ∙ ap (λ (b : Bool). cond (nat_eq (get_or y flag.0 0) 1) ((not whole || u') && (all_on enter leaves y && in_order enter entry leaves y)) b)
      unused)
