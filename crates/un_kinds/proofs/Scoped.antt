-- The variables of each kind's fields stand in a list that has them all.
use Rattle.std.proofs.Common.{ℕ, ◌≡◌, true, List, [], ◌∷◌, ◌++◌, get_or, All, Option, None, Some, ◌∙◌, subst, arith}
use Rattle.std.specs.Option.{ForSome}
use Rattle.std.proofs.lemmas.List.Elements.{All-nil, All-cons, All-head, All-tail}
use Rattle.un_base.specs.declared.ids.VarId.{VarId}
use Rattle.un_prop.specs.Acts.{act_vars, at_vars}
use Rattle.un_prop.specs.Among.{among, AllAmong}
use Rattle.un_prop.specs.declared.act.Act.{Act}
use Rattle.un_prop.specs.declared.act.At.{At}
use Rattle.un_prop.specs.declared.act.UserOf.{UserOf}
use Rattle.un_prop.specs.declared.act.Temp.{Temp}
use Rattle.un_prec.specs.declared.below.Weighted.{Weighted}
use Rattle.un_prec.specs.declared.reads.ReadAlt.{ReadAlt}
use Rattle.un_prec.specs.Before.{BeforeVars}
use Rattle.un_prec.specs.Below.{BelowVars}
use Rattle.un_prec.specs.Inside.{InsideVars}
use Rattle.un_prec.specs.Last.{LastVars}
use Rattle.un_prec.specs.Reads.{ReadAltVars, ReadsVars}
use Rattle.un_alt.specs.declared.frame.FrameOp.{FrameOp}
use Rattle.un_alt.specs.declared.frame.FrameUse.{FrameUse}
use Rattle.un_alt.specs.declared.frame.FrameLeave.{FrameLeave}
use Rattle.un_alt.specs.Chosen.{ChosenVars}
use Rattle.un_alt.specs.Frame.{FrameOpVars, FrameUseVars, FrameLeaveVars, FrameVars}
use Rattle.un_alt.specs.Home.{HomeVars}
use Rattle.un_alt.specs.Same.{SameVars}
use Rattle.un_alt.specs.Spaces.{SpacesVars}
use Rattle.un_alt.specs.Zeros.{ZerosVars}
use Rattle.un_alt.specs.Registers.{choice_vars}
use Rattle.un_rect.specs.Apart.{ApartVars, user_vars}
use Rattle.un_rect.specs.Clobber.{CallVars}
use Rattle.un_rect.specs.Operands.{Side, SideVars}
use Rattle.un_rect.specs.Spans.{UserVars, TempVars, choice_vars as user_choice}
use Rattle.un_rect.specs.declared.clobber.ClobberCall.{ClobberCall}
use Rattle.un_slots.specs.Slots.{SlotVars}
use Rattle.un_slots.specs.declared.item.Item.{Item}
use Rattle.un_length.specs.Blocks.{BlockVars}
use Rattle.un_length.specs.declared.block.Task.{Task}
use Rattle.un_press.specs.Pressures.{LiveVars}
use Rattle.un_press.specs.declared.live.Span.{Span}
use Rattle.un_counted.specs.Counted.{RowsVars}
use Rattle.un_counted.specs.declared.counted.LeastEnd.{LeastEnd}
use Rattle.un_kinds.specs.Scopes.{IsScope, vars_in, own_var, alt_vars, end_var, op_vars, enter_vars, use_vars, leave_vars}
use Rattle.un_kinds.specs.Scopes.{rectangle_vars, clobber_vars, item_vars, side_vars, task_vars, span_vars, least_var, row_vars}
use Rattle.un_kinds.proofs.Rising.{among_own}

-- ---- parts of lists

pub scoped : (vs us : List VarId) → IsScope vs us → AllAmong vs us
scoped vs us s i d lt = s.same (get_or us i d) ∙ among_own us i d lt

left : (vs xs ys : List VarId) → AllAmong vs (xs ++ ys) → AllAmong vs xs
left vs [] ys h = All-nil (λ u. among vs u ≡ true)
left vs (x ∷ xs) ys h = All-cons (λ u. among vs u ≡ true) x xs (All-head (λ u. among vs u ≡ true) x (xs ++ ys) h)
    (left vs xs ys (All-tail (λ u. among vs u ≡ true) x (xs ++ ys) h))

right : (vs xs ys : List VarId) → AllAmong vs (xs ++ ys) → AllAmong vs ys
right vs [] ys h = h
right vs (x ∷ xs) ys h = right vs xs ys (All-tail (λ u. among vs u ≡ true) x (xs ++ ys) h)

one : (vs : List VarId) (v : VarId) → AllAmong vs (own_var v) → among vs v ≡ true
one vs v h = h 0 v (omega arith)

none : (vs : List VarId) → AllAmong vs []
none vs = All-nil (λ u. among vs u ≡ true)

each : {A : Type 0} (f : A → List VarId) (vs : List VarId) (xs : List A) → AllAmong vs (vars_in f xs) → All (λ x. AllAmong vs (f x)) xs
each f vs [] h = All-nil (λ x. AllAmong vs (f x))
each f vs (x ∷ xs) h = All-cons (λ y. AllAmong vs (f y)) x xs (left vs (f x) (vars_in f xs) h)
    (each f vs xs (right vs (f x) (vars_in f xs) h))

owns : (vs xs : List VarId) → AllAmong vs (vars_in own_var xs) → AllAmong vs xs
owns vs xs h i d lt = one vs (get_or xs i d) (each own_var vs xs h i d lt)

two : (vs a b : List VarId) → AllAmong vs (a ++ b) → AllAmong vs a × AllAmong vs b
two vs a b h = (left vs a b h, right vs a b h)

three : (vs a b c : List VarId) → AllAmong vs (a ++ b ++ c) → AllAmong vs a × AllAmong vs b × AllAmong vs c
three vs a b c h = let p = two vs a b (left vs (a ++ b) c h) in (p.0, p.1, right vs (a ++ b) c h)

four : (vs a b c d : List VarId) → AllAmong vs (a ++ b ++ c ++ d) → AllAmong vs a × AllAmong vs b × AllAmong vs c × AllAmong vs d
four vs a b c d h = let p = three vs a b c (left vs (a ++ b ++ c) d h) in (p.0, p.1, p.2, right vs (a ++ b ++ c) d h)

-- ---- precedence

pub before_vars : (vs : List VarId) (a : At) (a_on : Act) (b : At) (b_on : Act) (gap : ℕ)
    → IsScope vs (at_vars a ++ act_vars a_on ++ at_vars b ++ act_vars b_on) → BeforeVars vs a a_on b b_on gap
before_vars vs a a_on b b_on gap s =
    let p = four vs (at_vars a) (act_vars a_on) (at_vars b) (act_vars b_on) (scoped vs _ s) in
    record { of_from = p.0; of_from_on = p.1; of_to = p.2; of_to_on = p.3 }

alt_stands : (vs : List VarId) (a : ReadAlt) → AllAmong vs (alt_vars a) → ReadAltVars vs a
alt_stands vs a h = let p = two vs (at_vars a.at) (act_vars a.on) h in record { of_at = p.0; of_on = p.1 }

pub reads_vars : (vs : List VarId) (user : At) (on : Act) (choice : VarId) (alts : List ReadAlt)
    → IsScope vs (at_vars user ++ act_vars on ++ own_var choice ++ vars_in alt_vars alts) → ReadsVars vs user on choice alts
reads_vars vs user on choice alts s =
    let p = four vs (at_vars user) (act_vars on) (own_var choice) (vars_in alt_vars alts) (scoped vs _ s) in
    let alts_stand = each alt_vars vs alts p.3 in
    record { of_user = p.0; of_on = p.1; of_choice = one vs choice p.2; of_alts = λ i d lt. alt_stands vs _ (alts_stand i d lt) }

pub inside_vars : (vs : List VarId) (at : VarId) (on : Act) (end : VarId) → IsScope vs (own_var at ++ act_vars on ++ own_var end)
    → InsideVars vs at on end
inside_vars vs at on end s =
    let p = three vs (own_var at) (act_vars on) (own_var end) (scoped vs _ s) in
    record {
      of_start = record { of_from = none vs; of_from_on = none vs; of_to = p.0; of_to_on = p.1 };
      of_end = record { of_from = p.0; of_from_on = p.1; of_to = p.2; of_to_on = none vs };
    }

pub last_vars : (vs : List VarId) (at end : VarId) → IsScope vs (own_var at ++ own_var end) → LastVars vs at end
last_vars vs at end s =
    let p = two vs (own_var at) (own_var end) (scoped vs _ s) in
    record { of_from = p.0; of_from_on = none vs; of_to = p.1; of_to_on = none vs }

pub below_vars : (vs : List VarId) (ends : List Weighted) → IsScope vs (vars_in end_var ends) → BelowVars vs ends
below_vars vs ends s i d lt = one vs (get_or ends i d).end (each end_var vs ends (scoped vs _ s) i d lt)

-- ---- choices

pub chosen_vars : (vs : List VarId) (user : Act) (choice : VarId) (alts : List Act)
    → IsScope vs (act_vars user ++ own_var choice ++ vars_in act_vars alts) → ChosenVars vs user choice alts
chosen_vars vs user choice alts s =
    let p = three vs (act_vars user) (own_var choice) (vars_in act_vars alts) (scoped vs _ s) in
    record { of_user = p.0; of_choice = one vs choice p.1; of_alts = each act_vars vs alts p.2 }

pub zeros_vars : (vs : List VarId) (instr : VarId) (others : List VarId) → IsScope vs (own_var instr ++ vars_in own_var others)
    → ZerosVars vs instr others
zeros_vars vs instr others s =
    let p = two vs (own_var instr) (vars_in own_var others) (scoped vs _ s) in
    record { of_instr = one vs instr p.0; of_others = owns vs others p.1 }

pub spaces_vars : (vs : List VarId) (on : Act) (choice : Option VarId) (regs : List VarId)
    → IsScope vs (act_vars on ++ choice_vars choice ++ vars_in own_var regs) → SpacesVars vs on choice regs
spaces_vars vs on choice regs s =
    let p = three vs (act_vars on) (choice_vars choice) (vars_in own_var regs) (scoped vs _ s) in
    record { of_on = p.0; of_choice = p.1; of_regs = owns vs regs p.2 }

pub same_vars : (vs : List VarId) (choice : VarId) (regs : List VarId) (to : VarId)
    → IsScope vs (own_var choice ++ vars_in own_var regs ++ own_var to) → SameVars vs choice regs to
same_vars vs choice regs to s =
    let p = three vs (own_var choice) (vars_in own_var regs) (own_var to) (scoped vs _ s) in
    record { of_choice = one vs choice p.0; of_regs = owns vs regs p.1; of_to = one vs to p.2 }

pub home_vars : (vs : List VarId) (choice : Option VarId) (regs : List VarId) → IsScope vs (choice_vars choice ++ vars_in own_var regs)
    → HomeVars vs choice regs
home_vars vs choice regs s =
    let p = two vs (choice_vars choice) (vars_in own_var regs) (scoped vs _ s) in
    record { of_choice = p.0; of_regs = owns vs regs p.1 }

-- ---- the frame

op_stands : (vs : List VarId) (o : FrameOp) → AllAmong vs (op_vars o) → FrameOpVars vs o
op_stands vs o h =
    let p = two vs (own_var o.instr) (own_var o.at) h in
    record { of_instr = one vs o.instr p.0; of_at = one vs o.at p.1 }

enter_stands : (vs : List VarId) (enter : Option FrameOp) → AllAmong vs (enter_vars enter) → ForSome enter (FrameOpVars vs)
enter_stands vs None h op is = absurd (cc is)
enter_stands vs (Some enter) h op is = let same : enter ≡ op = cc is in subst (FrameOpVars vs) same (op_stands vs enter h)

use_stands : (vs : List VarId) (u : FrameUse) → AllAmong vs (use_vars u) → FrameUseVars vs u
use_stands vs u h = let p = two vs (act_vars u.instr) (own_var u.at) h in record { of_instr = p.0; of_at = one vs u.at p.1 }

uses_stand : (vs : List VarId) (us : List FrameUse) → AllAmong vs (vars_in use_vars us) → All (FrameUseVars vs) us
uses_stand vs us h i d lt = use_stands vs (get_or us i d) (each use_vars vs us h i d lt)

leave_stands : (vs : List VarId) (l : FrameLeave) → AllAmong vs (leave_vars l) → FrameLeaveVars vs l
leave_stands vs l h =
    let p = two vs (op_vars l.leave) (vars_in use_vars l.copies ++ vars_in own_var l.calls) h in
    let q = two vs (vars_in use_vars l.copies) (vars_in own_var l.calls) p.1 in
    record { of_leave = op_stands vs l.leave p.0; of_copies = uses_stand vs l.copies q.0; of_calls = owns vs l.calls q.1 }

pub frame_vars : (vs : List VarId) (flag : VarId) (touch ins : List VarId) (enter : Option FrameOp) (entry : List FrameUse)
    (leaves : List FrameLeave) → IsScope vs (own_var flag ++ vars_in own_var touch ++ vars_in own_var ins ++ enter_vars enter
    ++ vars_in use_vars entry ++ vars_in leave_vars leaves) → FrameVars vs flag touch ins enter entry leaves
frame_vars vs flag touch ins enter entry leaves s =
    let first : List VarId = own_var flag ++ vars_in own_var touch ++ vars_in own_var ins ++ enter_vars enter in
    let p = three vs first (vars_in use_vars entry) (vars_in leave_vars leaves) (scoped vs _ s) in
    let q = four vs (own_var flag) (vars_in own_var touch) (vars_in own_var ins) (enter_vars enter) p.0 in
    record {
      of_flag = one vs flag q.0;
      of_touch = owns vs touch q.1;
      of_ins = owns vs ins q.2;
      of_enter = enter_stands vs enter q.3;
      of_entry = uses_stand vs entry p.1;
      of_leaves = λ i d lt. leave_stands vs (get_or leaves i d) (each leave_vars vs leaves p.2 i d lt);
    }

-- ---- rectangles

user_stands : (vs : List VarId) (u : UserOf) → AllAmong vs (user_vars u) → UserVars vs u
user_stands vs u h =
    let p = two vs (act_vars u.on) (at_vars u.at ++ user_choice u.choice) h in
    let q = two vs (at_vars u.at) (user_choice u.choice) p.1 in
    record { of_on = p.0; of_at = q.0; of_choice = q.1 }

users_stand : (vs : List VarId) (us : List UserOf) → AllAmong vs (vars_in user_vars us) → All (UserVars vs) us
users_stand vs us h i d lt = user_stands vs (get_or us i d) (each user_vars vs us h i d lt)

temp_stands : (vs : List VarId) (a : Temp) → AllAmong vs (rectangle_vars a) → TempVars vs a
temp_stands vs a h =
    let p = two vs (own_var a.reg) (act_vars a.on ++ (at_vars a.at ++ vars_in user_vars a.users)) h in
    let q = two vs (act_vars a.on) (at_vars a.at ++ vars_in user_vars a.users) p.1 in
    let r = two vs (at_vars a.at) (vars_in user_vars a.users) q.1 in
    record { of_on = q.0; of_at = r.0; of_reg = one vs a.reg p.0; of_users = users_stand vs a.users r.1 }

pub apart_vars : (vs : List VarId) (temps : List Temp) → IsScope vs (vars_in rectangle_vars temps) → ApartVars vs temps
apart_vars vs temps s i d lt = temp_stands vs (get_or temps i d) (each rectangle_vars vs temps (scoped vs _ s) i d lt)

call_stands : (vs : List VarId) (c : ClobberCall) → AllAmong vs (clobber_vars c) → CallVars vs c
call_stands vs c h =
    let p = two vs (own_var c.at) (vars_in user_vars c.behind) h in
    record { of_at = one vs c.at p.0; of_behind = users_stand vs c.behind p.1 }

pub clobber_temp : (vs : List VarId) (temp : Temp) (calls : List ClobberCall)
    → IsScope vs (rectangle_vars temp ++ vars_in clobber_vars calls) → TempVars vs temp
clobber_temp vs temp calls s = temp_stands vs temp (left vs (rectangle_vars temp) (vars_in clobber_vars calls) (scoped vs _ s))

pub clobber_calls : (vs : List VarId) (temp : Temp) (calls : List ClobberCall)
    → IsScope vs (rectangle_vars temp ++ vars_in clobber_vars calls) → All (CallVars vs) calls
clobber_calls vs temp calls s i d lt =
    let h = right vs (rectangle_vars temp) (vars_in clobber_vars calls) (scoped vs _ s) in
    call_stands vs (get_or calls i d) (each clobber_vars vs calls h i d lt)

side_stands : (vs : List VarId) (a : Side) → AllAmong vs (side_vars a) → SideVars vs a
side_stands vs a h =
    let p = two vs (own_var a.choice) (vars_in own_var a.regs) h in
    record { of_choice = one vs a.choice p.0; of_regs = owns vs a.regs p.1 }

pub first_side : (vs : List VarId) (a b : Side) → IsScope vs (side_vars a ++ side_vars b) → SideVars vs a
first_side vs a b s = side_stands vs a (left vs (side_vars a) (side_vars b) (scoped vs _ s))

pub second_side : (vs : List VarId) (a b : Side) → IsScope vs (side_vars a ++ side_vars b) → SideVars vs b
second_side vs a b s = side_stands vs b (right vs (side_vars a) (side_vars b) (scoped vs _ s))

-- ---- resources

pub slot_vars : (vs : List VarId) (items : List Item) → IsScope vs (vars_in item_vars items) → SlotVars vs items
slot_vars vs items s i d lt =
    let p = two vs (act_vars (get_or items i d).on) (own_var (get_or items i d).at) (each item_vars vs items (scoped vs _ s) i d lt) in
    record { of_on = p.0; of_at = one vs (get_or items i d).at p.1 }

pub block_vars : (vs : List VarId) (ops : List Task) (end : VarId) → IsScope vs (vars_in task_vars ops ++ own_var end) → BlockVars vs ops end
block_vars vs ops end s =
    let p = two vs (vars_in task_vars ops) (own_var end) (scoped vs _ s) in
    record { of_ops = λ i d lt. one vs (get_or ops i d).at (each task_vars vs ops p.0 i d lt); of_end = one vs end p.1 }

-- ---- pressure

pub live_vars : (vs : List VarId) (values : List Span) → IsScope vs (vars_in span_vars values) → LiveVars vs values
live_vars vs values s i d lt =
    let v = get_or values i d in
    let p = two vs (at_vars v.def) (vars_in at_vars v.uses) (each span_vars vs values (scoped vs _ s) i d lt) in
    record { of_def = p.0; of_uses = each at_vars vs v.uses p.1 }

-- ---- counts

pub counted_vars : (vs : List VarId) (rows : List (List LeastEnd)) → IsScope vs (vars_in row_vars rows) → RowsVars vs rows
counted_vars vs rows s i d lt j e less =
    let row = each row_vars vs rows (scoped vs _ s) i d lt in
    one vs (get_or (get_or rows i d) j e).end (each least_var vs (get_or rows i d) row j e less)
