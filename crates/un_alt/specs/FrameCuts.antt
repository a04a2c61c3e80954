-- What Frame lets a store keep.
use Rattle.std.specs.Prelude.{ℕ, ◌≡◌, ◌+◌, ◌-◌, ◌^◌, Bool, true, not, ◌&&◌, ◌||◌, List, nat_eq, nat_le, slice_index, option_and_then, None, Some}
use Rattle.std.specs.declared.option.Option.{Option}
use Rattle.std.specs.List.{list_any}
use Rattle.un_base.specs.declared.ids.VarId.{VarId}
use Rattle.un_domains.specs.Sets.{Sets, set_at, has, least, greatest}
use Rattle.un_isa.specs.declared.reg.TheConstants.{FIRST_SLOT}
use Rattle.un_prop.specs.Among.{among, AllAmong}
use Rattle.un_prop.specs.Acts.{act_vars, act_number}
use Rattle.un_prop.specs.Looks.{act_set}
use Rattle.un_prop.specs.Rounds.{round}
use Rattle.un_prop.specs.When.{is_only, when_cut, other_than, up_to}
use Rattle.un_prop.specs.declared.act.Act.TheVariants.{Always}
use Rattle.un_alt.specs.declared.frame.FrameOp.{FrameOp}
use Rattle.un_alt.specs.declared.frame.FrameUse.{FrameUse}
use Rattle.un_alt.specs.declared.frame.FrameLeave.{FrameLeave}
use Rattle.un_ir.specs.declared.extended.TheConstants.{SPILL, RELOAD}
use Rattle.un_alt.specs.declared.order.Order.{Order}

-- The use of the frame

-- all values are from low to high
abbrev pub is_within : ℕ → ℕ → List ℕ → Bool
is_within low high xs = nat_le low (least xs) && nat_le (greatest xs) high

-- a copy is a Spill or a Reload for sure, or a value at a block's start has a slot for sure
abbrev pub sure_use : List VarId → List VarId → Sets → Bool
sure_use touch ins s =
    list_any (λ (v : VarId). is_within SPILL RELOAD (set_at s v.0)) touch
    || list_any (λ (v : VarId). is_within FIRST_SLOT (2 ^ 32 - 1) (set_at s v.0)) ins

-- where the frame is used for sure, the flag is 1
abbrev pub flag_cut : VarId → List VarId → List VarId → Sets → Option Sets
flag_cut flag touch ins s = when_cut (sure_use touch ins) (λ u y. nat_eq y 1) flag s

-- the flag is not 1
abbrev pub is_unused : VarId → Sets → Bool
is_unused flag s = not (has (set_at s flag.0) 1)

-- then a copy is no Spill and no Reload, and a value at a block's start has no slot
abbrev pub touch_cut : VarId → VarId → Sets → Option Sets
touch_cut flag v s = option_and_then (when_cut (is_unused flag) (other_than RELOAD) v) (when_cut (is_unused flag) (other_than SPILL) v s)

abbrev pub slot_cut : VarId → VarId → Sets → Option Sets
slot_cut flag v s = when_cut (is_unused flag) (up_to (FIRST_SLOT - 1)) v s

-- Enter and Leave

-- where the flag is 0, the operation is inactive; where it is 1, it is active
abbrev pub op_cut : VarId → FrameOp → Sets → Option Sets
op_cut flag op s = option_and_then (when_cut (is_only flag 1) (other_than 0) op.instr) (when_cut (is_only flag 0) (up_to 0) op.instr s)

-- Enter, where there is one
abbrev pub enter_cut : VarId → Option FrameOp → Sets → Option Sets
enter_cut flag None s = Some s
enter_cut flag (Some enter) s = op_cut flag enter s

abbrev pub leave_op_cut : VarId → FrameLeave → Sets → Option Sets
leave_op_cut flag l s = op_cut flag l.leave s

-- Orders

-- where the number of the instruction is one that counts, the second time is at least the gap after the first
abbrev pub order_holds : Order → List ℕ → Bool
order_holds o x =
    not (nat_le o.least (act_number o.instr x) && nat_le (act_number o.instr x) o.most)
    || nat_le (slice_index x o.from.0 + o.gap) (slice_index x o.to.0)

-- what needs the frame in the entry block is after Enter
abbrev pub entry_order : FrameOp → FrameUse → Order
entry_order enter u = record { from = enter.at; to = u.at; gap = 1; instr = u.instr; least = u.least; most = u.most }

-- a copy that needs the frame is not after Leave, and a Call is before it
abbrev pub copy_order : FrameOp → FrameUse → Order
copy_order leave u = record { from = u.at; to = leave.at; gap = 0; instr = u.instr; least = u.least; most = u.most }

abbrev pub call_order : FrameOp → VarId → Order
call_order leave v = record { from = v; to = leave.at; gap = 1; instr = Always; least = 1; most = 1 }

-- the flag is 1 and the instruction counts for sure
abbrev pub is_ordered : VarId → Order → Sets → Bool
is_ordered flag o s = is_only flag 1 s && is_within o.least o.most (act_set o.instr s)

-- then the second is late enough for the least time of the first, and the first early enough for the greatest of the second
abbrev pub late_test : Order → Sets → ℕ → Bool
late_test o s y = nat_le (least (set_at s o.from.0) + o.gap) y

abbrev pub early_test : Order → Sets → ℕ → Bool
early_test o s y = nat_le y (greatest (set_at s o.to.0) - o.gap)

abbrev pub order_cut : VarId → Order → Sets → Option Sets
order_cut flag o s =
    option_and_then (when_cut (is_ordered flag o) (early_test o) o.from) (when_cut (is_ordered flag o) (late_test o) o.to s)

abbrev pub entry_cut : VarId → FrameOp → FrameUse → Sets → Option Sets
entry_cut flag enter u s = order_cut flag (entry_order enter u) s

-- all that needs the frame in the entry block, where Enter is there
abbrev pub entry_steps : VarId → Option FrameOp → List FrameUse → Sets → Option Sets
entry_steps flag None entry s = Some s
entry_steps flag (Some enter) entry s = round (entry_cut flag enter) entry s

abbrev pub copy_cut : VarId → FrameOp → FrameUse → Sets → Option Sets
copy_cut flag leave u s = order_cut flag (copy_order leave u) s

abbrev pub call_cut : VarId → FrameOp → VarId → Sets → Option Sets
call_cut flag leave v s = order_cut flag (call_order leave v) s

-- the copies of a block with Leave, and its Calls
abbrev pub left_cut : VarId → FrameLeave → Sets → Option Sets
left_cut flag l s = option_and_then (round (call_cut flag l.leave) l.calls) (round (copy_cut flag l.leave) l.copies s)

-- All

-- the flag by the use of the frame, and the use by the flag
abbrev pub use_steps : VarId → List VarId → List VarId → Sets → Option Sets
use_steps flag touch ins s =
    option_and_then (round (slot_cut flag) ins) (option_and_then (round (touch_cut flag) touch) (flag_cut flag touch ins s))

-- Enter and Leave by the flag
abbrev pub op_steps : VarId → Option FrameOp → List FrameLeave → Sets → Option Sets
op_steps flag enter leaves s = option_and_then (round (leave_op_cut flag) leaves) (enter_cut flag enter s)

-- the orders by the flag
abbrev pub order_steps : VarId → Option FrameOp → List FrameUse → List FrameLeave → Sets → Option Sets
order_steps flag enter entry leaves s = option_and_then (round (left_cut flag) leaves) (entry_steps flag enter entry s)

abbrev pub frame_steps : VarId → List VarId → List VarId → Option FrameOp → List FrameUse → List FrameLeave → Sets → Option Sets
frame_steps flag touch ins enter entry leaves s =
    option_and_then (order_steps flag enter entry leaves) (option_and_then (op_steps flag enter leaves) (use_steps flag touch ins s))

-- the variables of an order stand in the list
pub record OrderVars (vs : List VarId) (o : Order) : Type 0 where
  pub of_from : among vs o.from ≡ true
  pub of_to : among vs o.to ≡ true
  pub of_instr : AllAmong vs (act_vars o.instr)
