-- Frame: the flag, Enter and Leave agree with the use of the frame.
use Rattle.std.specs.Prelude.{ℕ, ◌≡◌, Bool, true, cond, not, ◌&&◌, ◌||◌, List, nat_eq, nat_le, nat_lt, slice_index, All, None, Some}
use Rattle.std.specs.declared.option.Option.{Option}
use Rattle.std.specs.Option.{ForSome}
use Rattle.std.specs.List.{list_any, list_all}
use Rattle.un_base.specs.declared.ids.VarId.{VarId}
use Rattle.un_isa.specs.declared.reg.TheConstants.{FIRST_SLOT}
use Rattle.un_prop.specs.Among.{among, AllAmong}
use Rattle.un_prop.specs.Acts.{act_vars, act_number}
use Rattle.un_alt.specs.declared.frame.FrameOp.{FrameOp}
use Rattle.un_alt.specs.declared.frame.FrameUse.{FrameUse}
use Rattle.un_alt.specs.declared.frame.FrameLeave.{FrameLeave}
use Rattle.un_ir.specs.declared.extended.TheConstants.{SPILL, RELOAD}

-- a copy's instruction is a Spill or a Reload
abbrev pub is_access : List ℕ → VarId → Bool
is_access x v = nat_le SPILL (slice_index x v.0) && nat_le (slice_index x v.0) RELOAD

-- a register is a slot
abbrev pub is_slot : List ℕ → VarId → Bool
is_slot x v = nat_le FIRST_SLOT (slice_index x v.0)

-- an active copy is a Spill or a Reload, or a value at a block's start has a slot
abbrev pub uses_frame : List VarId → List VarId → List ℕ → Bool
uses_frame touch ins x = list_any (is_access x) touch || list_any (is_slot x) ins

-- an operation of the frame is active
abbrev pub is_on : List ℕ → FrameOp → Bool
is_on x o = not (nat_eq (slice_index x o.instr.0) 0)

-- Enter, where there is one, is active; or it is inactive
abbrev pub enter_on : List ℕ → Option FrameOp → Bool
enter_on x None = true
enter_on x (Some enter) = is_on x enter

abbrev pub enter_off : List ℕ → Option FrameOp → Bool
enter_off x None = true
enter_off x (Some enter) = not (is_on x enter)

-- Enter, where there is one, and every Leave are active, or none of them is
abbrev pub all_on : Option FrameOp → List FrameLeave → List ℕ → Bool
all_on enter leaves x = enter_on x enter && list_all (λ (l : FrameLeave). is_on x l.leave) leaves

abbrev pub none_on : Option FrameOp → List FrameLeave → List ℕ → Bool
none_on enter leaves x = enter_off x enter && list_all (λ (l : FrameLeave). not (is_on x l.leave)) leaves

-- an operation counts where its instruction's number is one of those that order it
abbrev pub counts : List ℕ → FrameUse → Bool
counts x u = nat_le u.least (act_number u.instr x) && nat_le (act_number u.instr x) u.most

-- it does not count, or it has a cycle after t; or one that is at most t
abbrev pub is_after : ℕ → List ℕ → FrameUse → Bool
is_after t x u = not (counts x u) || nat_lt t (slice_index x u.at.0)

abbrev pub is_until : ℕ → List ℕ → FrameUse → Bool
is_until t x u = not (counts x u) || nat_le (slice_index x u.at.0) t

-- no copy that counts is after Leave, and each Call is before it
abbrev pub is_left : List ℕ → FrameLeave → Bool
is_left x l = list_all (is_until (slice_index x l.leave.at.0) x) l.copies && list_all
    (λ (v : VarId). nat_lt (slice_index x v.0) (slice_index x l.leave.at.0)) l.calls

-- all that counts in the entry block is after Enter, where there is one
abbrev pub all_entered : Option FrameOp → List FrameUse → List ℕ → Bool
all_entered None entry x = true
all_entered (Some enter) entry x = list_all (is_after (slice_index x enter.at.0) x) entry

-- and every Leave is in order
abbrev pub in_order : Option FrameOp → List FrameUse → List FrameLeave → List ℕ → Bool
in_order enter entry leaves x = all_entered enter entry x && list_all (is_left x) leaves

-- where the flag is 1, Enter and every Leave are active and in order, and of the whole function the frame is used. Elsewhere it is not
-- used, and where the flag is 0, Enter and Leave are inactive
abbrev pub frame_holds : Bool → VarId → List VarId → List VarId → Option FrameOp → List FrameUse → List FrameLeave → List ℕ → Bool
frame_holds whole flag touch ins enter entry leaves x =
    cond (nat_eq (slice_index x flag.0) 1)
    ((not whole || uses_frame touch ins x) && (all_on enter leaves x && in_order enter entry leaves x))
    (not (uses_frame touch ins x) && (not (nat_eq (slice_index x flag.0) 0) || none_on enter leaves x))

-- their variables stand in the list
pub record FrameOpVars (vs : List VarId) (o : FrameOp) : Type 0 where
  pub of_instr : among vs o.instr ≡ true
  pub of_at : among vs o.at ≡ true

pub record FrameUseVars (vs : List VarId) (u : FrameUse) : Type 0 where
  pub of_instr : AllAmong vs (act_vars u.instr)
  pub of_at : among vs u.at ≡ true

pub record FrameLeaveVars (vs : List VarId) (l : FrameLeave) : Type 0 where
  pub of_leave : FrameOpVars vs l.leave
  pub of_copies : All (FrameUseVars vs) l.copies
  pub of_calls : AllAmong vs l.calls

pub record FrameVars (vs : List VarId) (flag : VarId) (touch ins : List VarId) (enter : Option FrameOp) (entry : List FrameUse)
    (leaves : List FrameLeave) : Type 0 where
  pub of_flag : among vs flag ≡ true
  pub of_touch : AllAmong vs touch
  pub of_ins : AllAmong vs ins
  pub of_enter : ForSome enter (FrameOpVars vs)
  pub of_entry : All (FrameUseVars vs) entry
  pub of_leaves : All (FrameLeaveVars vs) leaves
