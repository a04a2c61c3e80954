-- What crosses a call: the values that are there before it, and are read behind it or go into what is. A call keeps few registers, so
-- of the values that cross it those that are more are spilled by its cycle and reloaded after it. So are values that are there in the
-- cycle of another operation and are read after it, where they are more than the block has registers for.
use Rattle.std.specs.Prelude.{ℕ, ◌-◌, ◌==◌, nat_lt, Bool, false, true, not, ◌&&◌, ◌||◌, if◌then◌else◌, List, [], ◌∷◌, ◌++◌}
use Rattle.std.specs.Prelude.{Option, Some, None, filter, length}
use Rattle.std.specs.List.{list_any}
use Rattle.std.specs.Option.{option_to_list}
use Rattle.un_base.specs.declared.ids.TempId.{TempId}
use Rattle.un_domains.specs.Sets.{has}
use Rattle.un_isa.specs.Registers.{callee_saved}
use Rattle.un_isa.specs.declared.reg.Reg.{Reg}
use Rattle.un_isa.specs.declared.reg.TheConstants.{FIRST_SLOT}
use Rattle.un_isa.specs.declared.table.Table.{Table}
use Rattle.un_ir.specs.Kinds.{ends_block, is_call_kind, is_delimiter, is_mandatory, is_source}
use Rattle.un_ir.specs.Linear.{first_of, is_out}
use Rattle.un_ir.specs.declared.extended.ExtKind.{ExtKind}
use Rattle.un_ir.specs.declared.extended.Operand.{Operand}
use Rattle.un_model.specs.declared.model.Arc.{Arc}
use Rattle.un_sites.specs.Places.{Place}
use Rattle.un_sites.specs.Rooms.{is_before, is_behind, temps_in, waiting}

-- ---- values

abbrev pub is_register_home : Option Reg → Bool
is_register_home None = false
is_register_home (Some r) = nat_lt r.0 FIRST_SLOT

-- an operand finds its value in a register, where that is asked for: a block's end may find one that has no home in a slot
abbrev pub is_asked : Bool → ExtKind → Operand → Bool
is_asked in_register kind x = not in_register || (not (is_delimiter kind) || is_register_home x.home)

-- every solution has an operation that reads value n
abbrev pub reads_value : Bool → ℕ → Place → Bool
reads_value in_register n p = is_mandatory p.it.kind
    && list_any (λ (x : Operand). first_of x.alts == n && is_asked in_register p.it.kind x) p.it.operands

-- what an operation defines is there before a call, but for what the call gives
abbrev pub is_ahead : List Arc → Place → Place → Bool
is_ahead arcs call d = not (d.op == call.op) && is_before arcs d call

-- ---- what stands for a value

-- A value that is not read behind a call may be read before it or after it by an operation whose result is. Wherever the call issues,
-- one of the two crosses it: so the value counts, and the operation, which stands for one value alone, for no other.

-- value n is read by these operations, or is one of those for which a result stands
abbrev pub is_carried : Bool → List Place → List ℕ → ℕ → Bool
is_carried in_register behind ns n = list_any (reads_value in_register n) behind || list_any (λ (m : ℕ). m == n) ns

-- the first value that these operands read and that does not cross already
abbrev pub first_new : (ℕ → Bool) → List Operand → Option ℕ
first_new crosses [] = None
first_new crosses (x ∷ xs) = if crosses (first_of x.alts) then first_new crosses xs else Some (first_of x.alts)

-- the value for which an operation's result stands, where that crosses
abbrev pub handed_by : (ℕ → Bool) → Place → Option ℕ
handed_by crosses p = if list_any (λ (t : TempId). crosses t.0) p.it.results then first_new crosses p.it.operands else None

-- those of several operations, the last one first
abbrev pub handed : Bool → List Place → List Place → List ℕ
handed in_register behind [] = []
handed in_register behind (p ∷ ps) =
    let ns : List ℕ = handed in_register behind ps in ns ++ option_to_list (handed_by (is_carried in_register behind ns) p)

-- an operation of the source that need not be before the call, and is not the call
abbrev pub is_loose : List Arc → Place → Place → Bool
is_loose arcs call p = is_source p.it.kind && (not (p.op == call.op) && not (is_ahead arcs call p))

-- ---- a call

-- a value crosses a call that has these operations behind it, and these neither ahead of it nor the call
abbrev pub is_crossing : Bool → List Place → List Place → TempId → Bool
is_crossing in_register behind loose t = is_carried in_register behind (handed in_register behind loose) t.0

-- the values that cross a call, or those of them that are read in registers behind it
abbrev pub crossing : Bool → List Arc → List Place → Place → List TempId
crossing in_register arcs ps call =
    filter (is_crossing in_register (filter (is_behind arcs call) ps) (filter (is_loose arcs call) ps))
    (temps_in (filter (is_ahead arcs call) ps))

-- ---- another operation

-- an operation of the source that need not have issued by the cycle of operation o
abbrev pub is_free : List Arc → Place → Place → Bool
is_free arcs o p = is_source p.it.kind && not (is_before arcs p o)

-- an operation of the source waits for operation o
abbrev pub has_follower : List Arc → List Place → Place → Bool
has_follower arcs ps o = list_any (λ (p : Place). is_source p.it.kind && has (waiting arcs o.op) p.op) ps

-- an operation issues after operation o, whatever the cycles: the block's end, what waits for o, and, where one of the source does, the
-- terminator, which issues last
abbrev pub is_after : List Arc → List Place → Place → Place → Bool
is_after arcs ps o p = (if has_follower arcs ps o then ends_block p.it.kind else is_out p.it.kind) || has (waiting arcs o.op) p.op

-- the values that are there in the cycle of operation o, as its own results are, and cross to what is after it
abbrev pub alive : Bool → List Arc → List Place → Place → List TempId
alive in_register arcs ps o = filter (is_crossing in_register (filter (is_after arcs ps o) ps) (filter (is_free arcs o) ps))
    (temps_in (filter (λ (d : Place). is_before arcs d o) ps))

-- ---- spills and reloads

-- the values that are there in an operation's cycle and are read after it, or those of them that are read in registers
abbrev pub kept_over : Bool → List Arc → List Place → Place → List TempId
kept_over in_register arcs ps o = if is_call_kind o.it.kind then crossing in_register arcs ps o else alive in_register arcs ps o

-- for how many of them there are registers, in a block that has so many: a call keeps few
abbrev pub kept_at : Table → ℕ → Place → ℕ
kept_at t room o = if is_call_kind o.it.kind then length (callee_saved t) else room

-- how many of them are spilled: no value at the start of the entry is in a slot
abbrev pub spills_at : Table → ℕ → Bool → List Arc → List Place → Place → ℕ
spills_at t room is_entry arcs ps o = if is_entry then length (kept_over false arcs ps o) - kept_at t room o else 0

-- and how many reloaded
abbrev pub reloads_at : Table → ℕ → List Arc → List Place → Place → ℕ
reloads_at t room arcs ps o = length (kept_over true arcs ps o) - kept_at t room o
