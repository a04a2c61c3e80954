-- What a linear or an extended function does, block by block. Every temporary is local to its block. The values at a block's
-- start are a list: those of the names that are live there, in their order, then the saved values, which are those that the
-- callee-saved registers and the link register had when the function was entered.
use Rattle.std.specs.Prelude.{ℕ, zero, suc, ◌+◌, ◌-◌, ◌==◌, Bool, true, false, nat_eq, if◌then◌else◌, List, [], ◌∷◌, ◌++◌, Option, Some}
use Rattle.std.specs.Prelude.{None, unwrap_or, map, length, drop, slice_get, slice_index}
use Rattle.std.specs.List.{flat_map, position_or_len}
use Rattle.un_base.specs.declared.ids.NameId.{NameId}
use Rattle.un_base.specs.declared.ids.TempId.{TempId}
use Rattle.un_isa.specs.Memories.{word_at, set_word, set_words}
use Rattle.un_isa.specs.Registers.{saved_registers}
use Rattle.un_isa.specs.Words.{eval, address_of}
use Rattle.un_isa.specs.declared.op.Op.{Op}
use Rattle.un_isa.specs.declared.op.Op.TheVariants.{Load, Store, Call}
use Rattle.un_isa.specs.declared.outcome.CallRecord.{CallRecord}
use Rattle.un_isa.specs.declared.start.Reply.{Reply}
use Rattle.un_isa.specs.declared.start.Start.{Start}
use Rattle.un_isa.specs.declared.table.Table.{Table}
use Rattle.un_ir.specs.declared.function.SrcOp.{SrcOp}
use Rattle.un_ir.specs.declared.function.Term.{Term}
use Rattle.un_ir.specs.declared.function.Term.TheVariants.{Fall, Jump as JumpTo, Branch, Ret}
use Rattle.un_ir.specs.declared.extended.ExtKind.{ExtKind}
use Rattle.un_ir.specs.declared.extended.ExtKind.TheVariants.{In, Out, Body, End, Copy}
use Rattle.un_ir.specs.declared.extended.Operand.{Operand}
use Rattle.un_ir.specs.declared.extended.ExtOp.{ExtOp}
use Rattle.un_ir.specs.declared.extended.ExtBlock.{ExtBlock}

-- ---- values of temporaries

-- the value of each temporary, by its number
abbrev pub Values : Type 0
Values = ℕ → ℕ

-- temporary x gets the value v
abbrev pub defined : Values → TempId → ℕ → Values
defined values x v = λ y. if nat_eq y x.0 then v else values y

-- temporaries get values, the first one the first
abbrev pub defined_all : Values → List TempId → List ℕ → Values
defined_all values [] vs = values
defined_all values (x ∷ xs) [] = values
defined_all values (x ∷ xs) (v ∷ vs) = defined_all (defined values x v) xs vs

-- the first of the temporaries that an operand may choose
abbrev pub first_of : List TempId → ℕ
first_of [] = 0
first_of (x ∷ xs) = x.0

-- an operand has the value of its first alternative
abbrev pub value_of : Values → Operand → ℕ
value_of values x = values (first_of x.alts)

-- ---- what an operation of the source comes to, of the values of its operands

-- memory, the calls so far and the replies that are left
pub record World : Type 0 where
  pub memory : List (ℕ × ℕ)
  pub calls : List CallRecord
  pub replies : List Reply

-- how a run stops: with a result where there is one, the address to return to and the values that the function hands back
-- in its callee-saved registers; by an access that traps; by a call without a reply; or where a further block would be
-- entered, with the values at that block's start
pub data LinearStop : Type 0 where
  Returned : Option ℕ → ℕ → List ℕ → LinearStop
  Trapped : LinearStop
  Waiting : CallRecord → LinearStop
  Running : ℕ → List ℕ → LinearStop

-- a value, which is 0 where an operation has none, and what the world is then; or a stop that leaves the world as it was
pub data Effect : Type 0 where
  Gives : ℕ → World → Effect
  Stops : LinearStop → Effect

abbrev pub loads : World → Option ℕ → Effect
loads w None = Stops Trapped
loads w (Some v) = Gives v w

abbrev pub stores : ℕ → ℕ → World → Option ℕ → Effect
stores a v w None = Stops Trapped
stores a v w (Some old) = Gives 0 (record w { memory = set_word a v w.memory })

-- a call as its callee sees it
abbrev pub record_of : SrcOp → List ℕ → World → CallRecord
record_of o xs w = record { name = unwrap_or o.callee []; args = xs; memory = w.memory }

abbrev pub calls_with : CallRecord → World → List Reply → Effect
calls_with c w [] = Stops (Waiting c)
calls_with c w (r ∷ rs) = Gives r.result (record { memory = set_words r.changed w.memory; calls = w.calls ++ c ∷ []; replies = rs })

abbrev pub address_in : SrcOp → List ℕ → ℕ
address_in o xs = address_of (slice_index xs 0) o.imm

abbrev pub effect_by : Op → SrcOp → List ℕ → World → Effect
effect_by Load o xs w = loads w (word_at (address_in o xs) w.memory)
effect_by Store o xs w = stores (address_in o xs) (slice_index xs 1) w (word_at (address_in o xs) w.memory)
effect_by Call o xs w = calls_with (record_of o xs w) w w.replies
effect_by _ o xs w = Gives (eval o.op xs o.imm) w

-- what an operation of the source comes to where its operands have these values
abbrev pub effect_of : SrcOp → List ℕ → World → Effect
effect_of o xs w = effect_by o.op o xs w

-- ---- the operations of a block

pub record LinearState : Type 0 where
  pub values : Values
  pub world : World

pub data LinearStep : Type 0 where
  Went : LinearState → LinearStep
  Stopped : LinearStop → LinearStep

abbrev pub after_effect : List TempId → LinearState → Effect → LinearStep
after_effect results s (Gives v w) = Went (record { values = defined_all s.values results (v ∷ []); world = w })
after_effect results s (Stops stop) = Stopped stop

-- one operation: a copy gives its result the value that it reads; the values at the start are there already; what the
-- block's end reads is read when the block is left
abbrev pub step_by : ExtKind → ExtOp → LinearState → LinearStep
step_by (Body o) op s = after_effect op.results s (effect_of o (map (value_of s.values) op.operands) s.world)
step_by (Copy node) op s = Went (record s { values = defined_all s.values op.results (map (value_of s.values) op.operands) })
step_by _ op s = Went s

-- what a block's operations come to, one after another: the state after them, or where they stop
pub record LinearEnd : Type 0 where
  pub stop : Option LinearStop
  pub state : LinearState

abbrev pub then_ops : LinearStep → LinearState → (LinearState → LinearEnd) → LinearEnd
then_ops (Went t) s go = go t
then_ops (Stopped e) s go = record { stop = Some e; state = s }

abbrev pub ops_run : List ExtOp → LinearState → LinearEnd
ops_run [] s = record { stop = None; state = s }
ops_run (op ∷ ops) s = then_ops (step_by op.kind op s) s (ops_run ops)

-- ---- from block to block

abbrev pub is_in : ExtKind → Bool
is_in In = true
is_in _ = false

abbrev pub is_out : ExtKind → Bool
is_out Out = true
is_out _ = false

-- the temporaries of the values at a block's start
abbrev pub in_temps : List ExtOp → List TempId
in_temps ops = flat_map (λ (op : ExtOp). if is_in op.kind then op.results else []) ops

-- the operands that a block's end reads
abbrev pub out_operands : List ExtOp → List Operand
out_operands ops = flat_map (λ (op : ExtOp). if is_out op.kind then op.operands else []) ops

-- how a block ends, and the operands of that operation; a block that falls through has no such operation
pub record Ending : Type 0 where
  pub term : Term
  pub operands : List Operand

abbrev pub ending_or : ExtKind → List Operand → Ending → Ending
ending_or (End term) operands later = record { term = term; operands = operands }
ending_or _ operands later = later

abbrev pub ending_of : List ExtOp → Ending
ending_of [] = record { term = Fall; operands = [] }
ending_of (op ∷ ops) = ending_or op.kind op.operands (ending_of ops)

-- the place among what block a hands over of what block b takes at place j: by name, and by order behind the names
abbrev pub place_by : ExtBlock → ExtBlock → ℕ → Option NameId → ℕ
place_by a b j None = length a.live_out + (j - length b.live_in)
place_by a b j (Some name) = position_or_len (λ (n : NameId). n.0 == name.0) a.live_out

abbrev pub place_over : ExtBlock → ExtBlock → ℕ → ℕ
place_over a b j = place_by a b j (slice_get b.live_in j)

-- what block b takes of the values that block a hands over: those of its names by name, and the saved values by order
abbrev pub taken_by : ExtBlock → List ℕ → ExtBlock → List ℕ
taken_by a handed b =
    map (λ (name : NameId). slice_index handed (position_or_len (λ (n : NameId). n.0 == name.0) a.live_out)) b.live_in ++
    drop (length a.live_out) handed

abbrev pub taken_over : ExtBlock → List ℕ → Option ExtBlock → List ℕ
taken_over a handed None = []
taken_over a handed (Some b) = taken_by a handed b

pub record LinearRun : Type 0 where
  pub stop : LinearStop
  pub world : World

-- goes on at the block to which the end of block b leads, or returns, where the block's end reads the values `handed`
abbrev pub leave : ℕ → Term → List ℕ → List ℕ → World → (ℕ → LinearRun) → LinearRun
leave b Fall read handed w go = go (b + 1)
leave b (JumpTo to) read handed w go = go to.0
leave b (Branch pred true to) read handed w go = if nat_eq (slice_index read 0) 0 then go (b + 1) else go to.0
leave b (Branch pred false to) read handed w go = if nat_eq (slice_index read 0) 0 then go to.0 else go (b + 1)
leave b (Ret None) read handed w go = record { stop = Returned None (slice_index read 0) handed; world = w }
leave b (Ret (Some name)) read handed w go = record {
  stop = Returned (Some (slice_index handed 0)) (slice_index read 0) (drop 1 handed);
  world = w;
}

-- goes on at a block, which takes over what block a hands over
abbrev pub hand_over : List ExtBlock → ExtBlock → List ℕ → World → (ℕ → List ℕ → World → LinearRun) → ℕ → LinearRun
hand_over blocks a handed w go c = go c (taken_over a handed (slice_get blocks c)) w

-- leaves block b, which is `block`, with these values of its temporaries
abbrev pub leave_block : List ExtBlock → ℕ → ExtBlock → LinearState → (ℕ → List ℕ → World → LinearRun) → LinearRun
leave_block blocks b block s go =
    let handed = map (value_of s.values) (out_operands block.ops) in
    let ending = ending_of block.ops in
    leave b ending.term (map (value_of s.values) ending.operands) handed s.world (hand_over blocks block handed s.world go)

abbrev pub leave_unless : Option LinearStop → List ExtBlock → ℕ → ExtBlock → LinearState → (ℕ → List ℕ → World → LinearRun) → LinearRun
leave_unless None blocks b block s go = leave_block blocks b block s go
leave_unless (Some stop) blocks b block s go = record { stop = stop; world = s.world }

-- the state at a block's start, where its values have been taken over
abbrev pub entered : ExtBlock → List ℕ → World → LinearState
entered block taken w = record { values = defined_all (λ x. 0) (in_temps block.ops) taken; world = w }

abbrev pub through : List ExtBlock → Option ExtBlock → ℕ → List ℕ → World → (ℕ → List ℕ → World → LinearRun) → LinearRun
through blocks None b taken w go = record { stop = Running b taken; world = w }
through blocks (Some block) b taken w go =
    let e = ops_run block.ops (entered block taken w) in leave_unless e.stop blocks b block e.state go

-- a run from the start of block b with these values that enters at most n blocks, that one among them
abbrev pub enter : List ExtBlock → ℕ → ℕ → List ℕ → World → LinearRun
enter blocks zero b taken w = record { stop = Running b taken; world = w }
enter blocks (suc n) b taken w = through blocks (slice_get blocks b) b taken w (enter blocks n)

-- ---- from the start

-- the values that the callee-saved registers and the link register have at the start
abbrev pub first_saved : Table → Start → List ℕ
first_saved t s = map (slice_index s.regs) (saved_registers t)

-- a parameter's value by the number of its name, and the saved values
abbrev pub first_values : Table → List NameId → Start → List ℕ
first_values t names s = map (λ (name : NameId). slice_index s.regs name.0) names ++ first_saved t s

abbrev pub first_taken : Table → Option ExtBlock → Start → List ℕ
first_taken t None s = []
first_taken t (Some entry) s = first_values t entry.live_in s

abbrev pub first_world : Start → World
first_world s = record { memory = s.memory; calls = []; replies = s.replies }

-- what the blocks of a linear or an extended function come to from a start, where at most n of them are entered
abbrev pub linear_run : Table → List ExtBlock → Start → ℕ → LinearRun
linear_run t blocks s n = enter blocks n 0 (first_taken t (slice_get blocks 0) s) (first_world s)
