-- What a function does, operation by operation.
use Rattle.std.specs.Prelude.{ℕ, zero, suc, ◌+◌, ◌-◌, true, false, nat_eq, if◌then◌else◌, List, [], ◌∷◌, ◌++◌, Option, Some, None}
use Rattle.std.specs.Prelude.{unwrap_or, map, length, take, slice_get, slice_index, slice_set, replicate}
use Rattle.un_isa.specs.Memories.{word_at, set_word, set_words}
use Rattle.un_isa.specs.Words.{eval, address_of}
use Rattle.un_isa.specs.declared.op.Op.{Op}
use Rattle.un_isa.specs.declared.op.Op.TheVariants.{Load, Store, Call}
use Rattle.un_isa.specs.declared.outcome.CallRecord.{CallRecord}
use Rattle.un_isa.specs.declared.start.Reply.{Reply}
use Rattle.un_isa.specs.declared.start.Start.{Start}
use Rattle.un_base.specs.declared.ids.NameId.{NameId}
use Rattle.un_ir.specs.declared.function.SrcOp.{SrcOp}
use Rattle.un_ir.specs.declared.function.Term.{Term}
use Rattle.un_ir.specs.declared.function.Term.TheVariants.{Fall, Jump as JumpTo, Branch, Ret}
use Rattle.un_ir.specs.declared.function.Block.{Block}
use Rattle.un_ir.specs.declared.function.Function.{Function}

-- values by the number of their name, memory, the calls so far and the replies that are left
pub record SourceState : Type 0 where
  pub values : List ℕ
  pub memory : List (ℕ × ℕ)
  pub calls : List CallRecord
  pub replies : List Reply

-- how a run of the source stops: where a further block would be entered, at that block
pub data SourceStop : Type 0 where
  Returned : Option ℕ → SourceStop
  Trapped : SourceStop
  Waiting : CallRecord → SourceStop
  Running : ℕ → SourceStop

pub record SourceRun : Type 0 where
  pub stop : SourceStop
  pub state : SourceState

-- what one operation comes to: the next state, or a stop that leaves the state as it was
pub data SourceStep : Type 0 where
  Went : SourceState → SourceStep
  Stopped : SourceStop → SourceStep

abbrev pub value_in : SourceState → NameId → ℕ
value_in s name = slice_index s.values name.0

abbrev pub assigned : List ℕ → Option NameId → ℕ → List ℕ
assigned values None v = values
assigned values (Some name) v = slice_set values name.0 v

-- an operation that only computes
abbrev pub computes : SrcOp → SourceState → SourceStep
computes o s = Went (record s { values = assigned s.values o.dst (eval o.op (map (value_in s) o.srcs) o.imm) })

abbrev pub loads : SrcOp → SourceState → Option ℕ → SourceStep
loads o s None = Stopped Trapped
loads o s (Some v) = Went (record s { values = assigned s.values o.dst v })

abbrev pub stores : ℕ → ℕ → SourceState → Option ℕ → SourceStep
stores a v s None = Stopped Trapped
stores a v s (Some old) = Went (record s { memory = set_word a v s.memory })

-- a call as its callee sees it
abbrev pub record_of : SrcOp → SourceState → CallRecord
record_of o s = record { name = unwrap_or o.callee []; args = map (value_in s) o.srcs; memory = s.memory }

abbrev pub calls_with : SrcOp → SourceState → List Reply → SourceStep
calls_with o s [] = Stopped (Waiting (record_of o s))
calls_with o s (r ∷ rs) = Went (record {
  values = assigned s.values o.dst r.result;
  memory = set_words r.changed s.memory;
  calls = s.calls ++ record_of o s ∷ [];
  replies = rs;
})

abbrev pub address_in : SrcOp → SourceState → ℕ
address_in o s = address_of (slice_index (map (value_in s) o.srcs) 0) o.imm

-- one operation
abbrev pub step_by : Op → SrcOp → SourceState → SourceStep
step_by Load o s = loads o s (word_at (address_in o s) s.memory)
step_by Store o s = stores (address_in o s) (slice_index (map (value_in s) o.srcs) 1) s (word_at (address_in o s) s.memory)
step_by Call o s = calls_with o s s.replies
step_by _ o s = computes o s

abbrev pub op_step : SrcOp → SourceState → SourceStep
op_step o s = step_by o.op o s

-- what a block's operations come to, one after another: the state after them, or where they stop
pub record BlockEnd : Type 0 where
  pub stop : Option SourceStop
  pub state : SourceState

abbrev pub then_ops : SourceStep → SourceState → (SourceState → BlockEnd) → BlockEnd
then_ops (Went t) s go = go t
then_ops (Stopped e) s go = record { stop = Some e; state = s }

abbrev pub ops_run : List SrcOp → SourceState → BlockEnd
ops_run [] s = record { stop = None; state = s }
ops_run (o ∷ os) s = then_ops (op_step o s) s (ops_run os)

-- goes on at the block to which the terminator of block b leads, or returns
abbrev pub leave : ℕ → Term → SourceState → (ℕ → SourceState → SourceRun) → SourceRun
leave b Fall s go = go (b + 1) s
leave b (JumpTo to) s go = go to.0 s
leave b (Branch pred true to) s go = if nat_eq (value_in s pred) 0 then go (b + 1) s else go to.0 s
leave b (Branch pred false to) s go = if nat_eq (value_in s pred) 0 then go to.0 s else go (b + 1) s
leave b (Ret None) s go = record { stop = Returned None; state = s }
leave b (Ret (Some name)) s go = record { stop = Returned (Some (value_in s name)); state = s }

abbrev pub leave_unless : Option SourceStop → SourceState → ℕ → Term → (ℕ → SourceState → SourceRun) → SourceRun
leave_unless None s b term go = leave b term s go
leave_unless (Some stop) s b term go = record { stop = stop; state = s }

abbrev pub through : Option Block → ℕ → SourceState → (ℕ → SourceState → SourceRun) → SourceRun
through None b s go = record { stop = Running b; state = s }
through (Some block) b s go = let e = ops_run block.ops s in leave_unless e.stop e.state b block.term go

-- a run from the start of block b that enters at most n blocks, that one among them
abbrev pub enter : List Block → ℕ → ℕ → SourceState → SourceRun
enter blocks zero b s = record { stop = Running b; state = s }
enter blocks (suc n) b s = through (slice_get blocks b) b s (enter blocks n)

-- the parameters are the first names, and start with the first registers
abbrev pub first_state : Function → Start → SourceState
first_state f s = record {
  values = take (length f.params) s.regs ++ replicate (length f.names - length f.params) 0;
  memory = s.memory;
  calls = [];
  replies = s.replies;
}

-- what a function comes to from a start, where at most n blocks are entered
abbrev pub source_run : Function → Start → ℕ → SourceRun
source_run f s n = enter f.blocks n 0 (first_state f s)
