-- One operation of the source, and what it comes to of the values of its operands.
use Rattle.std.proofs.Common.{◌≡◌, ℕ, suc, ◌<◌, ◌++◌, List, [], ◌∷◌, Option, Some, None, map, length, get_or, refl, ap, arith, subst}
use Rattle.un_base.specs.declared.ids.NameId.{NameId}
use Rattle.un_isa.specs.Memories.{word_at, set_word, set_words}
use Rattle.un_isa.specs.declared.op.Op.{Op}
use Rattle.un_isa.specs.declared.op.Op.TheVariants.{Load, Store, Call}
use Rattle.un_isa.specs.declared.outcome.CallRecord.{CallRecord}
use Rattle.un_isa.specs.declared.start.Reply.{Reply}
use Rattle.un_isa.specs.declared.table.Table.{Table}
use Rattle.un_ir.specs.declared.function.SrcOp.{SrcOp}
use Rattle.un_ir.specs.Source.{SourceState, SourceStep, Went, Stopped, op_step, step_by, value_in, assigned, loads, stores, calls_with}
use Rattle.un_ir.specs.Source.{record_of, address_in, Trapped, Waiting}
use Rattle.un_ir.specs.Linear.{World, Effect, Gives, Stops, effect_of, effect_by, Values, value_of, loads as loads_value}
use Rattle.un_ir.specs.Linear.{stores as stores_value, calls_with as calls_value, record_of as record_for, Trapped as Traps}
use Rattle.un_ir.specs.Linear.{Waiting as Waits}
use Rattle.un_ir.specs.LinearOf.{name_operand, argument_operands, source_operands}
use Rattle.un_ir.specs.Runs.{world_of}

-- the state after an operation that gives this value
abbrev pub gone : SrcOp → SourceState → ℕ → World → SourceState
gone o s v w = record { values = assigned s.values o.dst v; memory = w.memory; calls = w.calls; replies = w.replies }

pub data StepSim (o : SrcOp) (s : SourceState) : SourceStep → Effect → Type 0 where
  goes : (v : ℕ) (w : World) → StepSim o s (Went (gone o s v w)) (Gives v w)
  traps : StepSim o s (Stopped Trapped) (Stops Traps)
  waits : (c : CallRecord) → StepSim o s (Stopped (Waiting c)) (Stops (Waits c))

module _ (o : SrcOp) (s : SourceState) where
  load_sim : (r : Option ℕ) → StepSim o s (loads o s r) (loads_value (world_of s) r)
  load_sim None = traps
  load_sim (Some v) = goes v (world_of s)

  store_sim : (a v : ℕ) (r : Option ℕ) → o.dst ≡ None → StepSim o s (stores a v s r) (stores_value a v (world_of s) r)
  store_sim a v None none = traps
  store_sim a v (Some old) none =
      let same : assigned s.values o.dst 0 ≡ s.values = ap (λ (d : Option NameId). assigned s.values d 0) none in
      subst (λ (values : List ℕ). StepSim o s (Went (record {
        values = values;
        memory = set_word a v s.memory;
        calls = s.calls;
        replies =
            s.replies;
      })) (Gives 0 (record { memory = set_word a v s.memory; calls = s.calls; replies = s.replies })))
      same (goes 0 (record { memory = set_word a v s.memory; calls = s.calls; replies = s.replies }))

  call_sim : (replies : List Reply)
      → StepSim o s (calls_with o s replies) (calls_value (record_for o (map (value_in s) o.srcs) (world_of s)) (world_of s) replies)
  call_sim [] = waits (record_of o s)
  call_sim (r ∷ rs) = goes r.result (record { memory = set_words r.changed s.memory; calls = s.calls ++ record_of o s ∷ []; replies = rs })

  sim_by : (op : Op) → o.op ≡ op → (op ≡ Store → o.dst ≡ None)
      → StepSim o s (step_by op o s) (effect_by op o (map (value_in s) o.srcs) (world_of s))
  sim_by Load e none = load_sim (word_at (address_in o s) s.memory)
  sim_by Store e none = store_sim (address_in o s) (get_or (map (value_in s) o.srcs) 1 0) (word_at (address_in o s) s.memory) (none refl)
  sim_by Call e none = call_sim s.replies
  sim_by _ e none = goes _ (world_of s)

  -- a Store has no result
  pub step_sim : (o.op ≡ Store → o.dst ≡ None) → StepSim o s (op_step o s) (effect_of o (map (value_in s) o.srcs) (world_of s))
  step_sim none = sim_by o.op refl none

-- ---- operands

abbrev pub AreValues : Values → List ℕ → List ℕ → List NameId → Type 0
AreValues v current values names = (k : ℕ) (d : NameId) → k < length names
    → (let name = get_or names k d in v (get_or current name.0 0) ≡ get_or values name.0 0)

are_later : (v : Values) (current values : List ℕ) (name : NameId) (names : List NameId) → AreValues v current values (name ∷ names)
    → AreValues v current values names
are_later v current values name names h k d below = h (suc k) d (omega arith)

abbrev value_at : List ℕ → NameId → ℕ
value_at values name = get_or values name.0 0

arguments_values : (v : Values) (current registers values : List ℕ) (names : List NameId) → AreValues v current values names
    → map (value_of v) (argument_operands current registers names) ≡ map (value_at values) names
arguments_values v current registers values [] h = refl
arguments_values v current [] values (name ∷ names) h =
    let first : v (get_or current name.0 0) ≡ get_or values name.0 0 = h 0 name (omega arith) in
    let rest = arguments_values v current [] values names (are_later v current values name names h) in
    rw (first, rest) refl
arguments_values v current (r ∷ rs) values (name ∷ names) h =
    let first : v (get_or current name.0 0) ≡ get_or values name.0 0 = h 0 name (omega arith) in
    let rest = arguments_values v current rs values names (are_later v current values name names h) in
    rw (first, rest) refl

pub names_values : (v : Values) (current values : List ℕ) (names : List NameId) → AreValues v current values names
    → map (value_of v) (map (name_operand current None) names) ≡ map (value_at values) names
names_values v current values [] h = refl
names_values v current values (name ∷ names) h =
    let first : v (get_or current name.0 0) ≡ get_or values name.0 0 = h 0 name (omega arith) in
    let rest = names_values v current values names (are_later v current values name names h) in
    rw (first, rest) refl

-- the operands of an operation have the values of the names that it reads
pub operands_values : (t : Table) (v : Values) (current values : List ℕ) (op : Op) (names : List NameId) → AreValues v current values names
    → map (value_of v) (source_operands t current op names) ≡ map (value_at values) names
operands_values t v current values Call names h = arguments_values v current t.args values names h
operands_values t v current values _ names h = names_values v current values names h
