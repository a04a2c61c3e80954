-- One operation, by its kind.
use Rattle.std.proofs.Common.{◌≡◌, ◌≢◌, ℕ, zero, suc, ◌+◌, ◌-◌, ◌<◌, arith, slice_get, Some, ap, List, Option, min, length, take, refl, ◌∙◌}
use Rattle.std.proofs.lemmas.List.{take_min}
use Rattle.un_isa.specs.Memories.{word_at}
use Rattle.un_isa.specs.Words.{eval}
use Rattle.un_isa.specs.declared.op.Op.{Op}
use Rattle.un_isa.specs.declared.op.Op.TheVariants.{Load, Store, Call}
use Rattle.un_ir.specs.declared.function.Block.{Block}
use Rattle.un_ir.specs.declared.function.SrcOp.{SrcOp}
use Rattle.un_ir.specs.Source.{SourceState, op_step, step_by, loads, computes, address_in, assigned, Went, SourceRun, enter}
use Rattle.un_ir.specs.Source.{through}
use Rattle.un_source.specs.declared.blocks.Left.{Left}
use Rattle.un_source.specs.declared.state.Stop.{Stop}
use Rattle.un_source.specs.States.{IsStep, stored, called, values_of, led}

pub load_step : (o : SrcOp) (old new : SourceState) (r : Option Stop) → o.op ≡ Load
    → IsStep (loads o old (word_at (address_in o old) old.memory)) old new r → IsStep (op_step o old) old new r
load_step o old new r e h = rw e h

pub store_step : (o : SrcOp) (old new : SourceState) (r : Option Stop) → o.op ≡ Store → IsStep (stored o old) old new r
    → IsStep (op_step o old) old new r
store_step o old new r e h = rw e h

pub call_step : (o : SrcOp) (old new : SourceState) (r : Option Stop) → o.op ≡ Call → IsStep (called o old) old new r
    → IsStep (op_step o old) old new r
call_step o old new r e h = rw e h

other_by : (op : Op) (o : SrcOp) (s : SourceState) → op ≢ Load → op ≢ Store → op ≢ Call → step_by op o s ≡ computes o s
other_by Load o s l st c = absurd (l refl)
other_by Store o s l st c = absurd (st refl)
other_by Call o s l st c = absurd (c refl)
other_by _ o s l st c = refl

pub other_step : (o : SrcOp) (old : SourceState) (given values : List ℕ) (v : ℕ) → o.op ≢ Load → o.op ≢ Store → o.op ≢ Call
    → given ≡ old.values
    → v ≡ eval o.op (values_of given o.srcs) o.imm → values ≡ assigned old.values o.dst v
    → op_step o old ≡ Went (record old { values = values })
other_step o old given values v l st c same computed is =
    let e : computes o old ≡ Went (record old { values = values }) = rw (is, computed, same) refl in
    other_by o.op o old l st c ∙ e

-- the least of a count and a list's length takes as much
pub take_least : (values : List ℕ) (n count : ℕ) → n ≡ min count (length values) → take n values ≡ take count values
take_least values n count e = rw e (take_min count values)

-- where another block may be entered, it is
pub enter_step : (blocks : List Block) (n b : ℕ) (s : SourceState) → 0 < n
    → enter blocks n b s ≡ through (slice_get blocks b) b s (enter blocks (n - 1))
enter_step blocks zero b s h = absurd (omega arith)
enter_step blocks (suc n) b s h = let e : suc n - 1 ≡ n = omega arith in rw e refl

-- a run that enters one more block
pub run_step : (blocks : List Block) (n i b : ℕ) (old new : SourceState) (block : Block) (left : Left) → i < n
    → slice_get blocks b ≡ Some block
    → ((go : ℕ → SourceState → SourceRun) → through (Some block) b old go ≡ led left new go)
    → enter blocks (n - i) b old ≡ led left new (enter blocks (n - (i + 1)))
run_step blocks n i b old new block left h here pass =
    let e : (n - i) - 1 ≡ n - (i + 1) = omega arith in
    enter_step blocks (n - i) b old (omega arith)
    ∙ ap (λ (x : Option Block). through x b old (enter blocks ((n - i) - 1))) here
    ∙ pass (enter blocks ((n - i) - 1))
    ∙ ap (λ (m : ℕ). led left new (enter blocks m)) e
