-- What a run of a function comes to, as an outcome.
use Rattle.std.specs.Prelude.{ℕ, ◌≡◌, List, [], Option, Some, None, map, slice_get, slice_index}
use Rattle.un_base.specs.declared.ids.NameId.{NameId}
use Rattle.un_isa.specs.declared.outcome.End.{End}
use Rattle.un_isa.specs.declared.outcome.End.TheVariants.{Returned as EndsReturned, Trapped as EndsTrapped, Waiting as EndsWaiting}
use Rattle.un_isa.specs.declared.outcome.End.TheVariants.{Running as EndsRunning}
use Rattle.un_isa.specs.declared.outcome.Outcome.{Outcome}
use Rattle.un_isa.specs.declared.start.Start.{Start}
use Rattle.un_ir.specs.declared.function.Block.{Block}
use Rattle.un_ir.specs.declared.function.Function.{Function}
use Rattle.un_ir.specs.LinearOf.{AreLive, live_at}
use Rattle.un_ir.specs.Source.{SourceStop, SourceRun, Returned, Trapped, Waiting, Running, source_run}

abbrev pub label_in : Option Block → List ℕ
label_in None = []
label_in (Some block) = block.label

-- names with their values
abbrev pub named_values : List ℕ → List NameId → List (NameId × ℕ)
named_values values names = map (λ (name : NameId). (name, slice_index values name.0)) names

-- how a run ends that stops so with these values; of a further block, its label and the values of the names live at its start
abbrev pub end_by : List Block → List (List NameId) → List ℕ → SourceStop → End
end_by blocks lists values (Returned v) = EndsReturned v None
end_by blocks lists values Trapped = EndsTrapped
end_by blocks lists values (Waiting call) = EndsWaiting call
end_by blocks lists values (Running b) = EndsRunning (label_in (slice_get blocks b)) (named_values values (live_at lists b))

abbrev pub outcome_by : List Block → List (List NameId) → SourceRun → Outcome
outcome_by blocks lists run =
    let s = run.state in record { end = end_by blocks lists s.values run.stop; memory = s.memory; calls = s.calls; cycles = None }

-- what a function comes to from a start where at most n blocks are entered; live names stand in the order of their first
-- appearance
pub record IsSourceOutcome (f : Function) (start : Start) (n : ℕ) (o : Outcome) : Type 0 where
  pub lists : List (List NameId)
  pub live : AreLive f.blocks lists
  pub is : o ≡ outcome_by f.blocks lists (source_run f start n)
