-- What carries a value in a cycle.
use Rattle.std.specs.Prelude.{ℕ, ◌≡◌, ◌<◌, ◌≤◌, true, Option, Some, IsSomeAnd, Contains, slice_get}
use Rattle.std.specs.Option.{option_map}
use Rattle.un_base.specs.declared.ids.TempId.{TempId}
use Rattle.un_model.specs.declared.model.Model.{Model}
use Rattle.un_model.specs.declared.model.Solution.{Solution}
use Rattle.un_model.specs.declared.model.TempVars.{TempVars}
use Rattle.un_model.specs.declared.schedule.LiveRange.{LiveRange}
use Rattle.un_model.specs.declared.schedule.Read.{Read}
use Rattle.un_model.specs.Schedules.{schedule_of}
use Rattle.un_model.specs.Solutions.{Occupies}

-- the value that temporary y carries
abbrev pub value_at : Model → TempId → Option TempId
value_at m y = option_map (λ (t : TempVars). t.value) (slice_get m.temps y.0)

-- the live range of temporary y
abbrev pub range_of : Model → Solution → TempId → Option LiveRange
range_of m s y = let t = schedule_of m s.values in slice_get t.ranges y.0

-- value x is defined by cycle t, and an active operation reads it after that, whatever carries it there
pub record Crosses (m : Model) (s : Solution) (x : TempId) (t : ℕ) : Type 0 where
  pub defined : IsSomeAnd (range_of m s x) (λ (h : LiveRange). h.from ≤ t)
  pub read : Read
  pub listed : let schedule = schedule_of m s.values in Contains schedule.reads read
  pub value : value_at m read.temp ≡ Some x
  pub after : t < read.cycle

-- temporary y carries value x, is active and occupies its register in cycle t
pub record Carries (m : Model) (s : Solution) (x : TempId) (t : ℕ) (y : TempId) : Type 0 where
  pub value : value_at m y ≡ Some x
  pub there : IsSomeAnd (range_of m s y) (λ (h : LiveRange). (h.active ≡ true) × Occupies h t)
