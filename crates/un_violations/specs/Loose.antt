-- Schedules of any length: a solution but for cycles and ends past its domains.
use Rattle.std.specs.Prelude.{ℕ, ◌-◌, ◌^◌, Bool, true, false, ◌==◌, ◌||◌, List, Option, Some, None}
use Rattle.std.specs.List.{list_any}
use Rattle.un_base.specs.declared.ids.VarId.{VarId}
use Rattle.un_domains.specs.declared.domain.Domain.{Domain}
use Rattle.un_domains.specs.declared.domain.Domain.TheVariants.{Range, Set}
use Rattle.un_model.specs.declared.model.OpVars.{OpVars}
use Rattle.un_model.specs.declared.model.BlockVars.{BlockVars}
use Rattle.un_model.specs.declared.model.Model.{Model}
use Rattle.un_model.specs.declared.model.Solution.{Solution}
use Rattle.un_model.specs.Pairs.{places_from}
use Rattle.un_model.specs.Schedules.{schedule_of}
use Rattle.un_model.specs.Solutions.{IsSchedule, latency_gap}

-- whether a variable, where there is one, has the number k
abbrev pub is_number : ℕ → Option VarId → Bool
is_number k None = false
is_number k (Some v) = k == v.0

-- whether variable k is the cycle of one of these operations
abbrev pub is_cycle : List OpVars → ℕ → Bool
is_cycle ops k = list_any (λ (o : OpVars). is_number k o.cycle) ops

-- whether variable k is the cycle of an operation of a block, or the block's end
abbrev pub is_time_in : BlockVars → ℕ → Bool
is_time_in vars k = is_cycle vars.ops k || k == vars.end.0

abbrev pub is_time : List BlockVars → ℕ → Bool
is_time blocks k = list_any (λ (vars : BlockVars). is_time_in vars k) blocks

-- a domain without its upper bound: all numbers of 32 bits from its least on
abbrev pub opened : Domain → Domain
opened (Range lo hi) = Range lo (2 ^ 32 - 1)
opened (Set values) = Set values

abbrev pub loosened : Bool → Domain → Domain
loosened true d = opened d
loosened false d = d

-- the domains with those of cycles and ends loosened
abbrev pub loose_domains : Model → List Domain
loose_domains m = places_from (λ (k : ℕ) (d : Domain). loosened (is_time m.blocks k) d) 0 m.domains

-- an assignment that keeps the ten clauses, but for cycles and ends that are greater than their domains let them be
abbrev pub IsLoose : Model → Solution → Type 0
IsLoose m s = IsSchedule (latency_gap m.ext.table) (loose_domains m) m s.values (schedule_of m s.values)
