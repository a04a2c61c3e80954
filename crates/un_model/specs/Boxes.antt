-- The first box of a model, and the solutions that cost less than a limit.
use Rattle.std.specs.Prelude.{ℕ, ◌<◌, List, IfSome, map}
use Rattle.std.specs.declared.option.Option.{Option}
use Rattle.un_domains.specs.Domains.{values_of}
use Rattle.un_domains.specs.Sets.{Sets}
use Rattle.un_model.specs.declared.model.Model.{Model}
use Rattle.un_model.specs.declared.model.Solution.{Solution}
use Rattle.un_model.specs.Cost.{cost_of}
use Rattle.un_model.specs.Solutions.{IsSolution}

-- the first box: each variable has all values of its domain
abbrev pub root_of : Model → Sets
root_of m = map values_of m.domains

-- a solution that costs less than a limit, where there is one
abbrev pub IsCheaper : Model → Option ℕ → Solution → Type 0
IsCheaper m limit s = IsSolution m s × IfSome limit (λ n. cost_of m s < n)

-- values that are a solution below the limit
abbrev pub IsBelow : Model → Option ℕ → List ℕ → Type 0
IsBelow m limit x = IsCheaper m limit (record { values = x })
