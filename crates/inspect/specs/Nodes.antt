-- Decisions on the variables of a model.
use Rattle.std.specs.Prelude.{ℕ, ◌<◌}
use Rattle.inspect.specs.declared.node.Decision.{Decision}

-- a decision is on one of so many variables
abbrev pub IsOn : ℕ → Decision → Type 0
IsOn vars d = d.var.0 < vars
