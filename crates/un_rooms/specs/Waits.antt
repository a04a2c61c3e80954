-- Waits as constraints.
use Rattle.std.specs.Prelude.{List, map}
use Rattle.un_prop.specs.declared.act.Act.TheVariants.{Always}
use Rattle.un_kinds.specs.Constraints.{Constraint, Before}
use Rattle.un_rooms.specs.declared.wait.Wait.{Wait}

-- one that is always kept
abbrev pub before_of : Wait → Constraint
before_of w = Before w.from Always w.to Always w.gap

abbrev pub befores_by : List Wait → List Constraint
befores_by ws = map before_of ws
