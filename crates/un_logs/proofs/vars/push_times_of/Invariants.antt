-- the times of the operations before are there
use Rattle.std.proofs.Common.{◌≡◌, ◌++◌, map, take}
use Rattle.std.specs.List.{flat_map}
use Rattle.un_steps.specs.Full.{operations_of}
use Rattle.un_steps.specs.Words.{number_of}
use Rattle.un_logs.specs.Vars.{time_vars}
use Rattle.un_logs.proofs.vars.push_times_of.Given as goal

abbrev pub invariant-loop-i : goal.invariant-loop-i
invariant-loop-i l = map number_of l.vars.items ≡ map number_of l.fn.vars.items ++ flat_map time_vars (take l.i (operations_of l.b))
