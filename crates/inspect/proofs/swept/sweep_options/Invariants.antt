-- the options so far may be had
use Rattle.std.proofs.Common.{◌≤◌}
use Rattle.std.specs.Option.{IfSome}
use Rattle.un_isa.specs.declared.reg.TheConstants.{SLOTS}
use Rattle.inspect.proofs.swept.sweep_options.Given as goal

abbrev pub invariant-loop-pair : goal.invariant-loop-pair
invariant-loop-pair l = IfSome l.given.slots (λ n. n ≤ SLOTS)
