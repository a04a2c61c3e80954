use Rattle.std.proofs.Common.{◌≡◌, drop}
use Rattle.std.specs.Prelude.{slice_get}
use Rattle.un_model.specs.Pairs.{joined}
use Rattle.un_steps.specs.Allowed.{arcs_of}
use Rattle.un_steps.proofs.allowed.arc.Given as goal

abbrev pub invariant-loop-k : goal.invariant-loop-k
invariant-loop-k l = slice_get (joined (drop l.k l.m.arcs)) l.rest ≡ slice_get (arcs_of l.m) l.fn.n
