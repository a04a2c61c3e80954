use Rattle.std.proofs.Common.{ℕ, ◌<◌}
use Rattle.un_isa.specs.Tables.{in_mask}
use Rattle.un_target.specs.Fitting.{IsFitRegister}
use Rattle.un_target.proofs.fitting.have_fit_registers.Given as goal

abbrev pub invariant-loop-r : goal.invariant-loop-r
invariant-loop-r l = (q : ℕ) → q < l.r → IsFitRegister (in_mask l.t.saved q) (in_mask l.t.clobbered q) q
