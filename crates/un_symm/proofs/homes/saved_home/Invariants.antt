use Rattle.std.proofs.Common.{◌≡◌}
use Rattle.un_isa.specs.Tables.{in_mask}
use Rattle.un_isa.specs.declared.reg.TheConstants.{GENERALS}
use Rattle.un_model.specs.Registers.{saved_home}
use Rattle.un_symm.proofs.HomeSteps.{saved_from}
use Rattle.un_symm.proofs.homes.saved_home.Given as goal

abbrev pub invariant-loop-r : goal.invariant-loop-r
invariant-loop-r l = saved_home l.t l.k ≡ saved_from (in_mask l.t.saved) GENERALS l.r l.left
