use Rattle.std.proofs.Common.{◌<◌}
use Rattle.un_isa.specs.declared.op.Op.{Op}
use Rattle.un_isa.specs.Tables.{number_of}
use Rattle.un_target.specs.Fitting.{HasFitNeeds}
use Rattle.un_target.proofs.fitting.have_fit_needs.Given as goal

abbrev pub invariant-loop-number : goal.invariant-loop-number
invariant-loop-number l = (op : Op) → number_of op < l.number → HasFitNeeds l.t op
