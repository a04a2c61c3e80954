use Rattle.std.proofs.Common.{◌+◌, ◌-◌, sum}
use Rattle.un_model.specs.Cost.{value_of}
use Rattle.un_merges.proofs.Passes.{IsTried}
use Rattle.un_merges.proofs.merges.merge_block.Given as goal

abbrev pub invariant-loop-t : goal.invariant-loop-t
invariant-loop-t l = IsTried l.m l.vars l.fn.s l.s l.found l.t

abbrev pub decreases-loop-t : goal.decreases-loop-t
decreases-loop-t l = sum l.s.values + (value_of l.s.values l.vars.end - l.t)
