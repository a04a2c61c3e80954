use Rattle.un_least.specs.Least.{fits_before}
use Rattle.un_least.proofs.LeastSteps.{Sought}
use Rattle.un_least.proofs.least.least_from.Given as goal

-- the end is sought from here on
abbrev pub invariant-loop-end : goal.invariant-loop-end
invariant-loop-end l = Sought (fits_before l.block.ops l.block.arcs l.block.horizon) l.fn.from l.block.horizon l.end
