use Rattle.std.proofs.Common.{◌≡◌, ◌*◌, ◌^◌, ◌≤◌}
use Rattle.un_steps.specs.Rules.{cost_with}
use Rattle.un_steps.proofs.CostSteps.{so_far}
use Rattle.un_steps.proofs.rules.cost_with.Given as goal

abbrev pub invariant-loop-k : goal.invariant-loop-k
invariant-loop-k l = (so_far l.s.sets l.v.0 l.fn.y l.m.ext.blocks l.m.blocks l.k l.sum ≡ cost_with l.s.sets l.v.0 l.fn.y l.m.ext.blocks l.m.blocks)
    × (l.sum ≤ l.k * 2 ^ 64)
