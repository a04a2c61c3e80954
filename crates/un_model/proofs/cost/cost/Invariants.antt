use Rattle.std.proofs.Common.{◌≡◌, ◌+◌, drop}
use Rattle.un_model.specs.Cost.{blocks_cost}
use Rattle.un_model.proofs.cost.cost.Given as goal

abbrev pub invariant-loop-k : goal.invariant-loop-k
invariant-loop-k l =
    l.sum + blocks_cost l.values (drop l.k l.m.ext.blocks) (drop l.k l.m.blocks) ≡ blocks_cost l.values l.m.ext.blocks l.m.blocks
