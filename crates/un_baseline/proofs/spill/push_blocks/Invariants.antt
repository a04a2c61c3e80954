use Rattle.std.proofs.Common.{◌≡◌, true, ◌++◌, drop}
use Rattle.std.specs.Prelude.{◌==◌}
use Rattle.un_baseline.specs.Plans.{blocks_values}
use Rattle.un_baseline.specs.SpillEverywhere.{block_plans}
use Rattle.un_baseline.proofs.spill.push_blocks.Given as goal

abbrev pub invariant-loop-k : goal.invariant-loop-k
invariant-loop-k l =
    l.values ++ blocks_values (drop l.k l.e.blocks) (block_plans l.e (l.k == 0)
    (drop l.k l.e.blocks)) ≡ l.initial.values ++ blocks_values l.e.blocks (block_plans l.e true l.e.blocks)
