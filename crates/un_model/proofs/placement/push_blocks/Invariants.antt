use Rattle.std.proofs.Common.{◌≡◌, ◌++◌, drop}
use Rattle.un_model.specs.Pairs.{over_blocks}
use Rattle.un_model.specs.Schedules.{block_issues, block_reads, issues_of, reads_of}
use Rattle.un_model.proofs.placement.push_blocks.Given as goal

abbrev pub invariant-loop-k : goal.invariant-loop-k
invariant-loop-k l = record {
  issues : l.issues ++ over_blocks (block_issues l.values) l.k l.n (drop l.k l.m.ext.blocks) (drop l.k l.m.blocks) ≡ l.initial.issues ++
      issues_of l.m l.values;
  reads : l.reads ++ over_blocks (block_reads l.values) l.k l.n (drop l.k l.m.ext.blocks) (drop l.k l.m.blocks) ≡ l.initial.reads ++
      reads_of l.m l.values;
}
