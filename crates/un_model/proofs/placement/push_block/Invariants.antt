use Rattle.std.proofs.Common.{◌≡◌, ◌++◌, drop}
use Rattle.un_model.specs.Pairs.{pairs_from, joined}
use Rattle.un_model.specs.Schedules.{issue_of, reads_at}
use Rattle.un_model.proofs.placement.push_block.Given as goal

abbrev pub invariant-loop-k : goal.invariant-loop-k
invariant-loop-k l = record {
  issues : l.issues ++ pairs_from (issue_of l.values l.b l.end) l.n (drop l.k l.block.ops) (drop l.k l.vars.ops) ≡ l.initial.issues ++
      pairs_from (issue_of l.values l.b l.end) l.first l.block.ops l.vars.ops;
  reads : l.reads ++ joined (pairs_from (reads_at l.values l.b l.end) l.n (drop l.k l.block.ops) (drop l.k l.vars.ops)) ≡ l.initial.reads
      ++ joined (pairs_from (reads_at l.values l.b l.end) l.first l.block.ops l.vars.ops);
}
