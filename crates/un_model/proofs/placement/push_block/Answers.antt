use Rattle.std.proofs.Common.{arith}
use Rattle.un_model.specs.Schedules.{issue_of, reads_at}
use Rattle.un_model.proofs.Steps.{pairs_more, pairs_all, joined_more, joined_all}
use Rattle.un_model.proofs.placement.push_block.Goals as goal

pub loop-k-preserved : goal.loop-k-preserved
loop-k-preserved c =
    let reads = rw c.issue-i.ensures at c.in_ok-push_reads.ensures in
    record {
      issues = rw c.in_ok-n.ensures.later
          (pairs_more (issue_of c.args.values.now c.args.b c.value-end.result) c.loop-k.n c.loop-k.k c.args.block.now.ops
          c.args.vars.now.ops c.get-op.result.now c.get-op_vars.result.now c.loop-k.issues _ c.push.new.self c.issue-i.result
          c.loop-k.invariant.issues c.get-op.ensures c.get-op_vars.ensures c.issue-i.ensures c.in_ok-push.ensures.ok);
      reads = rw c.in_ok-n.ensures.later
          (joined_more (reads_at c.args.values.now c.args.b c.value-end.result) c.loop-k.n c.loop-k.k c.args.block.now.ops
          c.args.vars.now.ops c.get-op.result.now c.get-op_vars.result.now c.loop-k.reads _ c.push_reads.new.reads
          c.loop-k.invariant.reads c.get-op.ensures c.get-op_vars.ensures reads);
    }

pub returns-clause-issues : goal.returns-clause-issues
returns-clause-issues c =
    rw (← c.value-end.ensures)
    (pairs_all (issue_of c.args.values.now c.args.b c.value-end.result) c.loop-k.n c.loop-k.k c.args.block.now.ops
    c.args.vars.now.ops c.loop-k.issues _ c.loop-k.invariant.issues (omega arith))

pub returns-clause-reads : goal.returns-clause-reads
returns-clause-reads c =
    rw (← c.value-end.ensures)
    (joined_all (reads_at c.args.values.now c.args.b c.value-end.result) c.loop-k.n c.loop-k.k c.args.block.now.ops
    c.args.vars.now.ops c.loop-k.reads _ c.loop-k.invariant.reads (omega arith))
