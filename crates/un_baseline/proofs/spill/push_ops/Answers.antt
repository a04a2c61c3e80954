use Rattle.std.proofs.Common.{arith}
use Rattle.un_baseline.proofs.Pushing.{ops_more, ops_all, progress_more, progress_all, purpose_more}
use Rattle.un_baseline.proofs.spill.push_ops.Goals as goal

pub loop-k-preserved : goal.loop-k-preserved
loop-k-preserved c =
    let e = c.args.e.now in
    let block = c.args.block.now in
    let s = c.args.s.now in
    record {
      values = ops_more e block s block.ops c.loop-k.k c.get-op.result.now c.loop-k.p c.in_ok-p.p c.purpose_in_row-purpose.result
          c.loop-k.values _ c.plan_op.new.values c.loop-k.invariant.values c.get-op.ensures c.purpose_in_row-purpose.ensures
          c.in_ok-p.ensures.values c.in_ok-p.ensures.progress;
      progress = progress_more e block s block.ops c.loop-k.k c.get-op.result.now c.loop-k.p c.in_ok-p.p _
          c.purpose_in_row-purpose.result c.loop-k.invariant.progress c.get-op.ensures c.purpose_in_row-purpose.ensures
          c.in_ok-p.ensures.progress;
      purpose = purpose_more e block s block.ops c.loop-k.k c.get-op.result.now c.is_copy-in_row.result c.purpose_in_row-purpose.result
          c.get-op.ensures c.purpose_in_row-purpose.ensures c.is_copy-in_row.ensures;
    }

pub returns-clause-values : goal.returns-clause-values
returns-clause-values c = ops_all c.args.e.now c.args.block.now c.args.s.now c.args.block.now.ops c.loop-k.k c.loop-k.p c.loop-k.values
    _ c.loop-k.invariant.values (omega arith)

pub returns-clause-progress : goal.returns-clause-progress
returns-clause-progress c = progress_all c.args.e.now c.args.block.now c.args.s.now c.args.block.now.ops c.loop-k.k c.loop-k.p _
    c.loop-k.invariant.progress (omega arith)
