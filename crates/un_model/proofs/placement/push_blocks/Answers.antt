use Rattle.std.proofs.Common.{arith}
use Rattle.un_model.specs.Schedules.{block_issues, block_reads}
use Rattle.un_model.proofs.Steps.{blocks_more, blocks_all}
use Rattle.un_model.proofs.placement.push_blocks.Goals as goal

pub loop-k-preserved : goal.loop-k-preserved
loop-k-preserved c =
    let issues = rw c.in_ok-b.ensures.number at c.in_ok-push_block.ensures.issues in
    let reads = rw c.in_ok-b.ensures.number at c.in_ok-push_block.ensures.reads in
    let n = rw c.len-in-loop-k.ensures at c.in_ok-n.ensures.later in
    record {
      issues = blocks_more (block_issues c.args.values.now) c.loop-k.k c.loop-k.n c.in_ok-n.n c.loop-k.k c.args.m.now.ext.blocks
          c.args.m.now.blocks c.get-block.result.now c.get.result.now c.loop-k.issues _ c.push_block.new.issues c.loop-k.invariant.issues
          c.get-block.ensures c.get.ensures issues n;
      reads = blocks_more (block_reads c.args.values.now) c.loop-k.k c.loop-k.n c.in_ok-n.n c.loop-k.k c.args.m.now.ext.blocks
          c.args.m.now.blocks c.get-block.result.now c.get.result.now c.loop-k.reads _ c.push_block.new.reads c.loop-k.invariant.reads
          c.get-block.ensures c.get.ensures reads n;
    }

pub returns-clause-issues : goal.returns-clause-issues
returns-clause-issues c = blocks_all (block_issues c.args.values.now) c.loop-k.k c.loop-k.n c.loop-k.k c.args.m.now.ext.blocks
    c.args.m.now.blocks c.loop-k.issues _ c.loop-k.invariant.issues (omega arith)

pub returns-clause-reads : goal.returns-clause-reads
returns-clause-reads c = blocks_all (block_reads c.args.values.now) c.loop-k.k c.loop-k.n c.loop-k.k c.args.m.now.ext.blocks
    c.args.m.now.blocks c.loop-k.reads _ c.loop-k.invariant.reads (omega arith)
