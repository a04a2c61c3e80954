use Rattle.std.proofs.Common.{◌∙◌, ◌+◌, length, ap, arith}
use Rattle.un_model.specs.declared.schedule.Schedule.{Schedule}
use Rattle.un_emit.proofs.BodyPackets.{long, own_first, later_last, block_more, blocks_whole}
use Rattle.un_emit.proofs.packets.code_blocks.Goals as goal

pub loop-k-init : goal.loop-k-init
loop-k-init c = record {
  made = c.new-code.ensures;
  rest = (0, c.as_slice-rest.ensures ∙ ap (λ (t : Schedule). t.issues) c.requires.schedule);
}

pub split_at-requires : goal.split_at-requires
split_at-requires c =
    let (n, are) = c.loop-k.invariant.rest in
    let m = c.args.m.now in
    long m c.args.values.now c.get-block.result.now c.get-vars.result.now m.ext.blocks m.blocks c.loop-k.k n c.loop-k.rest.now
    c.get-block.ensures c.get-vars.ensures are c.min.result (omega arith)

pub code_block-requires-clause-issues : goal.code_block-requires-clause-issues
code_block-requires-clause-issues c =
    let (n, are) = c.loop-k.invariant.rest in
    let m = c.args.m.now in
    let first = own_first m c.args.values.now c.get-block.result.now c.get-vars.result.now m.ext.blocks m.blocks c.loop-k.k n
    c.loop-k.rest.now c.get-block.ensures c.get-vars.ensures are c.min.result (omega arith) in
    (c.loop-k.k, n, c.split_at.ensures.front ∙ first)

pub code_block-requires-clause-ranges : goal.code_block-requires-clause-ranges
code_block-requires-clause-ranges c = c.as_slice-ranges.ensures ∙ ap (λ (t : Schedule). t.ranges) c.requires.schedule

pub loop-k-preserved : goal.loop-k-preserved
loop-k-preserved c =
    let (n, are) = c.loop-k.invariant.rest in
    let m = c.args.m.now in
    let last = later_last m c.args.values.now c.get-block.result.now c.get-vars.result.now m.ext.blocks m.blocks c.loop-k.k n
    c.loop-k.rest.now c.get-block.ensures c.get-vars.ensures are c.min.result (omega arith) in
    record {
      made = block_more m c.args.values.now c.loop-k.k c.get-block.result.now c.get-vars.result.now c.loop-k.code c.push.new.self
          c.in_ok-code_block.field-0 c.get-block.ensures c.get-vars.ensures c.loop-k.invariant.made c.in_ok-code_block.ensures
          c.in_ok-push.ensures.ok;
      rest = (n + length c.get-block.result.now.ops, c.split_at.ensures.back ∙ last);
    }

pub returns : goal.returns
returns c = blocks_whole c.args.m.now c.args.values.now c.loop-k.k c.loop-k.code c.loop-k.invariant.made (omega arith)
