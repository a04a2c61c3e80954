use Rattle.std.proofs.Common.{◌≡◌, ◌+◌, ◌++◌, ◌^◌, List, drop, sym, subst}
use Rattle.un_ir.specs.declared.extended.ExtBlock.{ExtBlock}
use Rattle.un_ir.specs.LinearOf.{linear_blocks}
use Rattle.un_lssa.proofs.BlockLaws.{blocks_more, past_more, next_below}
use Rattle.un_lssa.proofs.blocks.linear_blocks.Goals as goal

pub linear_block-requires-clause-fit : goal.linear_block-requires-clause-fit
linear_block-requires-clause-fit c =
    let l = c.loop-b in
    next_below c.args.t.now c.args.live.now.at_start l.b l.n (2 ^ 32) c.args.blocks.now c.index-blocks-b.result c.loop-b-test.true
    c.index-blocks-b.is l.invariant.past c.requires.fit

pub loop-b-preserved : goal.loop-b-preserved
loop-b-preserved c =
    let l = c.loop-b in
    let t = c.args.t.now in
    let lists = c.args.live.now.at_start in
    let blocks = c.args.blocks.now in
    let own = c.index-blocks-b.result in
    let made = c.in_ok-block.field-0 in
    let whole = linear_blocks t c.args.names lists 0 0 blocks in
    record {
      past = past_more t lists l.b l.n made.next _ blocks own c.loop-b-test.true c.index-blocks-b.is l.invariant.past
          c.in_ok-block.ensures.next;
      made =
          subst (λ (xs : List ExtBlock). xs ++ linear_blocks t c.args.names lists (l.b + 1) made.next (drop (l.b + 1) blocks) ≡ whole)
          (sym c.in_ok-push.ensures.ok)
          (blocks_more t c.args.names lists l.b l.n made.next blocks own l.made whole made.block c.loop-b-test.true c.index-blocks-b.is
          l.invariant.made
          c.in_ok-block.ensures.block c.in_ok-block.ensures.next);
    }
