use Rattle.std.proofs.Common.{◌≡◌, ◌∙◌}
use Rattle.un_ir.specs.LinearOf.{linear_ops}
use Rattle.un_lssa.proofs.BlockLaws.{past_is, block_fit, block_room, linear_block_made}
use Rattle.un_lssa.proofs.blocks.linear_block.Goals as goal

pub block_ops-requires-clause-room : goal.block_ops-requires-clause-room
block_ops-requires-clause-room c =
    let a = c.args in
    block_room a.t.now a.live.now.at_start a.b a.n a.block.now a.registers.now c.live_at-names_in.result.now c.requires.kept
    c.live_at-names_in.ensures c.requires.fit

pub block_ops-requires-clause-fit : goal.block_ops-requires-clause-fit
block_ops-requires-clause-fit c =
    let a = c.args in
    block_fit a.t.now a.live.now.at_start a.b a.n a.block.now a.registers.now c.live_at-names_in.result.now c.requires.kept
    c.live_at-names_in.ensures c.requires.fit

pub returns : goal.returns
returns c =
    let a = c.args in
    let names_in = c.live_at-names_in.result.now in
    let ops : c.block_ops.new.ops ≡ linear_ops a.t.now a.names a.n names_in c.in_ok-live_out.live_out a.block.now =
    rw c.as_slice.ensures at c.in_ok-next.ensures.ops in
    let made =
    linear_block_made a.t.now a.names a.live.now.at_start a.b a.n a.block.now names_in c.in_ok-live_out.live_out c.from_vec-live_in.result
    c.block_ops.new.ops
    c.live_at-names_in.ensures c.in_ok-live_out.ensures (c.from_vec-live_in.ensures ∙ c.in_ok-copied.ensures.items) ops in
    record {
      block = rw c.len.ensures made;
      next = c.in_ok-next.ensures.next ∙ past_is a.t.now a.live.now.at_start a.b a.n a.block.now a.registers.now names_in c.requires.kept
          c.live_at-names_in.ensures;
    }
