use Rattle.std.proofs.Common.{◌≡◌, ◌∙◌, ℕ, List, length, ap}
use Rattle.un_ir.specs.LinearOf.{first_temps, linear_ops}
use Rattle.un_lssa.proofs.BlockLaws.{block_made, ops_few}
use Rattle.un_lssa.proofs.blocks.push_ops.Goals as goal

pub returns : goal.returns
returns c =
    let a = c.args in
    let names = length a.current.now in
    let made : c.finish.new.ops ≡ linear_ops a.t.now names a.n a.live_in.now a.live_out.now a.block.now =
    block_made a.t.now names a.n a.live_in.now a.live_out.now a.block.now a.registers.now c.requires.kept
    c.assign_all.new.current c.push_start.new.current c.push_start.new.ops c.finish.new.ops
    (c.assign_all.ensures ∙ ap (λ (temps : List ℕ). first_temps temps a.n a.live_in.now) c.requires.fresh)
    (rw (c.as_slice-source.ensures, c.requires.empty) at c.in_ok-next.ensures.ops)
    (rw c.as_slice-source.ensures at c.in_ok-next.ensures.current)
    c.in_ok-finish.ensures in
    record {
      ops = made;
      few = ops_few a.t.now names a.n a.live_in.now a.live_out.now a.block.now c.finish.new.ops made;
      next = rw c.as_slice-source.ensures at c.in_ok-next.ensures.next;
    }
