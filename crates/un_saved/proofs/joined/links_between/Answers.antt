use Rattle.std.proofs.Common.{length}
use Rattle.un_saved.specs.Joined.{links_of}
use Rattle.un_saved.proofs.Joining.{place_added}
use Rattle.un_saved.proofs.joined.links_between.Goals as goal

pub loop-k-preserved : goal.loop-k-preserved
loop-k-preserved c =
    place_added (links_of (length c.args.blocks.now)) c.loop-k.k c.args.blocks.now c.get.result.now c.loop-k.links _ c.add_links.new.links
    c.loop-k.invariant c.get.ensures (rw (c.in_ok-number.ensures.number, c.len.ensures) at c.in_ok-add_links.ensures)
