use Rattle.un_sites.specs.Saved.{edges_from}
use Rattle.un_rooms.proofs.Saving.{place_added}
use Rattle.un_rooms.proofs.crowds.edges_between.Goals as goal

pub loop-k-preserved : goal.loop-k-preserved
loop-k-preserved c =
    place_added edges_from c.loop-k.k c.args.blocks.now c.get.result.now c.loop-k.edges _ c.add_edges.new.edges c.loop-k.invariant
    c.get.ensures (rw c.in_ok-number.ensures.number at c.in_ok-add_edges.ensures)
