use Rattle.std.proofs.Common.{arith}
use Rattle.un_rooms.proofs.Gathering.{spots_more, spots_all}
use Rattle.un_rooms.proofs.post_aparts.add_places.Goals as goal

pub loop-p-preserved : goal.loop-p-preserved
loop-p-preserved c =
    spots_more c.args.first c.loop-p.p-index c.args.spots.now c.p-item.result _ _ _ c.loop-p.invariant c.in_ok-add_place.ensures
    (omega arith) c.p-item.is

pub returns : goal.returns
returns c = spots_all c.args.first c.loop-p.p-index c.args.spots.now _ _ c.loop-p.invariant (omega arith)
