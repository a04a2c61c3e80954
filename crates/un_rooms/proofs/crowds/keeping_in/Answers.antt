use Rattle.un_model.proofs.Steps.{map_more}
use Rattle.un_sites.specs.Saved.{keeps_places}
use Rattle.un_rooms.proofs.crowds.keeping_in.Goals as goal

pub loop-k-preserved : goal.loop-k-preserved
loop-k-preserved c =
    map_more keeps_places c.loop-k.k c.args.blocks.now c.get.result.now c.loop-k.keeping _ c.push.new.self c.keeps_places.result
    c.loop-k.invariant c.get.ensures c.keeps_places.ensures c.in_ok-push.ensures.ok
