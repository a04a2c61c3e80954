use Rattle.un_model.proofs.Steps.{map_more}
use Rattle.un_sites.specs.Saved.{is_crowded}
use Rattle.un_rooms.proofs.crowds.crowded_by_calls.Goals as goal

pub loop-k-preserved : goal.loop-k-preserved
loop-k-preserved c =
    map_more (is_crowded c.args.kept) c.loop-k.k c.args.blocks.now c.get.result.now c.loop-k.crowded _ c.push.new.self c.is_crowded.result
    c.loop-k.invariant c.get.ensures c.is_crowded.ensures c.in_ok-push.ensures.ok
