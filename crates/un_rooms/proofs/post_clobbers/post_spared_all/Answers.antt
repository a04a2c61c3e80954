use Rattle.std.proofs.Common.{length}
use Rattle.std.proofs.lemmas.Option.{slice_get-get_or}
use Rattle.un_model.proofs.Steps.{map_more}
use Rattle.un_sites.specs.Rooms.{spared_at}
use Rattle.un_sites.specs.Sites.{definers_in}
use Rattle.un_rooms.proofs.Spares.{among_all}
use Rattle.un_rooms.proofs.post_clobbers.post_spared_all.Goals as goal
use Rattle.std.proofs.Common.{refl}

pub post_spared-requires-clause-calls : goal.post_spared-requires-clause-calls
post_spared-requires-clause-calls c =
    among_all c.args.first (length c.args.lists.now) _ c.args.calls.now (c.requires.users c.loop-t.t-index _ c.loop-t-test.true)
    c.requires.calls

pub loop-t-preserved : goal.loop-t-preserved
loop-t-preserved c = λ arcs ps lists zip.
    map_more (spared_at c.args.mask arcs (definers_in c.args.sites.now) ps) c.loop-t.t-index c.args.temps.now
    _ _ _ _ _ (c.loop-t.invariant arcs ps lists zip) (slice_get-get_or c.args.temps.now c.loop-t.t-index _ c.loop-t-test.true) refl
    (c.in_ok-post_spared.ensures arcs ps lists zip)
