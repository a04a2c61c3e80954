use Rattle.std.proofs.Common.{arith}
use Rattle.std.specs.Prelude.{slice_get}
use Rattle.std.proofs.lemmas.Option.{slice_get-get_or}
use Rattle.un_base.specs.declared.ids.TempId.{TempId}
use Rattle.un_model.proofs.Steps.{map_more}
use Rattle.un_rooms.specs.Gathered.{temp_with}
use Rattle.un_sites.specs.Places.{definer_or}
use Rattle.un_sites.specs.Sites.{definers_in}
use Rattle.un_rooms.proofs.post_aparts.with_users.Goals as goal

pub loop-t-preserved : goal.loop-t-preserved
loop-t-preserved c = λ f e.
    map_more (λ (t : TempId). temp_with (definer_or (slice_get (definers_in c.args.sites.now) t.0)) (f t)) c.loop-t.t-index c.args.temps.now
    _ _ _ _ _ (c.loop-t.invariant f e) (slice_get-get_or c.args.temps.now c.loop-t.t-index _ (omega arith)) (c.in_ok-temp_at.ensures f e)
    c.in_ok-push.ensures.ok
