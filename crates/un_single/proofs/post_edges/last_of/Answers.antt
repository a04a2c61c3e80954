use Rattle.std.proofs.Common.{length, refl, sym, arith}
use Rattle.std.proofs.lemmas.Option.{slice_get_read}
use Rattle.un_single.proofs.Edges.{last_is}
use Rattle.un_single.proofs.post_edges.last_of.Goals as goal

pub returns-else-n-eq0 : goal.returns-else-n-eq0
returns-else-n-eq0 c =
    sym (last_is c.args.spots.now c.index-spots-n.result (slice_get_read c.args.spots.now (length c.args.spots.now) _ c.index-spots-n.result
    refl (omega (arith, c.if-n-eq0.false)) c.index-spots-n.is))
