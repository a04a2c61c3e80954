use Rattle.un_sites.specs.Sites.{place_of}
use Rattle.un_rooms.proofs.Gathering.{alts_more}
use Rattle.un_rooms.proofs.post_aparts.add_operand.Goals as goal

pub loop-i-preserved : goal.loop-i-preserved
loop-i-preserved c =
    let number = c.in_ok-value.ensures.number in
    alts_more c.args.first (place_of c.args.p.now) c.args.choice c.loop-i.i c.args.alts.now c.get.result.now c.act.result c.time.result
    c.in_ok-value.value _ _ _ c.loop-i.invariant c.in_ok-add_user.ensures c.act.ensures c.time.ensures number c.get.ensures
