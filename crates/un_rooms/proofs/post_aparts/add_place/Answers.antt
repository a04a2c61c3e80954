use Rattle.un_sites.specs.Sites.{place_of}
use Rattle.un_rooms.proofs.Gathering.{operands_more}
use Rattle.un_rooms.proofs.post_aparts.add_place.Goals as goal

pub loop-j-preserved : goal.loop-j-preserved
loop-j-preserved c =
    operands_more c.args.first (place_of c.args.p.now) c.loop-j.j c.args.p.now.it.now.operands c.get-operand.result.now
    c.choice_at-choice.result _ _ _ c.loop-j.invariant c.in_ok-add_operand.ensures
    (rw (c.as_slice.ensures, c.in_ok-place.ensures.number) at c.choice_at-choice.ensures) c.get-operand.ensures
