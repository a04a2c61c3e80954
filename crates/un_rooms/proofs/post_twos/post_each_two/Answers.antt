use Rattle.un_sites.specs.Rooms.{two_at}
use Rattle.un_sites.specs.Sites.{place_of, definers_in}
use Rattle.un_rooms.proofs.Pairing.{each_two_more}
use Rattle.un_rooms.proofs.post_twos.post_each_two.Goals as goal

pub loop-i-preserved : goal.loop-i-preserved
loop-i-preserved c =
    each_two_more (two_at c.args.slots (definers_in c.args.sites.now) (place_of c.args.p.now)) c.loop-i.i
    c.args.p.now.it.now.operands c.in_ok-a.a.it.now c.loop-i.props _ c.post_following.new.props c.loop-i.invariant c.in_ok-a.ensures.it
    c.in_ok-post_following.ensures
