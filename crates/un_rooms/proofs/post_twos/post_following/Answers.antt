use Rattle.un_sites.specs.Rooms.{two_at}
use Rattle.un_sites.specs.Sites.{place_of, definers_in}
use Rattle.un_rooms.proofs.Pairing.{following_more}
use Rattle.un_rooms.proofs.post_twos.post_following.Goals as goal

pub loop-j-preserved : goal.loop-j-preserved
loop-j-preserved c =
    following_more (two_at c.args.slots (definers_in c.args.sites.now) (place_of c.args.p.now) c.args.i c.args.a.it.now) c.loop-j.j
    c.args.p.now.it.now.operands c.in_ok-b.b.it.now c.loop-j.props _ c.post_two.new.props c.loop-j.invariant c.in_ok-b.ensures.it
    (rw (c.in_ok-b.ensures.at, c.in_ok-b.ensures.choice, c.requires.at, c.requires.choice) at c.in_ok-post_two.ensures)
