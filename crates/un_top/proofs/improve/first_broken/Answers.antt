use Rattle.un_top.proofs.ImproveLaws.{loose_told}
use Rattle.un_top.proofs.improve.first_broken.Goals as goal

pub returns : goal.returns
returns c =
    loose_told c.args.m.now c.args.s.now c.in_ok-broken.broken.items c.first_of.result c.in_ok-broken.ensures.lists
    c.in_ok-broken.ensures.loose c.first_of.ensures
