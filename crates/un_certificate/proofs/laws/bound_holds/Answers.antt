use Rattle.un_certificate.proofs.Lows.{bound_below}
use Rattle.un_certificate.proofs.laws.bound_holds.Goals as goal

pub returns : goal.returns
returns c n bound x is =
    bound_below c.args.m.now c.args.limit c.args.tree.now.nodes.items c.requires.model c.requires.extended c.requires.fit c.requires.options
    c.requires.standing n bound x is
