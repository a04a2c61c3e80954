use Rattle.un_certificate.proofs.Lows.{below_open}
use Rattle.un_certificate.proofs.laws.solutions_are_open.Goals as goal

pub returns : goal.returns
returns c x is =
    below_open c.args.m.now c.args.limit c.args.tree.now.nodes.items c.requires.model c.requires.extended c.requires.fit c.requires.options
    c.requires.standing x is
