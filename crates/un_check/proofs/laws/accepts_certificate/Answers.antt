use Rattle.un_check.proofs.VerdictLemmas.{kept_accepted, searched_keeps}
use Rattle.un_check.proofs.laws.accepts_certificate.Goals as goal

pub returns : goal.returns
returns c v is =
    let nodes = c.args.tree.now.nodes.items in
    kept_accepted c.args.m.now c.args.limit nodes v is (searched_keeps c.args.m.now c.args.limit nodes c.requires) c.requires.tree.whole
