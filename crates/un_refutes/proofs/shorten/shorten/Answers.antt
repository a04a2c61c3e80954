use Rattle.un_post.proofs.ModelDomains.{domains_are}
use Rattle.un_refutes.proofs.ShortLaws.{few_of, yes_of}
use Rattle.un_refutes.proofs.shorten.shorten.Goals as goal

pub shorten-requires-clause-domains : goal.shorten-requires-clause-domains
shorten-requires-clause-domains c = domains_are c.args.m.now c.requires.model c.requires.extended c.requires.fit c.requires.options

pub returns-clause-yes : goal.returns-clause-yes
returns-clause-yes c =
    let tree = c.requires.certificate.tree in
    yes_of c.args.m.now c.args.limit c.args.t.now.nodes.items c.shorten.result tree.plain tree.searched c.shorten.ensures.whole
    c.shorten.ensures.kept c.shorten.ensures.strict c.shorten.ensures.mirrors

pub returns-clause-few : goal.returns-clause-few
returns-clause-few c = few_of c.args.t.now.nodes.items c.shorten.result c.shorten.ensures.cuts
