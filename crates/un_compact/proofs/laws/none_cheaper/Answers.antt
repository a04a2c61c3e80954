use Rattle.un_compact.proofs.Compaction.{no_cheaper}
use Rattle.un_compact.proofs.laws.none_cheaper.Goals as goal

pub returns : goal.returns
returns c = λ all x loose. no_cheaper c.args.m.now c.requires.model c.requires.extended c.requires.fit c.args.n all x loose
