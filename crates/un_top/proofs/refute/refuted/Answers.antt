use Rattle.std.proofs.Common.{arith}
use Rattle.un_top.proofs.RefuteLaws.{refutation_is}
use Rattle.un_top.proofs.refute.refuted.Goals as goal

pub returns-clause-answer : goal.returns-clause-answer
returns-clause-answer c =
    refutation_is c.args.f.now c.args.m.now c.args.nodes c.args.limit c.args.tree.now.nodes.items c.in_ok-short.short c.in_ok-text.text.items
    c.requires.problem c.requires.nodes (omega arith) c.requires.refuted c.in_ok-short.ensures.yes c.in_ok-short.ensures.few
    c.in_ok-short.ensures.some c.in_ok-short.ensures.fits c.in_ok-short.ensures.no_more c.in_ok-text.ensures
