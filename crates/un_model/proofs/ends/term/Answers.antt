use Rattle.un_model.proofs.EndLaws.{term_found, term_on}
use Rattle.un_model.proofs.ends.term.Goals as goal

pub loop-k-preserved : goal.loop-k-preserved
loop-k-preserved c = term_on c.args.ops.now c.loop-k.k c.get.result.now c.own_term.result c.get.ensures c.own_term.ensures
    c.in_default.is c.loop-k.invariant

pub returns-in-Some : goal.returns-in-Some
returns-in-Some c = term_found c.args.ops.now c.loop-k.k c.get.result.now c.own_term.result c.in-Some.found c.get.ensures
    c.own_term.ensures c.in-Some.is c.loop-k.invariant
